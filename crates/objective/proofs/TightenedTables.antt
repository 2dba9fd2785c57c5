-- What code writes over the tables of a lawful plan, byte for byte, leaves the tables of that plan with the added clause O ≤ m; and another bound
-- leaves those with the other bound.
-- Assumes nothing.
use Prim.Native.Nat.{ℕ, ◌+◌, ◌*◌, ◌-◌, ◌≤◌, ◌<◌}
use native.Mathlib.Omega.{arith}
use mathlib.Core.Path.{◌≡◌, sym, ap, ap₂, ◌∙◌}
use mathlib.Core.List.{List, [], ◌∷◌, ◌++◌}
use lib.Dec.{T}
use lib.IntN.{ℤ, nat_abs}
use lib.ListN.{length, get_or, take, drop, take-append-drop, length-append, length-drop}
use lib.Seq.{take_at, drop-append-add, drop-drop}
use Rattle.plpb.specs.Plan.{Plan}
use Rattle.plpb.specs.Search.{tightened}
use Rattle.plpb.specs.Tallies.{rules_of}
use Rattle.words.specs.Words.{word_bytes, word_at, unsigned}
use Rattle.words.specs.Writes.{put, put_words}
use Rattle.words.proofs.Words.{length_word_bytes, words_read}
use Rattle.words.proofs.Writes.{length_put}
use Rattle.format.specs.Limits.{term_count, lawful, roomy}
use Rattle.format.specs.Tables.{term_entries, base_words, order_words, table_words, term_words, table_size, term_size, Holds, objective_of, plan_of_tables}
use Rattle.format.proofs.Lawful.{LawfulPlan, RoomyPlan, plan_parts, roomy_parts, roomy_whole, room_for, lawful_roomy}
use Rattle.format.proofs.ReadBack.{read_back, holds_base}
use Rattle.format.proofs.Sections.{length_base_words, length_table_words, length_term_words, length_term_entries}
use Rattle.format.proofs.WordBounds.{table_below}
use Rattle.arrange.specs.Arranging.{Based}
use Rattle.arrange.proofs.Bases.{plan_here}
use Rattle.objective.specs.Added.{added_entries, rebound, Boundable}
use Rattle.costs.proofs.Costs.{table_room, term_room_lem, variables_in_lem, objective_in, objective_short}
use Rattle.objective.proofs.Parts.{put_inside, put_table}
use Rattle.objective.proofs.Tightened.{room_tightened, clause_words, rule_words, count_words, new_table, new_terms, rule_count_lem, other_table, same_order, same_terms}
use Rattle.format.specs.Layout.{base_size, base_word_count, clauses_at, last_upper_at, rule_room, rule_upper_at, rules_at, table_word_count, term_word_count}

-- ---- a table that holds a plan's words

starts : (n : ℕ) (s bs : List ℕ) → take n s ≡ bs → s ≡ bs ++ drop n s
starts n s bs e = sym (take-append-drop n s) ∙ ap (λ xs. xs ++ drop n s) e

module _ (q : Plan) (l : RoomyPlan q) (tables : List ℕ) (h : take table_size tables ≡ word_bytes (table_words q)) where
  word_in : (i : ℕ) → i < table_word_count → word_at tables i ≡ get_or (table_words q) i 0
  word_in i u =
      let n = length_table_words q l in
      words_read (table_words q) tables i (table_below q l) (rw n h) (omega arith)

  pub clauses_in_lem : word_at tables 1 ≡ length q.clauses
  unfolding table_words base_words
  clauses_in_lem = word_in 1 (omega arith)

  pub rules_in_lem : word_at tables 2 ≡ length (rules_of q)
  unfolding table_words base_words
  rules_in_lem = word_in 2 (omega arith)

  pub terms_in_lem : word_at tables 3 ≡ term_count q
  unfolding table_words base_words
  terms_in_lem = word_in 3 (omega arith)

-- Tables with the words of a plan and a rest hold that plan.
pub both_hold :
    (q : Plan) → T (roomy q) → (tables terms rest more : List ℕ) → tables ≡ word_bytes (table_words q) ++ rest → terms ≡ word_bytes (term_words q) ++ more
    → Holds q tables terms
unfolding Holds
both_hold q r tables terms rest more e f =
    let l = roomy_parts q r in (
      ap (take table_size) e ∙ take_at (word_bytes (table_words q)) rest table_size (omega (arith, length_word_bytes (table_words q), length_table_words q l)),
      ap (take term_size) f ∙ take_at (word_bytes (term_words q)) more term_size (omega (arith, length_word_bytes (term_words q), length_term_words q l)),
    )

-- Copied tables hold what the tables held.
pub copied_hold :
    (q : Plan) → T (roomy q) → (tables terms work more : List ℕ) → Holds q tables terms
    → Holds q (take table_size tables ++ drop table_size work) (take term_size terms ++ drop term_size more)
unfolding Holds
copied_hold q r tables terms work more h =
    both_hold q r _ _ (drop table_size work) (drop term_size more) (ap (λ bs. bs ++ drop table_size work) h.0) (ap (λ bs. bs ++ drop term_size more) h.1)

-- ---- the added clause

module _ (p : Plan) (t : T (lawful p)) (some : 0 < length p.objective) (m : ℤ) (within : nat_abs m ≤ 1_000_000_000) where
  pub roomy_tightened : T (roomy (tightened p m))
  roomy_tightened = roomy_whole (tightened p m) (room_tightened p (plan_parts p t) some m within)

module _ (p : Plan) (t : T (lawful p)) (tables : List ℕ) (h : take table_size tables ≡ word_bytes (table_words p)) (base : take base_size tables ≡ word_bytes (base_words p)) where
  lp : LawfulPlan p
  lp = plan_parts p t

  rp : RoomyPlan p
  rp = room_for p lp

  pub added_table : (m : ℤ) → added_entries (length p.objective) (unsigned m) tables ≡ word_bytes (base_words (tightened p m)) ++ drop base_size tables
  unfolding added_entries
  added_table m =
      let rest = drop base_size tables in
      let w = base_words p in
      let c = clauses_at + 2 * length p.clauses in
      let n : length w ≡ base_word_count = length_base_words p rp in
      let a : c + 2 ≤ length w = omega (arith, lp.clause_count) in
      let na : length (put c (clause_words p lp) w) ≡ length w = length_put c (clause_words p lp) w a in
      let b : rules_at + 5 * length (rules_of p) + 5 ≤ length (put c (clause_words p lp) w) = omega (arith, lp.rule_count) in
      let nb : length (put (rules_at + 5 * length (rules_of p)) (rule_words p lp m) (put c (clause_words p lp) w)) ≡ length (put c (clause_words p lp) w) = length_put (rules_at + 5 * length (rules_of p)) (rule_words p lp m) _ b in
      rw (clauses_in_lem p rp tables h, rules_in_lem p rp tables h, terms_in_lem p rp tables h)
      (ap (λ s. put_words 1 (count_words p lp) (put_words (rules_at + 5 * length (rules_of p)) (rule_words p lp m) (put_words c (clause_words p lp) s))) (starts base_size tables (word_bytes w) base)
      ∙ ap (λ s. put_words 1 (count_words p lp) (put_words (rules_at + 5 * length (rules_of p)) (rule_words p lp m) s)) (put_table c (clause_words p lp) w rest a)
      ∙ ap (put_words 1 (count_words p lp)) (put_table (rules_at + 5 * length (rules_of p)) (rule_words p lp m) _ rest b)
      ∙ put_table 1 (count_words p lp) _ rest (omega arith)
      ∙ ap (λ ws. word_bytes ws ++ rest) (new_table p lp m))

-- The terms, where the table of counts says how many there were.
pub added_terms :
    (p : Plan) (t : T (lawful p)) (terms : List ℕ) → take term_size terms ≡ word_bytes (term_words p) → (m : ℤ)
    → put_words (2 * term_count p) (term_entries p.objective) terms ≡ word_bytes (term_words (tightened p m)) ++ drop term_size terms
added_terms p t terms h m =
    let l = plan_parts p t in
    let n : length (term_words p) ≡ term_word_count = length_term_words p (room_for p l) in
    let short = objective_short p (lawful_roomy p t) in
    ap (put_words (2 * term_count p) (term_entries p.objective)) (starts term_size terms _ h)
    ∙ put_table (2 * term_count p) (term_entries p.objective) (term_words p) (drop term_size terms) (omega (arith, length_term_entries p.objective, l.terms, l.high))
    ∙ ap (λ ws. word_bytes ws ++ drop term_size terms) (new_terms p l m)

-- What `add_bound` needs of its tables, and what it leaves.
pub record Ready (tables terms : List ℕ) : Type 0 where
  pub variables : word_at tables 0 ≤ 512
  pub clauses : word_at tables 1 ≤ 512
  pub rules : word_at tables 2 ≤ 1_024
  pub count : word_at tables 3 ≤ 6_000
  pub few : length (objective_of (word_at tables)) ≤ 512
  pub room : table_size ≤ length tables
  pub space : term_size ≤ length terms

module _ (tables terms : List ℕ) (b : Boundable tables terms) where
  abbrev plan : Plan
  plan = plan_of_tables tables terms

  table_held : take table_size tables ≡ word_bytes (table_words plan)
  unfolding Holds
  table_held = b.holds.0

  terms_held : take term_size terms ≡ word_bytes (term_words plan)
  unfolding Holds
  terms_held = b.holds.1

  pub ready : Ready tables terms
  ready =
      let l = plan_parts plan b.lawful in
      let r = room_for plan l in
      let t = lawful_roomy plan b.lawful in
      record {
        variables = omega (arith, variables_in_lem plan tables terms t b.holds, l.high);
        clauses = omega (arith, clauses_in_lem plan r tables table_held, l.clause_count);
        rules = omega (arith, rules_in_lem plan r tables table_held, l.rule_count);
        count = omega (arith, terms_in_lem plan r tables table_held, l.terms);
        few = omega (arith, ap length (objective_in plan tables terms t b.holds), objective_short plan t, l.high);
        room = table_room plan tables terms t b.holds;
        space = term_room_lem plan tables terms t b.holds;
      }

  module _ (m : ℤ) (count bound : ℕ) (c : count ≡ length (objective_of (word_at tables))) (e : bound ≡ unsigned m) where
    objective_here : objective_of (word_at tables) ≡ plan.objective
    objective_here = objective_in plan tables terms (lawful_roomy plan b.lawful) b.holds

    bounded_base : added_entries count bound tables ≡ word_bytes (base_words (tightened plan m)) ++ drop base_size tables
    bounded_base =
        ap₂ (λ k u. added_entries k u tables) (c ∙ ap length objective_here) e
        ∙ added_table plan b.lawful tables table_held (holds_base plan (room_for plan (plan_parts plan b.lawful)) tables terms b.holds) m

    pub bounded_terms :
        (first : ℕ) → first ≡ word_at tables 3
        → put_words (2 * first) (term_entries (objective_of (word_at tables))) terms ≡ word_bytes (term_words (tightened plan m)) ++ drop term_size terms
    bounded_terms first f =
        let l = plan_parts plan b.lawful in
        ap₂ (λ n ts. put_words (2 * n) (term_entries ts) terms) (f ∙ terms_in_lem plan (room_for plan l) tables table_held) objective_here
        ∙ added_terms plan b.lawful terms terms_held m

    -- What stands there before the order is built, and what the builder leaves.
    module _ (within : nat_abs m ≤ 1_000_000_000) (first : ℕ) (f : first ≡ word_at tables 3) {t u : List ℕ} (g : t ≡ added_entries count bound tables) (h : u ≡ put_words (2 * first) (term_entries (objective_of (word_at tables))) terms) where
      roomy_here : RoomyPlan (tightened plan m)
      roomy_here = room_tightened plan (plan_parts plan b.lawful) b.some m within

      base_here : t ≡ word_bytes (base_words (tightened plan m)) ++ drop base_size tables
      base_here = g ∙ bounded_base

      base_long : length (word_bytes (base_words (tightened plan m))) ≡ base_size
      base_long = omega (arith, length_word_bytes (base_words (tightened plan m)), length_base_words (tightened plan m) roomy_here)

      same_size : length t ≡ length tables
      same_size = ap length base_here ∙ length-append (word_bytes (base_words (tightened plan m))) (drop base_size tables) ∙ omega (arith, base_long, length-drop base_size tables, ready.room)

      based : Based (tightened plan m) t u
      based = record {
        room = roomy_whole (tightened plan m) roomy_here;
        base = ap (take base_size) base_here ∙ take_at (word_bytes (base_words (tightened plan m))) (drop base_size tables) base_size base_long;
        body = ap (take term_size) (h ∙ bounded_terms first f) ∙ take_at (word_bytes (term_words (tightened plan m))) (drop term_size terms) term_size (omega (arith, length_word_bytes (term_words (tightened plan m)), length_term_words (tightened plan m) roomy_here));
        long = rw same_size ready.room;
      }

      pub order_ready : Based (plan_of_tables t u) t u
      order_ready = rw (plan_here based) based

      past : drop table_size t ≡ drop table_size tables
      past =
          let n = length (word_bytes (base_words (tightened plan m))) in
          let k : table_size ≡ n + (table_size - n) = omega (arith, base_long) in
          let back : base_size + (table_size - n) ≡ table_size = omega (arith, base_long) in
          ap₂ (λ i s. drop i s) k base_here
          ∙ drop-append-add (word_bytes (base_words (tightened plan m))) (drop base_size tables) (table_size - n)
          ∙ drop-drop (table_size - n) base_size tables
          ∙ ap (λ i. drop i tables) back

      pub order_left : {w : List ℕ} → w ≡ word_bytes (table_words (plan_of_tables t u)) ++ drop table_size t → w ≡ word_bytes (table_words (tightened plan m)) ++ drop table_size tables
      order_left {w} q = q ∙ ap₂ (λ r l. word_bytes (table_words r) ++ l) (plan_here based) past

-- A lawful plan, and tables that hold it.
module _ (p : Plan) (t : T (lawful p)) (tables terms : List ℕ) (h : Holds p tables terms) where
  -- What `add_bound` leaves is the tables of that plan with the added clause, where the objective has a term, as a rule must.
  module _ (some : 0 < length p.objective) (m : ℤ) (within : nat_abs m ≤ 1_000_000_000) (out more : List ℕ)
      (e : out ≡ word_bytes (table_words (tightened (plan_of_tables tables terms) m)) ++ drop table_size tables)
      (f : more ≡ word_bytes (term_words (tightened (plan_of_tables tables terms) m)) ++ drop term_size terms)
    where
      pub bound_holds : Holds (tightened p m) out more
      bound_holds =
          let b = read_back p tables terms (lawful_roomy p t) h in
          both_hold (tightened p m) (roomy_tightened p t some m within) out more _ _ (rw b at e) (rw b at f)

-- ---- another bound

pub rebound_table :
    (p : Plan) (t : T (lawful p)) (some : 0 < length p.objective) (k : ℤ) (within : nat_abs k ≤ 1_000_000_000) (tables : List ℕ)
    → take table_size tables ≡ word_bytes (table_words (tightened p k)) → (m : ℤ)
    → rebound m tables ≡ word_bytes (table_words (tightened p m)) ++ drop table_size tables
unfolding rebound
rebound_table p t some k within tables h m =
    let l = plan_parts p t in
    let room = room_tightened p l some k within in
    let n : length (table_words (tightened p k)) ≡ table_word_count = length_table_words (tightened p k) room in
    let r : word_at tables 2 ≡ length (rules_of p) + 1 = rules_in_lem (tightened p k) room tables h ∙ rule_count_lem p l k in
    let e : last_upper_at (word_at tables 2) ≡ rule_upper_at (length (rules_of p)) = omega arith in
    ap₂ (λ i s. put_words i (unsigned m ∷ []) s) e (starts table_size tables _ h)
    ∙ put_table (rule_upper_at (length (rules_of p))) (unsigned m ∷ []) (table_words (tightened p k)) (drop table_size tables) (omega (arith, l.rule_count))
    ∙ ap (λ ws. word_bytes ws ++ drop table_size tables) whole
  where
    whole : put (rule_upper_at (length (rules_of p))) (unsigned m ∷ []) (table_words (tightened p k)) ≡ table_words (tightened p m)
    whole =
        let l = plan_parts p t in
        let size = length_base_words (tightened p k) (room_tightened p l some k within) in
        unfold table_words in
        put_inside (rule_upper_at (length (rules_of p))) (unsigned m ∷ []) (base_words (tightened p k)) (order_words (tightened p k)) (omega (arith, size, l.rule_count))
        ∙ ap₂ ◌++◌ (other_table p l m k) (same_order p l m k)

-- Tables that hold a plan with an added clause hold it with the other bound afterwards.
module _ (p : Plan) (t : T (lawful p)) (some : 0 < length p.objective) (k m : ℤ) (within : nat_abs k ≤ 1_000_000_000) (within' : nat_abs m ≤ 1_000_000_000)
    (tables terms : List ℕ) (h : Holds (tightened p k) tables terms)
  where
    pub rebound_rules : word_at tables 2 ≤ rule_room
    unfolding Holds
    rebound_rules =
        let room = room_tightened p (plan_parts p t) some k within in
        omega (arith, rules_in_lem (tightened p k) room tables h.0, room.rule_count)

    pub rebound_bytes : rebound m tables ≡ word_bytes (table_words (tightened p m)) ++ drop table_size tables
    unfolding Holds
    rebound_bytes = rebound_table p t some k within tables h.0 m

    pub rebound_holds : Holds (tightened p m) (rebound m tables) terms
    unfolding Holds
    rebound_holds =
        both_hold (tightened p m) (roomy_tightened p t some m within') (rebound m tables) terms _ (drop term_size terms) rebound_bytes
        (starts term_size terms _ (h.1 ∙ ap word_bytes (same_terms p (plan_parts p t) m k)))

    pub rebound_back : plan_of_tables (rebound m tables) terms ≡ tightened p m
    rebound_back = read_back (tightened p m) (rebound m tables) terms (roomy_tightened p t some m within') rebound_holds
