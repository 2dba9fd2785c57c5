-- Laws of a recount: a rule read makes its word right, the rules of a clause its count, and all clauses the whole.
-- Assumes nothing.
use Prim.Native.Nat.{ℕ, ◌+◌, ◌-◌, ◌≤◌, ◌<◌}
use native.Mathlib.Nat.{zero-add, eq-or-lt_of_le}
use native.Mathlib.Numerals.{add-one}
use native.Mathlib.Decide.{dec_lt}
use native.Mathlib.Omega.{arith}
use mathlib.Core.Path.{◌≡◌, sym, ap, ap₂, ◌∙◌}
use mathlib.Core.Logic.{⊎_elim}
use mathlib.Core.Bool.{Bool, true, false, cond}
use mathlib.Core.List.{List, ◌++◌, map}
use lib.Dec.{eqb}
use lib.ListN.{length, drop, take-append-drop}
use Rattle.plpb.specs.Lists.{count, row}
use Rattle.plpb.specs.Plan.{Plan, Assignment, rule_holds, clause_holds}
use Rattle.plpb.specs.Normal.{P}
use Rattle.plpb.specs.Tallies.{rules_of, unsatisfied, fresh_count}
use Rattle.plpb.proofs.Lists.{count_nil, count_cons, none_by_count}
use Rattle.order.specs.Order.{first_rule}
use Rattle.order.proofs.Runs.{first_none}
use Rattle.words.specs.Words.{word_at}
use Rattle.words.proofs.Words.{Below}
use Rattle.format.specs.Tables.{rule_of, clause_of, plan_in, plan_of_tables}
use Rattle.rules.specs.Terms.{bits_in}
use Rattle.rules.specs.State.{StateOf, holds_in}
use Rattle.rules.specs.declared.state.State.{State}
use Rattle.rules.proofs.States.{holds_rule}
use Rattle.tallies.specs.Layout.{tally_size, tally_bytes, tally_word}
use Rattle.recount.specs.Core.{Laid, Wrote, Kept, Right, RuleCounted, ClauseCounted, Unused}
use Rattle.recount.proofs.Along.{along_step, along_end}
use Rattle.tallies.proofs.TallyBytes.{roomy_fits}
use Rattle.tallies.proofs.Tallied.{rule_word, clause_word, total_word, unused_rule, unused_clause, words_fresh}
use Rattle.recount.proofs.Laid.{rules_word, clauses_word, rule_here, clause_here, first_rule_lem, next_rule_lem, last_rule}
use Rattle.recount.proofs.Keeping.{kept_none, kept_more, wrote_kept}
use Rattle.format.specs.Layout.{clause_count_at, clause_first_at, holding_at, rule_room, tally_word_count, unsatisfied_at}

-- ---- the words of rules and clauses as they are read

module _ (tables terms : List ℕ) (l : Laid tables terms) (a : Assignment) where
  pub word_of_rule : (r : ℕ) → r < word_at tables 2 → tally_word (plan_of_tables tables terms) a r ≡ P a (rule_of (word_at tables) (word_at terms) r).terms
  word_of_rule r h =
      let q = rule_of (word_at tables) (word_at terms) r in
      rule_word (plan_of_tables tables terms) (roomy_fits _ l.room) a r q (omega (arith, rules_word tables terms l))
      ∙ ap (λ k. P a k.terms) (rule_here tables terms l r q h)

  pub word_of_clause : (c : ℕ) → c < word_at tables 1 → tally_word (plan_of_tables tables terms) a (holding_at c) ≡ count (rule_holds a) (clause_of (word_at tables) (word_at terms) c)
  word_of_clause c h =
      clause_word (plan_of_tables tables terms) (roomy_fits _ l.room) a c (omega (arith, clauses_word tables terms l))
      ∙ ap (count (rule_holds a)) (clause_here tables terms l c h)

-- ---- a rule

module _ (tables terms bits : List ℕ) (r y : ℕ) (h : r < word_at tables 2) {s : State} (k : StateOf (bits_in bits) y (rule_of (word_at tables) (word_at terms) r) s) where
  pub rule_counted : Laid tables terms → (b : Bool) (t u : List ℕ) → b ≡ holds_in s → Wrote r s.p t u → RuleCounted tables terms bits r b t u
  rule_counted l b t u e w =
      let right : s.p ≡ tally_word (plan_of_tables tables terms) (bits_in bits) r = k.trues ∙ sym (word_of_rule tables terms l (bits_in bits) r h) in
      record { holds = e ∙ holds_rule k; here = w.here ∙ right; kept = wrote_kept _ t u r s.p w right }

-- ---- words in a row

bit_small : (b : Bool) (v : ℕ) → v ≡ cond b 1 0 → v ≤ 1
bit_small true v e = omega arith
bit_small false v e = omega arith

pub right_none : (h : ℕ → ℕ) (s : List ℕ) (i : ℕ) → Right h s i i
right_none h s i = λ j l u. absurd (omega arith)

pub right_more : (h : ℕ → ℕ) (s t : List ℕ) (i e : ℕ) → Right h s i e → Kept h s t → word_at t e ≡ h e → Right h t i (e + 1)
right_more h s t i e r k w = λ j l u. ⊎_elim (λ z. rw z w) (λ m. k.right j (r j l m)) (eq-or-lt_of_le {n = j} {m = e} (omega arith))

-- ---- the rules of a clause

-- Those before r are done.
pub record RulesDone (tables terms bits : List ℕ) (c : ℕ) (s₀ : List ℕ) (end holding r : ℕ) (s : List ℕ) : Type 0 where
  pub ends : end ≡ word_at tables (clause_first_at c) + word_at tables (clause_count_at c)
  pub low : word_at tables (clause_first_at c) ≤ r
  pub high : r ≤ end
  pub few : holding ≤ r
  pub counted : holding + count (rule_holds (bits_in bits)) (map (rule_of (word_at tables) (word_at terms)) (row r (end - r))) ≡ count (rule_holds (bits_in bits)) (clause_of (word_at tables) (word_at terms) c)
  pub weights : Right (tally_word (plan_of_tables tables terms) (bits_in bits)) s (word_at tables (clause_first_at c)) r
  pub kept : Kept (tally_word (plan_of_tables tables terms) (bits_in bits)) s₀ s

module _ (tables terms bits : List ℕ) (c : ℕ) where
  pub rules_start : (first end : ℕ) (s : List ℕ) → first ≡ word_at tables (clause_first_at c) → end ≡ word_at tables (clause_first_at c) + word_at tables (clause_count_at c) → RulesDone tables terms bits c s end 0 first s
  unfolding clause_of
  rules_start first end s e k =
      let z : end - first ≡ word_at tables (clause_count_at c) = omega arith in
      record {
        ends = k;
        low = omega arith;
        high = omega arith;
        few = omega arith;
        counted = rw (z, e) (zero-add _);
        weights = rw e (right_none _ s (word_at tables (clause_first_at c)));
        kept = kept_none _ s;
      }

  module _ (s₀ : List ℕ) (end holding r : ℕ) (s : List ℕ) (d : RulesDone tables terms bits c s₀ end holding r s) where
    pub rules_step : (b : Bool) (v : ℕ) (t : List ℕ) → r < end → RuleCounted tables terms bits r b s t → v ≡ cond b 1 0 → RulesDone tables terms bits c s₀ end (holding + v) (r + 1) t
    rules_step b v t h k e =
        let f = rule_of (word_at tables) (word_at terms) in
        let rest = map f (row (r + 1) (end - (r + 1))) in
        let split = ap (count (rule_holds (bits_in bits))) (along_step f r end h) ∙ count_cons (rule_holds (bits_in bits)) (f r) rest in
        let one : v ≡ cond (rule_holds (bits_in bits) (f r)) 1 0 = e ∙ ap (λ q. cond q 1 0) k.holds in
        record {
          ends = d.ends;
          low = omega (arith, d.low);
          high = omega arith;
          few = omega (arith, d.few, bit_small b v e);
          counted = omega (arith, d.counted, split, one);
          weights = right_more _ s t _ r d.weights k.kept k.here;
          kept = kept_more _ s₀ s t d.kept k.kept;
        }

    -- All are.
    pub rules_all : Laid tables terms → c < word_at tables 1 → end ≤ r → holding ≡ tally_word (plan_of_tables tables terms) (bits_in bits) (holding_at c)
    rules_all l g h =
        let f = rule_of (word_at tables) (word_at terms) in
        let none = ap (count (rule_holds (bits_in bits))) (along_end f r end h) ∙ count_nil (rule_holds (bits_in bits)) in
        let all : holding ≡ count (rule_holds (bits_in bits)) (clause_of (word_at tables) (word_at terms) c) = omega (arith, d.counted, none) in
        all ∙ sym (word_of_clause tables terms l (bits_in bits) c g)

    pub rules_end : Laid tables terms → c < word_at tables 1 → (t : List ℕ) → end ≤ r → Wrote (holding_at c) holding s t → ClauseCounted tables terms bits c s₀ t
    rules_end l g t h w =
        let right = rules_all l g h in
        let k = wrote_kept _ s t (holding_at c) holding w right in
        record {
          weights = λ i m n. k.right i (d.weights i m (omega (arith, d.ends, h)));
          holding = w.here ∙ right;
          kept = kept_more _ s₀ s t d.kept k;
        }

-- ---- the clauses

-- Those before c are done.
pub record ClausesDone (tables terms bits s₀ : List ℕ) (unsat c : ℕ) (s : List ℕ) : Type 0 where
  pub high : c ≤ word_at tables 1
  pub few : unsat ≤ c
  pub counted : unsat + count (unsatisfied (bits_in bits)) (map (clause_of (word_at tables) (word_at terms)) (row c (word_at tables 1 - c))) ≡ count (unsatisfied (bits_in bits)) (plan_of_tables tables terms).clauses
  pub weights : Right (tally_word (plan_of_tables tables terms) (bits_in bits)) s 0 (first_rule (plan_of_tables tables terms).clauses c)
  pub holding : Right (tally_word (plan_of_tables tables terms) (bits_in bits)) s rule_room (holding_at c)
  pub kept : Kept (tally_word (plan_of_tables tables terms) (bits_in bits)) s₀ s

module _ (tables terms bits : List ℕ) (l : Laid tables terms) (s₀ : List ℕ) where
  pub clauses_start : ClausesDone tables terms bits s₀ 0 0 s₀
  unfolding plan_of_tables plan_in
  clauses_start =
      let z : word_at tables 1 - 0 ≡ word_at tables 1 = omega arith in
      record {
        high = omega arith;
        few = omega arith;
        counted = rw z (zero-add _);
        weights = rw (first_none (plan_of_tables tables terms).clauses) (right_none _ s₀ 0);
        holding = right_none _ s₀ rule_room;
        kept = kept_none _ s₀;
      }

  module _ (unsat c : ℕ) (s : List ℕ) (d : ClausesDone tables terms bits s₀ unsat c s) where
    -- A clause holds no rule exactly where its word is 0.
    zero_word : c < word_at tables 1 → (w : ℕ) → w ≡ tally_word (plan_of_tables tables terms) (bits_in bits) (holding_at c) → eqb w 0 ≡ unsatisfied (bits_in bits) (clause_of (word_at tables) (word_at terms) c)
    unfolding unsatisfied clause_holds
    zero_word h w e =
        ap (λ n. eqb n 0) (e ∙ word_of_clause tables terms l (bits_in bits) c h)
        ∙ sym (none_by_count (rule_holds (bits_in bits)) (clause_of (word_at tables) (word_at terms) c))

    pub clauses_step : (w v : ℕ) (t : List ℕ) → c < word_at tables 1 → ClauseCounted tables terms bits c s t → w ≡ word_at t (holding_at c) → v ≡ cond (eqb w 0) 1 0 → ClausesDone tables terms bits s₀ (unsat + v) (c + 1) t
    clauses_step w v t h k m e =
        let f = clause_of (word_at tables) (word_at terms) in
        let q = unsatisfied (bits_in bits) in
        let split = ap (count q) (along_step f c (word_at tables 1) h) ∙ count_cons q (f c) (map f (row (c + 1) (word_at tables 1 - (c + 1)))) in
        let one : v ≡ cond (q (f c)) 1 0 = e ∙ ap (λ n. cond n 1 0) (zero_word h w (m ∙ k.holding)) in
        record {
          high = omega arith;
          few = omega (arith, d.few, bit_small (eqb w 0) v e);
          counted = omega (arith, d.counted, split, one);
          weights = λ i u n. weights i n;
          holding = rw next (right_more _ s t rule_room (holding_at c) d.holding k.kept k.holding);
          kept = kept_more _ s₀ s t d.kept k.kept;
        }
      where
        next : holding_at (c + 1) ≡ holding_at c + 1
        next = omega arith

        weights : (i : ℕ) → i < first_rule (plan_of_tables tables terms).clauses (c + 1) → word_at t i ≡ tally_word (plan_of_tables tables terms) (bits_in bits) i
        weights i n = at (dec_lt i (word_at tables (clause_first_at c)))
          where
            at : Dec (i < word_at tables (clause_first_at c)) → word_at t i ≡ tally_word (plan_of_tables tables terms) (bits_in bits) i
            at (yes z) = k.kept.right i (d.weights i (omega arith) (omega (arith, first_rule_lem tables terms l c h)))
            at (no z) = k.weights i (omega arith) (omega (arith, rw add-one at n, next_rule_lem tables terms l c h))

    -- All are.
    pub clauses_all : word_at tables 1 ≤ c → unsat ≡ tally_word (plan_of_tables tables terms) (bits_in bits) unsatisfied_at
    clauses_all h =
        let p = plan_of_tables tables terms in
        let q = unsatisfied (bits_in bits) in
        let none = ap (count q) (along_end (clause_of (word_at tables) (word_at terms)) c (word_at tables 1) h) ∙ count_nil q in
        omega (arith, d.counted, none, total_word p (roomy_fits p l.room) (bits_in bits))

    pub clauses_end : (t : List ℕ) → Below 256 t → tally_size ≤ length s₀ → Unused (plan_of_tables tables terms) s₀ → word_at tables 1 ≤ c → Wrote unsatisfied_at unsat s t → t ≡ tally_bytes (fresh_count (plan_of_tables tables terms) (bits_in bits)) ++ drop tally_size s₀
    clauses_end t b room u h w =
        sym (take-append-drop tally_size t)
        ∙ ap₂ ◌++◌ (words_fresh (plan_of_tables tables terms) l.room (bits_in bits) t b (rw whole.size room) right) whole.beyond
      where
        p : Plan
        p = plan_of_tables tables terms

        a : Assignment
        a = bits_in bits

        total : unsat ≡ tally_word p a unsatisfied_at
        total = clauses_all h

        last : Kept (tally_word p a) s t
        last = wrote_kept _ s t unsatisfied_at unsat w total

        whole : Kept (tally_word p a) s₀ t
        whole = kept_more _ s₀ s t d.kept last

        rule_right : (i : ℕ) → i < rule_room → Dec (i < word_at tables 2) → word_at t i ≡ tally_word p a i
        rule_right i n (yes z) = last.right i (d.weights i (omega arith) (omega (arith, last_rule tables terms l, ap (first_rule p.clauses) all)))
          where
            all : c ≡ word_at tables 1
            all = omega (arith, d.high)
        rule_right i n (no z) =
            let k : length (rules_of p) ≤ i = omega (arith, rules_word tables terms l) in
            whole.right i (u.rules i k n ∙ sym (unused_rule p (roomy_fits p l.room) a i k n))

        clause_right : (i : ℕ) → rule_room ≤ i → i < unsatisfied_at → Dec (i < holding_at c) → word_at t i ≡ tally_word p a i
        clause_right i m n (yes z) = last.right i (d.holding i m z)
        clause_right i m n (no z) =
            let j = i - rule_room in
            let e : holding_at j ≡ i = omega arith in
            let k : length p.clauses ≤ j = omega (arith, clauses_word tables terms l) in
            rw (← e) (whole.right (holding_at j) (u.clauses j k (omega arith) ∙ sym (unused_clause p (roomy_fits p l.room) a j k (omega arith))))

        later : (i : ℕ) → i < tally_word_count → rule_room ≤ i → Dec (i < unsatisfied_at) → word_at t i ≡ tally_word p a i
        later i n m (yes z) = clause_right i m z (dec_lt i (holding_at c))
        later i n m (no z) = let e : i ≡ unsatisfied_at = omega arith in rw e (w.here ∙ total)

        first : (i : ℕ) → i < tally_word_count → Dec (i < rule_room) → word_at t i ≡ tally_word p a i
        first i n (yes z) = rule_right i z (dec_lt i (word_at tables 2))
        first i n (no z) = later i n (omega arith) (dec_lt i unsatisfied_at)

        right : (i : ℕ) → i < tally_word_count → word_at t i ≡ tally_word p a i
        right i n = first i n (dec_lt i rule_room)
