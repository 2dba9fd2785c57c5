-- The tables of a plan with the added clause O ≤ m are its own with a few words written over them: the entries of one clause and one rule, the
-- rule's terms, and three counts. They have room for it.
-- Assumes nothing.
use Prim.Native.Nat.{ℕ, suc, ◌+◌, ◌*◌, ◌-◌, ◌≤◌, ◌<◌, zero-le}
use native.Mathlib.Nat.{add-zero, zero-add}
use native.Mathlib.Omega.{arith}
use mathlib.Core.Path.{◌≡◌, refl, sym, ap, ap₂, ◌∙◌}
use mathlib.Core.Bool.{true}
use mathlib.Core.List.{List, [], ◌∷◌, ◌++◌, map}
use lib.IntN.{ℤ, nat_abs}
use lib.ListN.{length, replicate, length-append, length-map}
use borrow.Author.Tests.{le-leb}
use Rattle.plpb.specs.Lists.{◌and◌, ◌or◌, all, concat, sum_by, row}
use Rattle.plpb.specs.Plan.{absent, present, Rule, Clause, Plan, is_variable, lock_of, rising}
use Rattle.plpb.specs.Search.{tightened}
use Rattle.plpb.specs.Tallies.{rules_of}
use Rattle.plpb.proofs.Lists.{concat_last}
use Rattle.order.proofs.Terms.{terms_of}
use Rattle.words.specs.Words.{unsigned}
use Rattle.words.specs.Writes.{front, put}
use Rattle.format.specs.Limits.{term_count, bound_lawful, is_present}
use Rattle.format.specs.Writer.{mode, bound_number}
use Rattle.format.specs.Tables.{coefficient, pad_to, pad_with, clause_entries, rule_entries, term_entries, all_terms, lock_word, base_words, order_words, term_words}
use Rattle.format.proofs.Bools.{and_join}
use Rattle.format.proofs.Bounds.{both_lawful}
use Rattle.format.proofs.Lists.{all_append, sum_by_append, length_row}
use Rattle.format.proofs.Lawful.{LawfulPlan, RoomyPlan, clause_lawful, clause_whole, rule_whole, terms_short}
use Rattle.format.proofs.Sections.{length_clause_entries, length_rule_entries, length_term_entries, length_all_terms}
use Rattle.format.proofs.Arranged.{order_same}
use Rattle.format.proofs.Spells.{length_pad_to}
use Rattle.objective.proofs.Parts.{put_inside, put_behind, pad_more}
use Rattle.objective.proofs.AddedTerms.{term_entries_append}
use Rattle.format.specs.Layout.{clause_word_count, clauses_at, rule_upper_at, rule_word_count, rules_at, term_word_count}

-- "the added last clause O ≤ m"
abbrev pub bound_rule : Plan → ℤ → Rule
bound_rule p m = record { lower = absent; upper = present m; terms = p.objective }

-- ---- one more rule, clause and terms

map_last : {A B : Type 0} (f : A → B) (xs : List A) (y : A) → map f (xs ++ (y ∷ [])) ≡ map f xs ++ (f y ∷ [])
map_last f [] y = refl
map_last f (x ∷ xs) y = ap (λ zs. f x ∷ zs) (map_last f xs y)

module _ (p : Plan) (m : ℤ) where
  pub rules_last : rules_of (tightened p m) ≡ rules_of p ++ (bound_rule p m ∷ [])
  unfolding rules_of tightened
  rules_last = concat_last p.clauses (bound_rule p m ∷ [])

  pub clauses_last : (tightened p m).clauses ≡ p.clauses ++ ((bound_rule p m ∷ []) ∷ [])
  unfolding tightened
  clauses_last = refl

  pub count_last : term_count (tightened p m) ≡ term_count p + length p.objective
  unfolding term_count sum_by
  count_last = ap (sum_by (λ r. length r.terms)) rules_last ∙ sum_by_append _ (rules_of p) (bound_rule p m ∷ []) ∙ omega arith

  pub terms_last : all_terms (tightened p m) ≡ all_terms p ++ p.objective
  unfolding all_terms
  terms_last = ap (λ rs. concat (map (λ r. r.terms) rs)) rules_last ∙ ap concat (map_last (λ r. r.terms) (rules_of p) (bound_rule p m)) ∙ concat_last _ p.objective

pub clause_entries_last :
    (first : ℕ) (cs : List Clause) (c : Clause)
    → clause_entries first (cs ++ (c ∷ [])) ≡ clause_entries first cs ++ ((first + length (concat cs)) ∷ length c ∷ [])
unfolding clause_entries concat
clause_entries_last first [] c = ap (λ n. n ∷ length c ∷ []) (sym (add-zero first))
clause_entries_last first (d ∷ cs) c =
    let e : first + length d + length (concat cs) ≡ first + length (d ++ concat cs) = omega (arith, length-append d (concat cs)) in
    ap (λ ws. first ∷ length d ∷ ws)
    (clause_entries_last (first + length d) cs c ∙ ap (λ n. clause_entries (first + length d) cs ++ (n ∷ length c ∷ [])) e)

pub rule_entries_last :
    (first : ℕ) (rs : List Rule) (r : Rule)
    → rule_entries first (rs ++ (r ∷ []))
    ≡ rule_entries first rs
    ++ ((first + sum_by (λ q. length q.terms) rs)
    ∷ length r.terms
    ∷ mode r.lower r.upper
    ∷ unsigned (bound_number r.lower)
    ∷ unsigned (bound_number r.upper)
    ∷ [])
unfolding rule_entries sum_by
rule_entries_last first [] r = rw (add-zero first)
rule_entries_last first (q ∷ rs) r =
    let e : first + length q.terms + sum_by (λ q. length q.terms) rs ≡ first + (length q.terms + sum_by (λ q. length q.terms) rs) = omega arith in
    rw (rule_entries_last (first + length q.terms) rs r, e)

-- ---- the tables have room

module _ (p : Plan) (l : LawfulPlan p) (some : 0 < length p.objective) (m : ℤ) (within : nat_abs m ≤ 1_000_000_000) where
  both : both_lawful absent (present m) ≡ true
  unfolding both_lawful bound_lawful is_present ◌and◌ ◌or◌
  both = rw (le-leb (nat_abs m) 1_000_000_000 within)

  lawful_clause : clause_lawful p.variables (bound_rule p m ∷ []) ≡ true
  unfolding all
  lawful_clause =
      clause_whole p.variables (bound_rule p m ∷ []) (omega arith)
      (and_join _ _ (rule_whole p.variables (bound_rule p m) (record { both = both; some = some; terms = l.objective })) refl)

  pub room_tightened : RoomyPlan (tightened p m)
  unfolding tightened all rising
  room_tightened =
      let n = length-append p.clauses ((bound_rule p m ∷ []) ∷ []) in
      let k = length-append (rules_of p) (bound_rule p m ∷ []) in
      let few = terms_short p.variables 0 p.objective l.objective.rise l.objective.within zero-le in
      record {
        low = l.low;
        high = l.high;
        objective = l.objective;
        locks = l.locks;
        clauses = all_append (clause_lawful p.variables) p.clauses _ l.clauses (and_join _ _ lawful_clause refl);
        clause_count = omega (arith, l.clause_count);
        rule_count = omega (arith, l.rule_count, ap length (rules_last p m));
        terms = omega (arith, l.terms, l.high, count_last p m);
      }

-- ---- the words

-- The sections of a table: four counts, 512 coefficients, the clauses' entries, the rules' and the locks.
module _ (a b c d i : ℕ) (os xs ys ks ws : List ℕ) (coefficients : length os ≡ 512) where
  put_clause :
      i + length ws ≤ length xs
      → put (clauses_at + i) ws (a ∷ b ∷ c ∷ d ∷ (os ++ (xs ++ (ys ++ ks)))) ≡ a ∷ b ∷ c ∷ d ∷ (os ++ (put i ws xs ++ (ys ++ ks)))
  unfolding put
  put_clause h =
      let e : clauses_at + i ≡ suc (suc (suc (suc (512 + i)))) = omega arith in
      rw e
      (ap (λ zs. a ∷ b ∷ c ∷ d ∷ zs)
      (put_behind 512 i ws os (xs ++ (ys ++ ks)) coefficients ∙ ap (λ zs. os ++ zs) (put_inside i ws xs (ys ++ ks) h)))

  put_rule :
      length xs ≡ clause_word_count
      → i + length ws ≤ length ys
      → put (rules_at + i) ws (a ∷ b ∷ c ∷ d ∷ (os ++ (xs ++ (ys ++ ks)))) ≡ a ∷ b ∷ c ∷ d ∷ (os ++ (xs ++ (put i ws ys ++ ks)))
  unfolding put
  put_rule h room =
      let e : rules_at + i ≡ suc (suc (suc (suc (512 + (clause_word_count + i))))) = omega arith in
      rw e
      (ap (λ zs. a ∷ b ∷ c ∷ d ∷ zs)
      (put_behind 512 (clause_word_count + i) ws os (xs ++ (ys ++ ks)) coefficients
      ∙ ap (λ zs. os ++ zs) (put_behind clause_word_count i ws xs (ys ++ ks) h ∙ ap (λ zs. xs ++ zs) (put_inside i ws ys ks room))))

put_counts : (a b c d x y z : ℕ) (ws : List ℕ) → put 1 (x ∷ y ∷ z ∷ []) (a ∷ b ∷ c ∷ d ∷ ws) ≡ a ∷ x ∷ y ∷ z ∷ ws
unfolding put front
put_counts a b c d x y z ws = refl

module _ (p : Plan) (l : LawfulPlan p) where
  abbrev costs : List ℕ
  costs = map (λ x. unsigned (coefficient p.objective x)) (row 1 512)

  abbrev first : List ℕ
  first = clause_entries 0 p.clauses

  abbrev second : List ℕ
  second = rule_entries 0 (rules_of p)

  abbrev locked : List ℕ
  locked = map (λ x. lock_word (lock_of p x)) (row 1 512)

  -- The words of the added clause's entry, of its rule's and of the counts.
  abbrev pub clause_words : List ℕ
  clause_words = length (rules_of p) ∷ 1 ∷ []

  abbrev pub rule_words : ℤ → List ℕ
  rule_words m = term_count p ∷ length p.objective ∷ 2 ∷ 0 ∷ unsigned m ∷ []

  abbrev pub count_words : List ℕ
  count_words = (length p.clauses + 1) ∷ (length (rules_of p) + 1) ∷ (term_count p + length p.objective) ∷ []

  length_costs : length costs ≡ 512
  length_costs = length-map (row 1 512) (λ x. unsigned (coefficient p.objective x)) ∙ length_row 1 512

  length_first : length first ≡ 2 * length p.clauses
  length_first = length_clause_entries 0 p.clauses

  length_second : length second ≡ 5 * length (rules_of p)
  length_second = length_rule_entries 0 (rules_of p)

  length_first_part : (ws : List ℕ) → length ws ≤ 2 → length (pad_to clause_word_count (first ++ ws)) ≡ clause_word_count
  length_first_part ws h = length_pad_to clause_word_count (first ++ ws) (omega (arith, length-append first ws, length_first, l.clause_count))

  -- One rule more fits its section.
  rule_room_lem : (ws : List ℕ) → length ws ≡ 5 * length (rules_of p) → 5 * length (rules_of p) + 5 ≤ length (pad_to rule_word_count ws)
  rule_room_lem ws e = omega (arith, length_pad_to rule_word_count ws (omega (arith, l.rule_count)), l.rule_count)

  module _ (m : ℤ) where
    clause_count_lem : length (tightened p m).clauses ≡ length p.clauses + 1
    clause_count_lem = ap length (clauses_last p m) ∙ length-append p.clauses _

    pub rule_count_lem : length (rules_of (tightened p m)) ≡ length (rules_of p) + 1
    rule_count_lem = ap length (rules_last p m) ∙ length-append (rules_of p) _

    clause_entries_lem : clause_entries 0 (tightened p m).clauses ≡ first ++ clause_words
    unfolding rules_of
    clause_entries_lem =
        ap (clause_entries 0) (clauses_last p m)
        ∙ clause_entries_last 0 p.clauses (bound_rule p m ∷ [])
        ∙ ap (λ n. first ++ (n ∷ 1 ∷ [])) (zero-add (length (rules_of p)))

    rule_entries_lem : rule_entries 0 (rules_of (tightened p m)) ≡ second ++ rule_words m
    unfolding term_count mode bound_number unsigned
    rule_entries_lem =
        ap (rule_entries 0) (rules_last p m)
        ∙ rule_entries_last 0 (rules_of p) (bound_rule p m)
        ∙ ap (λ n. second ++ (n ∷ length p.objective ∷ 2 ∷ 0 ∷ unsigned m ∷ [])) (zero-add (term_count p))

    spelt :
        base_words (tightened p m)
        ≡ p.variables
        ∷ (length p.clauses + 1)
        ∷ (length (rules_of p) + 1)
        ∷ (term_count p + length p.objective)
        ∷ (costs ++ (pad_to clause_word_count (first ++ clause_words) ++ (pad_to rule_word_count (second ++ rule_words m) ++ locked)))
    unfolding base_words tightened lock_of is_variable
    spelt =
        λ i. p.variables
        ∷ clause_count_lem i
        ∷ rule_count_lem i
        ∷ count_last p m i
        ∷ (costs ++ (pad_to clause_word_count (clause_entries_lem i) ++ (pad_to rule_word_count (rule_entries_lem i) ++ locked)))

    -- Three writes make them of the plan's own.
    pub new_table :
        put 1 count_words (put (rules_at + 5 * length (rules_of p)) (rule_words m) (put (clauses_at + 2 * length p.clauses) clause_words (base_words p)))
        ≡ base_words (tightened p m)
    unfolding base_words
    new_table =
        let n = length p.clauses in
        let room : 2 * n + 2 ≤ length (pad_to clause_word_count first) =
        omega (arith, length_pad_to clause_word_count first (omega (arith, length_first, l.clause_count)), l.clause_count) in
        ap (λ t. put 1 count_words (put (rules_at + 5 * length (rules_of p)) (rule_words m) t))
        (put_clause p.variables n (length (rules_of p)) (term_count p) (2 * n) costs (pad_to clause_word_count first) (pad_to rule_word_count second) locked clause_words length_costs room
        ∙ ap (λ xs. p.variables ∷ n ∷ length (rules_of p) ∷ term_count p ∷ (costs ++ (xs ++ (pad_to rule_word_count second ++ locked)))) (pad_more clause_word_count (2 * n) first clause_words length_first))
        ∙ ap (put 1 count_words)
        (put_rule p.variables n (length (rules_of p)) (term_count p) (5 * length (rules_of p)) costs (pad_to clause_word_count (first ++ clause_words)) (pad_to rule_word_count second) locked (rule_words m) length_costs
        (length_first_part clause_words (omega arith)) (rule_room_lem second length_second)
        ∙ ap (λ ys. p.variables ∷ n ∷ length (rules_of p) ∷ term_count p ∷ (costs ++ (pad_to clause_word_count (first ++ clause_words) ++ (ys ++ locked))))
        (pad_more rule_word_count (5 * length (rules_of p)) second (rule_words m) length_second))
        ∙ put_counts _ _ _ _ _ _ _ _
        ∙ sym spelt

    -- The term table: the objective's terms behind the plan's own.
    pub new_terms : put (2 * term_count p) (term_entries p.objective) (term_words p) ≡ term_words (tightened p m)
    unfolding term_words
    new_terms =
        pad_more term_word_count (2 * term_count p) (term_entries (all_terms p)) (term_entries p.objective) (omega (arith, length_term_entries (all_terms p), length_all_terms p))
        ∙ ap (pad_to term_word_count) (sym (ap term_entries (terms_last p m) ∙ term_entries_append (all_terms p) p.objective))

  -- Another bound is one word written over the last rule's entry.
  upper_word : (m k : ℤ) → put 4 (unsigned m ∷ []) (rule_words k) ≡ rule_words m
  unfolding put front
  upper_word m k = refl

  upper_padded : (m k : ℤ) → put (5 * length (rules_of p) + 4) (unsigned m ∷ []) (pad_to rule_word_count (second ++ rule_words k)) ≡ pad_to rule_word_count (second ++ rule_words m)
  unfolding pad_with
  upper_padded m k =
      let a = length-append second (rule_words k) in
      let b = length-append second (rule_words m) in
      let e : length (second ++ rule_words k) ≡ length (second ++ rule_words m) = omega arith in
      put_inside (5 * length (rules_of p) + 4) (unsigned m ∷ []) (second ++ rule_words k) _ (omega (arith, length_second))
      ∙ ap (λ xs. xs ++ replicate (rule_word_count - length (second ++ rule_words k)) 0)
      (put_behind (5 * length (rules_of p)) 4 (unsigned m ∷ []) second (rule_words k) length_second ∙ ap (λ ws. second ++ ws) (upper_word m k))
      ∙ ap (λ n. second ++ rule_words m ++ replicate (rule_word_count - n) 0) e

  last_room : (k : ℤ) → 5 * length (rules_of p) + 4 + 1 ≤ length (pad_to rule_word_count (second ++ rule_words k))
  last_room k =
      let a = length-append second (rule_words k) in
      omega (arith, length_second, length_pad_to rule_word_count (second ++ rule_words k) (omega (arith, length_second, l.rule_count)), l.rule_count)

  pub other_table : (m k : ℤ) → put (rule_upper_at (length (rules_of p))) (unsigned m ∷ []) (base_words (tightened p k)) ≡ base_words (tightened p m)
  other_table m k =
      let e : rule_upper_at (length (rules_of p)) ≡ rules_at + (5 * length (rules_of p) + 4) = omega arith in
      ap₂ (λ i t. put i (unsigned m ∷ []) t) e (spelt k)
      ∙ put_rule _ _ _ _ (5 * length (rules_of p) + 4) costs (pad_to clause_word_count (first ++ clause_words)) _ locked (unsigned m ∷ []) length_costs (length_first_part clause_words (omega arith))
      (last_room k)
      ∙ ap
      (λ ys. p.variables
      ∷ (length p.clauses + 1)
      ∷ (length (rules_of p) + 1)
      ∷ (term_count p + length p.objective)
      ∷ (costs ++ (pad_to clause_word_count (first ++ clause_words) ++ (ys ++ locked))))
      (upper_padded m k)
      ∙ sym (spelt m)

  pub same_terms : (m k : ℤ) → term_words (tightened p k) ≡ term_words (tightened p m)
  same_terms m k = sym (new_terms k) ∙ new_terms m

  -- The order of the terms does not tell the bound.
  pub same_order : (m k : ℤ) → order_words (tightened p k) ≡ order_words (tightened p m)
  same_order m k = order_same (tightened p k) (tightened p m) (unfold tightened in refl) (terms_told k ∙ sym (terms_told m))
    where
      terms_told : (m : ℤ) → map terms_of (tightened p m).clauses ≡ map terms_of p.clauses ++ ((p.objective ∷ []) ∷ [])
      terms_told m = ap (map terms_of) (clauses_last p m) ∙ map_last terms_of p.clauses (bound_rule p m ∷ [])
