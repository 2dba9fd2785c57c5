-- What the test of tables says, as facts for code that reads good tables: every start and count within the limits, every rule lawful.
use Prim.Native.Nat.{ℕ, zero, suc, ◌+◌, ◌*◌, ◌-◌, ◌≤◌, ◌<◌}
use mathlib.Core.Path.{◌≡◌, refl, ◌∙◌}
use mathlib.Core.Bool.{true}
use mathlib.Core.List.{map}
use native.Mathlib.Omega.{arith}
use lib.IntN.{nat_abs}
use lib.ListN.{length-map}
use borrow.Author.Tests.{leb-true, le-leb}
use Rattle.plpb.specs.Lists.{all, row}
use Rattle.plpb.specs.Plan.{rising_above, rising}
use Rattle.words.specs.Words.{signed}
use Rattle.format.specs.Limits.{max_variables, max_clauses, max_rules, max_terms, max_weight, term_within}
use Rattle.format.specs.File.{bounds_lawful}
use Rattle.format.specs.Tables.{term_of, rule_of}
use Rattle.format.proofs.Bools.{and_left, and_right, and_join}
use Rattle.format.proofs.Lists.{length_row}
use Rattle.format.proofs.Bounds.{bounds_tested, bounds_meant}
use Rattle.format.proofs.Lawful.{LawfulRule}
use Rattle.format.specs.Good.{zeros_from, chain_from, term_good, terms_from, counts_good, coefficient_good, objective_good, lock_good, locks_good, clauses_good, rules_good, rule_good, base_good}
use Rattle.format.proofs.Good.{every_at, every_all, zeros_at, zeros_all}
use Rattle.format.proofs.Chains.{chain_at}
use Rattle.format.specs.Layout.{base_word_count, clause_count_at, clause_first_at, clause_word_count, clauses_at, lock_at, locks_at, rule_count_at, rule_first_at, rule_lower_at, rule_mode_at, rule_upper_at, rule_word_count, rules_at, term_word_count}

-- Good terms rise and are within the range, and the other way round.
module _ (g : ℕ → ℕ) (n : ℕ) where
  pub terms_rise : (v i k : ℕ) → terms_from g n v i k ≡ true → rising_above v (map (term_of g) (row i k)) ≡ true
  unfolding terms_from term_good rising_above row term_of
  terms_rise v i zero h = refl
  terms_rise v i (suc k) h =
      and_join _ _ (and_left _ _ (and_left _ _ (and_left _ _ h))) (terms_rise (g (2 * i)) (suc i) k (and_right _ _ h))

  pub terms_range : (v i k : ℕ) → terms_from g n v i k ≡ true → all (term_within n) (map (term_of g) (row i k)) ≡ true
  unfolding terms_from term_good all term_within row term_of
  terms_range v i zero h = refl
  terms_range v i (suc k) h =
      let t = and_left _ _ h in
      and_join _ _ (and_join _ _ (and_right _ _ (and_left _ _ t)) (and_right _ _ t)) (terms_range (g (2 * i)) (suc i) k (and_right _ _ h))

  pub terms_good :
      (v i k : ℕ) → rising_above v (map (term_of g) (row i k)) ≡ true → all (term_within n) (map (term_of g) (row i k)) ≡ true
      → terms_from g n v i k ≡ true
  unfolding terms_from term_good rising_above all term_within row term_of
  terms_good v i zero r w = refl
  terms_good v i (suc k) r w =
      and_join _ _ (and_join _ _ (and_join _ _ (and_left _ _ r) (and_left _ _ (and_left _ _ w))) (and_right _ _ (and_left _ _ w)))
      (terms_good (g (2 * i)) (suc i) k (and_right _ _ r) (and_right _ _ w))

pub record Sound (f g : ℕ → ℕ) : Type 0 where
  pub some : 1 ≤ f 0
  pub variables : f 0 ≤ max_variables
  pub clauses : f 1 ≤ max_clauses
  pub rules : f 2 ≤ max_rules
  pub terms : f 3 ≤ max_terms
  pub cost : (x : ℕ) → 1 ≤ x → x ≤ f 0 → nat_abs (signed (f (3 + x))) ≤ max_weight
  pub cost_rest : (x : ℕ) → f 0 < x → x ≤ 512 → f (3 + x) ≡ 0
  pub lock : (x : ℕ) → 1 ≤ x → x ≤ f 0 → f (lock_at x) ≤ 2
  pub lock_rest : (x : ℕ) → f 0 < x → x ≤ 512 → f (lock_at x) ≡ 0
  pub clause_chain : chain_from (λ c. f (clause_first_at c)) (λ c. f (clause_count_at c)) (f 2) 0 0 (f 1) ≡ true
  pub clause_rest : zeros_from f (clauses_at + 2 * f 1) (clause_word_count - 2 * f 1) ≡ true
  pub rule_chain : chain_from (λ r. f (rule_first_at r)) (λ r. f (rule_count_at r)) (f 3) 0 0 (f 2) ≡ true
  pub rule_rest : zeros_from f (rules_at + 5 * f 2) (rule_word_count - 5 * f 2) ≡ true
  pub rule : (r : ℕ) → r < f 2 → rule_good f g r ≡ true
  pub term_rest : zeros_from g (2 * f 3) (term_word_count - 2 * f 3) ≡ true

module _ (f g : ℕ → ℕ) where
  pub good_sound : base_good f g ≡ true → Sound f g
  unfolding base_good counts_good objective_good coefficient_good lock_good locks_good clauses_good rules_good
  good_sound h' =
      let h = and_left _ _ h' in
      let k = and_right _ _ h' in
      let a = and_left _ _ h in
      let b = and_left _ _ a in
      let c = and_left _ _ b in
      let d = and_left _ _ c in
      let n = and_left _ _ d in
      let o = and_right _ _ d in
      record {
        some = leb-true _ _ (and_left _ _ (and_left _ _ (and_left _ _ (and_left _ _ n))));
        variables = leb-true _ _ (and_right _ _ (and_left _ _ (and_left _ _ (and_left _ _ n))));
        clauses = leb-true _ _ (and_right _ _ (and_left _ _ (and_left _ _ n)));
        rules = leb-true _ _ (and_right _ _ (and_left _ _ n));
        terms = leb-true _ _ (and_right _ _ n);
        cost = λ x p q. leb-true _ _ (every_at (coefficient_good f) 1 (f 0) (and_left _ _ o) x p (omega arith));
        cost_rest = λ x p q. zeros_at f (4 + f 0) (512 - f 0) (and_right _ _ o) (3 + x) (omega arith) (omega arith);
        lock = λ x p q. leb-true _ _ (every_at (lock_good f) 1 (f 0) (and_left _ _ k) x p (omega arith));
        lock_rest = λ x p q. zeros_at f (locks_at + f 0) (512 - f 0) (and_right _ _ k) (lock_at x) (omega arith) (omega arith);
        clause_chain = and_left _ _ (and_right _ _ c);
        clause_rest = and_right _ _ (and_right _ _ c);
        rule_chain = and_left _ _ (and_right _ _ b);
        rule_rest = and_right _ _ (and_right _ _ b);
        rule = λ r p. every_at (rule_good f g) 0 (f 2) (and_right _ _ a) r (omega arith) (omega arith);
        term_rest = and_right _ _ h;
      }

  rest_zero : Sound f g → (j : ℕ) → 4 + f 0 ≤ j → j < clauses_at → f j ≡ 0
  rest_zero s j p q = let m : 3 + (j - 3) ≡ j = omega arith in rw m at (s.cost_rest (j - 3) (omega arith) (omega arith))

  locks_zero : Sound f g → (j : ℕ) → locks_at + f 0 ≤ j → j < base_word_count → f j ≡ 0
  locks_zero s j p q = let m : lock_at (j - lock_at 0) ≡ j = omega arith in rw m at (s.lock_rest (j - lock_at 0) (omega arith) (omega arith))

  pub sound_good : Sound f g → base_good f g ≡ true
  unfolding base_good counts_good objective_good coefficient_good lock_good locks_good clauses_good rules_good
  sound_good s =
      and_join _ _
      (and_join _ _
      (and_join _ _
      (and_join _ _
      (and_join _ _
      (and_join _ _
      (and_join _ _ (and_join _ _ (and_join _ _ (and_join _ _ (le-leb _ _ s.some) (le-leb _ _ s.variables)) (le-leb _ _ s.clauses)) (le-leb _ _ s.rules)) (le-leb _ _ s.terms))
      (and_join _ _ (every_all _ 1 (f 0) (λ x p q. le-leb _ _ (s.cost x p (omega arith)))) (zeros_all f (4 + f 0) (512 - f 0) (λ j p q. rest_zero s j p (omega (arith, s.variables))))))
      (and_join _ _ s.clause_chain s.clause_rest))
      (and_join _ _ s.rule_chain s.rule_rest))
      (every_all (rule_good f g) 0 (f 2) (λ r p q. s.rule r (omega arith))))
      s.term_rest)
      (and_join _ _ (every_all _ 1 (f 0) (λ x p q. le-leb _ _ (s.lock x p (omega arith)))) (zeros_all f (locks_at + f 0) (512 - f 0) (λ j p q. locks_zero s j p (omega (arith, s.variables)))))

-- What code reads off good tables.
module _ (f g : ℕ → ℕ) (s : Sound f g) where
  -- A clause has one rule or more, all among the rules; a rule has one term or more, all among the terms.
  pub clause_within : (c : ℕ) → c < f 1 → (1 ≤ f (clause_count_at c)) × (f (clause_first_at c) + f (clause_count_at c) ≤ f 2)
  clause_within c l = chain_at _ _ (f 2) 0 0 (f 1) (omega arith) s.clause_chain c (omega arith) (omega arith)

  pub rule_within : (r : ℕ) → r < f 2 → (1 ≤ f (rule_count_at r)) × (f (rule_first_at r) + f (rule_count_at r) ≤ f 3)
  rule_within r l = chain_at _ _ (f 3) 0 0 (f 2) (omega arith) s.rule_chain r (omega arith) (omega arith)

  pub rule_bounds : (r : ℕ) → r < f 2 → bounds_lawful (f (rule_mode_at r)) (signed (f (rule_lower_at r))) (signed (f (rule_upper_at r))) ≡ true
  unfolding rule_good
  rule_bounds r l = and_left _ _ (s.rule r l)

  pub rule_terms : (r : ℕ) → r < f 2 → terms_from g (f 0) 0 (f (rule_first_at r)) (f (rule_count_at r)) ≡ true
  unfolding rule_good
  rule_terms r l = and_right _ _ (s.rule r l)

  -- A rule that is read back is lawful, and has no more terms than there are variables.
  pub rule_sound : (r : ℕ) → r < f 2 → LawfulRule (f 0) (rule_of f g r)
  unfolding rule_of rising
  rule_sound r l =
      let n = length-map (row (f (rule_first_at r)) (f (rule_count_at r))) (term_of g) ∙ length_row _ _ in
      record {
        both = (bounds_meant _ _ _ (bounds_tested _ _ _ (rule_bounds r l))).lawful;
        some = omega (arith, n, rule_within r l);
        terms = record { rise = terms_rise g (f 0) 0 _ _ (rule_terms r l); within = terms_range g (f 0) 0 _ _ (rule_terms r l) };
      }
