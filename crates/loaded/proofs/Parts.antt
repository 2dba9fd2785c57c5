-- The parts of the test, and the whole of them: what the counts tell, and in which order the parts are joined.
-- Assumes nothing.
use Prim.Native.Nat.{ℕ, ◌*◌, ◌-◌, ◌≤◌}
use mathlib.Core.Path.{◌≡◌, refl, sym, ◌∙◌, subst}
use mathlib.Core.Bool.{Bool, true, false, not}
use lib.Dec.{leb, T}
use borrow.Author.Tests.{leb-true, not-true, not-false}
use Rattle.plpb.specs.Lists.{◌and◌}
use Rattle.format.proofs.Bools.{and_left, and_right, and_first, and_assoc}
use Rattle.format.specs.Good.{every_from, zeros_from, counts_good, objective_good, locks_good, clauses_good, rules_good, rule_good, base_good}
use Rattle.format.specs.Layout.{term_word_count}

-- The rules are tested where their chain is good, before the zero words behind.
pub rules_joined : (chain every rest : Bool) → chain ≡ true → (every and rest) ≡ (chain and rest and every)
unfolding ◌and◌
rules_joined false every rest e = absurd (subst (λ b. T (not b)) e tt)
rules_joined true true true e = refl
rules_joined true true false e = refl
rules_joined true false true e = refl
rules_joined true false false e = refl

-- The counts, of the numbers that were read; what the branch on their test tells.
pub record Limited (variables clauses rules total : ℕ) : Type 0 where
  pub variables_fit : variables ≤ 512
  pub clauses_fit : clauses ≤ 512
  pub rules_fit : rules ≤ 1_024
  pub terms_fit : total ≤ 6_000

module _
    (f g : ℕ → ℕ) {v c r t : ℕ} {b : Bool} (p₀ : v ≡ f 0) (p₁ : c ≡ f 1) (p₂ : r ≡ f 2) (p₃ : t ≡ f 3)
    (h : b ≡ (leb 1 v and leb v 512 and leb c 512 and leb r 1_024 and leb t 6_000)) where
  counts_read : b ≡ counts_good f
  unfolding counts_good
  counts_read = rw (← p₀, ← p₁, ← p₂, ← p₃) h

  pub limited : not b ≡ false → Limited v c r t
  limited n =
      let a = sym h ∙ not-false b n in
      let d = and_left _ _ a in
      let e = and_left _ _ d in
      record {
        variables_fit = leb-true _ _ (and_right _ _ (and_left _ _ e));
        clauses_fit = leb-true _ _ (and_right _ _ e);
        rules_fit = leb-true _ _ (and_right _ _ d);
        terms_fit = leb-true _ _ (and_right _ _ a);
      }

  pub counts_refused : not b ≡ true → false ≡ base_good f g
  unfolding base_good ◌and◌
  counts_refused n = rw (sym counts_read ∙ not-true b n)

  -- The parts joined, where the counts are good.
  pub parts_whole :
      not b ≡ false → {o k u z l : Bool} → o ≡ objective_good f → k ≡ clauses_good f → u ≡ (rules_good f and every_from (rule_good f g) 0 r)
      → z ≡ zeros_from g (2 * t) (term_word_count - 2 * t) → l ≡ locks_good f → (o and k and u and z and l) ≡ base_good f g
  unfolding base_good
  parts_whole n eo ek eu ez el =
      rw (sym counts_read ∙ not-false b n, and_first true (objective_good f) refl, eo, ek, eu, ez, el, p₂, p₃, ← and_assoc)
