-- Laws of terms in a table of words.
-- Assumes nothing.
use Prim.Native.Nat.{ℕ, zero, suc, ◌+◌, ◌≤◌, ◌<◌}
use native.Mathlib.Nat.{not-suc-le-zero, add-zero}
use native.Mathlib.Omega.{arith}
use mathlib.Core.Path.{◌≡◌, refl, sym, ap, ◌∙◌}
use mathlib.Core.Bool.{Bool, true}
use mathlib.Core.List.{[], ◌∷◌}
use lib.IntN.{nat_abs}
use Rattle.plpb.specs.Lists.{all, row}
use Rattle.plpb.specs.Plan.{Term}
use Rattle.format.specs.Limits.{weight_lawful}
use Rattle.format.specs.Tables.{term_of}
use Rattle.format.proofs.Bools.{and_left, and_right}
use Rattle.format.proofs.Lawful.{weight_small}
use Rattle.extremes.specs.Terms.{terms_in}

module _ (g : ℕ → ℕ) where
  -- The first term, and those behind it.
  pub terms_none : (i : ℕ) → terms_in g i 0 ≡ []
  unfolding terms_in row
  terms_none i = refl

  pub terms_cons : (i k : ℕ) → terms_in g i (suc k) ≡ term_of g i ∷ terms_in g (suc i) k
  unfolding terms_in row
  terms_cons i k = refl

  -- What all terms pass, each one does.
  pub term_passes : (p : Term → Bool) (i k j : ℕ) → all p (terms_in g i k) ≡ true → j < k → p (term_of g (i + j)) ≡ true
  unfolding terms_in row all
  term_passes p i zero j h l = absurd (not-suc-le-zero l)
  term_passes p i (suc k) zero h l = rw (add-zero i) (and_left (p (term_of g i)) _ h)
  term_passes p i (suc k) (suc j) h l =
      let e : suc i + j ≡ i + suc j = omega arith in
      ap (λ n. p (term_of g n)) (sym e) ∙ term_passes p (suc i) k j (and_right (p (term_of g i)) _ h) (omega arith)

  pub term_small : (i k j : ℕ) → all (λ t. weight_lawful t.weight) (terms_in g i k) ≡ true → j < k → nat_abs (term_of g (i + j)).weight ≤ 1_000_000
  term_small i k j h l = weight_small (term_of g (i + j)).weight (term_passes (λ t. weight_lawful t.weight) i k j h l)
