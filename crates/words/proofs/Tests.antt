-- A test that goes on past what it finds: with each word more it decides of one word more.
-- Assumes nothing.
use Prim.Native.Nat.{ℕ, ◌+◌, ◌≤◌}
use native.Mathlib.Nat.{eq-or-lt_of_le}
use native.Mathlib.Omega.{arith}
use mathlib.Core.Path.{◌≡◌, refl, sym, ◌∙◌}
use mathlib.Core.Logic.{⊎_elim}
use mathlib.Core.Bool.{Bool, true, false, ◌&&◌, true≢false}
use mathlib.Core.List.{List}
use lib.Dec.{eqb}
use borrow.Author.Tests.{eqb-true, eqb-false}
use Rattle.words.specs.Words.{word_at}
use Rattle.words.specs.Tests.{Decides, ZeroWords}

module _ {A : Type 0} where
  pub so_decides : {b : Bool} → b ≡ true → A → Decides b A
  so_decides e a = record { so = λ t. a; not_so = λ f. absurd (true≢false (sym e ∙ f)) }

  pub not_decides : {b : Bool} → b ≡ false → (A → ⊥) → Decides b A
  not_decides e n = record { so = λ t. absurd (true≢false (sym t ∙ e)); not_so = λ f. n }

module _ (s : List ℕ) (from : ℕ) where
  zeros_more : (i : ℕ) → ZeroWords s from i → word_at s i ≡ 0 → ZeroWords s from (i + 1)
  zeros_more i h e j l u = ⊎_elim (λ z. rw z e) (λ m. h j l m) (eq-or-lt_of_le {n = j} {m = i} (omega arith))

  pub zeros_turn : (i w : ℕ) (b : Bool) → from ≤ i → w ≡ word_at s i → Decides b (ZeroWords s from i) → Decides (b && eqb w 0) (ZeroWords s from (i + 1))
  zeros_turn i w false l e d = not_decides refl (λ z. d.not_so refl (λ j m u. z j m (omega arith)))
  zeros_turn i w true l e d = go (eqb w 0) refl
    where
      go : (t : Bool) → eqb w 0 ≡ t → Decides t (ZeroWords s from (i + 1))
      go true z = so_decides refl (zeros_more i (d.so refl) (sym e ∙ eqb-true w 0 z))
      go false z = not_decides refl (λ h. eqb-false w 0 z (e ∙ h i l (omega arith)))
