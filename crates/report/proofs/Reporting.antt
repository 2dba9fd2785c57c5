-- Laws of what is printed once a plan is read: the settings, then the list of numbers.
-- Assumes nothing.
use Prim.Native.Nat.{ℕ, ◌+◌, ◌≤◌}
use native.Mathlib.Omega.{arith}
use mathlib.Core.Path.{◌≡◌, refl, sym, ap, ap₂, ◌∙◌}
use mathlib.Core.Bool.{Bool, true, false, cond}
use mathlib.Core.List.{List}
use lib.Dec.{ltb}
use lib.ListN.{length}
use borrow.Author.Tests.{ltb-false, ne_eqb}
use Rattle.plpb.specs.Plan.{Plan}
use Rattle.plpb.specs.Search.{search}
use Rattle.words.specs.Writes.{front}
use Rattle.format.specs.File.{Reading, refused, accepted, length_at}
use Rattle.numbers.specs.Numbers.{numbers_of}
use Rattle.settings.specs.declared.Settings.{Settings as Asked}
use Rattle.settings.specs.Settings.{settings_refusal, settings_of}
use Rattle.lines.specs.Text.{answer_text, refusal_line}
use Rattle.folder.specs.declared.files.Refusal.{Refusal}
use Rattle.folder.specs.Files.{asked_in, walk_fault, judged, read_walk, refusal_number, refusal_offset, Refuses, numbers_refusal}
use Rattle.report.specs.Report.{searched, with_settings}

-- What is written is what was to be written.
pub written : (o : List ℕ) {xs ys t : List ℕ} {k : ℕ} → (t ≡ front xs o) × (k ≡ length xs) → xs ≡ ys → (t ≡ front ys o) × (k ≡ length ys)
written o w e = (w.0 ∙ ap (λ (l : List ℕ). front l o) e, w.1 ∙ ap length e)

-- ---- the settings and the list of numbers

-- Settings that were read have passed their tests.
never : {A : Type 0} (n o : ℕ) (a : A) → ◌≡◌ {A = Reading A} (refused n o) (accepted a) → ⊥
never n o a e = let z : ◌≡◌ {A = ℕ} 0 1 = cc in omega arith

passed : {A : Type 0} (b : Bool) (n o : ℕ) (r : Reading A) (a : A) → cond b (refused n o) r ≡ accepted a → (b ≡ false) × (r ≡ accepted a)
passed true n o r a e = absurd (never n o a e)
passed false n o r a e = (refl, e)

unfoldable read_or : Asked → Reading Asked → Asked
read_or k (refused number offset) = k
read_or k (accepted q) = q

read_lawful : (s : List ℕ) (k : Asked) → read_walk s ≡ accepted k → settings_refusal k ≡ 0
unfolding read_walk judged read_or
read_lawful s k e =
    let end = 3 + length_at s 0 in
    let a = passed (ltb 0 (walk_fault s)) (walk_fault s) 0 (cond (ltb end (length s)) (refused 7 end) (judged (asked_in s))) k e in
    let b = passed (ltb end (length s)) 7 end (judged (asked_in s)) k a.1 in
    let c = passed (ltb 0 (settings_refusal (asked_in s))) (settings_refusal (asked_in s)) 0 (accepted (asked_in s)) k b.1 in
    let low : settings_refusal (asked_in s) ≤ 0 = ltb-false _ _ c.0 in
    let is : asked_in s ≡ k = ap (read_or k) c.1 in
    ap settings_refusal (sym is) ∙ omega (arith, low)

module _ (walk : List ℕ) (p : Plan) (numbers : List ℕ) where
  pub settings_refused : (r : Refusal) → refused (refusal_number r) (refusal_offset r) ≡ read_walk walk
      → refusal_line (refusal_number r) (refusal_offset r) ≡ with_settings p numbers (read_walk walk)
  unfolding with_settings
  settings_refused r e = ap (with_settings p numbers) e

  module _ (k : Asked) (e : accepted k ≡ read_walk walk) where
    pub settings_lawful : settings_refusal k ≡ 0
    settings_lawful = read_lawful walk k (sym e)

    pub numbers_refused : (r : Refusal) → Refuses (numbers_refusal numbers) r
        → refusal_line (refusal_number r) (refusal_offset r) ≡ with_settings p numbers (read_walk walk)
    unfolding with_settings searched
    numbers_refused r f =
        rw (sym e, ne_eqb (numbers_refusal numbers) 0 (λ z. omega (arith, f.0, f.2, z))) (ap₂ refusal_line (sym f.0) f.1)

    pub numbers_accepted : numbers_refusal numbers ≡ 0
        → answer_text (search (settings_of k) p (numbers_of numbers)) ≡ with_settings p numbers (read_walk walk)
    unfolding with_settings searched
    numbers_accepted f = rw (sym e, f)
