-- Laws that join the tests of the code, one after the other, to the definition of walk.bin.
-- Assumes nothing.
use Prim.Native.Nat.{ℕ, ◌+◌, ◌≤◌, ◌<◌}
use native.Mathlib.Omega.{arith}
use mathlib.Core.Path.{◌≡◌, refl, sym, ap, ap₂, ◌∙◌}
use mathlib.Core.Bool.{Bool, true, false}
use mathlib.Core.List.{List}
use lib.Dec.{eqb}
use lib.ListN.{length, get_or}
use borrow.Author.Tests.{eq-eqb, ne_eqb, lt-ltb, le-ltb, ltb-false, eqb-true, not-false}
use Rattle.plpb.specs.Lists.{◌or◌}
use Rattle.words.specs.Words.{num_at}
use Rattle.format.specs.File.{refused, accepted, refuse, tag_at, length_at}
use Rattle.format.proofs.Fields.{unrefused}
use Rattle.settings.specs.declared.Settings.{Settings as Asked}
use Rattle.settings.specs.Settings.{settings_refusal}
use Rattle.folder.specs.Files.{may_measure, if_long, asked_in, walk_fault, judged, read_walk, refusal_number, refusal_offset}
use Rattle.folder.specs.declared.files.Refusal.{Refusal}

-- The byte at a place is its number of one byte.
pub one_byte : (s : List ℕ) (at : ℕ) → get_or s at 0 ≡ num_at 1 s at
unfolding num_at
one_byte s at = omega arith

-- What only a field of length 12 says.
module _ (n : ℕ) where
  pub long : n ≡ 12 → (v w : ℕ) → w ≡ v → w ≡ if_long n v
  unfolding if_long
  long h v w e = rw (eq-eqb n 12 h) e

  pub not_long : (n ≡ 12 → ⊥) → (v : ℕ) → 0 ≡ if_long n v
  unfolding if_long
  not_long h v = rw (ne_eqb n 12 h)

-- The tests of the field, in their order.
module _ (s : List ℕ) where
  tag_is : get_or s 0 0 ≡ tag_at s 0
  unfolding tag_at
  tag_is = one_byte s 0

  tag_16 : get_or s 0 0 ≡ 16 → eqb (tag_at s 0) 16 ≡ true
  tag_16 e = eq-eqb _ _ (sym tag_is ∙ e)

  pub size_told : (n : ℕ) → n ≡ num_at 2 s 1 → length_at s 0 ≡ n
  unfolding length_at
  size_told n e = sym e

  pub short_head : length s < 3 → 1 ≡ walk_fault s
  unfolding walk_fault refuse
  short_head h = rw (lt-ltb _ _ h)

  pub wrong_tag : 3 ≤ length s → (get_or s 0 0 ≡ 16 → ⊥) → 2 ≡ walk_fault s
  unfolding walk_fault refuse
  wrong_tag h t = simp (le-ltb _ _ h, ne_eqb _ _ (λ (e : tag_at s 0 ≡ 16). t (tag_is ∙ e)))

  pub wrong_length : 3 ≤ length s → get_or s 0 0 ≡ 16 → (n : ℕ) → n ≡ num_at 2 s 1 → may_measure n ≡ false → 3 ≡ walk_fault s
  unfolding walk_fault refuse
  wrong_length h t n e l = simp (le-ltb _ _ h, tag_16 t, size_told n e, l)

  pub short_body : 3 ≤ length s → get_or s 0 0 ≡ 16 → (n : ℕ) → n ≡ num_at 2 s 1 → may_measure n ≡ true → length s < 3 + n → 1 ≡ walk_fault s
  unfolding walk_fault refuse
  short_body h t n e l b = simp (le-ltb _ _ h, tag_16 t, size_told n e, l, lt-ltb _ _ b)

  pub whole : 3 ≤ length s → get_or s 0 0 ≡ 16 → (n : ℕ) → n ≡ num_at 2 s 1 → may_measure n ≡ true → 3 + n ≤ length s → 0 ≡ walk_fault s
  unfolding walk_fault refuse
  whole h t n e l b = simp (le-ltb _ _ h, tag_16 t, size_told n e, l, le-ltb _ _ b)

-- A lawful length is 9 or 12.
pub sizes : (n : ℕ) → may_measure n ≡ true → (9 ≤ n) × (n ≤ 12)
unfolding may_measure ◌or◌
sizes n e = at (eqb n 9) refl e
  where
    at : (b : Bool) → eqb n 9 ≡ b → b or eqb n 12 ≡ true → (9 ≤ n) × (n ≤ 12)
    at true h k = let z = eqb-true n 9 h in (omega arith, omega arith)
    at false h k = let z = eqb-true n 12 k in (omega arith, omega arith)

-- A field that meets no condition has its bytes, as many as its length says.
pub room : (s : List ℕ) → walk_fault s ≡ 0 → (9 ≤ length_at s 0) × (length_at s 0 ≤ 12) × (3 + length_at s 0 ≤ length s)
unfolding walk_fault
room s e =
    let a = unrefused _ 0 _ e in
    let b = unrefused _ 1 _ a.1 in
    let c = unrefused _ 2 _ b.1 in
    let d = unrefused _ 0 _ c.1 in
    let size = sizes (length_at s 0) (not-false _ c.0) in
    (size.0, size.1, ltb-false _ _ d.0)

pub sized : (s : List ℕ) → walk_fault s ≡ 0 → (n : ℕ) → n ≡ num_at 2 s 1 → (9 ≤ n) × (n ≤ 12) × (3 + n ≤ length s)
sized s z n e =
    let r = room s z in
    let same = size_told s n e in
    (omega (arith, same, r.0), omega (arith, same, r.1), omega (arith, same, r.2))

-- What the file comes to, by the answers of the tests.
module _ (s : List ℕ) where
  pub read_fault : (r : Refusal) → walk_fault s ≡ refusal_number r → refusal_offset r ≡ 0 → 0 < refusal_number r → refused (refusal_number r) (refusal_offset r) ≡ read_walk s
  unfolding read_walk
  read_fault r e o h = rw (lt-ltb 0 (walk_fault s) (omega (arith, h, e))) (ap₂ refused (sym e) o)

  pub read_more : walk_fault s ≡ 0 → (n : ℕ) → n ≡ num_at 2 s 1 → 3 + n < length s → refused 7 (3 + n) ≡ read_walk s
  unfolding read_walk
  read_more e n l h = rw (e, size_told s n l, lt-ltb _ _ h)

  pub read_settings :
      walk_fault s ≡ 0 → (n : ℕ) → n ≡ num_at 2 s 1 → length s ≤ 3 + n → {a b c d f g : ℕ}
      → a ≡ num_at 2 s 3 → b ≡ num_at 2 s 5 → c ≡ num_at 4 s 7 → d ≡ get_or s 11 0 → f ≡ if_long n (num_at 1 s 12) → g ≡ if_long n (num_at 2 s 13)
      → judged (record { noise = a; tries = b; flips = c; mode = d; heuristic = f; chance = g }) ≡ read_walk s
  unfolding read_walk asked_in
  read_settings e n l h {a} {b} {c} {d} {f} {g} p q r t u v =
      let m : d ≡ num_at 1 s 11 = t ∙ one_byte s 11 in
      rw (e, size_told s n l, le-ltb _ _ h)
      (λ i. judged (record { noise = p i; tries = q i; flips = r i; mode = m i; heuristic = u i; chance = v i }))

pub judged_fault : (k : Asked) (n : ℕ) → n ≡ settings_refusal k → (n ≡ 0 → ⊥) → refused n 0 ≡ judged k
unfolding judged
judged_fault k n e h =
    let l : 0 < settings_refusal k = omega (arith, h, e) in
    rw (lt-ltb _ _ l) (ap (λ (m : ℕ). refused m 0) e)

pub judged_lawful : (k : Asked) → settings_refusal k ≡ 0 → accepted k ≡ judged k
unfolding judged
judged_lawful k e = rw e
