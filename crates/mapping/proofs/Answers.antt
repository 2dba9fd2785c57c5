-- What the call answers and leaves, by its refusal.
-- Assumes nothing.
use Prim.Native.Nat.{ℕ, ◌≤◌, ◌<◌}
use mathlib.Core.Path.{◌≡◌, refl, sym, ap, ◌∙◌}
use mathlib.Core.List.{List}
use lib.ListN.{length}
use borrow.Author.Tests.{ne_eqb, lt-ltb, le-ltb}
use Rattle.words.specs.Writes.{front}
use Rattle.format.specs.Writer.{write}
use Rattle.format.specs.Layout.{largest_file}
use Rattle.lists.specs.Refusals.{Refusal, accepted, site_rows, zone_rows, refusal_of, map_refusal}
use Rattle.entries.specs.declared.Refusal.{Refusal as RefusalT}
use native.Mathlib.Omega.{arith}
use Rattle.entries.specs.declared.Refusal.TheVariants.{Site, Zone, Size}
use Rattle.entries.specs.Judging.{refusal_numbers}
use Rattle.entries.proofs.Rows.{some_fault}
use Rattle.mapping.specs.declared.Mapped.{Mapped}
use Rattle.mapping.specs.Mapping.{refusal_for, plan_of_lists, length_for, plan_after}

-- Each refusal has a number.
pub some_refusal : (e : RefusalT) → (refusal_numbers e).number ≡ 0 → ⊥
some_refusal (Site a) h = some_fault a.fault h
some_refusal (Zone a) h = some_fault a.fault h
some_refusal Size h = omega arith

module _ (s z plan : List ℕ) where
  abbrev f : Refusal
  f = refusal_for s z plan

  abbrev Says : Mapped → List ℕ → Type 0
  Says r after = ((r.refusal ≡ f.number) × (r.list ≡ f.list) × (r.row ≡ f.row) × (r.length ≡ length_for s z plan)) × (after ≡ plan_after s z plan)

  pub small_room : length plan < largest_file → f ≡ record { number = 21; list = 0; row = 0 }
  unfolding map_refusal
  small_room h = rw (lt-ltb (length plan) largest_file h)

  pub room : largest_file ≤ length plan → f ≡ refusal_of (site_rows s) (zone_rows z)
  unfolding map_refusal
  room h = rw (le-ltb (length plan) largest_file h)

  no_length : (f.number ≡ 0 → ⊥) → 0 ≡ length_for s z plan
  unfolding length_for
  no_length n = rw (ne_eqb f.number 0 n)

  as_lent : (f.number ≡ 0 → ⊥) → plan ≡ plan_after s z plan
  unfolding plan_after
  as_lent n = rw (ne_eqb f.number 0 n)

  -- With a refusal nothing is written.
  pub says_refused : (number list row : ℕ) {r : Mapped} → number ≡ f.number → list ≡ f.list → row ≡ f.row → (number ≡ 0 → ⊥) → r ≡ record { refusal = number; list = list; row = row; length = 0 } → Says r plan
  says_refused number list row a b c n e =
      let m : (f.number ≡ 0 → ⊥) = λ q. n (a ∙ q) in rw e ((a, b, c, no_length m), as_lent m)

  pub says_err : (e : RefusalT) (n : (refusal_numbers e).number ≡ 0 → ⊥) {r : Mapped} → f ≡ refusal_numbers e
      → r ≡ record { refusal = (refusal_numbers e).number; list = (refusal_numbers e).list; row = (refusal_numbers e).row; length = 0 } → Says r plan
  says_err e n q h =
      says_refused _ _ _ (sym (ap (λ (x : Refusal). x.number) q)) (sym (ap (λ (x : Refusal). x.list) q)) (sym (ap (λ (x : Refusal). x.row) q)) n h

  -- Without one the file is.
  pub says_accepted : {r : Mapped} {after : List ℕ} (size : ℕ) → f ≡ accepted → r ≡ record { refusal = 0; list = 0; row = 0; length = size }
      → after ≡ front (write (plan_of_lists s z)) plan → size ≡ length (write (plan_of_lists s z)) → Says r after
  unfolding length_for plan_after
  says_accepted size e q w l = rw (q, e) ((refl, refl, refl, l), w)
