-- What a written file means: loading accepts the bytes written, their plan is that of the two lists, its solutions are the choices of sites that obey the
-- zone list, and a solution costs the metres carried for it. The right sides of the last two know no plan, rule or clause.
-- Assumes nothing.
use Prim.Native.Nat.{ℕ}
use mathlib.Core.Path.{◌≡◌}
use native.Mathlib.Omega.{arith}
use mathlib.Core.Bool.{Bool, true, false, cond}
use mathlib.Core.List.{List, ◌++◌}
use lib.Dec.{ltb}
use lib.IntN.{pos}
use lib.ListN.{length, take, drop}
use lib.Seq.{take-append_seam, drop-append_seam}
use borrow.Author.Tests.{eq-eqb}
use Rattle.plpb.specs.Plan.{satisfies, cost}
use Rattle.words.specs.Writes.{front}
use Rattle.format.specs.File.{read, accepted}
use Rattle.format.specs.Writer.{write}
use Rattle.format.specs.Layout.{largest_file}
use Rattle.lists.specs.Choices.{obeys_zones, carried}
use Rattle.lists.specs.Refusals.{site_rows, zone_rows, refusal_of, map_refusal}
use Rattle.lists.proofs.Solutions.{solutions, costs_metres}
use Rattle.lists.proofs.Accepted.{accepted_read}
use Rattle.mapping.specs.Mapping.{sites_of, zones_of, plan_of_lists, refusal_for, length_for, plan_after}

-- What is claimed of two lists that are not turned away.
pub record Means (s z plan : List ℕ) : Type 0 where
  pub loads : read (take (length_for s z plan) (plan_after s z plan)) ≡ accepted (plan_of_lists s z)
  pub beyond : drop (length_for s z plan) (plan_after s z plan) ≡ drop (length_for s z plan) plan
  pub solves : (choice : List Bool) → satisfies choice (plan_of_lists s z) ≡ obeys_zones choice (sites_of s) (zones_of z)
  pub costs : (choice : List Bool) → cost (plan_of_lists s z) choice ≡ pos (carried choice (sites_of s))

module _ (s z plan : List ℕ) where
  abbrev file : List ℕ
  file = write (plan_of_lists s z)

  lists_pass : (refusal_for s z plan).number ≡ 0 → (refusal_of (site_rows s) (zone_rows z)).number ≡ 0
  unfolding map_refusal
  lists_pass e = go (ltb (length plan) largest_file) e
    where
      go : (t : Bool) → (cond t (record { number = 21; list = 0; row = 0 }) (refusal_of (site_rows s) (zone_rows z))).number ≡ 0 → (refusal_of (site_rows s) (zone_rows z)).number ≡ 0
      go true h = absurd (omega (arith, h))
      go false h = h

  length_is : (refusal_for s z plan).number ≡ 0 → length_for s z plan ≡ length file
  unfolding length_for
  length_is e = rw (eq-eqb (refusal_for s z plan).number 0 e)

  after_is : (refusal_for s z plan).number ≡ 0 → plan_after s z plan ≡ file ++ drop (length file) plan
  unfolding plan_after front
  after_is e = rw (eq-eqb (refusal_for s z plan).number 0 e)

  pub mapped : (refusal_for s z plan).number ≡ 0 → Means s z plan
  mapped e =
      let l = length_is e in
      let a = after_is e in
      record {
        loads = rw (l, a, take-append_seam) (accepted_read (site_rows s) (zone_rows z) (lists_pass e));
        beyond = rw (l, a, drop-append_seam);
        solves = λ choice. solutions choice (sites_of s) (zones_of z);
        costs = λ choice. costs_metres choice (sites_of s) (zones_of z);
      }
