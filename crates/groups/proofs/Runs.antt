-- The places of a variable's run as the walk's columns see them.
-- Assumes nothing.
use Prim.Native.Nat.{ℕ, ◌≤◌, ◌<◌}
use native.Mathlib.Omega.{arith}
use Rattle.effects.specs.Kept.{Visited}
use Rattle.effects.specs.declared.run.Run.{Run}
use Rattle.effects.specs.Run.{Inside}
use Rattle.groups.specs.declared.group.Group.{Group}
use Rattle.groups.specs.Run.{IsGroup, Begins}
use Rattle.groups.proofs.Stretch.{Stretch}

module _ (r : Run) where
  -- The places from one of the run's on, below another or its end, are a stretch.
  pub stretch : {k j : ℕ} → (r.first ≤ k) × (j ≤ r.end) → Stretch r.footing.now.tables.now r.footing.now.terms.now r.footing.now.assignment.now r.footing.now.tallies.now r.marks.now r.x k j
  stretch w = record { going = r.going; first = omega (arith, w.0, r.begins); last = omega (arith, w.1, r.ends) }

  -- The places of a group are a stretch.
  pub group_stretch : {c k j : ℕ} → IsGroup r c k j → Stretch r.footing.now.tables.now r.footing.now.terms.now r.footing.now.assignment.now r.footing.now.tallies.now r.marks.now r.x k j
  group_stretch g = record { going = r.going; first = g.first; last = g.last }

  -- A group begins at a place of the run.
  pub opening : {k : ℕ} → Begins r k → Inside r k
  opening g = (omega (arith, g.first, r.begins), omega (arith, g.some, g.last, r.ends))

  pub opened : {k : ℕ} → Begins r k → Visited r.footing.now.tables.now r.footing.now.terms.now r.footing.now.assignment.now r.footing.now.tallies.now r.marks.now r.x k
  opened g = record { going = r.going; first = g.first; last = omega (arith, g.some, g.last) }

-- Each place of a group is one of the run.
pub of_run : (g : Group) {i : ℕ} → g.first ≤ i → i < g.end → Inside g.run.now i
of_run g l h = (omega (arith, g.whole.first, g.run.now.begins), omega (arith, g.whole.last, g.run.now.ends))
