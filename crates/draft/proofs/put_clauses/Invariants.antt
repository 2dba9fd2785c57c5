-- `draft::put_clauses` meets its contract. The invariant: the code stands at the k-th zone, and the clauses of those before it are written.
-- Assumes nothing.
use Prim.Native.Nat.{◌≤◌}
use mathlib.Core.Path.{◌≡◌}
use mathlib.Core.Bool.{true}
use lib.ListN.{length, take}
use Rattle.rows.proofs.Rows.{Place}
use Rattle.lists.specs.Refusals.{site_rows, zone_rows}
use Rattle.draft.specs.Draft.{clauses_of, Wrote}
use Rattle.draft.proofs.put_clauses.Given as goal

abbrev pub invariant-loop-row : goal.invariant-loop-row
invariant-loop-row l =
    Place true l.zones l._row l.rest × (l._row ≤ l.m) × (length l.out ≡ length l.initial.out) × Wrote l.from (clauses_of (site_rows l.sites.list.now) (take l._row (zone_rows l.zones))) l.initial.out l.out l.to
