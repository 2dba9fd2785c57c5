-- What the callers have meets what opening, flip and counts need: an entry after its tests, and a search that wrote a plan's words into its tables.
-- Assumes nothing.
use Prim.Native.Nat.{ℕ}
use mathlib.Core.Path.{sym}
use mathlib.Core.List.{List}
use lib.Dec.{T}
use Rattle.plpb.specs.Plan.{Plan}
use Rattle.plpb.proofs.Lists.{and_left, and_right}
use Rattle.plpb.proofs.Locks.{variable_range}
use Rattle.format.specs.Limits.{roomy}
use Rattle.format.specs.Tables.{Holds, is_loaded, plan_of_tables}
use Rattle.format.proofs.Lawful.{lawful_roomy}
use Rattle.format.proofs.ReadBack.{read_back}
use Rattle.tallies.specs.Calls.{Lent, plan, fresh_bytes}
use Rattle.recount.specs.Core.{Laid, Ready, Flippable}
use Rattle.tallies.proofs.TallyBytes.{same_bytes_lem}
use Rattle.tallies.proofs.Refusals.{Opens, Takes, assignment_room}

-- Tables that pass the test for 22.
pub loaded_laid : (tables terms : List ℕ) → T (is_loaded tables terms) → Laid tables terms
unfolding is_loaded Holds
loaded_laid tables terms t =
    let a = and_left _ _ t in
    record {
      room = lawful_roomy (plan_of_tables tables terms) (and_left _ _ a);
      holds = (same_bytes_lem _ _ (and_right _ _ a), same_bytes_lem _ _ (and_right _ _ t));
    }

-- Tables that hold a plan which they have room for: it is the one read back.
pub held_laid : (p : Plan) (tables terms : List ℕ) → T (roomy p) → Holds p tables terms → Laid tables terms
held_laid p tables terms t h =
    let e = sym (read_back p tables terms t h) in
    record { room = rw e at t; holds = rw e at h }

pub opens_ready : (l : Lent) → Opens l → Ready l.tables l.terms l.assignment
unfolding plan
opens_ready l o = record { laid = loaded_laid l.tables l.terms o.loaded; bytes = assignment_room l o }

pub takes_flippable : (l : Lent) (x : ℕ) → Takes l x → Flippable l.tables l.terms l.assignment l.tallies x
unfolding plan fresh_bytes
takes_flippable l x t =
    let v = variable_range (plan l) x t.variable in
    record {
      ready = opens_ready l t.opening;
      bits = t.opening.bits;
      low = v.0;
      high = v.1;
      fresh = t.fresh;
    }
