-- `tables::entries::put_terms` meets its contract. The invariant: the terms passed stand at the front, and those left are still to come.
-- Assumes nothing.
use Prim.Native.Nat.{◌/◌}
use lib.ListN.{length}
use Rattle.tables.proofs.Entered.{Written}
use Rattle.tables.proofs.entries.put_terms.Given as goal

abbrev pub invariant-loop-i : goal.invariant-loop-i
invariant-loop-i l = Written l.terms (length l.terms / 6) l.initial.out l.i l.out
