-- `replay::make_calls` meets its contract. The invariant: the calls from `k` on, made on what is lent now, give the rest of the answers and
-- leave what the whole list is to leave. Assumes nothing.
use Prim.Native.Nat.{◌-◌, ◌*◌, ◌/◌}
use mathlib.Core.Path.{◌≡◌}
use lib.ListN.{length}
use Rattle.words.specs.Writes.{put, front}
use Rattle.tallies.specs.Demand.{answers, after}
use Rattle.replay.specs.Replay.{calls_from, calls_of, answer_size, answer_bytes}
use Rattle.replay.proofs.make_calls.Given as goal

abbrev pub invariant-loop-k : goal.invariant-loop-k
invariant-loop-k l =
    (put (answer_size * l.k) (answer_bytes (answers (record { tables = l.tables; terms = l.terms; assignment = l.assignment; tallies = l.tallies }) (calls_from (length l.list / 5 - l.k) l.list (5 * l.k)))) l.out
    ≡ front (answer_bytes (answers (record { tables = l.tables; terms = l.terms; assignment = l.initial.assignment; tallies = l.initial.tallies }) (calls_of l.list))) l.initial.out)
    × (after (record { tables = l.tables; terms = l.terms; assignment = l.assignment; tallies = l.tallies }) (calls_from (length l.list / 5 - l.k) l.list (5 * l.k))
    ≡ after (record { tables = l.tables; terms = l.terms; assignment = l.initial.assignment; tallies = l.initial.tallies }) (calls_of l.list))
    × (length l.assignment ≡ length l.initial.assignment)
    × (length l.tallies ≡ length l.initial.tallies)
    × (length l.out ≡ length l.initial.out)
