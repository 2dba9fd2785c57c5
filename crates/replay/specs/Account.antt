-- What `replay_calls` leaves for every file whose accepted loading leaves the tables lent: told by the book of the file's plan, with demand 3 of the same calls.
-- Assumes nothing.
use Rattle.std.specs.Prelude.{ℕ, ◌≡◌, List}
use Rattle.plpb.specs.Plan.{Plan}
use Rattle.words.specs.Writes.{front}
use Rattle.format.specs.File.{read, accepted}
use Rattle.format.specs.Tables.{Holds}
use Rattle.tallies.specs.Calls.{Lent, told}
use Rattle.tallies.specs.Demand.{account, Agrees}
use Rattle.replay.specs.Replay.{calls_of, answer_bytes, replay_refusal, replay_out, replay_assignment, replay_tallies}

pub record Accounted (p : Plan) (l : Lent) (list out : List ℕ) : Type 0 where
  pub answers_written : replay_out l list out ≡ front (answer_bytes (account p l (calls_of list)).answers) out
  pub bits_left : replay_assignment l list out ≡ (told p l (account p l (calls_of list)).bits).assignment
  pub tallies_left : replay_tallies l list out ≡ (told p l (account p l (calls_of list)).bits).tallies
  pub agrees : Agrees p l (calls_of list)

abbrev pub FileAccounted : Type 0
FileAccounted = (file : List ℕ) (p : Plan) (l : Lent) (list out : List ℕ)
    → read file ≡ accepted p
    → Holds p l.tables l.terms
    → replay_refusal l list out ≡ 0
    → Accounted p l list out
