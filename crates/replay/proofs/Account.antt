-- The book in `replay_calls`' contract is that of the file's plan: the tables that hold a plan read back as it. Assumes nothing.
use Prim.Native.Nat.{ℕ}
use mathlib.Core.Path.{◌≡◌, subst}
use mathlib.Core.List.{List}
use Rattle.format.proofs.Accepted.{accepted_lawful}
use Rattle.format.proofs.Fields.{unrefused}
use Rattle.format.proofs.Lawful.{lawful_roomy}
use Rattle.format.proofs.ReadBack.{read_back}
use Rattle.tallies.specs.Calls.{Lent, plan, open_refusal}
use Rattle.tallies.proofs.Refusals.{opens}
use Rattle.tallies.proofs.Demand3.{agrees}
use Rattle.replay.specs.Replay.{calls_of, replay_refusal, replay_out, replay_assignment, replay_tallies}
use Rattle.replay.specs.Account.{Accounted, FileAccounted}

opening_accepted : (l : Lent) (list out : List ℕ) → replay_refusal l list out ≡ 0 → open_refusal l ≡ 0
unfolding replay_refusal
opening_accepted l list out e = (unrefused _ 20 (open_refusal l) e).1

pub accounted : (l : Lent) (list out : List ℕ) → replay_refusal l list out ≡ 0 → Accounted (plan l) l list out
unfolding replay_out replay_assignment replay_tallies
accounted l list out e =
    record {
      answers_written = rw e;
      bits_left = rw e;
      tallies_left = rw e;
      agrees = agrees l (opens l (opening_accepted l list out e)) (calls_of list);
    }

pub file_accounted : FileAccounted
unfolding plan
file_accounted file p l list out f h e =
    subst (λ q. Accounted q l list out) (read_back p l.tables l.terms (lawful_roomy p (accepted_lawful file p f)) h) (accounted l list out e)
