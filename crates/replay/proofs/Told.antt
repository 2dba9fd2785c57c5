-- What a refused and an accepted replay come to: as lent, or what the book says. Assumes nothing.
use Prim.Native.Nat.{ℕ, zero, suc, ◌*◌, ◌/◌, ◌≤◌, ◌<◌}
use native.Mathlib.Omega.{arith}
use mathlib.Core.Path.{◌≡◌, refl, sym, ap}
use mathlib.Core.List.{List}
use lib.Dec.{eqb-suc-zero}
use lib.ListN.{length}
use borrow.Author.Tests.{lt-ltb, le-ltb}
use Rattle.words.specs.Writes.{front}
use Rattle.format.specs.File.{refuse}
use Rattle.tallies.specs.Calls.{Lent, lent, open_refusal, open_tallies}
use Rattle.tallies.specs.Demand.{answers, after, opened}
use Rattle.tallies.proofs.Refusals.{opens}
use Rattle.tallies.proofs.Demand3.{agrees}
use Rattle.replay.specs.Replay.{answer_size, calls_of, answer_bytes, replay_refusal, replay_out, replay_assignment, replay_tallies}

-- ---- the refusal

module _ (l : Lent) (list out : List ℕ) where
  pub no_room : length out / answer_size < length list / 5 → 21 ≡ replay_refusal l list out
  unfolding replay_refusal refuse
  no_room h = rw (lt-ltb (length out) (answer_size * (length list / 5)) (omega arith))

  pub with_room : length list / 5 ≤ length out / answer_size → open_refusal l ≡ replay_refusal l list out
  unfolding replay_refusal refuse
  with_room h = rw (le-ltb (length out) (answer_size * (length list / 5)) (omega arith))

  pub refused_keeps : (k : ℕ) → k ≡ replay_refusal l list out → (k ≡ 0 → ⊥)
      → (out ≡ replay_out l list out) × (l.assignment ≡ replay_assignment l list out) × (l.tallies ≡ replay_tallies l list out)
  unfolding replay_out replay_assignment replay_tallies
  refused_keeps zero e n = absurd (n refl)
  refused_keeps (suc k) e n = rw (sym e, eqb-suc-zero k) (refl, refl, refl)

-- ---- what an accepted opening leaves, and a list after it

pub opened_by : (l : Lent) (t : List ℕ) → t ≡ open_tallies l → lent l.tables l.terms l.assignment t ≡ opened l
unfolding opened
opened_by l t e = ap (lent l.tables l.terms l.assignment) e

module _ (l : Lent) (list out : List ℕ) (z : open_refusal l ≡ 0) (r : 0 ≡ replay_refusal l list out) where
  pub told_answers : front (answer_bytes (answers (opened l) (calls_of list))) out ≡ replay_out l list out
  unfolding replay_out
  told_answers = rw (sym r) (ap (λ rs. front (answer_bytes rs) out) (agrees l (opens l z) (calls_of list)).same_answers)

  pub told_assignment : (after (opened l) (calls_of list)).assignment ≡ replay_assignment l list out
  unfolding replay_assignment
  told_assignment = rw (sym r, (agrees l (opens l z) (calls_of list)).same_state) refl

  pub told_tallies : (after (opened l) (calls_of list)).tallies ≡ replay_tallies l list out
  unfolding replay_tallies
  told_tallies = rw (sym r, (agrees l (opens l z) (calls_of list)).same_state) refl
