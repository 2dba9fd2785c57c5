-- A run's numbers are its part of those that all runs take together.
-- Assumes nothing.
use Prim.Native.Nat.{ℕ, zero, suc, ◌+◌, ◌*◌}
use native.Mathlib.Nat.{zero-add, suc-add, zero-mul, suc-mul, add_comm}
use native.Mathlib.Omega.{arith}
use mathlib.Core.Path.{◌≡◌, sym, ap, ◌∙◌}
use mathlib.Core.List.{◌∷◌, ◌++◌}
use lib.ListN.{take, drop}
use lib.Seq.{take_at, drop_at, drop-drop}
use Rattle.plpb.specs.Plan.{present}
use Rattle.plpb.specs.Search.{search}
use Rattle.xorwow.specs.declared.Xorwow.{Xorwow}
use Rattle.xorwow.specs.Xorwow.{stream, after, step, output}
use Rattle.xorwow.proofs.Stream.{length_stream}
use Rattle.figures.specs.Runs.{answers, at, RunsApart}

-- More numbers: those that follow the first ones.
stream_add : (k m : ℕ) (g : Xorwow) → stream (k + m) g ≡ stream k g ++ stream m (after k g)
unfolding stream after
stream_add zero m g = ap (λ n. stream n g) (zero-add m)
stream_add (suc k) m g = ap (λ n. stream n g) (suc-add k m) ∙ ap (λ ns. output (step g) ∷ ns) (stream_add k m (step g))

module _ (k runs : ℕ) (g : Xorwow) where
  all : stream (suc runs * k) g ≡ stream k g ++ stream (runs * k) (after k g)
  all = ap (λ n. stream n g) (suc-mul runs k ∙ add_comm (runs * k) k) ∙ stream_add k (runs * k) g

  first_part : take k (drop (0 * k) (stream (suc runs * k) g)) ≡ stream k g
  first_part = rw (zero-mul k, all) (take_at (stream k g) (stream (runs * k) (after k g)) k (length_stream k g))

  later_part : (i : ℕ) → drop (suc i * k) (stream (suc runs * k) g) ≡ drop (i * k) (stream (runs * k) (after k g))
  later_part i =
      rw (suc-mul i k, add_comm (i * k) k, all) (sym (drop-drop (i * k) k (stream k g ++ stream (runs * k) (after k g)))
      ∙ ap (drop (i * k)) (drop_at (stream k g) (stream (runs * k) (after k g)) k (length_stream k g)))

pub runs_apart : RunsApart
unfolding answers at
runs_apart s p k zero i g h = absurd (omega arith)
runs_apart s p k (suc runs) zero g h = ap (λ ns. present (search s p ns)) (sym (first_part k runs g))
runs_apart s p k (suc runs) (suc i) g h =
    runs_apart s p k runs i (after k g) (omega arith) ∙ ap (λ ns. present (search s p (take k ns))) (sym (later_part k runs g i))
