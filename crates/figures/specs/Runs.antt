-- "We try settings on 1 to 1,000 runs, each taking the next 1 to 16,384 numbers, the same count each, of Marsaglia's xorwow" (document 02, T-11).
-- Assumes nothing.
use Rattle.std.specs.Prelude.{ℕ, zero, suc, ◌*◌, ◌<◌, ◌≡◌, List, [], ◌∷◌, take, drop}
use Rattle.plpb.specs.Plan.{Plan, Bound, absent, present}
use Rattle.plpb.specs.Settings.{Settings}
use Rattle.plpb.specs.Search.{Answer, search}
use Rattle.xorwow.specs.declared.Xorwow.{Xorwow}
use Rattle.xorwow.specs.Xorwow.{stream, after}

-- The bytes of the most numbers that a run takes: 4 for each of 16,384.
abbrev pub numbers_size : ℕ
numbers_size = 65_536

-- What the runs answer, each a search over the next k numbers.
unfoldable pub answers : Settings → Plan → ℕ → ℕ → Xorwow → List Answer
answers s p k zero g = []
answers s p k (suc runs) g = search s p (stream k g) ∷ answers s p k runs (after k g)

-- The element at a place, if there is one.
unfoldable pub at : {A : Type 0} → List A → ℕ → Bound A
at [] i = absent
at (x ∷ xs) zero = present x
at (x ∷ xs) (suc i) = at xs i

-- Run i, from 0, is a search of its own: its numbers are its part of all that the runs take together, k from place i · k on.
abbrev pub RunsApart : Type 0
RunsApart =
    (s : Settings) (p : Plan) (k runs i : ℕ) (g : Xorwow) → i < runs
    → at (answers s p k runs g) i ≡ present (search s p (take k (drop (i * k) (stream (runs * k) g))))
