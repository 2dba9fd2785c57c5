-- Walks: what is done with numbers as they are asked for, and what a walk comes to over a given list of them.
-- Assumes nothing.
use Rattle.std.specs.Prelude.{ℕ, ◌+◌, List, [], ◌∷◌}
use Rattle.plpb.specs.Plan.{Assignment}
use Rattle.plpb.specs.Numbers.{taken, too_few, take_words, take_pick}

-- A walk is done with a result, or it asks for k numbers, or for a pick among m, or it looks at an assignment, makes a flip or notes a find, and goes on.
pub data Walk (A : Type 0) : Type 0 where
  done : A → Walk A
  words : ℕ → (List ℕ → Walk A) → Walk A
  pick : ℕ → (ℕ → Walk A) → Walk A
  look : Assignment → Walk A → Walk A
  flipped : Walk A → Walk A
  found : Assignment → Walk A → Walk A

-- One walk after another.
infixl 10 ◌>>=◌
unfoldable pub ◌>>=◌ : {A B : Type 0} → Walk A → (A → Walk B) → Walk B
done a >>= k = k a
words n f >>= k = words n (λ ws. f ws >>= k)
pick m f >>= k = pick m (λ r. f r >>= k)
look b w >>= k = look b (w >>= k)
flipped w >>= k = flipped (w >>= k)
found b w >>= k = found b (w >>= k)

-- How far a walk has come: numbers used, flips made, and the finds, the last one first.
pub record Mark : Type 0 where
  pub used : ℕ
  pub flips : ℕ
  pub finds : List Assignment

abbrev pub at : ℕ → ℕ → List Assignment → Mark
at used flips finds = record { used = used; flips = flips; finds = finds }

-- .. after numbers drawn, one flip more, one find more.
abbrev pub drawn : ℕ → Mark → Mark
drawn used m = at used m.flips m.finds

abbrev pub one_flip : Mark → Mark
one_flip m = at m.used (m.flips + 1) m.finds

abbrev pub one_find : Assignment → Mark → Mark
one_find b m = at m.used m.flips (b ∷ m.finds)

-- It ends with its result, or where the numbers are gone.
pub data Outcome (A : Type 0) : Type 0 where
  ends : A → Mark → Outcome A
  short : Mark → Outcome A

unfoldable pub run : {A : Type 0} → Walk A → List ℕ → Mark → Outcome A
run (done a) ns m = ends a m
run (words k f) ns m = elim (take_words k ns m.used) [ taken ws u ↦ run (f ws) ns (drawn u m) | too_few u ↦ short (drawn u m) ]
run (pick k f) ns m = elim (take_pick k ns m.used) [ taken r u ↦ run (f r) ns (drawn u m) | too_few u ↦ short (drawn u m) ]
run (look b w) ns m = run w ns m
run (flipped w) ns m = run w ns (one_flip m)
run (found b w) ns m = run w ns (one_find b m)

-- The assignments looked at on the way, in order: what the walk could have found.
unfoldable pub looks : {A : Type 0} → Walk A → List ℕ → ℕ → List Assignment
looks (done a) ns used = []
looks (words k f) ns used = elim (take_words k ns used) [ taken ws u ↦ looks (f ws) ns u | too_few u ↦ [] ]
looks (pick k f) ns used = elim (take_pick k ns used) [ taken r u ↦ looks (f r) ns u | too_few u ↦ [] ]
looks (look b w) ns used = b ∷ looks w ns used
looks (flipped w) ns used = looks w ns used
looks (found b w) ns used = looks w ns used
