-- Counts of the code.
-- Assumes nothing.
use Rattle.std.specs.Prelude.{ℕ, suc, cond, List, [], ◌∷◌, ltb}
use Rattle.plpb.specs.Count.{cap}
use Rattle.plpb.specs.Count.{Count as CountOf}
use Rattle.counting.specs.declared.count.Count.{Count}
use Rattle.counting.specs.declared.count.Marked.{Marked}

-- Where one stands among counts, as `rank` has it: the number itself, unless it is above the cap and so was cut.
abbrev pub number : Count → ℕ
number c = cond (ltb 4_294_967_295 c.n) (suc cap) c.n

-- A count as it is given out to C, in two words: its value, and 1 where it was cut, else 0.
unfoldable pub count_words : CountOf → List ℕ
count_words c = c.value ∷ cond c.cut 1 0 ∷ []

abbrev pub marked_words : Marked → List ℕ
marked_words m = m.value ∷ m.cut ∷ []
