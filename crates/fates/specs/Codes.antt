-- A map of variables: a word for each number from 0 to 512 says what becomes of the variable.
-- Assumes nothing.
use Rattle.std.specs.Prelude.{ℕ, true, false, cond, List, eqb}
use Rattle.words.specs.Words.{word_at}
use Rattle.squeezed.specs.Squeezed.{Becomes, locked, renumbered}

-- Two codes above every new number stand for a locked variable, by its value.
abbrev pub off_code : ℕ
off_code = 513

abbrev pub on_code : ℕ
on_code = 514

unfoldable pub decode : ℕ → Becomes
decode w = cond (eqb w off_code) (locked false) (cond (eqb w on_code) (locked true) (renumbered w))

unfoldable pub decoded : List ℕ → ℕ → Becomes
decoded m x = decode (word_at m x)

-- The bytes of a map.
abbrev pub map_size : ℕ
map_size = 2_052
