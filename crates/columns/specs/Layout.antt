-- Where the walk's own columns stand in its work buffers, in words of 4 bytes. Short names of numbers: `omega` and `≡` see through them. src/lib.rt has the
-- same for the code.
-- Assumes nothing.
use Rattle.std.specs.Prelude.{ℕ, ◌+◌, ◌*◌}

-- Behind the tallies: K, A and B of each rule, and the needs of its two sides.
abbrev pub total_at : ℕ → ℕ
total_at r = 1_539 + 3 * r

abbrev pub lower_size_at : ℕ → ℕ
lower_size_at r = 1_540 + 3 * r

abbrev pub upper_size_at : ℕ → ℕ
upper_size_at r = 1_541 + 3 * r

-- Side 2·r is that of the false literals of rule r, side 2·r + 1 that of the true ones.
abbrev pub need_at : ℕ → ℕ
need_at side = 4_614 + side

-- Their words and bytes, with the tallies.
abbrev pub kept_word_count : ℕ
kept_word_count = 6_664

abbrev pub kept_size : ℕ
kept_size = 26_656

-- Behind the choice's marks and the stamps: for each variable a hint where to look first, the variables to pick among, the weights of the order's entries, how
-- many variables of a clause may be chosen, and these. A clause's stand from where the terms of its first rule stand among all terms.
abbrev pub hint_at : ℕ → ℕ
hint_at x = 639 + x

-- A hint below this names a place of the order; one from it on tells a side.
abbrev pub side_hints : ℕ
side_hints = 8_192

abbrev pub picks_at : ℕ
picks_at = 1_152

abbrev pub pick_at : ℕ → ℕ
pick_at i = 1_152 + i

abbrev pub weight_at : ℕ → ℕ
weight_at k = 1_664 + k

abbrev pub list_count_at : ℕ → ℕ
list_count_at c = 8_176 + c

abbrev pub list_at : ℕ → ℕ
list_at i = 8_689 + i

abbrev pub column_word_count : ℕ
column_word_count = 15_201

abbrev pub column_size : ℕ
column_size = 60_804
