-- Where what stands in the tables, in words of 4 bytes. Short names of numbers: `omega` and `≡` see through them. src/lib.rt has the same for
-- the code.
-- Assumes nothing.
use Rattle.std.specs.Prelude.{ℕ, ◌+◌, ◌*◌}

-- The words of the two tables, and their bytes. The first of the tables' words are the base: all but the order, which is worked out from the base and the
-- terms.
abbrev pub base_word_count : ℕ
base_word_count = 7_179

abbrev pub table_word_count : ℕ
table_word_count = 14_204

abbrev pub term_word_count : ℕ
term_word_count = 13_024

abbrev pub base_size : ℕ
base_size = 28_716

abbrev pub table_size : ℕ
table_size = 56_816

abbrev pub term_size : ℕ
term_size = 52_096

-- "the largest file is then 54,446 bytes"
abbrev pub largest_file : ℕ
largest_file = 54_446

-- The tables have room for one clause and rule more than a plan may have, with its 512 terms.
abbrev pub clause_room : ℕ
clause_room = 513

abbrev pub rule_room : ℕ
rule_room = 1_025

abbrev pub term_room : ℕ
term_room = 6_512

-- An end for each variable, and one for no variable.
abbrev pub end_room : ℕ
end_room = 513

-- The words of the clauses' entries and of the rules'.
abbrev pub clause_word_count : ℕ
clause_word_count = 1_026

abbrev pub rule_word_count : ℕ
rule_word_count = 5_125

-- The bytes of the four sections of the base behind the counts, and where each begins.
abbrev pub objective_size : ℕ
objective_size = 2_048

abbrev pub clause_section_size : ℕ
clause_section_size = 4_104

abbrev pub rule_section_size : ℕ
rule_section_size = 20_500

abbrev pub lock_section_size : ℕ
lock_section_size = 2_048

abbrev pub objective_byte : ℕ
objective_byte = 16

abbrev pub clauses_byte : ℕ
clauses_byte = 2_064

abbrev pub rules_byte : ℕ
rules_byte = 6_168

abbrev pub locks_byte : ℕ
locks_byte = 26_668

-- The sections' first words.
abbrev pub clauses_at : ℕ
clauses_at = 516

abbrev pub rules_at : ℕ
rules_at = 1_542

abbrev pub locks_at : ℕ
locks_at = 6_667

-- A variable's coefficient.
abbrev pub objective_at : ℕ → ℕ
objective_at x = 3 + x

-- A clause's first rule, and how many it has.
abbrev pub clause_first_at : ℕ → ℕ
clause_first_at c = 516 + 2 * c

abbrev pub clause_count_at : ℕ → ℕ
clause_count_at c = 517 + 2 * c

-- A rule's first term, how many it has, its mode and its bounds.
abbrev pub rule_first_at : ℕ → ℕ
rule_first_at r = 1_542 + 5 * r

abbrev pub rule_count_at : ℕ → ℕ
rule_count_at r = 1_543 + 5 * r

abbrev pub rule_mode_at : ℕ → ℕ
rule_mode_at r = 1_544 + 5 * r

abbrev pub rule_lower_at : ℕ → ℕ
rule_lower_at r = 1_545 + 5 * r

abbrev pub rule_upper_at : ℕ → ℕ
rule_upper_at r = 1_546 + 5 * r

-- The upper bound of the last of so many rules.
abbrev pub last_upper_at : ℕ → ℕ
last_upper_at rules = 1_541 + 5 * rules

-- A variable's lock.
abbrev pub lock_at : ℕ → ℕ
lock_at x = 6_666 + x

-- Where the ends of the runs begin and where the order does; where the run of a variable ends, counted in entries of the order, and the order's entry k.
abbrev pub ends_at : ℕ
ends_at = 7_179

abbrev pub order_at : ℕ
order_at = 7_692

abbrev pub end_at : ℕ → ℕ
end_at x = 7_179 + x

abbrev pub entry_at : ℕ → ℕ
entry_at k = 7_692 + k

-- The words of the tallies, and their bytes.
abbrev pub tally_word_count : ℕ
tally_word_count = 1_539

abbrev pub tally_size : ℕ
tally_size = 6_156

-- In the tallies: how many rules of a clause hold, and how many clauses are unsatisfied.
abbrev pub holding_at : ℕ → ℕ
holding_at c = 1_025 + c

abbrev pub unsatisfied_at : ℕ
unsatisfied_at = 1_538

-- The marks of a search: a byte for each variable, then a word for each, the number of its last flip in a try.
abbrev pub mark_size : ℕ
mark_size = 2_560

-- Where those words begin and how many they are, in bytes; the word of a variable.
abbrev pub stamp_byte : ℕ
stamp_byte = 512

abbrev pub stamp_size : ℕ
stamp_size = 2_048

abbrev pub stamp_at : ℕ → ℕ
stamp_at x = 127 + x
