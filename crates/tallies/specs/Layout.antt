-- Assignments and tallies in bytes (docs/FORMAT.md has the layout with offsets).
-- Assumes nothing.
use Rattle.std.specs.Prelude.{ℕ, List, [], ◌∷◌, ◌++◌, get_or, drop}
use Rattle.plpb.specs.Plan.{Plan, Assignment}
use Rattle.plpb.specs.Tallies.{Tallies, fresh_count}
use Rattle.words.specs.Words.{word_bytes}
use Rattle.format.specs.Tables.{pad_with}
use Rattle.format.specs.Layout.{clause_room, rule_room}
unfoldable pub use Rattle.format.specs.Assignment.{bits_of, bit_bytes, are_bits}
pub use Rattle.format.specs.Assignment.{assignment_size, with_bits}
pub use Rattle.format.specs.Layout.{tally_size}

-- A list in the tallies' order: an entry for each of 1,024 rules and one more, for each of 512 clauses and one more, and one for the whole.
unfoldable pub tally_order : {A : Type 0} → A → List A → List A → A → List A
tally_order unused rules clauses whole = pad_with unused rule_room rules ++ (pad_with unused clause_room clauses ++ (whole ∷ []))

-- P of the rules, how many rules of each clause hold, and how many clauses hold no rule; 0 in unused entries.
unfoldable pub tally_words : Tallies → List ℕ
tally_words t = tally_order 0 t.true_weights t.rules_holding t.clauses_unsatisfied

unfoldable pub tally_bytes : Tallies → List ℕ
tally_bytes t = word_bytes (tally_words t)

-- The fresh count of some bits in what is lent as tallies. What stands past the full limits is as it was.
abbrev pub with_tallies : Plan → Assignment → List ℕ → List ℕ
with_tallies p b bytes = tally_bytes (fresh_count p b) ++ drop tally_size bytes

-- The words that a fresh count gives.
unfoldable pub tally_word : Plan → Assignment → ℕ → ℕ
tally_word p a i = get_or (tally_words (fresh_count p a)) i 0
