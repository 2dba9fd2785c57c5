-- Document 01's example and its edges, worked out by the definitions themselves: each side computes.
use Prim.Native.Nat.{ℕ}
use mathlib.Core.Path.{◌≡◌, refl}
use mathlib.Core.Bool.{true}
use mathlib.Core.List.{List, [], ◌∷◌, ◌++◌}
use lib.Dec.{T}
use lib.IntN.{pos}
use Rattle.plpb.specs.Lists.{◌and◌, ◌or◌, all, is_empty, concat, sum_by}
use Rattle.plpb.specs.Plan.{Plan, absent, present, rising, rising_above}
use Rattle.plpb.specs.Tallies.{rules_of}
use Rattle.words.specs.Words.{num_at, bytes_of, signed, unsigned}
use Rattle.format.specs.Limits.{lawful, terms_lawful, rule_lawful, weight_lawful, bound_lawful, is_present, term_count, within}
use Rattle.format.specs.File.{entries_fault, field_locks, lock_entries, lock_entry, add_field, plan_of, refused, accepted, read, map_reading, read_from, begin, fault, refuse, may_stand, tag_at, length_at, length_lawful, past_limits, wrong_bounds, bounds_lawful, field_terms, locks_fault, terms_in, terms_at, term_at, mode_at, lower_at, upper_at, next, stage_after, finish}
use Rattle.format.specs.Writer.{write, file_with, lock_field, field, term_bytes, clause_fields, rule_field, mode, bound_number}
use Rattle.format.proofs.RoundTrip.{read_write}

-- "n = 2, objective 1·x1 + 2·x2, one clause x1 + x2 ≥ 1"
unfoldable pub example : Plan
example = record {
  variables = 2;
  objective = record { variable = 1; weight = pos 1 } ∷ record { variable = 2; weight = pos 2 } ∷ [];
  locks = [];
  clauses =
      (record {
        lower = present (pos 1);
        upper = absent;
        terms = record { variable = 1; weight = pos 1 } ∷ record { variable = 2; weight = pos 1 } ∷ [];
      } ∷ [])
      ∷ [];
}

-- "the example's file is 50 bytes"
unfoldable pub file : List ℕ
file =
    1 ∷ 2 ∷ 0 ∷ 2 ∷ 0
    ∷ 2 ∷ 12 ∷ 0 ∷ 1 ∷ 0 ∷ 1 ∷ 0 ∷ 0 ∷ 0 ∷ 2 ∷ 0 ∷ 2 ∷ 0 ∷ 0 ∷ 0
    ∷ 3 ∷ 0 ∷ 0
    ∷ 4 ∷ 21 ∷ 0 ∷ 1 ∷ 1 ∷ 0 ∷ 0 ∷ 0 ∷ 0 ∷ 0 ∷ 0 ∷ 0 ∷ 1 ∷ 0 ∷ 1 ∷ 0 ∷ 0 ∷ 0 ∷ 2 ∷ 0 ∷ 1 ∷ 0 ∷ 0 ∷ 0
    ∷ 5 ∷ 0 ∷ 0 ∷ []

pub example_lawful : T (lawful example)
unfolding example lawful within terms_lawful rule_lawful weight_lawful bound_lawful is_present rising rising_above all is_empty rules_of concat term_count sum_by ◌and◌ ◌or◌
example_lawful = tt

pub example_written : write example ≡ file
unfolding example file write file_with lock_field field bytes_of concat term_bytes unsigned clause_fields rule_field mode bound_number
example_written = refl

pub example_read : read file ≡ accepted example
example_read = rw (← example_written) (read_write example example_lawful)

-- "one byte more gives 7 at 50"
pub one_more : read (file ++ (0 ∷ [])) ≡ refused 7 50
unfolding file read map_reading read_from begin fault refuse may_stand tag_at length_at num_at length_lawful past_limits wrong_bounds bounds_lawful field_terms terms_in terms_at term_at mode_at lower_at upper_at signed terms_lawful rising rising_above all weight_lawful next stage_after finish ◌and◌ ◌or◌ locks_fault
one_more = refl

-- "an empty file gives 1 at 0"; "513 give 4"
pub nothing : read [] ≡ refused 1 0
unfolding read map_reading read_from begin
nothing = refl

pub too_many : read (1 ∷ 2 ∷ 0 ∷ 1 ∷ 2 ∷ []) ≡ refused 4 0
unfolding read map_reading read_from begin fault refuse may_stand tag_at length_at num_at length_lawful past_limits next stage_after ◌and◌
too_many = refl

-- Field 06 behind the objective: "entries of a variable number and a byte 0 or 1". Here x1 is locked at 1, in a plan of two variables without clauses.
unfoldable pub locked : Plan
locked = record { variables = 2; objective = []; locks = record { variable = 1; value = true } ∷ []; clauses = [] }

pub locked_read : read (1 ∷ 2 ∷ 0 ∷ 2 ∷ 0 ∷ 2 ∷ 0 ∷ 0 ∷ 6 ∷ 3 ∷ 0 ∷ 1 ∷ 0 ∷ 1 ∷ 5 ∷ 0 ∷ 0 ∷ []) ≡ accepted locked
unfolding locked read map_reading read_from begin fault refuse may_stand tag_at length_at num_at length_lawful past_limits wrong_bounds field_terms terms_in terms_at terms_lawful rising rising_above all locks_fault entries_fault field_locks lock_entries lock_entry add_field plan_of next stage_after finish ◌and◌ ◌or◌
locked_read = refl

-- "10 for another value (after 5 of that entry)": the first entry's 10 comes before the second entry's 5, and carries the field's offset.
pub entry_by_entry : read (1 ∷ 2 ∷ 0 ∷ 2 ∷ 0 ∷ 2 ∷ 0 ∷ 0 ∷ 6 ∷ 6 ∷ 0 ∷ 1 ∷ 0 ∷ 2 ∷ 1 ∷ 0 ∷ 0 ∷ 5 ∷ 0 ∷ 0 ∷ []) ≡ refused 10 8
unfolding read map_reading read_from begin fault refuse may_stand tag_at length_at num_at length_lawful past_limits wrong_bounds field_terms terms_in terms_at terms_lawful rising rising_above all locks_fault entries_fault next stage_after ◌and◌ ◌or◌
entry_by_entry = refl

pub number_first : read (1 ∷ 2 ∷ 0 ∷ 2 ∷ 0 ∷ 2 ∷ 0 ∷ 0 ∷ 6 ∷ 3 ∷ 0 ∷ 3 ∷ 0 ∷ 2 ∷ 5 ∷ 0 ∷ 0 ∷ []) ≡ refused 5 8
unfolding read map_reading read_from begin fault refuse may_stand tag_at length_at num_at length_lawful past_limits wrong_bounds field_terms terms_in terms_at terms_lawful rising rising_above all locks_fault entries_fault next stage_after ◌and◌ ◌or◌
number_first = refl
