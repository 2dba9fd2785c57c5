-- The example of document 01 ("The program and its two lines"), by computing the search over its ten numbers: "ended 1 2 2 10" and "10".
use Prim.Native.Nat.{ℕ}
use mathlib.Core.Bool.{true, false}
use mathlib.Core.List.{List, [], ◌∷◌}
use mathlib.Core.Path.{◌≡◌, refl}
use lib.IntN.{pos}
use Rattle.plpb.specs.Lists.{◌and◌, ◌or◌, keep, any, all, sum_by, concat, is_empty, row}
use Rattle.plpb.specs.Plan.{absent, present, is_present, map_bound, Plan, Term, value, flip, is_variable, lock_among, lock_of, is_locked, under, hold, total, at_least, at_most, rule_holds, clause_holds, satisfies, cost, negative_part, least_total, least_of, least_cost, floor_cost, named_in, names}
use Rattle.plpb.specs.Normal.{opposite, literal_true, is_negative, literal, size, rise, K, raised, size_a, size_b, copies}
use Rattle.plpb.specs.Expansion.{choose, choices, parts, joined, expand_clause, expansion, is_true, spoils, break_count}
use Rattle.plpb.specs.Count.{cap, capped, capped_break}
use Rattle.plpb.specs.Tallies.{unsatisfied}
use Rattle.plpb.specs.Numbers.{take_words, fair, pick_among, take_pick, start_words, bit, start_of}
use Rattle.plpb.specs.Walk.{◌>>=◌, run}
use Rattle.plpb.specs.Settings.{lbs, skc, Settings}
use Rattle.plpb.specs.Try.{begun, turn_over}
use Rattle.plpb.specs.Choice.{choosable, pick_from, least_break, with_break, noisy_choice, skc_choice, choice_by, choice}
use Rattle.plpb.specs.Search.{reached, turning, move, go_on, flipping, try, or_else, trying, call, tightened, third, lbs_bound, linear_bound, bound_in, ended, at_floor, gap, after, descending, linear_search, lbs_search, tighten, search_walk, Answer, last_find, cost_of, answer_of, conclude, begin, search}

unfoldable pub term : ℕ → ℕ → Term
term x w = record { variable = x; weight = pos w }

-- "n = 2, objective 1·x1 + 2·x2, one clause x1 + x2 ≥ 1"
unfoldable pub plan : Plan
plan = record {
  variables = 2;
  objective = term 1 1 ∷ term 2 2 ∷ [];
  locks = [];
  clauses = (record { lower = present (pos 1); upper = absent; terms = term 1 1 ∷ term 2 1 ∷ [] } ∷ []) ∷ [];
}

-- "noise 500, tries 1, flips 1, mode 1"
unfoldable pub settings : Settings
settings = record { noise = 500; tries = 1; flips = 1; mode = lbs; heuristic = skc; chance = 0 }

-- "numbers 2 1 0 5 900 3 0 5 100 0"
unfoldable pub numbers : List ℕ
numbers = 2 ∷ 1 ∷ 0 ∷ 5 ∷ 900 ∷ 3 ∷ 0 ∷ 5 ∷ 100 ∷ 0 ∷ []

unfoldable pub answer : Answer
answer = record { ending = ended; cost = pos 1; finds = 2; flips = 2; used = 10; assignment = reached (true ∷ false ∷ []) }

pub example : search settings plan numbers ≡ answer
unfolding term plan settings numbers answer
    ◌and◌ ◌or◌ keep any all sum_by concat is_empty row
    is_present map_bound value flip is_variable lock_among lock_of is_locked under hold total at_least at_most rule_holds clause_holds satisfies cost negative_part least_total least_of least_cost floor_cost named_in names
    opposite literal_true is_negative literal size rise K raised size_a size_b copies
    choose choices parts joined expand_clause expansion is_true spoils break_count
    cap capped capped_break unsatisfied take_words fair pick_among take_pick start_words bit start_of ◌>>=◌ run
    choosable pick_from least_break with_break noisy_choice skc_choice choice_by choice
    begun turn_over turning move go_on flipping try or_else trying call tightened third lbs_bound linear_bound bound_in at_floor gap after descending linear_search lbs_search tighten search_walk
    last_find cost_of answer_of conclude begin search
example = refl
