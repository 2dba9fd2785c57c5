-- What the whole search needs of tables that passed its tests, and what it answers and leaves before the work tables are cleared.
-- Assumes nothing.
use Rattle.std.specs.Prelude.{ℕ, ◌/◌, ◌≤◌, ◌≡◌, List, [], ◌∷◌, ◌++◌, T, pos, length, take, drop, Result, Ok, Err}
use Rattle.plpb.specs.Lists.{◌or◌}
use Rattle.plpb.specs.Plan.{Plan, Assignment, obeys}
use Rattle.plpb.specs.Walk.{run}
use Rattle.plpb.specs.Settings.{Settings}
use Rattle.plpb.specs.Search.{Reached, failed, reached, call, gap, tighten, conclude, search}
use Rattle.plpb.specs.Walk.{at}
use Rattle.format.specs.Limits.{lawful}
use Rattle.format.specs.Tables.{Holds, plan_of_tables, table_size, term_size, is_loaded}
use Rattle.tallies.specs.Layout.{assignment_size, bits_of, are_bits}
use Rattle.numbers.specs.Numbers.{numbers_of}
use Rattle.progress.specs.declared.Ending.{Ending as EndingOf}
use Rattle.progress.specs.declared.Ending.TheVariants as code
use Rattle.progress.specs.declared.Searched.{Searched}
use Rattle.columns.specs.Layout.{column_size, kept_size}
use Rattle.format.specs.Assignment.{bit_bytes}
use Rattle.tries.specs.declared.Spent.{Spent}
use Rattle.moves.specs.declared.Stop.TheVariants as stop
use Rattle.lending.specs.Work.{Work, Beyond}
use Rattle.tries.specs.Steps.{Unreached, Finds, IfReached, Tries, flips_by, tried_of, used_by}
use Rattle.moves.specs.Moves.{bits_in}
use Rattle.progress.specs.Bounds.{answer_of}

-- "With a find, the first n assignment bytes hold the last one found; otherwise they are unchanged, as are all beyond n always."
unfoldable pub with_find : Reached → ℕ → List ℕ → List ℕ
with_find failed n bytes = bytes
with_find (reached a) n bytes = bit_bytes a ++ drop n bytes

-- Nothing was found.
pub record Unfound (e : EndingOf) (used flips : ℕ) (r : Searched) : Type 0 where
  pub ending : r.ending ≡ e
  pub cost : r.progress.cost ≡ pos 0
  pub finds : r.progress.finds ≡ 0
  pub flips_made : r.progress.spent.flips ≡ flips
  pub numbers_used : r.progress.spent.used ≡ used

-- .. by a first call: it failed, or the numbers were gone before. One that reached an assignment is never asked for it.
unfoldable pub Empty : Result Spent Unreached → Searched → Type 0
Empty (Ok t) r = Unfound code.None t.used t.flips r
Empty (Err (stop.Failed t)) r = Unfound code.None t.used t.flips r
Empty (Err (stop.Short t)) r = Unfound code.ShortNone t.used t.flips r

-- The walk's buffers have room for any plan.
pub record Roomy (w : Work) : Type 0 where
  pub assignment : assignment_size ≤ length w.assignment
  pub tallies : kept_size ≤ length w.tallies
  pub marks : column_size ≤ length w.marks

-- Tables of a lawful plan, and the first assignment found for it.
pub record FirstFind (tables terms numbers : List ℕ) (used flips : ℕ) (assignment : List ℕ) (w : Work) : Type 0 where
  pub lawful : T (lawful (plan_of_tables tables terms))
  pub holds : Holds (plan_of_tables tables terms) tables terms
  pub room : assignment_size ≤ length assignment
  pub work : Roomy w
  pub bits : T (are_bits (plan_of_tables tables terms).variables w.assignment)
  pub obeyed : T (obeys (bits_in tables terms w) (plan_of_tables tables terms))
  pub some : 1 ≤ used
  pub few : flips ≤ used
  pub within : used ≤ length numbers / 4

-- The tightening from there comes to this answer, and the assignment is the last find.
pub record FromFind (s : Settings) (tables terms numbers : List ℕ) (used flips : ℕ) (r : Searched) (entry exit : List ℕ) (w v : Work) : Type 0 where
  pub answers :
      conclude (plan_of_tables tables terms)
      (run (tighten s.mode s (plan_of_tables tables terms) (gap (plan_of_tables tables terms) (bits_in tables terms w)) (bits_in tables terms w))
      (numbers_of numbers) (at used flips (bits_in tables terms w ∷ [])))
      ≡ answer_of r.ending r.progress (reached (bits_of (plan_of_tables tables terms).variables exit))
  pub find : exit ≡ with_find (reached (bits_of (plan_of_tables tables terms).variables exit)) (plan_of_tables tables terms).variables entry
  pub beyond : Beyond (plan_of_tables tables terms).variables w v

-- The first call with the plan has been made, and comes to t.
pub record FirstCall (s : Settings) (tables terms numbers : List ℕ) (t : Result Spent Unreached) (assignment : List ℕ) (w : Work) : Type 0 where
  pub lawful : T (lawful (plan_of_tables tables terms))
  pub holds : Holds (plan_of_tables tables terms) tables terms
  pub room : assignment_size ≤ length assignment
  pub work : Roomy w
  pub outcome :
      (fs : List Assignment) → run (call s (plan_of_tables tables terms)) (numbers_of numbers) (at 0 0 fs) ≡ tried_of t (bits_in tables terms w) fs
  pub finds : IfReached t (Finds tables terms 1 (used_by t) w)
  pub flipped : flips_by t ≤ used_by t
  pub within : used_by t ≤ length numbers / 4

-- Tables that passed the test for 22, and room to work on a copy of them.
pub record Copyable (tables terms work_tables work_terms : List ℕ) (w : Work) : Type 0 where
  pub loaded : T (is_loaded tables terms)
  pub long : table_size ≤ length tables
  pub long_terms : term_size ≤ length terms
  pub work_long : table_size ≤ length work_tables
  pub work_long_terms : term_size ≤ length work_terms
  pub work : Roomy w

-- The plan is copied, and the first call with it comes to t.
pub record CallsFirst (s : Settings) (plan planTerms numbers : List ℕ) (t : Result Spent Unreached)
    (tables tables' terms terms' : List ℕ) (w v : Work) : Type 0 where
  pub copied : tables' ≡ take table_size plan ++ drop table_size tables
  pub copied_terms : terms' ≡ take term_size planTerms ++ drop term_size terms
  pub called : Tries (call s (plan_of_tables tables' terms')) tables' terms' numbers 0 0 1 t w v

-- Tables that passed the test for 22, and room for everything.
pub record Searchable (tables terms assignment work_tables work_terms : List ℕ) (w : Work) : Type 0 where
  pub loaded : T (is_loaded tables terms)
  pub long : table_size ≤ length tables
  pub long_terms : term_size ≤ length terms
  pub room : assignment_size ≤ length assignment
  pub work_long : table_size ≤ length work_tables
  pub work_long_terms : term_size ≤ length work_terms
  pub work : Roomy w

-- The search of a plan, whole: the assignment is the last find, if there is one.
pub record Whole (s : Settings) (p : Plan) (numbers : List ℕ) (r : Searched) (entry exit : List ℕ) (w v : Work) : Type 0 where
  pub answers : search s p (numbers_of numbers) ≡ answer_of r.ending r.progress (search s p (numbers_of numbers)).assignment
  pub last : (a : Assignment) → (search s p (numbers_of numbers)).assignment ≡ reached a → bits_of p.variables exit ≡ a
  pub find : exit ≡ with_find (search s p (numbers_of numbers)).assignment p.variables entry
  pub beyond : Beyond p.variables w v
