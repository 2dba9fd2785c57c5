-- The search as a definition on what is lent: the refusal, the answer and the bytes left (document 01, "Who can cause which refusal" and "The walk").
-- Assumes nothing.
use Rattle.std.specs.Prelude.{ℕ, ◌≡◌, cond, List, ◌++◌, T, eqb, pos, drop, replicate}
use Rattle.plpb.specs.Plan.{obeys, satisfies, cost}
use Rattle.plpb.specs.Search.{Answer, search}
use Rattle.format.specs.Tables.{table_size, term_size, plan_of_tables}
use Rattle.columns.specs.Layout.{column_size, kept_size}
use Rattle.format.specs.Assignment.{assignment_size, bits_of}
use Rattle.finds.specs.Whole.{with_find}
use Rattle.numbers.specs.Numbers.{numbers_of}
use Rattle.settings.specs.declared.Settings.{Settings as Asked}
use Rattle.settings.specs.Settings.{settings_of}
use Rattle.lending.specs.Lent.{Lent, search_refusal}
-- The endings by number; 0 stands for a search that was refused.
unfoldable pub use Rattle.progress.specs.Bounds.{ending_number}
use Rattle.answers.specs.Found.{has_plan}
use Rattle.answers.specs.declared.Answer.{Answer as Answered}

-- What a search that is not refused answers.
unfoldable pub answer : Lent → Asked → Answer
answer l k = search (settings_of k) (plan_of_tables l.tables l.terms) (numbers_of l.numbers)

unfoldable pub search_assignment : Lent → Asked → List ℕ
search_assignment l k =
    cond (eqb (search_refusal l k) 0)
    (with_find (answer l k).assignment (plan_of_tables l.tables l.terms).variables l.assignment)
    l.assignment

-- "The work tables end filled with 0.", and are as they were past the full limits, and with a refusal.
unfoldable pub cleared : Lent → Asked → ℕ → List ℕ → List ℕ
cleared l k size bytes = cond (eqb (search_refusal l k) 0) (replicate size 0 ++ drop size bytes) bytes

-- What is answered where nothing is refused, and what else.
unfoldable pub unless : {A : Type 0} → Lent → Asked → A → A → A
unless l k refused answered = cond (eqb (search_refusal l k) 0) answered refused

-- A search of what is lent and set gives this answer, and leaves this of what was lent.
pub record Searches (l : Lent) (k : Asked) (r : Answered) (left : Lent) : Type 0 where
  pub refusal : r.refusal ≡ search_refusal l k
  pub ending : r.ending ≡ unless l k 0 (ending_number (answer l k).ending)
  pub cost : r.cost ≡ unless l k (pos 0) (answer l k).cost
  pub finds : r.finds ≡ unless l k 0 (answer l k).finds
  pub flips : r.flips ≡ unless l k 0 (answer l k).flips
  pub used : r.used ≡ unless l k 0 (answer l k).used
  pub assignment : left.assignment ≡ search_assignment l k
  pub work_tables : left.work_tables ≡ cleared l k table_size l.work_tables
  pub work_terms : left.work_terms ≡ cleared l k term_size l.work_terms
  pub work_assignment : left.work_assignment ≡ cleared l k assignment_size l.work_assignment
  pub work_tallies : left.work_tallies ≡ cleared l k kept_size l.work_tallies
  pub work_marks : left.work_marks ≡ cleared l k column_size l.work_marks

-- What a crew relies on: "A plan handed out satisfies every clause", gives each locked variable its value, and the cost is its cost.
unfoldable pub HandsOut : Lent → Answered → List ℕ → Type 0
HandsOut l r assignment =
    let p = plan_of_tables l.tables l.terms in
    let a = bits_of p.variables assignment in
    T (has_plan r.ending) → T (satisfies a p) × T (obeys a p) × (r.cost ≡ cost p a)
