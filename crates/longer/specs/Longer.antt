-- "T-13 A longer list never hurts", of what `planner_search` is lent and leaves (document 02).
-- Assumes nothing.
use Rattle.std.specs.Prelude.{ℕ, ◌≤◌, Bool, false, List, ◌++◌, ◌≡◌, T, eqb}
use Rattle.std.specs.Int.Signed.{le_z}
use Rattle.plpb.specs.Lists.{◌or◌}
use Rattle.settings.specs.declared.Settings.{Settings as Asked}
use Rattle.lending.specs.Lent.{Lent, lent_all}
use Rattle.answers.specs.declared.Answer.{Answer as Answered}
use Rattle.search.specs.Calls.{Searches}

-- "if one list begins with all of another", "and buffers lent alike"
unfoldable pub with_more : Lent → List ℕ → Lent
with_more l more =
    lent_all l.tables l.terms (l.numbers ++ more) l.assignment l.work_tables l.work_terms l.work_assignment l.work_tallies l.work_marks

-- Whether an ending, by its number, is that of a search that ran short: with a find, or without.
unfoldable pub ends_short : ℕ → Bool
ends_short e = eqb e 4 or eqb e 5

-- "the same answer and bytes with both": every field of the answer, and every buffer lent for writing.
pub record SameEnd (r r' : Answered) (left left' : Lent) : Type 0 where
  pub ending : r'.ending ≡ r.ending
  pub cost : r'.cost ≡ r.cost
  pub finds : r'.finds ≡ r.finds
  pub flips : r'.flips ≡ r.flips
  pub used : r'.used ≡ r.used
  pub assignment : left'.assignment ≡ left.assignment
  pub work_tables : left'.work_tables ≡ left.work_tables
  pub work_terms : left'.work_terms ≡ left.work_terms
  pub work_assignment : left'.work_assignment ≡ left.work_assignment
  pub work_tallies : left'.work_tallies ≡ left.work_tallies
  pub work_marks : left'.work_marks ≡ left.work_marks

-- What a search answers and leaves with a list, and what with a longer one.
pub record NeverHurts (r r' : Answered) (left left' : Lent) : Type 0 where
  pub accepted : r'.refusal ≡ 0
  -- "a search that did not run short with the shorter gives the same answer and bytes with both",
  pub same : ends_short r.ending ≡ false → SameEnd r r' left left'
  -- "and one that ran short there with a find ends with a cost no higher under the longer list, with at least as many finds."
  pub better : r.ending ≡ 4 → T (le_z r'.cost r.cost) × (r.finds ≤ r'.finds)

-- "for one accepted plan and settings": the settings are any, so that "One statement covers both choices and both tightenings."
abbrev pub LongerNeverHurts : Type 0
LongerNeverHurts =
    (l : Lent) (more : List ℕ) (k : Asked) (r r' : Answered) (left left' : Lent) → r.refusal ≡ 0
    → Searches l k r left
    → Searches (with_more l more) k r' left'
    → NeverHurts r r' left left'
