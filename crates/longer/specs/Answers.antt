-- "T-13 A longer list never hurts. Crews ask if more numbers can spoil a plan. Show they cannot" (document 02).
-- Assumes nothing.
use Rattle.std.specs.Prelude.{ℕ, ◌≤◌, Bool, true, false, List, ◌++◌, ◌≡◌, T}
use Rattle.std.specs.Int.Signed.{le_z}
use Rattle.plpb.specs.Plan.{Plan}
use Rattle.plpb.specs.Settings.{Settings}
use Rattle.plpb.specs.Search.{Ending, floor, ended, none, short_found, short_none, Answer, search}

-- Whether a search ran short.
unfoldable pub ran_short : Ending → Bool
ran_short floor = false
ran_short ended = false
ran_short none = false
ran_short short_found = true
ran_short short_none = true

-- What a search answers with a list, and what with a longer one.
pub record NoWorse (shorter longer : Answer) : Type 0 where
  -- "a search that did not run short with the shorter gives the same answer [..] with both",
  pub same : ran_short shorter.ending ≡ false → longer ≡ shorter
  -- "and one that ran short there with a find ends with a cost no higher under the longer list, with at least as many finds."
  pub better : shorter.ending ≡ short_found → T (le_z longer.cost shorter.cost) × (shorter.finds ≤ longer.finds)

-- "One statement covers both choices and both tightenings": the settings say which.
abbrev pub AnswersNeverHurt : Type 0
AnswersNeverHurt = (s : Settings) (p : Plan) (ns more : List ℕ) → NoWorse (search s p ns) (search s p (ns ++ more))
