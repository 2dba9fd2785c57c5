-- The needs of a rule's sides in words, and what is written of them.
-- Assumes nothing.
use Rattle.std.specs.Prelude.{ℕ, ◌+◌, ◌*◌, ◌-◌, ◌≤◌, ◌<◌, ◌≡◌, cond, List, eqb, length}
use Rattle.plpb.specs.Lists.{◌or◌}
use Rattle.plpb.specs.Plan.{Plan}
use Rattle.plpb.specs.Normal.{K}
use Rattle.plpb.specs.Tallies.{rules_of}
use Rattle.words.specs.Words.{word_at}
use Rattle.order.specs.Order.{rule_at}
use Rattle.columns.specs.Layout.{need_at}
use Rattle.columns.specs.Columns.{never}
use Rattle.columns.specs.Frames.{Only}
use Rattle.needs.specs.declared.KeptRule.{KeptRule}

-- `need` of a size in a word.
unfoldable pub need_word : ℕ → ℕ → ℕ
need_word size m = cond (eqb size 0 or eqb size never) never (size - m)

-- The two needs of rule r are written, and nothing else.
pub record NeedsPut (r : ℕ) (k : KeptRule) (s t : List ℕ) : Type 0 where
  pub off : word_at t (need_at (2 * r)) ≡ need_word k.b k.p
  pub on : word_at t (need_at (2 * r + 1)) ≡ need_word k.a k.n
  pub only : Only (need_at (2 * r)) (need_at (2 * r + 2)) s t

-- The word of each rule's P is not above its K.
pub record Weighable (p : Plan) (t : List ℕ) : Type 0 where
  pub each : (r : ℕ) → r < length (rules_of p) → word_at t r ≤ K (rule_at p r).terms
