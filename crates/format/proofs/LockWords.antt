-- What code reads off the locks' section of tables that hold a plan: the word of each variable says whether it is locked, and at which value.
use Prim.Native.Nat.{ℕ, ◌≤◌}
use mathlib.Core.Path.{◌≡◌, refl, ap, ◌∙◌}
use mathlib.Core.Bool.{Bool, true, false}
use mathlib.Core.List.{List}
use lib.Dec.{T, ltb}
use Rattle.plpb.specs.Plan.{Bound, absent, present, is_present, Plan, lock_of, is_locked}
use Rattle.words.specs.Words.{word_at}
use Rattle.format.specs.Limits.{roomy}
use Rattle.format.specs.Tables.{Holds, lock_word}
use Rattle.format.proofs.Lawful.{roomy_parts}
use Rattle.format.proofs.ReadBack.{holds_sections}
use Rattle.format.specs.Layout.{lock_at}

pub lock_word_lem :
    (p : Plan) (tables terms : List ℕ) → T (roomy p) → Holds p tables terms → (x : ℕ) → 1 ≤ x → x ≤ 512 → word_at tables (lock_at x) ≡ lock_word (lock_of p x)
lock_word_lem p tables terms r h x a b = (holds_sections p (roomy_parts p r) tables terms h).lock x a b

-- A word other than 0 is that of a lock.
pub word_present : (b : Bound Bool) → ltb 0 (lock_word b) ≡ is_present b
unfolding lock_word is_present
word_present absent = refl
word_present (present true) = refl
word_present (present false) = refl

pub word_locked : (p : Plan) (x w : ℕ) → w ≡ lock_word (lock_of p x) → ltb 0 w ≡ is_locked p x
unfolding is_locked
word_locked p x w e = ap (ltb 0) e ∙ word_present (lock_of p x)
