-- What a squeeze leaves: the file of the squeezed plan, which loading accepts, or nothing changed.
-- Assumes nothing.
use Prim.Native.Nat.{ℕ, ◌-◌}
use native.Mathlib.Omega.{arith}
use mathlib.Core.Path.{◌≡◌, refl, sym, ap, ◌∙◌, subst}
use mathlib.Core.Bool.{Bool, true, false, cond}
use mathlib.Core.List.{List}
use lib.Dec.{T, ltb}
use lib.ListN.{length, take, drop, replicate}
use lib.Seq.{take-append_seam, drop-append_seam}
use Rattle.plpb.specs.Plan.{Plan}
use Rattle.format.specs.File.{Reading, refused, accepted, read}
use Rattle.format.specs.Limits.{lawful}
use Rattle.format.specs.Writer.{write}
use Rattle.format.specs.Tables.{pad_with}
use Rattle.format.proofs.RoundTrip.{read_write}
use Rattle.format.proofs.Accepted.{accepted_lawful}
use Rattle.squeezed.specs.Squeezed.{squeezed, all_locked, clause_lost}
use Rattle.squeezed.proofs.Lawful.{squeezed_lawful}
use Rattle.squeeze.specs.Calls.{Outcome, turned_away, rewritten, squeezing, by_reading, outcome, LeavesAccepted, NothingChanged, list_size}

-- ---- accepted

Leaves : List ℕ → Plan → Outcome → Type 0
Leaves file p o =
    (read (take o.length o.file) ≡ accepted (squeezed p)) × (drop o.length o.file ≡ replicate (length file - o.length) 0)

module _ (file old : List ℕ) (p : Plan) (l : T (lawful p)) where
  rewritten_leaves : all_locked p ≡ false → clause_lost p ≡ false → Leaves file p (rewritten p file old)
  unfolding Leaves rewritten pad_with
  rewritten_leaves a b =
      (ap read (take-append_seam (write (squeezed p)) _) ∙ read_write (squeezed p) (squeezed_lawful p l a b), drop-append_seam (write (squeezed p)) _)

  left_by : (a b : Bool) → all_locked p ≡ a → clause_lost p ≡ b
      → (cond a (turned_away 71 0 file old) (cond b (turned_away 72 0 file old) (rewritten p file old))).refusal ≡ 0
      → Leaves file p (cond a (turned_away 71 0 file old) (cond b (turned_away 72 0 file old) (rewritten p file old)))
  unfolding turned_away
  left_by true b e f h = absurd (omega arith)
  left_by false true e f h = absurd (omega arith)
  left_by false false e f h = rewritten_leaves e f

small_by : (s : Bool) (file old : List ℕ) (p : Plan) (r : Reading Plan) → T (lawful p) → r ≡ accepted p
    → (cond s (turned_away 21 0 file old) (by_reading r file old)).refusal ≡ 0 → Leaves file p (cond s (turned_away 21 0 file old) (by_reading r file old))
unfolding turned_away by_reading squeezing
small_by true file old p r l e h = absurd (omega arith)
small_by false file old p r l e h =
    subst (λ x. Leaves file p (by_reading x file old)) (sym e)
    (left_by file old p l (all_locked p) (clause_lost p) refl refl (ap (λ x. (by_reading x file old).refusal) (sym e) ∙ h))

pub leaves_accepted : LeavesAccepted
unfolding Leaves outcome
leaves_accepted file old p e h = small_by (ltb (length old) list_size) file old p (read file) (accepted_lawful file p e) e h

-- ---- turned away

Same : List ℕ → List ℕ → Outcome → Type 0
Same file old o = (o.refusal ≡ 0 → ⊥) → (o.file ≡ file) × (o.old ≡ old)

same_plan : (a b : Bool) (p : Plan) (file old : List ℕ)
    → Same file old (cond a (turned_away 71 0 file old) (cond b (turned_away 72 0 file old) (rewritten p file old)))
unfolding Same turned_away rewritten
same_plan true b p file old n = (refl, refl)
same_plan false true p file old n = (refl, refl)
same_plan false false p file old n = absurd (n refl)

same_file : (s : Bool) (r : Reading Plan) (file old : List ℕ) → Same file old (cond s (turned_away 21 0 file old) (by_reading r file old))
unfolding Same turned_away by_reading squeezing
same_file true r file old n = (refl, refl)
same_file false (refused k at) file old n = (refl, refl)
same_file false (accepted p) file old n = same_plan (all_locked p) (clause_lost p) p file old n

pub nothing_changed : NothingChanged
unfolding Same outcome
nothing_changed file old n = same_file (ltb (length old) list_size) (read file) file old n
