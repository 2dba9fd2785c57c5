-- `festival::has_room` meets its contract: each test is one of the definition's.
-- Assumes nothing.
use Prim.Native.Nat.{ℕ, ◌≤◌, ◌<◌}
use mathlib.Core.Path.{◌≡◌, refl}
use mathlib.Core.Bool.{Bool, true, false, cond, not}
use mathlib.Core.Logic.{◌⊎◌, ⊎_elim}
use lib.Dec.{leb, ltb}
use borrow.Author.Tests.{lt-ltb, le-ltb}
use Rattle.std.proofs.lemmas.Bool.Decides.{leb_tells}
use Rattle.plpb.specs.Lists.{◌or◌}
use Rattle.festival.specs.Festival.{room_refusal}
use Rattle.festival.proofs.has_room.Goals as goal

not_le : (a b : ℕ) → ltb a b ≡ not (leb b a)
not_le a b = ⊎_elim (λ h. rw (h.0, le-ltb a b h.1) refl) (λ h. rw (h.0, lt-ltb a b h.1) refl) (leb_tells b a)

turned : (b : Bool) → ◌≡◌ {A = ℕ} (cond (not b) 21 0) (cond b 0 21)
turned true = refl
turned false = refl

last_test : (s a n : ℕ) → 192 ≤ s → 4_096 ≤ a → room_refusal s a n ≡ cond (leb 320 n) 0 21
unfolding room_refusal ◌or◌
last_test s a n h k = rw (le-ltb s 192 h, le-ltb a 4_096 k, not_le n 320) (turned (leb 320 n))

first_tests : (s a n : ℕ) → (192 ≤ s × a < 4_096) ⊎ (s < 192) → room_refusal s a n ≡ 21
unfolding room_refusal ◌or◌
first_tests s a n = ⊎_elim (λ h. rw (le-ltb s 192 h.0, lt-ltb a 4_096 h.1) refl) (λ h. rw (lt-ltb s 192 h) refl)

pub returns-then-assignments-ge-ALL_ASSIGNMENTS : goal.returns-then-assignments-ge-ALL_ASSIGNMENTS
returns-then-assignments-ge-ALL_ASSIGNMENTS c =
    last_test c.args.settings c.args.assignments c.args.answers c.if-assignments-ge-ALL_ASSIGNMENTS.true.0 c.if-assignments-ge-ALL_ASSIGNMENTS.true.1

pub returns-else-assignments-ge-ALL_ASSIGNMENTS : goal.returns-else-assignments-ge-ALL_ASSIGNMENTS
returns-else-assignments-ge-ALL_ASSIGNMENTS c =
    rw (c.if-assignments-ge-ALL_ASSIGNMENTS.false-raw)
    (first_tests c.args.settings c.args.assignments c.args.answers c.if-assignments-ge-ALL_ASSIGNMENTS.either)
