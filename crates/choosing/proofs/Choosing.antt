-- Laws of the choice that the settings name.
-- Assumes nothing.
use Prim.Native.Nat.{ℕ, suc, ◌-◌}
use native.Mathlib.Omega.{arith}
use mathlib.Core.Path.{◌≡◌}
use mathlib.Core.List.{List}
use Rattle.plpb.specs.Plan.{Plan}
use Rattle.plpb.specs.Settings.{Settings}
use Rattle.plpb.specs.Try.{Try}
use Rattle.plpb.specs.Choice.{skc_choice, novelty_choice, choice_by}
use Rattle.settings.specs.Settings.{heuristic_of}
use Rattle.std.specs.Prelude.{Result}
use Rattle.numbers.specs.declared.Short.{Short}
use Rattle.picking.specs.Outcome.{Chosen, Chooses}

module _ (s : Settings) (p : Plan) (t : Try) (last : ℕ → ℕ) (xs : List ℕ) {ns : List ℕ} {used n : ℕ} (h : ℕ) {r : Result Chosen Short} where
  pub set_skc : h ≡ 0 → Chooses (skc_choice s p t xs) ns used n r → Chooses (choice_by (heuristic_of h) s p t last xs) ns used n r
  unfolding heuristic_of choice_by
  set_skc e c = rw e c

  pub set_novelty : (h ≡ 0 → ⊥) → Chooses (novelty_choice s p t.bits last xs) ns used n r → Chooses (choice_by (heuristic_of h) s p t last xs) ns used n r
  unfolding heuristic_of choice_by
  set_novelty e c = let one : h ≡ suc (h - 1) = omega (arith, e) in rw one c
