-- Noise leads to the pick among the least, as document 01 settles it ("Tempting, and wrong: [..] taking noise as the chance of the random
-- step, as other walkers do"): without noise every pick is among all.
-- Assumes nothing.
use Prim.Native.Nat.{ℕ}
use mathlib.Core.Path.{◌≡◌, ap, fun_ext}
use mathlib.Core.List.{List}
use native.Mathlib.Omega.{arith}
use borrow.Author.Tests.{le-ltb}
use Rattle.plpb.specs.Plan.{Plan}
use Rattle.plpb.specs.Walk.{pick, ◌>>=◌}
use Rattle.plpb.specs.Settings.{Settings}
use Rattle.plpb.specs.Try.{Try}
use Rattle.plpb.specs.Choice.{pick_from, noisy_choice}

pub without_noise : (s : Settings) (p : Plan) (t : Try) (xs : List ℕ) → s.noise ≡ 0 → noisy_choice s p t xs ≡ pick 1_000 (λ r. pick_from 0 xs)
unfolding noisy_choice ◌>>=◌
without_noise s p t xs e = ap (pick 1_000) (fun_ext (λ r. rw (le-ltb r s.noise (omega arith))))
