-- A variable that a clause does not name: its flip spoils and mends no part of the clause.
-- Assumes nothing.
use Prim.Native.Nat.{ℕ, ◌+◌, ◌*◌}
use native.Mathlib.Omega.{arith}
use mathlib.Core.Path.{◌≡◌, refl, ap₂}
use mathlib.Core.Bool.{false}
use mathlib.Core.List.{[], ◌∷◌}
use Rattle.plpb.specs.Lists.{any}
use Rattle.plpb.specs.Plan.{Rule, Clause, Assignment, named_in, names}
use Rattle.plpb.specs.Equations.{shares_of, product, clause_break, clause_make}
use Rattle.plpb.proofs.Unnamed.{unnamed_shares}
use Rattle.tallies.proofs.Narrow.{or_none}

-- Two products are equal where the factors are, for rules that do not name x.
product_unnamed : (x : ℕ) (f g : Rule → ℕ) → ((r : Rule) → named_in x r.terms ≡ false → f r ≡ g r) → (c : Clause) → names c x ≡ false → product f c ≡ product g c
unfolding product names any
product_unnamed x f g h [] e = refl
product_unnamed x f g h (r ∷ rs) e =
    let n = or_none (named_in x r.terms) (names rs x) e in
    ap₂ ◌*◌ (h r n.0) (product_unnamed x f g h rs n.1)

module _ (a : Assignment) (x : ℕ) where
  spoils_none : (r : Rule) → named_in x r.terms ≡ false → (shares_of a x r).e + (shares_of a x r).g ≡ (shares_of a x r).g
  spoils_none r e = omega (arith, (unnamed_shares a x r e).0)

  mends_none : (r : Rule) → named_in x r.terms ≡ false → (shares_of a x r).f + (shares_of a x r).g ≡ (shares_of a x r).g
  mends_none r e = omega (arith, (unnamed_shares a x r e).1)

  pub no_break : (c : Clause) → names c x ≡ false → clause_break a x c ≡ 0
  unfolding clause_break
  no_break c e = omega (arith, product_unnamed x (λ r. (shares_of a x r).e + (shares_of a x r).g) (λ r. (shares_of a x r).g) spoils_none c e)

  pub no_make : (c : Clause) → names c x ≡ false → clause_make a x c ≡ 0
  unfolding clause_make
  no_make c e = omega (arith, product_unnamed x (λ r. (shares_of a x r).f + (shares_of a x r).g) (λ r. (shares_of a x r).g) mends_none c e)
