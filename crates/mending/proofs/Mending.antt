-- A clause mends nothing where one of its rules holds, and nothing where none that names the variable mends a part.
-- Assumes nothing.
use Prim.Native.Nat.{ℕ, ◌+◌, ◌*◌, ◌-◌, ◌≤◌, ◌<◌}
use native.Mathlib.Nat.{zero-mul, mul-zero}
use native.Mathlib.Omega.{arith}
use mathlib.Core.Path.{◌≡◌, refl, sym, ap, ap₂, ◌∙◌}
use mathlib.Core.Bool.{Bool, true, false, cond}
use mathlib.Core.List.{List, [], ◌∷◌}
use lib.Dec.{T}
use lib.ListN.{length, get_or}
use borrow.Author.Tests.{ltb-false, eqb-true}
use Rattle.plpb.specs.Lists.{◌or◌, count, any, all}
use Rattle.plpb.specs.Plan.{Bound, Rule, Clause, Assignment, rule_holds, rising, numbers_rise}
use Rattle.plpb.specs.Expansion.{parts, is_true}
use Rattle.plpb.specs.Equations.{Standing, out, on, off, over, lost, gained, shares, shares_of, product, clause_make}
use Rattle.plpb.proofs.Lists.{and_left, and_right, count_cons, count_nil, all_by_count, all_at, false_T}
use Rattle.plpb.proofs.Theorem1.{is_false, mended_and_left}
use Rattle.plpb.proofs.Theorem2.{rule_holds_lem}
use Rattle.plpb.proofs.Equations.{equations}
use Rattle.order.specs.Grouped.{naming, others}
use Rattle.order.specs.Blocks.{rules_along, Group}
use Rattle.order.proofs.Shares.{make_by_naming}
use Rattle.counting.specs.Bound.{bound_of}
use Rattle.format.specs.Tables.{plan_of_tables}
use Rattle.rules.specs.declared.state.State.{State}
use Rattle.rules.specs.Places.{standing_in}
use Rattle.rules.specs.State.{Balanced, Turned, opposite, shares_from}
use Rattle.effects.specs.Kept.{lent_bits}
use Rattle.effects.proofs.Runs.{going_rises, going_bits}
use Rattle.groups.proofs.Stretch.{Stretch}
use Rattle.mending.specs.Mends.{mends_part}

module _ (a : Assignment) (x : ℕ) (low : 0 < x) (high : x ≤ length a) where
  -- No part of a rule that holds is false.
  held_none : (q : Rule) → T (rising q.terms) → rule_holds a q ≡ true → (shares_of a x q).f + (shares_of a x q).g ≡ 0
  unfolding is_false
  held_none q rise h =
      let t = equations a x q rise low high in
      ap₂ ◌+◌ (sym t.mended) (sym t.left) ∙ mended_and_left a x (parts q)
      ∙ eqb-true _ 0 (sym (all_by_count (is_true a) (parts q)) ∙ sym (rule_holds_lem a q) ∙ h)

  held_product : (k : Clause) → T (all (λ q. rising q.terms) k) → 0 < count (rule_holds a) k → product (λ q. (shares_of a x q).f + (shares_of a x q).g) k ≡ 0
  unfolding product all
  held_product [] t h = absurd (omega (arith, count_nil (rule_holds a)))
  held_product (q ∷ qs) t h = at (rule_holds a q) refl (λ l. held_product qs (and_right (rising q.terms) _ t) l)
    where
      at : (b : Bool) → rule_holds a q ≡ b → (0 < count (rule_holds a) qs → product (λ q. (shares_of a x q).f + (shares_of a x q).g) qs ≡ 0)
          → ((shares_of a x q).f + (shares_of a x q).g) * product (λ q. (shares_of a x q).f + (shares_of a x q).g) qs ≡ 0
      at true e more = ap (λ n. n * product (λ q. (shares_of a x q).f + (shares_of a x q).g) qs) (held_none q (and_left (rising q.terms) _ t) e) ∙ zero-mul _
      at false e more =
          let rest : count (rule_holds a) (q ∷ qs) ≡ 0 + count (rule_holds a) qs = count_cons (rule_holds a) q qs ∙ ap (λ b. cond b 1 0 + count (rule_holds a) qs) e in
          ap (λ n. ((shares_of a x q).f + (shares_of a x q).g) * n) (more (omega (arith, rest))) ∙ mul-zero _

  pub held_mends : (k : Clause) → T (all (λ q. rising q.terms) k) → 0 < count (rule_holds a) k → clause_make a x k ≡ 0
  unfolding clause_make
  held_mends k t h = omega (arith, held_product k t h)

-- What is taken off may be put back.
pub put_back : (m w : ℕ) → w ≤ m → m - w + w ≡ m
put_back m w h = omega arith

-- What a flip mends is what the flip back spoils.
over_turned : (z : Standing) (n p m q : ℕ) (A B : Bound ℕ) → lost z ≤ p → gained z ≤ n → m + gained z ≡ n + lost z → q + lost z ≡ p + gained z → (shares (opposite z) m q A B).e ≡ (shares z n p A B).f
unfolding shares opposite lost gained
over_turned out n p m q A B l g e f = refl
over_turned (on w) n p m q A B l g e f =
    let all : q + w ≡ p = omega (arith, f) in
    let rest : q ≡ p - w = omega (arith, f) in
    ap₂ (λ u v. over u B - over v B) all rest
over_turned (off w) n p m q A B l g e f =
    let all : m + w ≡ n = omega (arith, e) in
    let rest : m ≡ n - w = omega (arith, e) in
    ap₂ (λ u v. over u A - over v A) all rest

pub turned_spoils : {s r : State} → Balanced s → Turned s r → (shares_from r).e ≡ (shares_from s).f
unfolding shares_from
turned_spoils {s} {r} b t = rw (t.stands, t.lower, t.upper) (over_turned (standing_in s.stands) s.n s.p r.n r.p (bound_of s.a) (bound_of s.b) b.loses b.gains t.falses t.trues)

neither : (b c : Bool) → b or c ≡ false → (b ≡ false) × (c ≡ false)
unfolding ◌or◌
neither true c h = absurd (false_T h tt)
neither false c h = (refl, h)

module _ (a : Assignment) (x : ℕ) where
  none_product : (k : Clause) → any (mends_part a x) k ≡ false → product (λ q. (shares_of a x q).f + (shares_of a x q).g) k ≡ product (λ q. (shares_of a x q).g) k
  unfolding product any mends_part
  none_product [] h = refl
  none_product (q ∷ qs) h =
      let o = neither _ _ h in
      let z : (shares_of a x q).f + (shares_of a x q).g ≡ (shares_of a x q).g = omega (arith, ltb-false 0 (shares_of a x q).f o.0) in
      ap₂ ◌*◌ z (none_product qs o.1)

  pub none_mends : (k : Clause) → any (mends_part a x) (naming x k) ≡ false → clause_make a x k ≡ 0
  none_mends k h =
      let none : product (λ q. (shares_of a x q).f + (shares_of a x q).g) (naming x k) - product (λ q. (shares_of a x q).g) (naming x k) ≡ 0 = omega (arith, none_product (naming x k) h) in
      make_by_naming a x k ∙ ap (λ n. n * product (λ q. (shares_of a x q).g) (others x k)) none ∙ zero-mul _

module _ {tables terms assignment tallies marks : List ℕ} {x k j : ℕ} (s : Stretch tables terms assignment tallies marks x k j) {c : ℕ} (g : Group (plan_of_tables tables terms) x c k j) where
  pub clause_held : 0 < count (rule_holds (lent_bits tables terms assignment)) (get_or (plan_of_tables tables terms).clauses c []) → clause_make (lent_bits tables terms assignment) x (get_or (plan_of_tables tables terms).clauses c []) ≡ 0
  unfolding numbers_rise
  clause_held h =
      held_mends (lent_bits tables terms assignment) x (omega (arith, s.going.low)) (going_bits s.going) _
      (all_at (all (λ q. rising q.terms)) (plan_of_tables tables terms).clauses c [] (going_rises s.going) g.clause_there) h

  pub group_none : any (mends_part (lent_bits tables terms assignment) x) (rules_along (plan_of_tables tables terms) k j) ≡ false → clause_make (lent_bits tables terms assignment) x (get_or (plan_of_tables tables terms).clauses c []) ≡ 0
  group_none h = none_mends (lent_bits tables terms assignment) x _ (rw g.rules at h)
