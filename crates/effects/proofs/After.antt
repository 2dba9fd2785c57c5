-- A rule has no part false after a flip exactly where it holds then.
-- Assumes nothing.
use Prim.Native.Nat.{ℕ, ◌+◌}
use mathlib.Core.Path.{◌≡◌, sym, ap, ap₂, ◌∙◌}
use mathlib.Core.Bool.{not}
use lib.Dec.{ltb}
use Rattle.plpb.specs.Lists.{◌and◌, ◌or◌}
use Rattle.plpb.specs.Plan.{Rule, Assignment}
use Rattle.plpb.specs.Normal.{below_size}
use Rattle.plpb.specs.Equations.{over}
use Rattle.plpb.proofs.Lists.{not_and}
use Rattle.order.specs.Breaks.{false_after}
use Rattle.order.proofs.Thresholds.{some_chosen, some_of_two, after_flip}
use Rattle.counting.specs.Bound.{bound_of}
use Rattle.rules.specs.declared.state.State.{State}
use Rattle.rules.specs.Places.{standing_in}
use Rattle.rules.specs.State.{Balanced, StateOf, holds_in, shares_from, Turned}
use Rattle.rules.proofs.States.{shares_rule}

false_after_lem : (s r : State) → Balanced s → Turned s r → ltb 0 ((shares_from s).e + (shares_from s).g) ≡ not (holds_in r)
unfolding shares_from holds_in
false_after_lem s r b t =
    ap (ltb 0) (after_flip (standing_in s.stands) s.n s.p r.n r.p (bound_of s.a) (bound_of s.b) b.loses b.gains t.falses t.trues)
    ∙ some_of_two (over r.n (bound_of s.a)) (over r.p (bound_of s.b))
    ∙ ap₂ ◌or◌ (some_chosen r.n (bound_of s.a)) (some_chosen r.p (bound_of s.b))
    ∙ sym (not_and (below_size r.n (bound_of s.a)) (below_size r.p (bound_of s.b)))
    ∙ ap₂ (λ A B. not (below_size r.n (bound_of A) and below_size r.p (bound_of B))) (sym t.lower) (sym t.upper)

pub fails_by_state : {a : Assignment} {x : ℕ} {q : Rule} {s r : State} → StateOf a x q s → Turned s r → false_after a x q ≡ not (holds_in r)
unfolding false_after
fails_by_state {a} {x} {q} {s} {r} h t = ap (λ z. ltb 0 (z.e + z.g)) (sym (shares_rule h)) ∙ false_after_lem s r h.balanced t
