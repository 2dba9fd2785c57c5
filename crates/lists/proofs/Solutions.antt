-- "The plan's solutions are the choices of sites that obey the zone list", and what a choice costs is the metres carried for it.
-- Assumes nothing.
use Prim.Native.Nat.{ℕ, zero, suc, ◌+◌}
use native.Mathlib.Omega.{arith}
use mathlib.Core.Path.{◌≡◌, refl, sym, ap, ap₂, ◌∙◌}
use mathlib.Core.Bool.{Bool, true, false, cond}
use mathlib.Core.List.{List, [], ◌∷◌}
use lib.Dec.{leb, eqb, leb-suc-zero, eqb-suc-zero}
use lib.IntN.{pos}
use lib.ListN.{get_or, drop}
use borrow.Author.Tests.{eqb-true}
use Rattle.plpb.specs.Lists.{◌and◌, ◌or◌, any, sum_by}
use Rattle.plpb.specs.Plan.{Term, value, total, at_least, at_most, rule_holds, clause_holds, satisfies, cost}
use Rattle.plpb.proofs.Lists.{or_false, true_and, false_and, all_map, all_same, count_is_sum}
use Rattle.lists.specs.Lists.{Site, Zone, in_zone, terms_by, zone_terms, between, none_at_all, zone_clause, plan_for}
use Rattle.lists.specs.Choices.{chosen, chosen_in, obeys_zone, obeys_zones, carried}

-- The sites chosen weigh what those behind the first weigh, and the first if it is chosen.
chosen_none : (w : Site → ℕ) (ss : List Site) → sum_by w (chosen [] ss) ≡ 0
unfolding sum_by chosen
chosen_none w [] = refl
chosen_none w (s ∷ ss) = refl

chosen_first : (w : Site → ℕ) (a : List Bool) (j : ℕ) (s : Site) (ss : List Site) → sum_by w (chosen (drop j a) (s ∷ ss)) ≡ cond (get_or a j false) (w s) 0 + sum_by w (chosen (drop (suc j) a) ss)
unfolding sum_by chosen
chosen_first w [] zero s ss = omega (arith, chosen_none w ss)
chosen_first w [] (suc j) s ss = omega (arith, chosen_none w ss)
chosen_first w (true ∷ a) zero s ss = refl
chosen_first w (false ∷ a) zero s ss = omega arith
chosen_first w (b ∷ a) (suc j) s ss = chosen_first w a j s ss

total_none : (w : Site → ℕ) (a : List Bool) (j : ℕ) → total a [] ≡ pos (sum_by w (chosen (drop j a) []))
unfolding total sum_by chosen
total_none w a j = refl

-- A term more, or none where the weight is 0.
term_more :
    (t b : Bool) (n k : ℕ) (x : Term) (a : List Bool) (ts : List Term) → eqb n 0 ≡ t → value a x.variable ≡ b → x.weight ≡ pos n
    → total a ts ≡ pos k → total a (cond t ts (x ∷ ts)) ≡ pos (cond b n 0 + k)
unfolding total
term_more true b n k x a ts e f g h = h ∙ ap pos (sym (go b (eqb-true n 0 e)))
  where
    go : (b : Bool) → n ≡ 0 → cond b n 0 + k ≡ k
    go true z = omega arith
    go false z = omega arith
term_more false true n k x a ts e f g h = rw (f, g, h)
term_more false false n k x a ts e f g h = rw (f, h)

-- A sum of terms is what the sites chosen weigh.
total_by : (w : Site → ℕ) (a : List Bool) (j : ℕ) (ss : List Site) → total a (terms_by w (suc j) ss) ≡ pos (sum_by w (chosen (drop j a) ss))
unfolding terms_by value
total_by w a j [] = total_none w a j
total_by w a j (s ∷ ss) =
    term_more (eqb (w s) 0) (get_or a j false) (w s) (sum_by w (chosen (drop (suc j) a) ss)) (record { variable = suc j; weight = pos (w s) }) a
    (terms_by w (suc (suc j)) ss) refl refl refl (total_by w a (suc j) ss)
    ∙ ap pos (sym (chosen_first w a j s ss))

pub total_chosen : (w : Site → ℕ) (a : List Bool) (ss : List Site) → total a (terms_by w 1 ss) ≡ pos (sum_by w (chosen a ss))
total_chosen w a ss = total_by w a 0 ss

-- .. so that a zone's terms count the sites chosen in it.
zone_total : (a : List Bool) (ss : List Site) (name : List ℕ) → total a (zone_terms ss name) ≡ pos (chosen_in a ss name)
unfolding chosen_in
zone_total a ss name =
    total_chosen (λ s. cond (in_zone name s) 1 0) a ss ∙ ap pos (sym (count_is_sum (in_zone name) (chosen a ss)))

none_is_zero : (k : ℕ) → leb k 0 ≡ eqb k 0
none_is_zero zero = refl
none_is_zero (suc k) = leb-suc-zero k ∙ sym (eqb-suc-zero k)

module _ (a : List Bool) (ss : List Site) (z : Zone) (k : ℕ) (e : total a (zone_terms ss z.name) ≡ pos k) where
  between_holds : rule_holds a (between ss z) ≡ leb z.least k and leb k z.most
  unfolding rule_holds between at_least at_most
  between_holds = rw e

  none_holds : rule_holds a (none_at_all ss z) ≡ eqb k 0
  unfolding rule_holds none_at_all at_least at_most ◌and◌
  none_holds = rw e (none_is_zero k)

  either_holds :
      (m : Bool) → any (rule_holds a) (between ss z ∷ cond m (none_at_all ss z ∷ []) []) ≡ (leb z.least k and leb k z.most) or (m and eqb k 0)
  unfolding any
  either_holds true = ap₂ (λ (x y : Bool). x or (y or false)) between_holds none_holds ∙ rw (or_false (eqb k 0), true_and (eqb k 0))
  either_holds false = ap (λ (x : Bool). x or false) between_holds ∙ rw (false_and (eqb k 0))

zone_holds : (a : List Bool) (ss : List Site) (z : Zone) → clause_holds a (zone_clause ss z) ≡ obeys_zone a ss z
unfolding clause_holds zone_clause obeys_zone
zone_holds a ss z = either_holds a ss z (chosen_in a ss z.name) (zone_total a ss z.name) z.may_be_empty

-- The solutions, told without the plan.
pub solutions : (choice : List Bool) (ss : List Site) (zs : List Zone) → satisfies choice (plan_for ss zs) ≡ obeys_zones choice ss zs
unfolding satisfies plan_for obeys_zones
solutions a ss zs = all_map (clause_holds a) (zone_clause ss) zs ∙ all_same (λ z. clause_holds a (zone_clause ss z)) (obeys_zone a ss) zs (zone_holds a ss)

-- The cost of a choice.
pub costs_metres : (choice : List Bool) (ss : List Site) (zs : List Zone) → cost (plan_for ss zs) choice ≡ pos (carried choice ss)
unfolding cost plan_for carried
costs_metres a ss zs = total_chosen (λ s. s.metres) a ss
