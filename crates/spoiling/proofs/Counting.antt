-- What the group at a place counts, and sums that are given up.
-- Assumes nothing.
use Prim.Native.Nat.{ℕ, zero, suc, ◌+◌, ◌-◌, ◌≤◌, ◌<◌}
use native.Mathlib.Omega.{arith}
use mathlib.Core.Path.{◌≡◌, sym, ap, ◌∙◌, subst}
use mathlib.Core.Bool.{false}
use mathlib.Core.List.{List, [], ◌∷◌, ◌++◌, map}
use lib.ListN.{length, get_or, length-map}
use Rattle.std.specs.Prelude.{Some, None}
use Rattle.plpb.specs.Lists.{all, sum_by}
use Rattle.plpb.specs.Plan.{Clause, Plan, Assignment, names, rising, numbers_rise}
use Rattle.plpb.specs.Tallies.{rules_of}
use Rattle.plpb.proofs.Lists.{all_at}
use Rattle.plpb.specs.Equations.{clause_break, clause_make}
use Rattle.plpb.specs.Count.{cap, capped, capped_break}
use Rattle.plpb.proofs.Capped.{capped_large, capped_most}
use Rattle.order.specs.Order.{Place, in_rules, order, run_end, cut, rule_at, first_rule, has_several}
use Rattle.order.specs.Grouped.{naming}
use Rattle.order.specs.Blocks.{Group}
use Rattle.order.proofs.Blocks.{Next, next, places_from, cut_cons, cut_parts}
use Rattle.order.proofs.Runs.{rule_in_clause}
use Rattle.order.proofs.Shares.{group_rules}
use Rattle.order.proofs.Groups.{single_break, single_make}
use Rattle.format.specs.Tables.{plan_of_tables}
use Rattle.rules.specs.declared.state.State.{State}
use Rattle.rules.specs.State.{StateOf, shares_from}
use Rattle.rules.proofs.States.{shares_rule}
use Rattle.columns.specs.Columns.{no_place}
use Rattle.effects.specs.Kept.{lent_bits, Going, place_at, place_rule, Visited}
use Rattle.effects.proofs.Runs.{run_inside}
use Rattle.effects.proofs.Places.{place_named}
use Rattle.groups.specs.Stretch.{group_end}
use Rattle.effects.specs.declared.run.Run.{Run}
use Rattle.effects.specs.Run.{plan}
use Rattle.groups.proofs.Stretch.{along_length}
use Rattle.freely.proofs.Free.{single_clause}
use Rattle.freely.proofs.Sums.{Summing, sum_begins, sum_most, break_counted}
use Rattle.spoiling.specs.Along.{Starts, UpTo}

-- ---- the places of a group

module _ {tables terms assignment tallies marks : List ℕ} {x : ℕ} (g : Going tables terms assignment tallies marks x) {count : Clause → ℕ} (none : (k : Clause) → names k x ≡ false → count k ≡ 0) {whole k sum : ℕ} (s : Summing (plan_of_tables tables terms) x count whole k sum) (here : k < run_end (plan_of_tables tables terms) x) where
  abbrev p : Plan
  p = plan_of_tables tables terms

  abbrev c : ℕ
  c = (place_at tables terms k).clause

  abbrev j : ℕ
  j = group_end (plan_of_tables tables terms) x k

  begins : Group p x c k j
  begins = sum_begins g none s here

  long : run_end p x ≤ length (order p)
  long = run_inside g

  n : Next p x s.rise s.along.clause (get_or (order p) k no_place)
  n = next p x s.rise (length p.clauses - s.along.clause) s.along.clause (omega (arith, s.along.inside)) (get_or (order p) k no_place) (cut (k + 1) (run_end p x) (order p)) (sym s.along.places ∙ cut_cons k (run_end p x) (order p) no_place here long)

  abbrev places : List Place
  places = in_rules x c (first_rule p.clauses c) (get_or p.clauses c [])

  split : cut k (run_end p x) (order p) ≡ places ++ places_from p x s.rise (suc c)
  split = s.along.places ∙ n.parts

  size : k + length places ≡ j
  size =
      let o = begins in
      let ks = p.clauses in
      let rises = all_at (all (λ q. rising q.terms)) ks c [] (unfold numbers_rise in s.rise) n.there in
      let same : map (λ q. rule_at p q.rule) places ≡ naming x (get_or ks c []) = group_rules p x c (first_rule ks c) (get_or ks c []) rises (λ i l. unfold rule_at rules_of in rule_in_clause ks c i n.there l) in
      let long : length places ≡ j - k = sym (length-map places (λ q. rule_at p q.rule)) ∙ ap length (same ∙ sym o.rules) ∙ along_length p k j (omega (arith, o.some)) (omega (arith, o.last, run_inside g)) in
      omega (arith, long, o.some)

  group_places : cut k j (order p) ≡ places
  group_places = ap (λ e. cut k e (order p)) (sym size) ∙ (cut_parts k (run_end p x) (order p) places (places_from p x s.rise (suc c)) s.along.last long split).1

pub sum_starts : (run : Run) {count : Clause → ℕ} → ((k : Clause) → names k run.x ≡ false → count k ≡ 0) → {whole k sum : ℕ} → Summing (plan run) run.x count whole k sum → k < run.end → Starts run k
sum_starts run none {k = k} s h =
    let here : k < run_end (plan run) run.x = omega (arith, run.ends) in
    record { begins = sum_begins run.going none s here; places = group_places run.going none s here }

-- ---- what a group counts

-- A sum is no less than what one counts.
sum_member : {A : Type 0} (f : A → ℕ) (xs : List A) (i : ℕ) (d : A) → i < length xs → f (get_or xs i d) ≤ sum_by f xs
unfolding sum_by
sum_member f [] i d h = absurd (omega arith)
sum_member f (y ∷ ys) zero d h = omega arith
sum_member f (y ∷ ys) (suc i) d h = omega (arith, sum_member f ys i d (omega arith))

module _ {tables terms assignment tallies marks : List ℕ} {x k : ℕ} (v : Visited tables terms assignment tallies marks x k) where
  abbrev a : Assignment
  a = lent_bits tables terms assignment

  abbrev clause : Clause
  clause = get_or (plan_of_tables tables terms).clauses (place_at tables terms k).clause []

  -- A clause of one rule counts what the rule does.
  pub single_count : has_several (get_or (plan_of_tables tables terms).clauses (place_at tables terms k).clause []) ≡ false → {z : State} {n : ℕ} → StateOf (lent_bits tables terms assignment) x (place_rule tables terms k) z → n ≡ capped (shares_from z).e → n ≡ capped (clause_break (lent_bits tables terms assignment) x (get_or (plan_of_tables tables terms).clauses (place_at tables terms k).clause []))
  single_count h q e =
      e ∙ ap (λ t. capped t.e) (shares_rule q) ∙ ap capped (sym (single_break a x (place_rule tables terms k)) ∙ ap (clause_break a x) (sym (single_clause v h)))

  pub single_mend : has_several (get_or (plan_of_tables tables terms).clauses (place_at tables terms k).clause []) ≡ false → {z : State} {n : ℕ} → StateOf (lent_bits tables terms assignment) x (place_rule tables terms k) z → n ≡ capped (shares_from z).f → n ≡ capped (clause_make (lent_bits tables terms assignment) x (get_or (plan_of_tables tables terms).clauses (place_at tables terms k).clause []))
  single_mend h q e =
      e ∙ ap (λ t. capped t.f) (shares_rule q) ∙ ap capped (sym (single_make a x (place_rule tables terms k)) ∙ ap (clause_make a x) (sym (single_clause v h)))

  -- Where that is past the cap, the whole count is cut.
  pub single_past : has_several (get_or (plan_of_tables tables terms).clauses (place_at tables terms k).clause []) ≡ false → {z : State} → StateOf (lent_bits tables terms assignment) x (place_rule tables terms k) z → cap < (shares_from z).e
      → suc cap ≡ capped_break (plan_of_tables tables terms) (lent_bits tables terms assignment) x
  single_past h q l =
      let here : (shares_from _).e ≡ clause_break a x clause = ap (λ t. t.e) (shares_rule q) ∙ sym (single_break a x (place_rule tables terms k)) ∙ ap (clause_break a x) (sym (single_clause v h)) in
      sym (capped_large _ (omega (arith, here, l, sum_member (clause_break a x) (plan_of_tables tables terms).clauses (place_at tables terms k).clause [] (place_named v).clause_there))) ∙ break_counted v.going

-- ---- a sum that is given up

module _ {tables terms assignment tallies marks : List ℕ} {x : ℕ} (g : Going tables terms assignment tallies marks x) {count : Clause → ℕ} (none : (k : Clause) → names k x ≡ false → count k ≡ 0) {whole k sum : ℕ} (s : Summing (plan_of_tables tables terms) x count whole k sum) (stays : capped sum ≡ sum) where
  -- .. above the limit,
  pub given_up : {limit r : ℕ} → r ≡ sum → limit < r → UpTo limit whole None
  given_up {limit} {r} e h = sum_most g none s limit (omega (arith, e, stays))

  most : whole ≤ suc cap
  most = subst (λ n. n ≤ suc cap) s.along.counted (capped_most _)

  -- or once it is cut.
  pub given_cut : {limit r : ℕ} → r ≡ sum → cap < sum → r ≤ limit → UpTo limit whole (Some r)
  given_cut {limit} {r} e h l = (omega (arith, e, most, sum_most g none s cap (omega (arith, stays)), capped_most sum, stays), l)

pub given_whole : {limit whole r : ℕ} → r ≡ whole → r ≤ limit → UpTo limit whole (Some r)
given_whole e l = (e, l)
