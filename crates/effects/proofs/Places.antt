-- A place of a variable's run: its word tells the place, its side of the rule and whether its clause has several rules; the weight stands beside it.
-- Assumes nothing.
use Prim.Native.Nat.{ℕ, ◌+◌, ◌*◌, ◌-◌, ◌/◌, ◌%◌, ◌≤◌, ◌<◌}
use native.Mathlib.Omega.{arith}
use mathlib.Core.Path.{◌≡◌, sym, ap, ap₂, ◌∙◌, subst}
use mathlib.Core.Bool.{Bool, true, false, not, cond}
use mathlib.Core.List.{List, [], map}
use lib.Dec.{T, leb}
use lib.ListN.{length, get_or, drop, length-map, get_or-map}
use lib.Seq.{get_or-take, get_or-drop}
use Rattle.plpb.specs.Plan.{Term, Plan, Assignment, value, rising}
use Rattle.plpb.specs.Normal.{is_negative, literal, literal_true, size}
use Rattle.plpb.specs.Equations.{on, off, standing}
use Rattle.plpb.specs.Tallies.{rules_of}
use Rattle.plpb.proofs.Lists.{all_at}
use Rattle.words.specs.Words.{word_at}
use Rattle.order.specs.Order.{Place, occurrences, order, run_end, cut, no_term, rule_at, term_at, is_place, names_at, has_several, place_word, word_place}
use Rattle.order.specs.Breaks.{spoils_part}
use Rattle.order.proofs.Runs.{Named, named_of, named_below, occurrences_named, order_places}
use Rattle.order.proofs.Tested.{run_cut, order_length, end_next}
use Rattle.order.proofs.Along.{standing_at_lem}
use Rattle.order.proofs.Words.{Small}
use Rattle.format.specs.Tables.{plan_of_tables}
use Rattle.format.specs.Layout.{entry_at, order_at, term_room}
use Rattle.format.proofs.Bools as bools
use Rattle.format.proofs.Lawful.{RoomyPlan, weight_small, weight_some}
use Rattle.format.specs.Limits.{term_within}
use Rattle.format.proofs.Naming.{place_small}
use Rattle.format.proofs.Spells.{spells_at}
use Rattle.format.proofs.ReadBack.{holds_arranged}
use Rattle.format.proofs.GoodOrder.{word_back}
use Rattle.rules.specs.declared.place.Stands.{Stands}
use Rattle.rules.specs.declared.state.State.{State}
use Rattle.rules.specs.Places.{standing_in}
use Rattle.rules.specs.State.{StateOf}
use Rattle.recount.proofs.Laid.{parts}
use Rattle.columns.specs.Layout.{need_at, weight_at}
use Rattle.columns.specs.Columns.{never, no_place}
use Rattle.effects.specs.Kept.{lent_bits, Walkable, place_at, place_rule, Visited, Countable, Told, stands_on}
use Rattle.effects.proofs.Words.{several_word, side_word, side_rule, side_stands}
use Rattle.effects.proofs.Runs.{byte_value, going_within, going_byte, run_inside, run_few}
use Rattle.effects.proofs.Kept.{rule_few, rule_rising, rule_within, rule_countable, told_state, need_spoils}

-- ---- one place

module _ {tables terms assignment tallies marks : List ℕ} {x k : ℕ} (v : Visited tables terms assignment tallies marks x k) where
  abbrev p : Plan
  p = plan_of_tables tables terms

  abbrev a : Assignment
  a = lent_bits tables terms assignment

  abbrev q : Place
  q = place_at tables terms k

  abbrev w : Walkable tables terms assignment tallies marks
  w = v.going.kept

  l : RoomyPlan p
  l = parts tables terms w.ready.laid

  inside : k < length (order p)
  inside = omega (arith, v.last, run_inside v.going)

  pub place_few : k < term_room
  place_few = omega (arith, v.last, run_few v.going)

  there : T (is_place p q)
  there = all_at (is_place p) (order p) k no_place (order_places p) inside

  small : Small q
  small = place_small p l q there

  pub place_entry : word_at tables (entry_at k) ≡ place_word (plan_of_tables tables terms) (place_at tables terms k)
  place_entry =
      spells_at (word_at tables) order_at (map (place_word p) (order p)) (holds_arranged p l tables terms w.ready.laid.holds).entries (place_word p no_place) k (rw (length-map (order p) (place_word p)) inside)
      ∙ get_or-map (place_word p) (order p) k no_place

  pub place_here : word_place (word_at tables (entry_at k)) ≡ place_at tables terms k
  place_here = ap word_place place_entry ∙ word_back p q small

  pub place_several : leb 2_147_483_648 (word_at tables (entry_at k)) ≡ has_several (get_or (plan_of_tables tables terms).clauses (place_at tables terms k).clause [])
  unfolding place_word
  place_several = ap (leb 2_147_483_648) place_entry ∙ several_word q small _ _

  b : ℕ
  b = run_end p (x - 1)

  at_run : get_or (occurrences p x) (k - b) no_place ≡ q
  unfolding cut b
  at_run =
      let back : b + (k - b) ≡ k = omega (arith, v.first) in
      ap (λ us. get_or us (k - b) no_place) (sym (run_cut p x v.going.low v.going.high))
      ∙ get_or-take (run_end p x - b) (drop b (order p)) (k - b) no_place (omega (arith, v.first, v.last))
      ∙ get_or-drop b (order p) (k - b) no_place ∙ ap (λ i. get_or (order p) i no_place) back

  pub place_named : Named (plan_of_tables tables terms) x (place_at tables terms k)
  unfolding b
  place_named =
      named_of p x q
      (subst (λ u. T (names_at p x u)) at_run
      (all_at (names_at p x) (occurrences p x) (k - run_end p (x - 1)) no_place (occurrences_named p x) (omega (arith, v.first, v.last, end_next p x v.going.low))))

  pub rule_below : (place_at tables terms k).rule < length (rules_of (plan_of_tables tables terms))
  rule_below = named_below p x q place_named

  abbrev t : Term
  t = term_at p q

  abbrev lit : Bool
  lit = literal_true a (literal t)

  -- The side,
  pub place_side : {o y : ℕ} → o ≡ word_at tables (entry_at k) → y ≡ get_or assignment (x - 1) 0 → 2 * (word_place o).rule + (o % 2 + y) % 2 ≡ 2 * (place_at tables terms k).rule + cond (literal_true (lent_bits tables terms assignment) (literal (term_at (plan_of_tables tables terms) (place_at tables terms k)))) 1 0
  unfolding place_word literal_true literal
  place_side {o} {y} e f =
      let byte : y ≡ cond (value a x) 1 0 = f ∙ byte_value p.variables assignment x v.going.low v.going.high (going_byte v.going) w.bits in
      rw (e ∙ place_entry, byte) (side_word q small _ (is_negative t.weight) (value a x) ∙ ap (λ i. 2 * q.rule + cond (cond (is_negative t.weight) (not (value a i)) (value a i)) 1 0) (sym place_named.named))

  -- the weight,
  pub place_weight : word_at marks (weight_at k) ≡ size (term_at (plan_of_tables tables terms) (place_at tables terms k))
  place_weight = w.weighed.each k (omega (arith, inside, order_length p (going_within v.going)))

  lawful_weight : (0 < size t) × (size t ≤ 1_000_000)
  unfolding term_within size term_at
  lawful_weight =
      let ts = (rule_at p q.rule).terms in
      let h = bools.T_true _ (all_at (term_within p.variables) ts q.term no_term (bools.true_T _ (rule_within w rule_below).terms.within) place_named.term_there) in
      (weight_some t.weight (bools.and_right _ _ h), weight_small t.weight (bools.and_right _ _ h))

  pub weight_some_word : 0 < word_at marks (weight_at k)
  weight_some_word = rw place_weight lawful_weight.0

  pub weight_small_word : word_at marks (weight_at k) < never
  weight_small_word = omega (arith, place_weight, lawful_weight.1)

  pub weight_low : word_at marks (weight_at k) ≤ 1_000_000
  weight_low = rw place_weight lawful_weight.1

  -- how the variable stands, and what its flip does.
  pub place_standing : standing (lent_bits tables terms assignment) x (place_rule tables terms k).terms ≡ cond (literal_true (lent_bits tables terms assignment) (literal (term_at (plan_of_tables tables terms) (place_at tables terms k)))) (on (word_at marks (weight_at k))) (off (word_at marks (weight_at k)))
  unfolding term_at rising
  place_standing = rw place_weight (standing_at_lem a x 0 q.term (rule_at p q.rule).terms (rule_rising w rule_below) place_named.term_there place_named.named)

  pub place_spoils : {side : ℕ} → side ≡ 2 * (place_at tables terms k).rule + cond (literal_true (lent_bits tables terms assignment) (literal (term_at (plan_of_tables tables terms) (place_at tables terms k)))) 1 0 → leb (word_at tallies (need_at side)) (word_at marks (weight_at k)) ≡ spoils_part (lent_bits tables terms assignment) x (place_rule tables terms k)
  place_spoils e = rw e (need_spoils w rule_below x (word_at marks (weight_at k)) lit weight_some_word weight_small_word place_standing)

  pub side_few : {side : ℕ} → side ≡ 2 * (place_at tables terms k).rule + cond (literal_true (lent_bits tables terms assignment) (literal (term_at (plan_of_tables tables terms) (place_at tables terms k)))) 1 0 → side < 2_050
  side_few {side} e = at lit e
    where
      at : (b : Bool) → side ≡ 2 * q.rule + cond b 1 0 → side < 2_050
      at true h = omega (arith, rule_few w rule_below)
      at false h = omega (arith, rule_few w rule_below)

  module _ {side : ℕ} (e : side ≡ 2 * (place_at tables terms k).rule + cond (literal_true (lent_bits tables terms assignment) (literal (term_at (plan_of_tables tables terms) (place_at tables terms k)))) 1 0) where
    same_rule : side / 2 ≡ q.rule
    same_rule = ap (λ n. n / 2) e ∙ side_rule q.rule lit

    pub side_countable : Countable (word_at tallies) (side / 2)
    side_countable = rw same_rule (rule_countable w rule_below)

    pub side_state : {weight : ℕ} {z : Stands} {s : State} → weight ≡ word_at marks (weight_at k) → standing_in z ≡ stands_on side weight → Told (word_at tallies) (side / 2) z s → StateOf (lent_bits tables terms assignment) x (place_rule tables terms k) s
    side_state {weight} {z} {s} f d t =
        let told : Told (word_at tallies) q.rule z s = rw same_rule at t in
        told_state w rule_below (d ∙ ap₂ stands_on e f ∙ side_stands q.rule (word_at marks (weight_at k)) lit ∙ sym place_standing) told
