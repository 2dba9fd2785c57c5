-- An entry of the order in the tables: the place that its word tells, and the term there.
-- Assumes nothing.
use Prim.Native.Nat.{ℕ, ◌+◌, ◌*◌, ◌-◌, ◌≤◌, ◌<◌}
use native.Mathlib.Omega.{arith}
use mathlib.Core.Path.{◌≡◌, sym, ap, ◌∙◌}
use mathlib.Core.List.{map}
use lib.Dec.{T}
use lib.IntN.{nat_abs}
use lib.ListN.{length, get_or, length-map, get_or-map}
use Rattle.plpb.specs.Plan.{Plan}
use Rattle.plpb.specs.Normal.{size}
use Rattle.plpb.specs.Tallies.{rules_of}
use Rattle.plpb.proofs.Lists.{all_at}
use Rattle.words.specs.Words.{signed}
use Rattle.order.specs.Order.{Place, occurrences, order, run_end, term_at, term_count, is_place, names_at, place_word, word_place}
use Rattle.order.proofs.Runs.{Named, named_of, occurrences_named, occurrences_places, order_places, place_named, named_below}
use Rattle.order.proofs.Tested.{order_length, end_next, ends_ordered, last_end}
use Rattle.format.specs.Layout.{end_at, entry_at, order_at, rule_count_at, term_room}
use Rattle.format.specs.Tables.{term_of}
use Rattle.format.specs.Good.{term_here}
use Rattle.format.proofs.Lawful.{RoomyPlan}
use Rattle.format.proofs.Sections.{Sections}
use Rattle.format.proofs.Arranged.{Arranged}
use Rattle.format.proofs.Spells.{spells_at}
use Rattle.format.proofs.Naming.{numbers_within_lem, place_small}
use Rattle.format.proofs.GoodOrder.{run_words, word_back}
use Rattle.format.proofs.Placed.{rule_size, term_is}
use Rattle.columns.specs.Columns.{no_place}

module _ (p : Plan) (l : RoomyPlan p) (f g : ℕ → ℕ) (s : Sections p f g) (a : Arranged p f) (k : ℕ) (h : k < term_count p) where
  abbrev q : Place
  q = get_or (order p) k no_place

  inside : k < length (order p)
  inside = rw (order_length p (numbers_within_lem p l)) h

  pub entry_there : T (is_place p (get_or (order p) k no_place))
  entry_there = all_at (is_place p) (order p) k no_place (order_places p) inside

  pub entry_place : word_place (f (entry_at k)) ≡ get_or (order p) k no_place
  entry_place =
      ap word_place
      (spells_at f order_at (map (place_word p) (order p)) a.entries (place_word p no_place) k (rw (length-map (order p) (place_word p)) inside)
      ∙ get_or-map (place_word p) (order p) k no_place)
      ∙ word_back p q (place_small p l q entry_there)

  named : Named p (term_at p q).variable q
  named = place_named p q entry_there

  pub entry_rule : (get_or (order p) k no_place).rule < length (rules_of p)
  entry_rule = named_below p (term_at p q).variable q named

  pub entry_term : (get_or (order p) k no_place).term < f (rule_count_at (get_or (order p) k no_place).rule)
  entry_term = rw (rule_size p l f g s q.rule entry_rule) named.term_there

  pub entry_weight : nat_abs (signed (g (2 * term_here f (get_or (order p) k no_place) + 1))) ≡ size (term_at p (get_or (order p) k no_place))
  unfolding size term_of
  entry_weight = sym (ap (λ t. nat_abs t.weight) (term_is p l f g s q entry_rule entry_term))

-- ---- an entry of a variable's run

module _ (p : Plan) (l : RoomyPlan p) (f g : ℕ → ℕ) (s : Sections p f g) (a : Arranged p f) (x : ℕ) (low : 1 ≤ x) (high : x ≤ p.variables) where
  pub run_from : f (end_at (x - 1)) ≡ run_end p (x - 1)
  run_from = a.ends (x - 1) (omega arith)

  pub run_size : f (end_at x) ≡ f (end_at (x - 1)) + length (occurrences p x)
  run_size = a.ends x high ∙ end_next p x low ∙ ap (λ n. n + length (occurrences p x)) (sym run_from)

  pub run_few : f (end_at x) ≤ term_room
  run_few = omega (arith, a.ends x high, ends_ordered p x p.variables high, last_end p (numbers_within_lem p l), l.terms)

  module _ (i : ℕ) (h : i < length (occurrences p x)) where
    pub run_named : Named p x (get_or (occurrences p x) i no_place)
    run_named = named_of p x (get_or (occurrences p x) i no_place) (all_at (names_at p x) (occurrences p x) i no_place (occurrences_named p x) h)

    pub run_place : word_place (f (entry_at (f (end_at (x - 1)) + i))) ≡ get_or (occurrences p x) i no_place
    run_place =
        let assoc : entry_at (f (end_at (x - 1)) + i) ≡ entry_at (run_end p (x - 1)) + i = omega (arith, run_from) in
        ap word_place
        (ap f assoc
        ∙ spells_at f (entry_at (run_end p (x - 1))) (map (place_word p) (occurrences p x)) (run_words p l f a x low high) (place_word p no_place) i (rw (length-map (occurrences p x) (place_word p)) h)
        ∙ get_or-map (place_word p) (occurrences p x) i no_place)
        ∙ word_back p (get_or (occurrences p x) i no_place) (place_small p l (get_or (occurrences p x) i no_place) (all_at (is_place p) (occurrences p x) i no_place (occurrences_places p x) h))
