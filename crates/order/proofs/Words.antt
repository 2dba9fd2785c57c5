-- A place is told by its word: quotients and remainders undo the sum.
-- Assumes nothing.
use Prim.Native.Nat.{ℕ, ◌+◌, ◌*◌, ◌/◌, ◌%◌, ◌<◌}
use native.Mathlib.Omega.{arith}
use mathlib.Core.Path.{◌≡◌, refl, ap, ap₂, ◌∙◌}
use mathlib.Core.Bool.{Bool, true, false, cond}
use mathlib.Core.List.{List, [], ◌∷◌, map}
use lib.Dec.{T, eqb, eqb→eq}
use Rattle.plpb.specs.Lists.{◌and◌, all}
use Rattle.plpb.specs.Plan.{Plan}
use Rattle.plpb.proofs.Lists.{and_left, and_right}
use Rattle.order.specs.Order.{Place, order, spelled, place_word, word_place}

-- A place among 2,048 rules, 1,024 clauses and 512 terms of a rule.
pub record Small (q : Place) : Type 0 where
  pub clause : q.clause < 1_024
  pub rule : q.rule < 2_048
  pub term : q.term < 512

module _ (several : Bool) (q : Place) (negated : Bool) (s : Small q) where
  clause_back : (b n : Bool) → spelled b q n / 4_096 % 1_024 ≡ q.clause
  unfolding spelled
  clause_back true true = omega (arith, s.clause, s.rule, s.term)
  clause_back true false = omega (arith, s.clause, s.rule, s.term)
  clause_back false true = omega (arith, s.clause, s.rule, s.term)
  clause_back false false = omega (arith, s.clause, s.rule, s.term)

  rule_back : (b n : Bool) → spelled b q n % 4_096 / 2 ≡ q.rule
  unfolding spelled
  rule_back true true = omega (arith, s.clause, s.rule, s.term)
  rule_back true false = omega (arith, s.clause, s.rule, s.term)
  rule_back false true = omega (arith, s.clause, s.rule, s.term)
  rule_back false false = omega (arith, s.clause, s.rule, s.term)

  term_back : (b n : Bool) → spelled b q n / 4_194_304 % 512 ≡ q.term
  unfolding spelled
  term_back true true = omega (arith, s.clause, s.rule, s.term)
  term_back true false = omega (arith, s.clause, s.rule, s.term)
  term_back false true = omega (arith, s.clause, s.rule, s.term)
  term_back false false = omega (arith, s.clause, s.rule, s.term)

  -- It is that of its word,
  pub place_back : word_place (spelled several q negated) ≡ q
  unfolding word_place
  place_back =
      ap₂ (λ c (f : ℕ → Place). f c) (clause_back several negated)
      (ap₂ (λ r t. λ c. record { clause = c; rule = r; term = t }) (rule_back several negated) (term_back several negated))

  -- which has 32 bits.
  pub spelled_small : spelled several q negated < 4_294_967_296
  unfolding spelled
  spelled_small = at several negated
    where
      at : (b n : Bool) → cond b 2_147_483_648 0 + 4_194_304 * q.term + 4_096 * q.clause + 2 * q.rule + cond n 1 0 < 4_294_967_296
      at true true = omega (arith, s.clause, s.rule, s.term)
      at true false = omega (arith, s.clause, s.rule, s.term)
      at false true = omega (arith, s.clause, s.rule, s.term)
      at false false = omega (arith, s.clause, s.rule, s.term)

-- Words of which each is that of its place, and the places are the order, are the order's words.
words_back : (p : Plan) (ws : List ℕ) → T (all (λ w. eqb w (place_word p (word_place w))) ws) → ws ≡ map (place_word p) (map word_place ws)
unfolding all
words_back p [] t = refl
words_back p (w ∷ ws) t =
    let rest = all (λ w. eqb w (place_word p (word_place w))) ws in
    let here = eqb w (place_word p (word_place w)) in
    ap₂ (λ u us. u ∷ us) (eqb→eq w (place_word p (word_place w)) (and_left here rest t)) (words_back p ws (and_right here rest t))

pub words_order : (p : Plan) (ws : List ℕ) → T (all (λ w. eqb w (place_word p (word_place w))) ws) → map word_place ws ≡ order p → ws ≡ map (place_word p) (order p)
words_order p ws t e = words_back p ws t ∙ ap (map (place_word p)) e
