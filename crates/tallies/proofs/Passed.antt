-- One occurrence of a flip, in words: three of the tallies' words are written, P of the rule, the count of the clause and the total.
-- Assumes nothing.
use Prim.Native.Nat.{ℕ, ◌+◌, ◌-◌, ◌≤◌, ◌<◌}
use native.Mathlib.Nat.{zero-add, suc-add}
use native.Mathlib.Omega.{arith}
use mathlib.Core.Path.{◌≡◌, refl, sym, ap, ap₂, ◌∙◌}
use mathlib.Core.List.{List, [], ◌∷◌, ◌++◌}
use lib.ListN.{length, get_or, set, length-set, replicate}
use lib.Seq.{set-append_left, get_or-set_same}
use Rattle.plpb.specs.Plan.{Plan, Assignment}
use Rattle.plpb.specs.Tallies.{Tallies}
use Rattle.format.specs.Tables.{pad_to, pad_with}
use Rattle.format.specs.Layout.{clause_room, holding_at, rule_room, unsatisfied_at}
use Rattle.format.proofs.Spells.{length_pad_to}
use Rattle.order.specs.Order.{Place}
use Rattle.order.specs.Along.{passed, along}
use Rattle.tallies.specs.Layout.{tally_order, tally_words}

-- ---- lists

set_append_right : (xs ys : List ℕ) (j v : ℕ) → set (xs ++ ys) (length xs + j) v ≡ xs ++ set ys j v
set_append_right [] ys j v = ap (λ i. set ys i v) (zero-add j)
set_append_right (x ∷ xs) ys j v = rw (suc-add (length xs) j) (ap (λ zs. x ∷ zs) (set_append_right xs ys j v))

set_at_right : (xs ys : List ℕ) (n i j v : ℕ) → length xs ≡ n → i ≡ n + j → set (xs ++ ys) i v ≡ xs ++ set ys j v
set_at_right xs ys n i j v e h = ap (λ k. set (xs ++ ys) k v) (h ∙ ap (λ m. m + j) (sym e)) ∙ set_append_right xs ys j v

pad_set : (k i v : ℕ) (ns : List ℕ) → i < length ns → pad_to k (set ns i v) ≡ set (pad_to k ns) i v
unfolding pad_with
pad_set k i v ns h =
    ap (λ n. set ns i v ++ replicate (k - n) 0) (length-set ns i v) ∙ sym (set-append_left ns (replicate (k - length ns) 0) i v h)

-- ---- three words

pub words_written : (s : Tallies) (r c weight holding total : ℕ) → r < length s.true_weights → c < length s.rules_holding → length s.true_weights ≤ rule_room → length s.rules_holding ≤ clause_room → tally_words (record { true_weights = set s.true_weights r weight; rules_holding = set s.rules_holding c holding; clauses_unsatisfied = total }) ≡ set (set (set (tally_words s) r weight) (holding_at c) holding) unsatisfied_at total
unfolding tally_words tally_order
words_written s r c weight holding total hr hc lr lc = sym (first ∙ second ∙ third ∙ ap₂ (λ xs ys. xs ++ (ys ++ (total ∷ []))) (sym (pad_set rule_room r weight s.true_weights hr)) (sym (pad_set clause_room c holding s.rules_holding hc)))
  where
    A : List ℕ
    A = pad_to rule_room s.true_weights

    B : List ℕ
    B = pad_to clause_room s.rules_holding

    u : List ℕ
    u = s.clauses_unsatisfied ∷ []

    wide : length A ≡ rule_room
    wide = length_pad_to rule_room s.true_weights lr

    long : length B ≡ clause_room
    long = length_pad_to clause_room s.rules_holding lc

    first : set (set (set (A ++ (B ++ u)) r weight) (holding_at c) holding) unsatisfied_at total ≡ set (set (set A r weight ++ (B ++ u)) (holding_at c) holding) unsatisfied_at total
    first = ap (λ ws. set (set ws (holding_at c) holding) unsatisfied_at total) (set-append_left A (B ++ u) r weight (omega (arith, wide, hr, lr)))

    second : set (set (set A r weight ++ (B ++ u)) (holding_at c) holding) unsatisfied_at total ≡ set (set A r weight ++ (set B c holding ++ u)) unsatisfied_at total
    second =
        ap (λ ws. set ws unsatisfied_at total)
        (set_at_right (set A r weight) (B ++ u) rule_room (holding_at c) c holding (length-set A r weight ∙ wide) refl
        ∙ ap (λ ws. set A r weight ++ ws) (set-append_left B u c holding (omega (arith, long, hc, lc))))

    third : set (set A r weight ++ (set B c holding ++ u)) unsatisfied_at total ≡ set A r weight ++ (set B c holding ++ (total ∷ []))
    third =
        set_at_right (set A r weight) (set B c holding ++ u) rule_room unsatisfied_at clause_room total (length-set A r weight ∙ wide) refl
        ∙ ap (λ ws. set A r weight ++ ws) (set_at_right (set B c holding) u clause_room clause_room 0 total (length-set B c holding ∙ long) refl)

-- .. of an occurrence passed.
pub words_passed : (p : Plan) (a : Assignment) (s : Tallies) (q : Place) → q.rule < length s.true_weights → q.clause < length s.rules_holding → length s.true_weights ≤ rule_room → length s.rules_holding ≤ clause_room → tally_words (passed p a s q) ≡ set (set (set (tally_words s) q.rule (get_or (passed p a s q).true_weights q.rule 0)) (holding_at q.clause) (get_or (passed p a s q).rules_holding q.clause 0)) unsatisfied_at (passed p a s q).clauses_unsatisfied
unfolding passed
words_passed p a s q hr hc lr lc =
    words_written s q.rule q.clause _ _ _ hr hc lr lc
    ∙ ap₂ (λ w h. set (set (set (tally_words s) q.rule w) (holding_at q.clause) h) unsatisfied_at (passed p a s q).clauses_unsatisfied)
    (sym (get_or-set_same s.true_weights q.rule _ 0 hr)) (sym (get_or-set_same s.rules_holding q.clause _ 0 hc))

-- The lists keep their lengths.
pub along_rules : (p : Plan) (a : Assignment) (s : Tallies) (qs : List Place) → length (along p a s qs).true_weights ≡ length s.true_weights
unfolding along passed
along_rules p a s [] = refl
along_rules p a s (q ∷ qs) = along_rules p a (passed p a s q) qs ∙ length-set s.true_weights q.rule _

pub along_clauses : (p : Plan) (a : Assignment) (s : Tallies) (qs : List Place) → length (along p a s qs).rules_holding ≡ length s.rules_holding
unfolding along passed
along_clauses p a s [] = refl
along_clauses p a s (q ∷ qs) = along_clauses p a (passed p a s q) qs ∙ length-set s.rules_holding q.clause _
