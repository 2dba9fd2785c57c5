-- One place of the run, word by word.
-- Assumes nothing.
use Prim.Native.Nat.{ℕ, ◌+◌, ◌*◌, ◌-◌, ◌≤◌, ◌<◌}
use native.Mathlib.Decide.{dec_lt}
use native.Mathlib.Omega.{arith}
use mathlib.Core.Path.{◌≡◌, refl, sym, ap, ap₂, ◌∙◌}
use mathlib.Core.Logic.{◌≢◌}
use mathlib.Core.Bool.{Bool, true, false, not, beq}
use mathlib.Core.List.{List}
use lib.Dec.{ltb, eqb}
use lib.ListN.{drop}
use lib.Seq.{drop-drop}
use Rattle.plpb.specs.Lists.{◌and◌}
use Rattle.words.specs.Words.{word_at}
use Rattle.words.specs.Writes.{Wrote}
use Rattle.order.specs.Order.{Place}
use Rattle.order.specs.Along.{moved, exchanged}
use Rattle.format.specs.Layout.{holding_at, unsatisfied_at, tally_size, rule_room}
use Rattle.format.proofs.Bools.{true_T}
use Rattle.columns.specs.Layout.{total_at, lower_size_at, upper_size_at, need_at, kept_size}
use Rattle.flips.specs.Passing.{ClausePassed}
use Rattle.needs.specs.declared.KeptRule.{KeptRule}
use Rattle.needs.specs.Rules.{ReadAs, holds_in, Movable, Moved}
use Rattle.needs.specs.Needs.{need_word, NeedsPut}
use Rattle.needs.proofs.Words.{moved_rest}
use Rattle.flips.specs.declared.Change.{Change}
use Rattle.keeping.specs.Keeping.{holds_at, Turnable, RuleTurned, PlaceTurnable, PlaceTurned}

-- ---- the rule

module _ {on : Bool} {w r : ℕ} {before : KeptRule} {s : List ℕ} (y : Turnable on w r s) (e : ReadAs (word_at s) r before) where
  rest : (moved (not on) w (word_at s (total_at r) - word_at s r) ≡ word_at s (total_at r) - moved on w (word_at s r)) × (moved on w (word_at s r) ≤ word_at s (total_at r))
  rest = moved_rest on w (word_at s r) (word_at s (total_at r)) y.rule.weight y.part

  pub turn_movable : word_at s (total_at r) < 4_294_967_296 → Movable on w before
  turn_movable small = record { part = rw (e.trues, e.falses) y.part; small = rw (e.trues, e.falses) (omega (arith, y.rule.weight)) }

  module _ {after : KeptRule} {a t : List ℕ} (d : Moved on w before after) (p : Wrote r after.p s a) (n : NeedsPut r after a t) where
    falses : after.n ≡ word_at s (total_at r) - moved on w (word_at s r)
    falses = d.falses ∙ ap (moved (not on) w) e.falses ∙ rest.0

    trues : after.p ≡ moved on w (word_at s r)
    trues = d.trues ∙ ap (moved on w) e.trues

    here : word_at t r ≡ after.p
    here = n.only.low r (omega (arith, y.rule.rule)) ∙ p.here

    other : (i : ℕ) → i ≢ need_at (2 * r) → i ≢ need_at (2 * r + 1) → Dec (i < need_at (2 * r)) → word_at t i ≡ word_at a i
    other i m o (yes l) = n.only.low i l
    other i m o (no l) = n.only.high i (omega (arith, l, m, o))

    pub rule_turned : {c : Change} → c.held ≡ holds_in before → c.holds ≡ holds_in after → RuleTurned on w r c s t
    unfolding holds_in holds_at
    rule_turned {c} f g = record {
      held = f ∙ ap₂ (λ u v. u and v) (ap₂ ltb e.falses e.lower) (ap₂ ltb e.trues e.upper);
      holds = g ∙ ap₂ (λ u v. u and v) (ap₂ ltb (falses ∙ ap (λ z. word_at s (total_at r) - z) (sym (here ∙ trues))) (d.lower ∙ e.lower)) (ap₂ ltb (sym here) (d.upper ∙ e.upper));
      weight = here ∙ trues;
      off = n.off ∙ ap₂ need_word (d.upper ∙ e.upper) (sym here);
      on = n.on ∙ ap₂ need_word (d.lower ∙ e.lower) (falses ∙ ap (λ z. word_at s (total_at r) - z) (sym (here ∙ trues)));
      others = λ i l m o. other i m o (dec_lt i (need_at (2 * r))) ∙ p.others i l;
      size = n.only.size ∙ p.size;
      beyond = n.only.beyond kept_size (omega (arith, y.rule.rule)) (rw p.size y.rule.room) ∙ p.beyond kept_size (omega (arith, y.rule.rule)) y.rule.room;
    }

-- ---- the clause

exchanged_none : (b : Bool) (n : ℕ) → n ≡ exchanged b b n
unfolding exchanged
exchanged_none true n = omega arith
exchanged_none false n = omega arith

pub beq_same : (a b : Bool) → beq a b ≡ true → a ≡ b
beq_same true true e = refl
beq_same true false e = absurd (true_T false e)
beq_same false true e = absurd (true_T false e)
beq_same false false e = refl

-- Where the rule's holding is as it was, nothing changes.
pub none_passed : {c : ℕ} {held holds : Bool} (s : List ℕ) → held ≡ holds → ClausePassed c held holds s s
none_passed {c} {held} {holds} s e = record {
  holding = exchanged_none held _ ∙ ap (λ b. exchanged held b (word_at s (holding_at c))) e;
  total = exchanged_none (eqb (word_at s (holding_at c)) 0) _;
  others = λ i l m. refl;
  inside = record { size = refl; beyond = refl };
}

module _ {on : Bool} {w : ℕ} {q : Place} {s : List ℕ} (y : PlaceTurnable on w q s) where
  module _ {c : Change} {t : List ℕ} (d : RuleTurned on w q.rule c s t) where
    low : (i : ℕ) → i ≢ q.rule → i < total_at 0 → word_at t i ≡ word_at s i
    low i l h = d.others i l (λ e. omega (arith, e)) (λ e. omega (arith, e))

    count : word_at t (holding_at q.clause) ≡ word_at s (holding_at q.clause)
    count = low (holding_at q.clause) (λ e. omega (arith, e, y.rule.rule.rule)) (omega (arith, y.clause.clause))

    whole : word_at t unsatisfied_at ≡ word_at s unsatisfied_at
    whole = low unsatisfied_at (λ e. omega (arith, e, y.rule.rule.rule)) (omega arith)

    pub place_turned : {u : List ℕ} → ClausePassed q.clause c.held c.holds t u → PlaceTurned on w q s u
    place_turned {u} p = record {
      weight = same q.rule (omega (arith, r)) ∙ d.weight;
      off = high (need_at (2 * q.rule)) (omega arith) ∙ d.off ∙ ap (need_word (word_at s (upper_size_at q.rule))) (sym (same q.rule (omega (arith, r))));
      on = high (need_at (2 * q.rule + 1)) (omega arith) ∙ d.on ∙ ap (λ n. need_word (word_at s (lower_size_at q.rule)) (word_at s (total_at q.rule) - n)) (sym (same q.rule (omega (arith, r))));
      holding =
          p.holding
          ∙ ap₂ (λ g h. exchanged g h (word_at t (holding_at q.clause))) d.held (d.holds ∙ ap (holds_at (word_at s) q.rule) (sym (same q.rule (omega (arith, r)))))
          ∙ ap (exchanged (holds_at (word_at s) q.rule (word_at s q.rule)) (holds_at (word_at s) q.rule (word_at u q.rule))) count;
      total = p.total ∙ ap₂ (λ m n. exchanged (eqb m 0) (eqb (word_at u (holding_at q.clause)) 0) n) count whole;
      others = λ i a b e f g. p.others i f g ∙ d.others i a b e;
      size = p.inside.size ∙ d.size;
      beyond = further ∙ d.beyond;
    }
      where
        r : q.rule < rule_room
        r = y.rule.rule.rule

        same : (i : ℕ) → i < rule_room → word_at u i ≡ word_at t i
        same i h = p.others i (λ e. omega (arith, e)) (λ e. omega (arith, e))

        high : (i : ℕ) → total_at 0 ≤ i → word_at u i ≡ word_at t i
        high i h = p.others i (λ e. omega (arith, e, y.clause.clause)) (λ e. omega (arith, e))

        further : drop kept_size u ≡ drop kept_size t
        further =
            sym (drop-drop (kept_size - tally_size) tally_size u) ∙ ap (drop (kept_size - tally_size)) p.inside.beyond ∙ drop-drop (kept_size - tally_size) tally_size t
