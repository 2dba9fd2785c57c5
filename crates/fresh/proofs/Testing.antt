-- Laws of the test of tallies: it goes through the words as a recount does and writes none, so that where it ends all are right; and where it
-- stops one is not.
-- Assumes nothing.
use Prim.Native.Nat.{ℕ, ◌+◌, ◌-◌, ◌≤◌, ◌<◌}
use native.Mathlib.Omega.{arith}
use mathlib.Core.Path.{◌≡◌, refl, sym, ap, ◌∙◌}
use Rattle.std.specs.Prelude.{Option, Some}
use Rattle.std.specs.Bool.{then_some}
use mathlib.Core.Bool.{Bool, true, false, cond}
use mathlib.Core.List.{List}
use lib.Dec.{eqb}
use borrow.Author.Tests.{eqb-true, eqb-false}
use lib.ListN.{length, take, drop}
use Rattle.plpb.specs.Plan.{rule_holds}
use Rattle.plpb.specs.Tallies.{fresh_count}
use Rattle.plpb.proofs.Lists.{is_true, T_true}
use Rattle.words.specs.Words.{word_at}
use Rattle.words.specs.Tests.{Decides}
use Rattle.words.proofs.Words.{Below}
use Rattle.words.proofs.Tests.{not_decides}
use Rattle.format.specs.Tables.{rule_of, plan_of_tables, same_bytes}
use Rattle.rules.specs.Terms.{bits_in}
use Rattle.rules.specs.State.{StateOf, holds_in}
use Rattle.rules.specs.declared.state.State.{State}
use Rattle.rules.proofs.States.{holds_rule}
use Rattle.tallies.specs.Layout.{tally_size, bits_of, tally_bytes, tally_word}
use Rattle.recount.specs.Core.{Laid, Ready, ClauseCounted, Unused}
use Rattle.fresh.specs.Found.{FoundAt}
use Rattle.tallies.proofs.TallyBytes.{roomy_fits, same_self, same_bytes_lem, take_fresh}
use Rattle.tallies.proofs.Tallied.{fresh_words, unused_rule, unused_clause}
use Rattle.recount.proofs.Laid.{rules_word, clauses_word, rules_few, clauses_few, rules_inside}
use Rattle.recount.proofs.Keeping.{kept_none, none_wrote}
use Rattle.recount.proofs.Cores.{first_bits_of}
use Rattle.recount.proofs.Recounting.{word_of_rule, RulesDone, rules_step, rules_end, rules_all, ClausesDone, clauses_end, clauses_all}
use Rattle.format.specs.Layout.{holding_at, rule_room, unsatisfied_at}

-- ---- tests

pub decides_same : (b : Bool) (xs ys : List ℕ) → Decides b (xs ≡ ys) → b ≡ same_bytes xs ys
decides_same true xs ys d = sym (is_true _ (rw (d.so refl) (same_self ys)))
decides_same false xs ys d = go (same_bytes xs ys) refl
  where
    go : (t : Bool) → same_bytes xs ys ≡ t → false ≡ t
    go true e = absurd (d.not_so refl (same_bytes_lem xs ys (T_true e)))
    go false e = refl

-- ---- a rule

module _ (tables terms bits tallies : List ℕ) (l : Laid tables terms) (r x : ℕ) (h : r < word_at tables 2) {s : State} (k : StateOf (bits_in bits) x (rule_of (word_at tables) (word_at terms) r) s) (w : ℕ) (e : w ≡ word_at tallies r) where
  wanted : tally_word (plan_of_tables tables terms) (bits_in bits) r ≡ s.p
  wanted = word_of_rule tables terms l (bits_in bits) r h ∙ sym k.trues

  pub found : (b : Bool) {o : Option Bool} → o ≡ then_some (eqb w s.p) b → b ≡ holds_in s → FoundAt tables terms bits tallies r o
  found b q m = rw q (by (eqb w s.p) refl)
    where
      by : (t : Bool) → eqb w s.p ≡ t → FoundAt tables terms bits tallies r (then_some t b)
      by true f = (sym e ∙ eqb-true w s.p f ∙ sym wanted, m ∙ holds_rule k)
      by false f = λ z. eqb-false w s.p f (e ∙ z ∙ wanted)

-- ---- a clause

module _ (tables terms bits s : List ℕ) (c end holding r : ℕ) (d : RulesDone tables terms bits c s end holding r s) where
  pub check_step : (b : Bool) (v : ℕ) (k : Option Bool) → r < end → FoundAt tables terms bits s r k → k ≡ Some b → v ≡ cond b 1 0 → RulesDone tables terms bits c s end (holding + v) (r + 1) s
  check_step b v k h f e n =
      let g : FoundAt tables terms bits s r (Some b) = rw e at f in
      rules_step tables terms bits c s end holding r s d (rule_holds (bits_in bits) (rule_of (word_at tables) (word_at terms) r)) v s h
      (record { holds = refl; here = g.0; kept = kept_none _ s }) (n ∙ ap (λ t. cond t 1 0) g.1)

  -- The clause's count tells the rest.
  pub check_end : Laid tables terms → c < word_at tables 1 → (w : ℕ) → end ≤ r → w ≡ word_at s (holding_at c) → Decides (eqb w holding) (ClauseCounted tables terms bits c s s)
  check_end l g w h e =
      record {
        so = λ t. rules_end tables terms bits c s end holding r s d l g s h (none_wrote s (holding_at c) holding (sym e ∙ eqb-true w holding t));
        not_so = λ f n. eqb-false w holding f (e ∙ n.holding ∙ sym (rules_all tables terms bits c s end holding r s d l g h));
      }

-- ---- all clauses

module _ (tables terms bits s : List ℕ) (l : Laid tables terms) where
  -- Where all is right each clause is.
  pub fresh_clause : (c : ℕ) → c < word_at tables 1 → take tally_size s ≡ tally_bytes (fresh_count (plan_of_tables tables terms) (bits_in bits)) → ClauseCounted tables terms bits c s s
  fresh_clause c h e =
      let word = fresh_words (plan_of_tables tables terms) l.room (bits_in bits) s e in
      record {
        weights = λ i m n. word i (omega (arith, rules_inside tables terms l c h, rules_few tables terms l));
        holding = word (holding_at c) (omega (arith, clauses_few tables terms l));
        kept = kept_none _ s;
      }

  module _ (unsat c : ℕ) (d : ClausesDone tables terms bits s unsat c s) where
    pub whole_end : Below 256 s → tally_size ≤ length s → Unused (plan_of_tables tables terms) s → (w : ℕ) → word_at tables 1 ≤ c → w ≡ word_at s unsatisfied_at → Decides (eqb w unsat) (take tally_size s ≡ tally_bytes (fresh_count (plan_of_tables tables terms) (bits_in bits)))
    whole_end b room u w h e =
        let p = plan_of_tables tables terms in
        record {
          so = λ t.
              ap (take tally_size) (clauses_end tables terms bits l s unsat c s d s b room u h (none_wrote s unsatisfied_at unsat (sym e ∙ eqb-true w unsat t)))
              ∙ take_fresh p (roomy_fits p l.room) (bits_in bits) (drop tally_size s);
          not_so = λ f n. eqb-false w unsat f (e ∙ fresh_words p l.room (bits_in bits) s n unsatisfied_at (omega arith) ∙ sym (clauses_all tables terms bits l s unsat c s d h));
        }

  -- Where all is right unused entries are 0.
  pub fresh_unused : take tally_size s ≡ tally_bytes (fresh_count (plan_of_tables tables terms) (bits_in bits)) → Unused (plan_of_tables tables terms) s
  fresh_unused e =
      let p = plan_of_tables tables terms in
      let word = fresh_words p l.room (bits_in bits) s e in
      let fits = roomy_fits p l.room in
      record {
        rules = λ i h k. word i (omega arith) ∙ unused_rule p fits (bits_in bits) i h k;
        clauses = λ c h k. word (holding_at c) (omega arith) ∙ unused_clause p fits (bits_in bits) c h k;
      }

-- ---- the whole test

module _ (tables terms assignment s : List ℕ) (y : Ready tables terms assignment) (n : ℕ) (e : n ≡ word_at tables 0) where
  pub tested : {b : Bool} → Decides b (take tally_size s ≡ tally_bytes (fresh_count (plan_of_tables tables terms) (bits_in (take n assignment)))) → b ≡ same_bytes (take tally_size s) (tally_bytes (fresh_count (plan_of_tables tables terms) (bits_of (plan_of_tables tables terms).variables assignment)))
  tested {b} d =
      decides_same b (take tally_size s) _
      (rw (first_bits_of tables terms assignment y n e) at d)

  -- A used word where 0 is wanted ends it.
  pub rule_used : (r : ℕ) → r ≡ word_at tables 2 → (((i : ℕ) → r ≤ i → i < rule_room → word_at s i ≡ 0) → ⊥) → false ≡ same_bytes (take tally_size s) (tally_bytes (fresh_count (plan_of_tables tables terms) (bits_of (plan_of_tables tables terms).variables assignment)))
  rule_used r h k =
      tested (not_decides refl (λ z. k (λ i l u. (fresh_unused tables terms (take n assignment) s y.laid z).rules i (omega (arith, rules_word tables terms y.laid)) u)))

  pub clause_used : (c : ℕ) → c ≡ word_at tables 1 → (((i : ℕ) → holding_at c ≤ i → i < unsatisfied_at → word_at s i ≡ 0) → ⊥) → false ≡ same_bytes (take tally_size s) (tally_bytes (fresh_count (plan_of_tables tables terms) (bits_of (plan_of_tables tables terms).variables assignment)))
  clause_used c h k = tested (not_decides refl (λ z. k (λ i l u. zero z i l u)))
    where
      zero : take tally_size s ≡ tally_bytes (fresh_count (plan_of_tables tables terms) (bits_in (take n assignment))) → (i : ℕ) → holding_at c ≤ i → i < unsatisfied_at → word_at s i ≡ 0
      zero z i l u =
          let j = i - rule_room in
          let m : holding_at j ≡ i = omega arith in
          rw m at ((fresh_unused tables terms (take n assignment) s y.laid z).clauses j (omega (arith, clauses_word tables terms y.laid)) (omega arith))

  pub both_unused : (r c : ℕ) → r ≡ word_at tables 2 → c ≡ word_at tables 1 → ((i : ℕ) → r ≤ i → i < rule_room → word_at s i ≡ 0) → ((i : ℕ) → holding_at c ≤ i → i < unsatisfied_at → word_at s i ≡ 0) → Unused (plan_of_tables tables terms) s
  both_unused r c h k p q =
      record {
        rules = λ i l u. p i (omega (arith, rules_word tables terms y.laid)) u;
        clauses = λ d l u. q (holding_at d) (omega (arith, clauses_word tables terms y.laid)) (omega arith);
      }
