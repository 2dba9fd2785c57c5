-- Laws of a rule's state: the rule holds, has its shares and is turned over as its state says.
-- Assumes nothing.
use Prim.Native.Nat.{ℕ, ◌+◌, ◌*◌, ◌-◌, ◌≤◌, ◌<◌}
use native.Mathlib.Nat.{zero-add}
use native.Mathlib.Numerals.{unary_clauses}
use native.Mathlib.Omega.{arith}
use mathlib.Core.Path.{◌≡◌, refl, sym, ap, ap₂, ◌∙◌}
use mathlib.Core.Bool.{Bool, true, false, not, cond}
use mathlib.Core.List.{List, [], ◌∷◌}
use lib.Dec.{eqb}
use lib.ListN.{length}
use borrow.Author.Tests.{eqb-true}
use Rattle.plpb.specs.Lists.{◌and◌}
use Rattle.plpb.specs.Plan.{Term, Rule, Assignment, flip, rule_holds, named_in}
use Rattle.plpb.specs.Normal.{literal, literal_true, size, rise, K, P, N, below_size}
use Rattle.plpb.specs.Count.{capped}
use Rattle.plpb.specs.Equations.{out, on, off, standing, shares, shares_of, lost, gained}
use Rattle.plpb.specs.Equations.{Shares as SharesOf}
use Rattle.plpb.proofs.Capped.{capped_zero}
use Rattle.plpb.proofs.Normal.{N_and_P, lower_by_size, upper_by_size}
use Rattle.plpb.proofs.Flip.{flip_literal_same}
use Rattle.counting.specs.Bound.{bound_of}
use Rattle.counting.specs.Shares.{capped_shares, joined_shares}
use Rattle.counting.proofs.Joining.{same_shares}
use Rattle.words.specs.Words.{word_at}
use Rattle.format.proofs.Bools.{and_first, and_stop}
use Rattle.rules.specs.declared.entry.Entry.{Entry}
use Rattle.rules.specs.declared.place.Stands.{Stands}
use Rattle.rules.specs.declared.place.Stands.TheVariants.{Out, On, Off}
use Rattle.rules.specs.declared.sums.Sums.{Sums}
use Rattle.rules.specs.declared.state.State.{State}
use Rattle.rules.specs.Terms.{bits_in, terms_at, Readable}
use Rattle.rules.specs.Sums.{Summed}
use Rattle.rules.specs.Places.{standing_in}
use Rattle.rules.specs.Rules.{EntryAt, rule_at, RuleReadable, lower_size, upper_size}
use Rattle.rules.specs.State.{Balanced, StateOf, Made, Seen, holds_in, shares_from, untouched, opposite, Turned}
use Rattle.rules.proofs.Summing.{summed_small}
use Rattle.rules.proofs.Finding.{lost_in_P, gained_beside_P, stands_zero}
use Rattle.rules.proofs.Sizes.{rule_lower, rule_upper}

-- ---- what a state says of its rule

module _ {a : Assignment} {x : ℕ} {q : Rule} {s : State} (h : StateOf a x q s) where
  pub holds_rule : holds_in s ≡ rule_holds a q
  unfolding holds_in rule_holds
  holds_rule =
      ap₂ ◌and◌ (ap₂ below_size h.falses h.lower ∙ sym (lower_by_size a q))
      (ap₂ below_size h.trues h.upper ∙ sym (upper_by_size a q))

  pub shares_rule : shares_from s ≡ shares_of a x q
  unfolding shares_from shares_of
  shares_rule = rw (h.stands, h.falses, h.trues, h.lower, h.upper) refl

-- Two tests joined, of which the second is made where the first is met.
pub both_hold : {a b x y : Bool} → x ≡ a → x ≡ true → y ≡ b → y ≡ a and b
both_hold {a} {b} p t q = q ∙ sym (and_first a b (sym p ∙ t))

pub one_fails : {a x : Bool} (b : Bool) → x ≡ a → x ≡ false → x ≡ a and b
one_fails {a} b p f = f ∙ sym (and_stop a b (sym p ∙ f))

-- ---- a state as it is read

pub entry_readable : {tables terms assignment : List ℕ} {at : ℕ} {e : Entry} → EntryAt (word_at tables) at e → RuleReadable tables terms assignment at → Readable terms assignment e.first e.count
entry_readable d r = rw (d.first, d.count) r.body

-- .. and its terms, as the entry says them, are the rule's.
pub entry_terms : {f : ℕ → ℕ} (g : ℕ → ℕ) {at : ℕ} {e : Entry} → EntryAt f at e → terms_at g e.first e.count ≡ (rule_at f g at).terms
unfolding rule_at
entry_terms g d = ap₂ (terms_at g) d.first d.count

pub entry_named : {f : ℕ → ℕ} (g : ℕ → ℕ) {at : ℕ} {e : Entry} (x : ℕ) {b : Bool} → EntryAt f at e → named_in x (terms_at g e.first e.count) ≡ b → b ≡ named_in x (rule_at f g at).terms
entry_named g x d h = sym h ∙ ap (named_in x) (entry_terms g d)

-- The entry's words and the sums of its terms make the state of the rule.
pub state_made : {f : ℕ → ℕ} (g : ℕ → ℕ) {at : ℕ} {a : Assignment} {e : Entry} {s : Sums} {r : State} → EntryAt f at e → Summed a (terms_at g e.first e.count) s → s.k < 4_294_967_296 → standing a 0 (terms_at g e.first e.count) ≡ out → Made e s r → StateOf a 0 (rule_at f g at) r
unfolding rule_at N
state_made {f} g {at} {a} {e} {s} {r} d m small none h =
    record {
      falses = falses;
      trues = trues;
      stands = stands;
      lower = h.lower ∙ ap₂ lower_size (ap₂ ◌-◌ whole rises) d.lower ∙ rule_lower (rule_at f g at);
      upper = h.upper ∙ ap₂ upper_size rises d.upper ∙ rule_upper (rule_at f g at);
      balanced = record {
        small = omega (arith, falses, trues, N_and_P a ts, whole, small);
        loses = rw (stands, trues) (lost_in_P a 0 ts);
        gains = rw (stands, falses) (omega (arith, gained_beside_P a 0 ts));
      };
    }
  where
    ts : List Term
    ts = terms_at g (f at) (f (at + 1))

    same : terms_at g e.first e.count ≡ ts
    same = ap₂ (terms_at g) d.first d.count

    whole : s.k ≡ K ts
    whole = m.whole ∙ ap K same

    rises : s.rise ≡ rise ts
    rises = m.rises ∙ ap rise same

    trues : r.p ≡ P a ts
    trues = h.trues ∙ m.trues ∙ ap (P a) same

    falses : r.n ≡ N a ts
    falses = h.falses ∙ ap₂ ◌-◌ whole (m.trues ∙ ap (P a) same)

    stands : standing_in r.stands ≡ standing a 0 ts
    stands = ap standing_in h.stands ∙ sym none ∙ ap (standing a 0) same

-- .. as it does wherever its terms can be read.
pub state_read : {tables terms assignment : List ℕ} {at : ℕ} {e : Entry} {s : Sums} {r : State} → EntryAt (word_at tables) at e → RuleReadable tables terms assignment at → Summed (bits_in assignment) (terms_at (word_at terms) e.first e.count) s → Made e s r → StateOf (bits_in assignment) 0 (rule_at (word_at tables) (word_at terms) at) r
state_read {terms = terms} entry r sums h =
    let body = entry_readable entry r in
    state_made (word_at terms) entry sums (summed_small body sums) (stands_zero _ _ _ body.lawful) h

-- Seen from another variable, the rest is as it was.
pub state_seen : {a : Assignment} {x y : ℕ} {q : Rule} {z : Stands} {s r : State} → StateOf a y q s → standing_in z ≡ standing a x q.terms → Seen z s r → StateOf a x q r
unfolding N
state_seen {a} {x} {y} {q} {z} {s} {r} h e t =
    let falses = t.falses ∙ h.falses in
    let trues = t.trues ∙ h.trues in
    let stands = ap standing_in t.stands ∙ e in
    record {
      falses = falses;
      trues = trues;
      stands = stands;
      lower = ap bound_of t.lower ∙ h.lower;
      upper = ap bound_of t.upper ∙ h.upper;
      balanced = record {
        small = rw (t.falses, t.trues) h.balanced.small;
        loses = rw (stands, trues) (lost_in_P a x q.terms);
        gains = rw (stands, falses) (omega (arith, gained_beside_P a x q.terms));
      };
    }

-- ---- a state turned over

standing_turned : (a : Assignment) (x : ℕ) (ts : List Term) → 0 < x → x ≤ length a → standing (flip a x) x ts ≡ opposite (standing a x ts)
unfolding standing opposite literal
standing_turned a x [] low high = refl
standing_turned a x (t ∷ ts) low high = at (eqb t.variable x) refl (standing_turned a x ts low high)
  where
    one : (c : Bool) → cond (not c) (on (size t)) (off (size t)) ≡ opposite (cond c (on (size t)) (off (size t)))
    one true = refl
    one false = refl

    at : (b : Bool) → eqb t.variable x ≡ b → standing (flip a x) x ts ≡ opposite (standing a x ts) → cond b (cond (literal_true (flip a x) (literal t)) (on (size t)) (off (size t))) (standing (flip a x) x ts) ≡ opposite (cond b (cond (literal_true a (literal t)) (on (size t)) (off (size t))) (standing a x ts))
    at true e ih = rw (flip_literal_same a x (literal t) low high (eqb-true t.variable x e)) (one (literal_true a (literal t)))
    at false e ih = ih

-- What the code makes of a state whose variable does not occur, or whose literal is true or false.
-- ---- its shares joined with those before

-- One number of shares joined with those of a rule that does not name the variable.
left_one : (s k g : ℕ) {r : ℕ} → r ≡ capped (s * g) → r ≡ capped (s * (0 + g) + k * 0)
left_one s k g e = simp unary_clauses (e ∙ ap (λ z. capped (s * z)) (sym (zero-add g)))

pub narrowed_is : (s : SharesOf) (g : ℕ) {e f h : ℕ} → e ≡ capped (s.e * g) → f ≡ capped (s.f * g) → h ≡ capped (s.g * g) → ◌≡◌ {A = SharesOf} (record { e = e; f = f; g = h }) (capped_shares (joined_shares s (untouched g)))
unfolding capped_shares joined_shares untouched
narrowed_is s g p q r = same_shares (left_one s.e s.g g p) (left_one s.f s.g g q) r

pub untouched_out : (s : State) {g : ℕ} → s.stands ≡ Out → g ≡ (capped_shares (shares_from s)).g → untouched g ≡ capped_shares (shares_from s)
unfolding untouched shares_from shares capped_shares
untouched_out s h k = rw h (same_shares (sym capped_zero) (sym capped_zero) (rw h at k))

-- ---- turned over

module _ (s : State) (b : Balanced s) where
  pub on_in_P : (w : ℕ) → s.stands ≡ On w → w ≤ s.p
  unfolding lost
  on_in_P w e = rw e at b.loses

  pub off_in_N : (w : ℕ) → s.stands ≡ Off w → w ≤ s.n
  unfolding gained
  off_in_N w e = rw e at b.gains

  pub turned_out : s.stands ≡ Out → Turned s s
  unfolding lost gained opposite
  turned_out e =
      record { falses = rw e refl; trues = rw e refl; stands = rw e refl; lower = refl; upper = refl; balanced = b }

  pub turned_on : (w : ℕ) → s.stands ≡ On w → Turned s (record { n = s.n + w; p = s.p - w; stands = Off w; a = s.a; b = s.b })
  unfolding lost gained opposite
  turned_on w e =
      let low : w ≤ s.p = on_in_P w e in
      record {
        falses = rw e (omega arith);
        trues = rw e (omega arith);
        stands = rw e refl;
        lower = refl;
        upper = refl;
        balanced = record { small = omega (arith, b.small); loses = omega arith; gains = omega arith };
      }

  pub turned_off : (w : ℕ) → s.stands ≡ Off w → Turned s (record { n = s.n - w; p = s.p + w; stands = On w; a = s.a; b = s.b })
  unfolding lost gained opposite
  turned_off w e =
      let low : w ≤ s.n = off_in_N w e in
      record {
        falses = rw e (omega arith);
        trues = rw e (omega arith);
        stands = rw e refl;
        lower = refl;
        upper = refl;
        balanced = record { small = omega (arith, b.small); loses = omega arith; gains = omega arith };
      }
