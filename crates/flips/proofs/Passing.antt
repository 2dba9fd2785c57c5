-- One place of the run, word by word.
-- Assumes nothing.
use Prim.Native.Nat.{ℕ, ◌+◌, ◌-◌, ◌≤◌, ◌<◌}
use native.Mathlib.Omega.{arith}
use mathlib.Core.Path.{◌≡◌, sym, ap, ap₂, ◌∙◌}
use mathlib.Core.Bool.{Bool}
use mathlib.Core.List.{List}
use lib.Dec.{eqb}
use Rattle.plpb.specs.Lists.{◌and◌}
use Rattle.plpb.specs.Plan.{Rule, Assignment, rule_holds}
use Rattle.plpb.specs.Normal.{K, size_a, size_b, below_size}
use Rattle.plpb.proofs.Normal.{N_and_P}
use Rattle.counting.specs.Bound.{bound_of}
use Rattle.words.specs.Words.{word_at}
use Rattle.order.specs.Along.{holds_by, exchanged}
use Rattle.format.specs.Tables.{rule_of}
use Rattle.format.specs.Layout.{holding_at, rule_room, unsatisfied_at}
use Rattle.rules.specs.declared.state.State.{State}
use Rattle.rules.specs.State.{Balanced, StateOf, holds_in}
use Rattle.rules.proofs.States.{holds_rule}
use Rattle.recount.specs.Core.{Wrote}
use Rattle.flips.specs.Passing.{Countable, Inside, ClausePassed, Passable, Passed}

pub inside_more : {s t u : List ℕ} → Inside s t → Inside t u → Inside s u
inside_more a b = record { size = b.size ∙ a.size; beyond = b.beyond ∙ a.beyond }

wrote_inside : {i v : ℕ} {s t : List ℕ} → Wrote i v s t → Inside s t
wrote_inside w = record { size = w.size; beyond = w.beyond }

-- ---- the clause

pub clause_passed : {c before total after last : ℕ} {held holds : Bool} {s a t : List ℕ} → Countable c held s → before ≡ word_at s (holding_at c) → total ≡ word_at s unsatisfied_at → after ≡ exchanged held holds before → last ≡ exchanged (eqb before 0) (eqb after 0) total → Wrote (holding_at c) after s a → Wrote unsatisfied_at last a t → ClausePassed c held holds s t
clause_passed {c} {before} {total} {after} {last} {held} {holds} {s} {a} {t} k e f g h w v = record {
  holding = here ∙ g ∙ ap (exchanged held holds) e;
  total = v.here ∙ h ∙ ap₂ (λ b n. exchanged (eqb b 0) (eqb after 0) n) e f ∙ ap (λ n. exchanged (eqb (word_at s (holding_at c)) 0) (eqb n 0) (word_at s unsatisfied_at)) (sym here);
  others = λ i m n. v.others i n ∙ w.others i m;
  inside = inside_more (wrote_inside w) (wrote_inside v);
}
  where
    here : word_at t (holding_at c) ≡ after
    here = v.others (holding_at c) (λ z. omega (arith, k.clause)) ∙ w.here

-- ---- the rule

-- A rule's state tells whether it held with another P.
pub held_told : {b : Assignment} {q : Rule} {s : State} {h : Bool} (p : ℕ) → StateOf b 0 q s → h ≡ (below_size (s.n + s.p - p) (bound_of s.a) and below_size p (bound_of s.b)) → h ≡ holds_by q p
unfolding holds_by
held_told {b} {q} {s} p k e =
    e ∙ ap₂ (λ A B. below_size (s.n + s.p - p) A and below_size p B) k.lower k.upper
    ∙ ap (λ n. below_size (n - p) (size_a q) and below_size p (size_b q)) (ap₂ ◌+◌ k.falses k.trues ∙ N_and_P b q.terms)

pub whole_weight : {b : Assignment} {q : Rule} {s : State} → StateOf b 0 q s → s.n + s.p ≡ K q.terms
whole_weight {b} {q} k = ap₂ ◌+◌ k.falses k.trues ∙ N_and_P b q.terms

-- The clause's count and the total are not the rule's word.
pub still_countable : {q : Rule} {r c v : ℕ} {held : Bool} {s t : List ℕ} → Passable q r c s → r < rule_room → held ≡ holds_by q (word_at s r) → Wrote r v s t → Countable c held t
still_countable {q} {r} {c} {v} {held} {s} {t} k l e w = record {
  room = rw w.size k.countable.room;
  clause = k.countable.clause;
  some = rw (count, e) k.countable.some;
  few = rw count k.countable.few;
  total = rw (count, total) k.countable.total;
  most = rw total k.countable.most;
}
  where
    count : word_at t (holding_at c) ≡ word_at s (holding_at c)
    count = w.others (holding_at c) (λ z. omega arith)

    total : word_at t unsatisfied_at ≡ word_at s unsatisfied_at
    total = w.others unsatisfied_at (λ z. omega arith)

pub rule_passed : {b : Assignment} {q : Rule} {r c : ℕ} {held holds : Bool} {z : State} {s a t : List ℕ} → StateOf b 0 q z → Passable q r c s → r < rule_room → held ≡ holds_by q (word_at s r) → holds ≡ holds_in z → Wrote r z.p s a → ClausePassed c held holds a t → Passed q b r c s t × Inside s t
rule_passed {b} {q} {r} {c} {held} {holds} {z} {s} {a} {t} k n l e f w d = (
  record {
    weight = d.others r (λ m. omega arith) (λ m. omega (arith, n.countable.clause)) ∙ w.here ∙ k.trues;
    holding = d.holding ∙ ap₂ (λ x y. exchanged x y (word_at a (holding_at c))) e (f ∙ holds_rule k) ∙ ap (exchanged (holds_by q (word_at s r)) (rule_holds b q)) count;
    total = d.total ∙ ap₂ (λ x y. exchanged (eqb x 0) (eqb (word_at t (holding_at c)) 0) y) count total;
    others = λ i j m o u. d.others i o u ∙ w.others i m;
  },
  inside_more (wrote_inside w) d.inside,
)
  where
    count : word_at a (holding_at c) ≡ word_at s (holding_at c)
    count = w.others (holding_at c) (λ m. omega arith)

    total : word_at a unsatisfied_at ≡ word_at s unsatisfied_at
    total = w.others unsatisfied_at (λ m. omega arith)

-- ---- from what the code reads

module _ (tables terms : List ℕ) {b : Assignment} {z : State} {r k : ℕ} (e : r ≡ k) (h : StateOf b 0 (rule_of (word_at tables) (word_at terms) r) z) where
  pub state_read : StateOf b 0 (rule_of (word_at tables) (word_at terms) k) z
  state_read = rw e at h

  module _ {c p : ℕ} {t : List ℕ} (n : Passable (rule_of (word_at tables) (word_at terms) k) k c t) (m : p ≡ word_at t r) where
    weight_here : p ≡ word_at t k
    weight_here = m ∙ ap (word_at t) e

    pub weight_ready : Balanced z × (p ≤ z.n + z.p)
    weight_ready = (h.balanced, omega (arith, weight_here, n.weight, whole_weight state_read))

    module _ {held : Bool} (d : held ≡ (below_size (z.n + z.p - p) (bound_of z.a) and below_size p (bound_of z.b))) where
      pub held_here : held ≡ holds_by (rule_of (word_at tables) (word_at terms) k) (word_at t k)
      held_here = held_told p state_read d ∙ ap (holds_by (rule_of (word_at tables) (word_at terms) k)) weight_here

      module _ (few : r < rule_room) {u : List ℕ} (w : Wrote r z.p t u) where
        there : Wrote k z.p t u
        there = rw e at w

        pub clause_ready : {j : ℕ} → j ≡ c → Countable j held u
        clause_ready q = rw q (still_countable n (rw e at few) held_here there)

        pub place_passed : {j : ℕ} {holds : Bool} {v : List ℕ} → j ≡ c → holds ≡ holds_in z → ClausePassed j held holds u v → Passed (rule_of (word_at tables) (word_at terms) k) b k c t v × Inside t v
        place_passed q f a = rule_passed state_read n (rw e at few) held_here f there (rw q at a)
