-- What a flip changes of some rules joined, and what it leaves unsatisfied: each step capped, and all rules of a clause.
-- Assumes nothing.
use Prim.Native.Nat.{ℕ, suc, ◌+◌, ◌*◌, ◌-◌, ◌≤◌, ◌<◌}
use native.Mathlib.Nat.{le_refl, add-mul, mul-add, mul-sub, mul_assoc, mul-le-mul, mul-le-mul_left}
use native.Mathlib.Omega.{arith}
use mathlib.Core.Path.{◌≡◌, refl, sym, ap, ap₂, ◌∙◌}
use mathlib.Core.Bool.{cond}
use mathlib.Core.List.{[], ◌∷◌}
use lib.ListN.{get_or, drop, drop_of_length-le}
use Rattle.plpb.specs.Plan.{Rule, Clause, Plan, Assignment, named_in}
use Rattle.plpb.specs.Equations.{Standing, out, on, off, over, lost, gained, shares, shares_of, product, clause_break, clause_make}
use Rattle.plpb.specs.Count.{capped}
use Rattle.plpb.proofs.Capped.{capped_zero, capped_twice, same_sum, same_product}
use Rattle.counting.specs.Count.{number}
use Rattle.counting.specs.Bound.{bound_of}
use Rattle.words.specs.Words.{word_at}
use Rattle.order.specs.Order.{rule_at, first_rule}
use Rattle.order.proofs.Runs.{first_next}
use Rattle.format.specs.Tables.{plan_of_tables}
use Rattle.format.specs.Layout.{clause_first_at}
use Rattle.rules.specs.declared.state.State.{State}
use Rattle.rules.specs.Places.{standing_in}
use Rattle.rules.specs.State.{Balanced, StateOf, Turned, opposite, shares_from}
use Rattle.rules.proofs.States.{shares_rule}
use Rattle.recount.proofs.Laid.{first_rule_lem}
use Rattle.effects.specs.Kept.{lent_bits}
use Rattle.groups.specs.declared.group.Group.{Group}
use Rattle.joining.specs.declared.Pair.{Pair}
use Rattle.joining.specs.declared.Counted.{Counted}
use Rattle.joining.specs.declared.Counted.TheVariants.{Spoiled, Mended}
use Rattle.joining.specs.Merging.{Ahead, Merging, Placed}
use Rattle.joining.specs.Pairs.{JoinedPair, SeenFor, rule_count, clause_count}
use Rattle.joining.proofs.Merging.{ahead_next, rules_next, in_words}

-- ---- one more rule

-- A factor that is capped first.
capped_factor : (d G : ℕ) {g r : ℕ} → g ≡ capped G → r ≡ capped (d * g) → r ≡ capped (d * G)
capped_factor d G {g} e h = h ∙ same_product d d g G refl (ap capped e ∙ capped_twice G)

-- e and g of the rule may be capped first.
pub joined_exact : {t r : Pair} (E G : ℕ) {e g : ℕ} → e ≡ capped E → g ≡ capped G → JoinedPair t e g r → JoinedPair t E G r
joined_exact {t} E G {e} {g} p q h =
    let e_same : capped e ≡ capped E = ap capped p ∙ capped_twice E in
    let g_same : capped g ≡ capped G = ap capped q ∙ capped_twice G in
    record {
      changed =
          h.changed
          ∙ same_sum (number t.e * (e + g)) (number t.e * (E + G)) (number t.g * e) (number t.g * E)
          (same_product (number t.e) (number t.e) (e + g) (E + G) refl (same_sum e E g G e_same g_same))
          (same_product (number t.g) (number t.g) e E refl e_same);
      left = capped_factor (number t.g) G q h.left;
    }

-- Nothing of a rule that does not name the variable is changed.
pub joined_unnamed : {t r : Pair} (G : ℕ) {g : ℕ} → g ≡ capped G → number r.e ≡ capped (number t.e * g) → number r.g ≡ capped (number t.g * g) → JoinedPair t 0 G r
joined_unnamed {t} G e p q =
    record {
      changed = capped_factor (number t.e) G e p ∙ ap capped (omega arith);
      left = capped_factor (number t.g) G e q;
    }

-- ---- a state turned over

-- What a flip mends is what the flip back spoils, and both leave the same.
turned_shares : (z : Standing) (n p m q : ℕ) (A B : _) → lost z ≤ p → gained z ≤ n → m + gained z ≡ n + lost z → q + lost z ≡ p + gained z
    → ((shares (opposite z) m q A B).e ≡ (shares z n p A B).f) × ((shares (opposite z) m q A B).g ≡ (shares z n p A B).g)
unfolding shares opposite lost gained
turned_shares out n p m q A B l g e f =
    let same : m ≡ n = omega (arith, e) in
    let same' : q ≡ p = omega (arith, f) in
    (refl, ap₂ (λ u v. over u A + over v B) same same')
turned_shares (on w) n p m q A B l g e f =
    let all : q + w ≡ p = omega (arith, f) in
    let rest : q ≡ p - w = omega (arith, f) in
    let back : m - w ≡ n = omega (arith, e) in
    (ap₂ (λ u v. over u B - over v B) all rest, ap₂ (λ u v. over u B + over v A) rest back ∙ omega arith)
turned_shares (off w) n p m q A B l g e f =
    let all : m + w ≡ n = omega (arith, e) in
    let rest : m ≡ n - w = omega (arith, e) in
    let back : q - w ≡ p = omega (arith, f) in
    (ap₂ (λ u v. over u A - over v A) all rest, ap₂ (λ u v. over u A + over v B) rest back ∙ omega arith)

pub seen_turned : {s r : State} → Balanced s → Turned s r → SeenFor Mended s r
unfolding shares_from
seen_turned {s} {r} b t =
    let both = turned_shares (standing_in s.stands) s.n s.p r.n r.p (bound_of s.a) (bound_of s.b) b.loses b.gains t.falses t.trues in
    record {
      changed = rw (t.stands, t.lower, t.upper) both.0;
      left = rw (t.stands, t.lower, t.upper) both.1;
      balanced = t.balanced;
    }

-- Of a rule that does not name the variable nothing is changed, whichever is counted.
pub seen_unnamed : (d : Counted) {s : State} → Balanced s → standing_in s.stands ≡ out → SeenFor d s s
unfolding shares_from shares
seen_unnamed Spoiled b h = record { changed = refl; left = refl; balanced = b }
seen_unnamed Mended b h = record { changed = rw h refl; left = refl; balanced = b }

-- ---- the rules yet to come

module _ (e g : Rule → ℕ) where
  -- What the pair so far comes to with some more rules.
  unfoldable pub comes_to : ℕ → ℕ → Clause → ℕ
  comes_to d k rs = d * product (λ r. e r + g r) rs + k * (product (λ r. e r + g r) rs - product g rs)

  fewer_left : (rs : Clause) → product g rs ≤ product (λ r. e r + g r) rs
  unfolding product
  fewer_left [] = le_refl 1
  fewer_left (r ∷ rs) = mul-le-mul (omega arith) (fewer_left rs)

  comes_cons : (d k : ℕ) (r : Rule) (rs : Clause) → comes_to (d * (e r + g r) + k * e r) (k * g r) rs ≡ comes_to d k (r ∷ rs)
  unfolding comes_to product
  comes_cons d k r rs =
      sym (ap (λ n. d * ((e r + g r) * all) + k * n) (part (e r) (g r)) ∙ flat (e r) (g r) (all - product g rs))
    where
      all : ℕ
      all = product (λ q. e q + g q) rs

      part : (s t : ℕ) → (s + t) * all - t * product g rs ≡ s * all + t * (all - product g rs)
      part s t = omega (arith, add-mul s t all, mul-sub t all (product g rs), mul-le-mul_left t (fewer_left rs))

      flat : (s t y : ℕ) → d * ((s + t) * all) + k * (s * all + t * y) ≡ (d * (s + t) + k * s) * all + k * t * y
      flat s t y = simp (add-mul, mul-add, mul_assoc) (omega arith)

  same_comes : (rs : Clause) (d d' k k' : ℕ) → capped d ≡ capped d' → capped k ≡ capped k' → capped (comes_to d k rs) ≡ capped (comes_to d' k' rs)
  unfolding comes_to
  same_comes rs d d' k k' p q =
      let all : ℕ = product (λ q. e q + g q) rs in
      same_sum (d * all) (d' * all) (k * (all - product g rs)) (k' * (all - product g rs)) (same_product d d' all all p refl) (same_product k k' (all - product g rs) (all - product g rs) q refl)

  comes_step : (t u : Pair) (r : Rule) (rs : Clause) → JoinedPair t (e r) (g r) u → capped (comes_to (number u.e) (number u.g) rs) ≡ capped (comes_to (number t.e) (number t.g) (r ∷ rs))
  comes_step t u r rs h =
      same_comes rs (number u.e) (number t.e * (e r + g r) + number t.g * e r) (number u.g) (number t.g * g r) (ap capped h.changed ∙ capped_twice _) (ap capped h.left ∙ capped_twice _)
      ∙ ap capped (comes_cons (number t.e) (number t.g) r rs)

  comes_end : (d k : ℕ) → comes_to d k [] ≡ d
  unfolding comes_to product
  comes_end d k = omega arith

-- What is counted of a rule, what is left of it, and what those of a clause come to.
abbrev pub changed_of : Counted → Assignment → ℕ → Rule → ℕ
changed_of d a x q = rule_count d (shares_of a x q)

abbrev pub left_of : Assignment → ℕ → Rule → ℕ
left_of a x q = (shares_of a x q).g

comes_start : (d : Counted) (a : Assignment) (x : ℕ) (c : Clause) → comes_to (changed_of d a x) (left_of a x) 0 1 c ≡ clause_count d a x c
unfolding comes_to clause_break clause_make
comes_start Spoiled a x c = omega arith
comes_start Mended a x c = omega arith

-- ---- all rules of the clause

-- Those before r are joined.
pub record Counting (p : Plan) (a : Assignment) (x c k j r i : ℕ) (d : Counted) (t : Pair) : Type 0 where
  pub ahead : Ahead p x c r i j
  pub last : r ≤ first_rule p.clauses (suc c)
  pub low : k ≤ i
  pub stays : capped (number t.e) ≡ number t.e
  pub along : capped (comes_to (changed_of d a x) (left_of a x) (number t.e) (number t.g) (drop (r - first_rule p.clauses c) (get_or p.clauses c []))) ≡ capped (clause_count d a x (get_or p.clauses c []))

module _ {g : Group} (f : Placed g) (d : Counted) where
  abbrev plan : Plan
  plan = plan_of_tables g.run.now.footing.now.tables.now g.run.now.footing.now.terms.now

  abbrev bits : Assignment
  bits = lent_bits g.run.now.footing.now.tables.now g.run.now.footing.now.terms.now g.run.now.footing.now.assignment.now

  pub counting_start : {first : ℕ} {t : Pair} → first ≡ word_at g.run.now.footing.now.tables.now (clause_first_at g.clause) → number t.e ≡ 0 → number t.g ≡ 1 → Counting (plan_of_tables g.run.now.footing.now.tables.now g.run.now.footing.now.terms.now) (lent_bits g.run.now.footing.now.tables.now g.run.now.footing.now.terms.now g.run.now.footing.now.assignment.now) g.run.now.x g.clause g.first g.end first g.first d t
  counting_start {first} {t} e p q =
      let same : first ≡ first_rule plan.clauses g.clause = e ∙ first_rule_lem g.run.now.footing.now.tables.now g.run.now.footing.now.terms.now g.run.now.going.kept.ready.laid g.clause (in_words f) in
      let none : first - first_rule plan.clauses g.clause ≡ 0 = omega (arith, same) in
      record {
        ahead = record { there = g.whole.clause_there; first = omega (arith, same); low = omega (arith, g.whole.some); places = rw (none, same) f.places };
        last = omega (arith, same, first_next plan.clauses g.clause g.whole.clause_there);
        low = le_refl g.first;
        stays = rw p capped_zero;
        along = rw (none, p, q) (ap capped (comes_start d bits g.run.now.x (get_or plan.clauses g.clause [])));
      }

  module _ {r i : ℕ} {t : Pair} (o : Counting (plan_of_tables g.run.now.footing.now.tables.now g.run.now.footing.now.terms.now) (lent_bits g.run.now.footing.now.tables.now g.run.now.footing.now.terms.now g.run.now.footing.now.assignment.now) g.run.now.x g.clause g.first g.end r i d t) where
    pub counting_merging : r < first_rule (plan_of_tables g.run.now.footing.now.tables.now g.run.now.footing.now.terms.now).clauses (suc g.clause) → Merging g r i
    counting_merging h = record { low = o.low; ahead = o.ahead; last = h }

    pub counting_next : (h : r < first_rule (plan_of_tables g.run.now.footing.now.tables.now g.run.now.footing.now.terms.now).clauses (suc g.clause)) {s z : State} {u : Pair} {n : ℕ} → StateOf (lent_bits g.run.now.footing.now.tables.now g.run.now.footing.now.terms.now g.run.now.footing.now.assignment.now) g.run.now.x (rule_at (plan_of_tables g.run.now.footing.now.tables.now g.run.now.footing.now.terms.now) r) s → SeenFor d s z → JoinedPair t (shares_from z).e (shares_from z).g u → n ≡ cond (named_in g.run.now.x (rule_at (plan_of_tables g.run.now.footing.now.tables.now g.run.now.footing.now.terms.now) r).terms) (i + 1) i
        → Counting (plan_of_tables g.run.now.footing.now.tables.now g.run.now.footing.now.terms.now) (lent_bits g.run.now.footing.now.tables.now g.run.now.footing.now.terms.now g.run.now.footing.now.assignment.now) g.run.now.x g.clause g.first g.end (r + 1) n d u
    counting_next h {s} {z} {u} {n} q v w l =
        let next = ahead_next (counting_merging h) l in
        let changes : (shares_from z).e ≡ changed_of d bits g.run.now.x (rule_at plan r) = v.changed ∙ ap (rule_count d) (shares_rule q) in
        let leaves : (shares_from z).g ≡ left_of bits g.run.now.x (rule_at plan r) = v.left ∙ ap (λ y. y.g) (shares_rule q) in
        let step : JoinedPair t (changed_of d bits g.run.now.x (rule_at plan r)) (left_of bits g.run.now.x (rule_at plan r)) u = rw (changes, leaves) at w in
        record {
          ahead = next.0;
          last = omega arith;
          low = omega (arith, o.low, next.1);
          stays = ap capped w.changed ∙ capped_twice _ ∙ sym w.changed;
          along =
              comes_step (changed_of d bits g.run.now.x) (left_of bits g.run.now.x) t u (rule_at plan r) (drop (r + 1 - first_rule plan.clauses g.clause) (get_or plan.clauses g.clause [])) step
              ∙ ap (λ rs. capped (comes_to (changed_of d bits g.run.now.x) (left_of bits g.run.now.x) (number t.e) (number t.g) rs)) (sym (rules_next (counting_merging h)))
              ∙ o.along;
        }

    pub counting_end : first_rule (plan_of_tables g.run.now.footing.now.tables.now g.run.now.footing.now.terms.now).clauses (suc g.clause) ≤ r → number t.e ≡ capped (clause_count d (lent_bits g.run.now.footing.now.tables.now g.run.now.footing.now.terms.now g.run.now.footing.now.assignment.now) g.run.now.x (get_or (plan_of_tables g.run.now.footing.now.tables.now g.run.now.footing.now.terms.now).clauses g.clause []))
    counting_end h =
        let none : drop (r - first_rule plan.clauses g.clause) (get_or plan.clauses g.clause []) ≡ [] = drop_of_length-le (get_or plan.clauses g.clause []) {i = r - first_rule plan.clauses g.clause} (omega (arith, first_next plan.clauses g.clause g.whole.clause_there)) in
        sym o.stays ∙ ap capped (sym (comes_end (changed_of d bits g.run.now.x) (left_of bits g.run.now.x) (number t.e) (number t.g))) ∙ (rw none at o.along)
