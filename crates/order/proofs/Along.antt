-- The flip through the run is the flip: each occurrence brings one rule from the old bits to the new ones, and a rule without an occurrence counts alike
-- under both.
use Prim.Native.Nat.{ℕ, zero, suc, ◌+◌, ◌-◌, ◌≤◌, ◌<◌}
use native.Mathlib.Nat.{zero-add, add-zero}
use native.Mathlib.Omega.{arith}
use mathlib.Core.Path.{◌≡◌, refl, sym, ap, ap₂, ◌∙◌, subst}
use mathlib.Core.Bool.{Bool, true, false, not, cond}
use mathlib.Core.List.{List, [], ◌∷◌, ◌++◌, map}
use lib.Dec.{T, leb, ltb, eqb, ltb→lt, leb→le}
use lib.ListN.{length, get_or, set, take, length-append, get_or-append}
use lib.Seq.{get_or-append-add}
use borrow.Author.Tests.{eq-eqb, ne_eqb}
use Rattle.plpb.specs.Lists.{◌and◌, ◌or◌, any, all, count, concat}
use Rattle.plpb.specs.Plan.{Term, Rule, Clause, Plan, Assignment, flip, rule_holds, clause_holds, rising_above, rising, numbers_rise, named_in}
use Rattle.plpb.specs.Normal.{literal, literal_true, size, P, N}
use Rattle.plpb.specs.Equations.{on, off, standing, lost, gained}
use Rattle.plpb.specs.Tallies.{Tallies, rules_of, unsatisfied, fresh_count}
use Rattle.plpb.proofs.Lists.{and_left, and_right, count_nil, count_cons, none_by_count, count_map, count_same, all_concat, all_at}
use Rattle.plpb.proofs.Normal.{lower_by_size, upper_by_size}
use Rattle.plpb.proofs.Equations.{P_flipped}
use Rattle.order.specs.Order.{Place, occurrences, no_rule, no_term, rule_at, term_at, first_rule, names_at, rise_within}
use Rattle.order.specs.Along.{holds_by, moved, exchanged, passed, along, weights_by, held_by, holding_by, mixed_count, under}
use Rattle.plpb.proofs.Unnamed.{unnamed_P, unnamed_holds}
use Rattle.order.proofs.Occurrences.{occurs_exactly}
use Rattle.order.proofs.Runs.{Named, named_of, named_inside, named_back, named_rule, named_below, occurrences_run}

-- ---- one rule

-- P tells whether a rule holds.
pub holds_by_P : (a : Assignment) (q : Rule) → holds_by q (P a q.terms) ≡ rule_holds a q
unfolding holds_by rule_holds N
holds_by_P a q = ap₂ ◌and◌ (sym (lower_by_size a q)) (sym (upper_by_size a q))

rising_at : (v j : ℕ) (ts : List Term) → T (rising_above v ts) → j < length ts → v < (get_or ts j no_term).variable
unfolding rising_above
rising_at v j [] t h = absurd (omega arith)
rising_at v zero (u ∷ ts) t h = ltb→lt v u.variable (and_left (ltb v u.variable) (rising_above u.variable ts) t)
rising_at v (suc j) (u ∷ ts) t h =
    let head : v < u.variable = ltb→lt v u.variable (and_left (ltb v u.variable) (rising_above u.variable ts) t) in
    let tail = rising_at u.variable j ts (and_right (ltb v u.variable) (rising_above u.variable ts) t) (omega arith) in
    omega (arith, head, tail)

-- How a variable stands in a rule is told by the one term that names it.
pub standing_at_lem : (a : Assignment) (x v j : ℕ) (ts : List Term) → T (rising_above v ts) → j < length ts → (get_or ts j no_term).variable ≡ x → standing a x ts ≡ cond (literal_true a (literal (get_or ts j no_term))) (on (size (get_or ts j no_term))) (off (size (get_or ts j no_term)))
unfolding rising_above standing
standing_at_lem a x v j [] t h e = absurd (omega arith)
standing_at_lem a x v zero (u ∷ ts) t h e = rw (eq-eqb u.variable x e) refl
standing_at_lem a x v (suc j) (u ∷ ts) t h e =
    let above = and_right (ltb v u.variable) (rising_above u.variable ts) t in
    let l : u.variable < (get_or ts j no_term).variable = rising_at u.variable j ts above (omega arith) in
    rw (ne_eqb u.variable x (λ s. omega arith)) (standing_at_lem a x u.variable j ts above (omega arith) e)

-- P moves by the weight of that term.
pub P_moved : (a : Assignment) (x j : ℕ) (ts : List Term) → T (rising ts) → 0 < x → x ≤ length a → j < length ts → (get_or ts j no_term).variable ≡ x → P (flip a x) ts ≡ moved (literal_true a (literal (get_or ts j no_term))) (size (get_or ts j no_term)) (P a ts)
unfolding rising moved lost gained
P_moved a x j ts t low high h e =
    at (literal_true a (literal (get_or ts j no_term))) (rw (standing_at_lem a x 0 j ts t h e) at (P_flipped a x ts t low high))
  where
    w : ℕ
    w = size (get_or ts j no_term)

    at : (b : Bool) → P (flip a x) ts + lost (cond b (on w) (off w)) ≡ P a ts + gained (cond b (on w) (off w)) → P (flip a x) ts ≡ moved b w (P a ts)
    at true k = omega arith
    at false k = omega arith

-- ---- the mixed count

-- Rules that count alike under v and w.
module _ (v w : ℕ → Assignment) where
  weights_alike : (o : ℕ) (qs : List Rule) → ((i : ℕ) → i < length qs → P (v (o + i)) (get_or qs i no_rule).terms ≡ P (w (o + i)) (get_or qs i no_rule).terms) → weights_by v o qs ≡ weights_by w o qs
  unfolding weights_by
  weights_alike o [] h = refl
  weights_alike o (q ∷ qs) h =
      ap₂ (λ n ns. n ∷ ns) (subst (λ r. P (v r) q.terms ≡ P (w r) q.terms) (add-zero o) (h 0 (omega arith)))
      (weights_alike (suc o) qs (λ i l. subst (λ r. P (v r) (get_or qs i no_rule).terms ≡ P (w r) (get_or qs i no_rule).terms) (later i) (h (suc i) (omega arith))))
    where
      later : (i : ℕ) → o + suc i ≡ suc o + i
      later i = omega arith

  held_alike : (o : ℕ) (qs : List Rule) → ((i : ℕ) → i < length qs → rule_holds (v (o + i)) (get_or qs i no_rule) ≡ rule_holds (w (o + i)) (get_or qs i no_rule)) → held_by v o qs ≡ held_by w o qs
  unfolding held_by
  held_alike o [] h = refl
  held_alike o (q ∷ qs) h =
      ap₂ (λ b n. cond b 1 0 + n) (subst (λ r. rule_holds (v r) q ≡ rule_holds (w r) q) (add-zero o) (h 0 (omega arith)))
      (held_alike (suc o) qs (λ i l. subst (λ r. rule_holds (v r) (get_or qs i no_rule) ≡ rule_holds (w r) (get_or qs i no_rule)) (later i) (h (suc i) (omega arith))))
    where
      later : (i : ℕ) → o + suc i ≡ suc o + i
      later i = omega arith

  holding_alike : (o : ℕ) (ks : List Clause) → ((i : ℕ) → i < length (concat ks) → rule_holds (v (o + i)) (get_or (concat ks) i no_rule) ≡ rule_holds (w (o + i)) (get_or (concat ks) i no_rule)) → holding_by v o ks ≡ holding_by w o ks
  unfolding holding_by concat
  holding_alike o [] h = refl
  holding_alike o (k ∷ ks) h =
      ap₂ (λ n ns. n ∷ ns)
      (held_alike o k (λ i l. subst (λ q. rule_holds (v (o + i)) q ≡ rule_holds (w (o + i)) q) (get_or-append k (concat ks) no_rule i l) (h i (omega (arith, size)))))
      (holding_alike (o + length k) ks (λ i l.
      subst (λ q. rule_holds (v (o + length k + i)) q ≡ rule_holds (w (o + length k + i)) q) (get_or-append-add k (concat ks) i no_rule)
      (subst (λ r. rule_holds (v r) (get_or (k ++ concat ks) (length k + i) no_rule) ≡ rule_holds (w r) (get_or (k ++ concat ks) (length k + i) no_rule)) (later i) (h (length k + i) (omega (arith, size))))))
    where
      size : length (k ++ concat ks) ≡ length k + length (concat ks)
      size = length-append k (concat ks)

      later : (i : ℕ) → o + (length k + i) ≡ o + length k + i
      later i = omega arith

  -- The mixed count is told by what each rule counts.
  pub mixed_alike : (p : Plan) → ((r : ℕ) → r < length (rules_of p) → (P (v r) (rule_at p r).terms ≡ P (w r) (rule_at p r).terms) × (rule_holds (v r) (rule_at p r) ≡ rule_holds (w r) (rule_at p r))) → mixed_count p v ≡ mixed_count p w
  unfolding mixed_count rule_at rules_of
  mixed_alike p h =
      ap₂ (λ ns ms. record { true_weights = ns; rules_holding = ms; clauses_unsatisfied = count (λ n. eqb n 0) ms })
      (weights_alike 0 (concat p.clauses) (λ i l. rw zero-add (h i l).0))
      (holding_alike 0 p.clauses (λ i l. rw zero-add (h i l).1))

-- All under one assignment, it is the fresh count.
weights_fresh : (a : Assignment) (o : ℕ) (qs : List Rule) → weights_by (λ r. a) o qs ≡ map (λ q. P a q.terms) qs
unfolding weights_by
weights_fresh a o [] = refl
weights_fresh a o (q ∷ qs) = ap (λ ns. P a q.terms ∷ ns) (weights_fresh a (suc o) qs)

held_fresh : (a : Assignment) (o : ℕ) (qs : List Rule) → held_by (λ r. a) o qs ≡ count (rule_holds a) qs
unfolding held_by
held_fresh a o [] = sym (count_nil (rule_holds a))
held_fresh a o (q ∷ qs) = ap (λ n. cond (rule_holds a q) 1 0 + n) (held_fresh a (suc o) qs) ∙ sym (count_cons (rule_holds a) q qs)

holding_fresh : (a : Assignment) (o : ℕ) (ks : List Clause) → holding_by (λ r. a) o ks ≡ map (count (rule_holds a)) ks
unfolding holding_by
holding_fresh a o [] = refl
holding_fresh a o (k ∷ ks) = ap₂ (λ n ns. n ∷ ns) (held_fresh a o k) (holding_fresh a (o + length k) ks)

pub mixed_fresh : (p : Plan) (a : Assignment) → mixed_count p (λ r. a) ≡ fresh_count p a
unfolding mixed_count fresh_count unsatisfied clause_holds
mixed_fresh p a =
    ap₂ (λ ns ms. record { true_weights = ns; rules_holding = ms; clauses_unsatisfied = count (λ n. eqb n 0) ms }) (weights_fresh a 0 (rules_of p)) (holding_fresh a 0 p.clauses)
    ∙ ap (λ n. record { true_weights = map (λ q. P a q.terms) (rules_of p); rules_holding = map (count (rule_holds a)) p.clauses; clauses_unsatisfied = n })
    (count_map (λ n. eqb n 0) (count (rule_holds a)) p.clauses
    ∙ count_same (λ k. eqb (count (rule_holds a) k) 0) (λ k. not (any (rule_holds a) k)) p.clauses (λ k. sym (none_by_count (rule_holds a) k)))

-- ---- one rule comes under another assignment

-- v and w differ in rule R only.
module _ (v w : ℕ → Assignment) (R : ℕ) (other : (r : ℕ) → (r ≡ R → ⊥) → v r ≡ w r) where
  weights_put : (o i : ℕ) (qs : List Rule) → R ≡ o + i → i < length qs → weights_by w o qs ≡ set (weights_by v o qs) i (P (w R) (get_or qs i no_rule).terms)
  unfolding weights_by
  weights_put o i [] e h = absurd (omega arith)
  weights_put o zero (q ∷ qs) e h =
      let here : R ≡ o = omega arith in
      ap₂ (λ r ns. P (w r) q.terms ∷ ns) (sym here)
      (weights_alike w v (suc o) qs (λ i l. ap (λ u. P u (get_or qs i no_rule).terms) (sym (other (suc o + i) (λ s. omega arith)))))
  weights_put o (suc i) (q ∷ qs) e h =
      ap₂ (λ u ns. P u q.terms ∷ ns) (sym (other o (λ s. omega arith))) (weights_put (suc o) i qs (omega arith) (omega arith))

  held_apart : (o : ℕ) (qs : List Rule) → ((i : ℕ) → i < length qs → o + i ≡ R → ⊥) → held_by w o qs ≡ held_by v o qs
  held_apart o qs h = held_alike w v o qs (λ i l. ap (λ u. rule_holds u (get_or qs i no_rule)) (sym (other (o + i) (h i l))))

  held_put : (o i : ℕ) (qs : List Rule) → R ≡ o + i → i < length qs → held_by w o qs + cond (rule_holds (v R) (get_or qs i no_rule)) 1 0 ≡ held_by v o qs + cond (rule_holds (w R) (get_or qs i no_rule)) 1 0
  unfolding held_by
  held_put o i [] e h = absurd (omega arith)
  held_put o zero (q ∷ qs) e h =
      let here : R ≡ o = omega arith in
      let rest = held_apart (suc R) qs (λ i l s. omega arith) in
      rw (← here) (omega (arith, rest))
  held_put o (suc i) (q ∷ qs) e h =
      let same = ap {B = ℕ} (λ u. cond (rule_holds u q) 1 0) (other o (λ s. omega arith)) in
      omega (arith, same, held_put (suc o) i qs (omega arith) (omega arith))

  -- How many rules of each clause hold.
  holding_put : (o c i : ℕ) (ks : List Clause) → R ≡ o + (first_rule ks c + i) → c < length ks → i < length (get_or ks c []) → holding_by w o ks ≡ set (holding_by v o ks) c (exchanged (rule_holds (v R) (get_or (get_or ks c []) i no_rule)) (rule_holds (w R) (get_or (get_or ks c []) i no_rule)) (get_or (holding_by v o ks) c 0))
  unfolding holding_by first_rule concat exchanged
  holding_put o c i [] e h l = absurd (omega arith)
  holding_put o zero i (k ∷ ks) e h l =
      ap₂ (λ n ns. n ∷ ns) (omega (arith, held_put o i k (omega arith) l))
      (holding_alike w v (o + length k) ks (λ j m. ap (λ u. rule_holds u (get_or (concat ks) j no_rule)) (sym (other (o + length k + j) (λ s. omega arith)))))
  holding_put o (suc c) i (k ∷ ks) e h l =
      let size = length-append k (concat (take c ks)) in
      ap₂ (λ n ns. n ∷ ns) (held_apart o k (λ j m s. omega (arith, size))) (holding_put (o + length k) c i ks (omega (arith, size)) (omega arith) l)

pub counted : (f : ℕ → Bool) (ns : List ℕ) (c : ℕ) → c < length ns → cond (f (get_or ns c 0)) 1 0 ≤ count f ns
counted f [] c h = absurd (omega arith)
counted f (n ∷ ns) zero h = omega (arith, count_cons f n ns)
counted f (n ∷ ns) (suc c) h = omega (arith, count_cons f n ns, counted f ns c (omega arith))

-- A count, where one element is set.
count_set : (f : ℕ → Bool) (ns : List ℕ) (c m : ℕ) → c < length ns → count f (set ns c m) ≡ exchanged (f (get_or ns c 0)) (f m) (count f ns)
unfolding exchanged
count_set f [] c m h = absurd (omega arith)
count_set f (n ∷ ns) zero m h = omega (arith, count_cons f m ns, count_cons f n ns)
count_set f (n ∷ ns) (suc c) m h =
    omega (arith, count_cons f n (set ns c m), count_cons f n ns, count_set f ns c m (omega arith), counted f ns c (omega arith))

pub length_holding : (v : ℕ → Assignment) (o : ℕ) (ks : List Clause) → length (holding_by v o ks) ≡ length ks
unfolding holding_by
length_holding v o [] = refl
length_holding v o (k ∷ ks) = ap suc (length_holding v (o + length k) ks)

pub weights_at : (v : ℕ → Assignment) (o i : ℕ) (qs : List Rule) → i < length qs → get_or (weights_by v o qs) i 0 ≡ P (v (o + i)) (get_or qs i no_rule).terms
unfolding weights_by
weights_at v o i [] h = absurd (omega arith)
weights_at v o zero (q ∷ qs) h = ap (λ r. P (v r) q.terms) (sym (add-zero o))
weights_at v o (suc i) (q ∷ qs) h = weights_at v (suc o) i qs (omega arith) ∙ ap (λ r. P (v r) (get_or qs i no_rule).terms) next
  where
    next : suc o + i ≡ o + suc i
    next = omega arith

pub ruled : (p : Plan) (r : ℕ) → get_or (rules_of p) r no_rule ≡ rule_at p r
unfolding rule_at
ruled p r = refl

same_tallies : {ns ns' hs hs' : List ℕ} {u u' : ℕ} → ns ≡ ns' → hs ≡ hs' → u ≡ u' → ◌≡◌ {A = Tallies} (record { true_weights = ns; rules_holding = hs; clauses_unsatisfied = u }) (record { true_weights = ns'; rules_holding = hs'; clauses_unsatisfied = u' })
same_tallies {ns} {ns'} {hs} {hs'} {u} {u'} i j k =
    ap₂ (λ ms gs. record { true_weights = ms; rules_holding = gs; clauses_unsatisfied = u }) i j
    ∙ ap (λ m. record { true_weights = ns'; rules_holding = hs'; clauses_unsatisfied = m }) k

-- One occurrence brings its rule from a to the flipped bits, and the others stay where they are.
module _ (p : Plan) (a : Assignment) (x : ℕ) (rise : T (numbers_rise p)) (low : 0 < x) (high : x ≤ length a) where
  pub rule_rises : (r : ℕ) → r < length (rules_of p) → T (rising (rule_at p r).terms)
  unfolding numbers_rise rule_at rules_of
  rule_rises r h = all_at (λ q. rising q.terms) (concat p.clauses) r no_rule (rw (all_concat (λ q. rising q.terms) p.clauses) rise) h

  pub one_passed : (v : ℕ → Assignment) (q : Place) → Named p x q → v q.rule ≡ a → passed p a (mixed_count p v) q ≡ mixed_count p (λ r. cond (eqb r q.rule) (flip a x) (v r))
  unfolding passed mixed_count term_at
  one_passed v q n e =
      same_tallies weights holding
      (sym (count_set (λ m. eqb m 0) H q.clause X (rw (length_holding v 0 p.clauses) n.clause_there)) ∙ ap (count (λ m. eqb m 0)) holding)
    where
      b : Assignment
      b = flip a x

      w : ℕ → Assignment
      w r = cond (eqb r q.rule) b (v r)

      other : (r : ℕ) → (r ≡ q.rule → ⊥) → v r ≡ w r
      other r h = rw (ne_eqb r q.rule h) refl

      here : w q.rule ≡ b
      here = rw (eq-eqb q.rule q.rule refl) refl

      rule : Rule
      rule = rule_at p q.rule

      t : Term
      t = get_or rule.terms q.term no_term

      i : ℕ
      i = q.rule - first_rule p.clauses q.clause

      W : List ℕ
      W = weights_by v 0 (rules_of p)

      H : List ℕ
      H = holding_by v 0 p.clauses

      before : get_or W q.rule 0 ≡ P a rule.terms
      before = weights_at v 0 q.rule (rules_of p) (named_below p x q n) ∙ ap₂ (λ u r. P u r.terms) (ap v (zero-add q.rule) ∙ e) (ruled p q.rule)

      after : moved (literal_true a (literal t)) (size t) (get_or W q.rule 0) ≡ P b rule.terms
      after = ap (moved (literal_true a (literal t)) (size t)) before ∙ sym (P_moved a x q.term rule.terms (rule_rises q.rule (named_below p x q n)) low high n.term_there n.named)

      gone : holds_by rule (get_or W q.rule 0) ≡ rule_holds (v q.rule) (get_or (get_or p.clauses q.clause []) i no_rule)
      gone = ap (holds_by rule) before ∙ holds_by_P a rule ∙ ap₂ rule_holds (sym e) (named_rule p x q n)

      come : holds_by rule (moved (literal_true a (literal t)) (size t) (get_or W q.rule 0)) ≡ rule_holds (w q.rule) (get_or (get_or p.clauses q.clause []) i no_rule)
      come = ap (holds_by rule) after ∙ holds_by_P b rule ∙ ap₂ rule_holds (sym here) (named_rule p x q n)

      X : ℕ
      X = exchanged (holds_by rule (get_or W q.rule 0)) (holds_by rule (moved (literal_true a (literal t)) (size t) (get_or W q.rule 0))) (get_or H q.clause 0)

      weights : set W q.rule (moved (literal_true a (literal t)) (size t) (get_or W q.rule 0)) ≡ weights_by w 0 (rules_of p)
      weights =
          ap (set W q.rule) (after ∙ ap₂ (λ u r. P u r.terms) (sym here) (sym (ruled p q.rule)))
          ∙ sym (weights_put v w q.rule other 0 q.rule (rules_of p) (sym (zero-add q.rule)) (named_below p x q n))

      holding : set H q.clause X ≡ holding_by w 0 p.clauses
      holding =
          ap₂ (λ g m. set H q.clause (exchanged g m (get_or H q.clause 0))) gone come
          ∙ sym (holding_put v w q.rule other 0 q.clause i p.clauses (sym (zero-add _ ∙ named_back p x q n)) n.clause_there (named_inside p x q n))

  -- So do all of a run, one after another: each finds its rule still under a, because the rules rise.
  pub along_mixed : (k e : ℕ) (v : ℕ → Assignment) (qs : List Place) → T (rise_within k e (map (λ q. q.rule) qs)) → T (all (names_at p x) qs) → ((r : ℕ) → k ≤ r → v r ≡ a) → along p a (mixed_count p v) qs ≡ mixed_count p (under (flip a x) qs v)
  unfolding along under rise_within all
  along_mixed k e v [] t u h = refl
  along_mixed k e v (q ∷ qs) t u h =
      ap (λ s. along p a s qs) (one_passed v q (named_of p x q (and_left (names_at p x q) (all (names_at p x) qs) u)) (h q.rule first))
      ∙ along_mixed (suc q.rule) e (λ r. cond (eqb r q.rule) (flip a x) (v r)) qs (and_right (leb k q.rule) (rise_within (suc q.rule) e (map (λ q. q.rule) qs)) t) (and_right (names_at p x q) (all (names_at p x) qs) u) later
    where
      first : k ≤ q.rule
      first = leb→le k q.rule (and_left (leb k q.rule) (rise_within (suc q.rule) e (map (λ q. q.rule) qs)) t)

      later : (r : ℕ) → suc q.rule ≤ r → cond (eqb r q.rule) (flip a x) (v r) ≡ a
      later r l = rw (ne_eqb r q.rule (λ s. omega arith)) (h r (omega (arith, first)))

-- ---- all of them

under_is : (b : Assignment) (qs : List Place) (v : ℕ → Assignment) (r : ℕ) → under b qs v r ≡ cond (any (λ q. eqb r q.rule) qs) b (v r)
unfolding under any ◌or◌
under_is b [] v r = refl
under_is b (q ∷ qs) v r = under_is b qs (λ i. cond (eqb i q.rule) b (v i)) r ∙ at (eqb r q.rule) (any (λ q. eqb r q.rule) qs)
  where
    at : (s t : Bool) → cond t b (cond s b (v r)) ≡ cond (s or t) b (v r)
    at true true = refl
    at true false = refl
    at false t = refl

-- The flip through the run is a fresh count of the flipped bits: a rule that has no occurrence does not name x, and counts alike under both.
pub flip_along : (p : Plan) (a : Assignment) (x : ℕ) → T (numbers_rise p) → 0 < x → x ≤ length a → along p a (fresh_count p a) (occurrences p x) ≡ fresh_count p (flip a x)
flip_along p a x rise low high =
    ap (λ s. along p a s (occurrences p x)) (sym (mixed_fresh p a))
    ∙ along_mixed p a x rise low high 0 (length (rules_of p)) (λ r. a) (occurrences p x) (occurrences_run p x rise).rise (occurrences_run p x rise).names (λ r l. refl)
    ∙ mixed_alike (under (flip a x) (occurrences p x) (λ r. a)) (λ r. flip a x) p each
    ∙ mixed_fresh p (flip a x)
  where
    each : (r : ℕ) → r < length (rules_of p) → (P (under (flip a x) (occurrences p x) (λ r. a) r) (rule_at p r).terms ≡ P (flip a x) (rule_at p r).terms) × (rule_holds (under (flip a x) (occurrences p x) (λ r. a) r) (rule_at p r) ≡ rule_holds (flip a x) (rule_at p r))
    each r l = rw (under_is (flip a x) (occurrences p x) (λ r. a) r, occurs_exactly p x r rise l) (at (named_in x (rule_at p r).terms) refl)
      where
        at : (b : Bool) → named_in x (rule_at p r).terms ≡ b → (P (cond b (flip a x) a) (rule_at p r).terms ≡ P (flip a x) (rule_at p r).terms) × (rule_holds (cond b (flip a x) a) (rule_at p r) ≡ rule_holds (flip a x) (rule_at p r))
        at true e = (refl, refl)
        at false e = (sym (unnamed_P a x (rule_at p r) e), sym (unnamed_holds a x (rule_at p r) e))
