-- A clause's rules beside the places of its group: a rule that names the variable has the next place.
-- Assumes nothing.
use Prim.Native.Nat.{ℕ, suc, ◌+◌, ◌-◌, ◌≤◌, ◌<◌}
use native.Mathlib.Numerals.{add-one}
use native.Mathlib.Decide.{dec_lt}
use native.Mathlib.Omega.{arith}
use mathlib.Core.Path.{◌≡◌, refl, sym, ap, ap₂, ◌∙◌}
use mathlib.Core.Bool.{Bool, true, false, cond}
use mathlib.Core.Logic.{◌⊎◌, inl, inr, ⊎_elim}
use mathlib.Core.List.{List, [], ◌∷◌, ◌++◌, append-nil}
use lib.Dec.{eqb}
use lib.ListN.{length, get_or, drop}
use lib.Seq.{drop-cons}
use borrow.Author.Tests.{eq-eqb, ne_eqb}
use Rattle.plpb.specs.Lists.{◌or◌, any, concat}
use Rattle.plpb.specs.Plan.{Term, Rule, Clause, Plan, Assignment, named_in}
use Rattle.plpb.specs.Normal.{literal, literal_true, size}
use Rattle.plpb.specs.Equations.{out, on, off, standing}
use Rattle.plpb.specs.Tallies.{rules_of}
use Rattle.plpb.proofs.Lists.{false_T}
use Rattle.words.specs.Words.{word_at}
use Rattle.order.specs.Order.{Place, in_terms, in_rules, order, cut, no_rule, rule_at, first_rule, word_place}
use Rattle.order.proofs.Occurrences.{place_in}
use Rattle.order.proofs.Runs.{first_next, first_within, rule_in_clause}
use Rattle.order.proofs.Grouped.{rule_first}
use Rattle.order.proofs.Blocks.{cut_cons, cut_past}
use Rattle.format.specs.Tables.{plan_of_tables}
use Rattle.format.specs.Layout.{entry_at, clause_first_at, clause_count_at}
use Rattle.recount.specs.Core.{Laid, RunReadable}
use Rattle.recount.proofs.Laid.{clauses_word, run_readable, next_rule_lem}
use Rattle.columns.specs.Columns.{no_place}
use Rattle.effects.specs.Kept.{place_at, Visited}
use Rattle.effects.proofs.Kept.{rule_rising}
use Rattle.effects.proofs.Places.{place_here}
use Rattle.effects.proofs.Visits.{visited}
use Rattle.groups.specs.declared.group.Group.{Group}
use Rattle.groups.proofs.Stretch.{stretch_inside}
use Rattle.groups.proofs.Runs.{group_stretch, of_run}
use Rattle.joining.specs.Merging.{Ahead, Merging, Placed}

-- ---- the first place of some rules

terms_head : (x c r i : ℕ) (ts : List Term) (rest : List Place) (u : Place) (us : List Place) → in_terms x c r i ts ++ rest ≡ u ∷ us → (u.rule ≡ r) ⊎ (rest ≡ u ∷ us)
unfolding in_terms
terms_head x c r i [] rest u us e = inr e
terms_head x c r i (t ∷ ts) rest u us e = at (eqb t.variable x) e (terms_head x c r (suc i) ts rest u us)
  where
    q : Place
    q = record { clause = c; rule = r; term = i }

    at : (b : Bool) → cond b (q ∷ in_terms x c r (suc i) ts) (in_terms x c r (suc i) ts) ++ rest ≡ u ∷ us → (in_terms x c r (suc i) ts ++ rest ≡ u ∷ us → (u.rule ≡ r) ⊎ (rest ≡ u ∷ us)) → (u.rule ≡ r) ⊎ (rest ≡ u ∷ us)
    at true k ih = let same : q ≡ u = cc in inl (ap (λ v. v.rule) (sym same))
    at false k ih = ih k

head_rule : (x c r : ℕ) (k : List Rule) (u : Place) (us : List Place) → in_rules x c r k ≡ u ∷ us → r ≤ u.rule
unfolding in_rules
head_rule x c r [] u us e = let z : ◌≡◌ {A = ℕ} 0 1 = cc in absurd (omega arith)
head_rule x c r (q ∷ qs) u us e =
    ⊎_elim (λ h. omega (arith, h)) (λ h. omega (arith, head_rule x c (suc r) qs u us h)) (terms_head x c r 0 q.terms (in_rules x c (suc r) qs) u us e)

pub standing_out : (a : Assignment) (x : ℕ) (ts : List Term) → named_in x ts ≡ false → standing a x ts ≡ out
unfolding named_in any ◌or◌ standing
standing_out a x [] e = refl
standing_out a x (t ∷ ts) e = at (eqb t.variable x) e (standing_out a x ts)
  where
    at : (b : Bool) → b or named_in x ts ≡ false → (named_in x ts ≡ false → standing a x ts ≡ out) → cond b (cond (literal_true a (literal t)) (on (size t)) (off (size t))) (standing a x ts) ≡ out
    at true h ih = absurd (false_T h tt)
    at false h ih = ih h

-- ---- one rule

module _ {g : Group} {r i : ℕ} (m : Merging g r i) where
  abbrev p : Plan
  p = plan_of_tables g.run.now.footing.now.tables.now g.run.now.footing.now.terms.now

  abbrev clause : Clause
  clause = get_or (plan_of_tables g.run.now.footing.now.tables.now g.run.now.footing.now.terms.now).clauses g.clause []

  abbrev f : ℕ
  f = first_rule (plan_of_tables g.run.now.footing.now.tables.now g.run.now.footing.now.terms.now).clauses g.clause

  inside : r - f < length clause
  inside = omega (arith, m.last, m.ahead.first, first_next p.clauses g.clause m.ahead.there)

  pub merging_below : r < length (rules_of (plan_of_tables g.run.now.footing.now.tables.now g.run.now.footing.now.terms.now))
  unfolding rules_of
  merging_below = omega (arith, m.last, first_within p.clauses (suc g.clause))

  rule_is : get_or clause (r - f) no_rule ≡ rule_at p r
  unfolding rule_at rules_of
  rule_is =
      let back : f + (r - f) ≡ r = omega (arith, m.ahead.first) in
      sym (rule_in_clause p.clauses g.clause (r - f) m.ahead.there inside) ∙ ap (λ n. get_or (concat p.clauses) n no_rule) back

  rest : List Rule
  rest = drop (suc (r - f)) clause

  pub rules_next : drop (r - first_rule (plan_of_tables g.run.now.footing.now.tables.now g.run.now.footing.now.terms.now).clauses g.clause) (get_or (plan_of_tables g.run.now.footing.now.tables.now g.run.now.footing.now.terms.now).clauses g.clause []) ≡ rule_at (plan_of_tables g.run.now.footing.now.tables.now g.run.now.footing.now.terms.now) r ∷ drop (r + 1 - first_rule (plan_of_tables g.run.now.footing.now.tables.now g.run.now.footing.now.terms.now).clauses g.clause) (get_or (plan_of_tables g.run.now.footing.now.tables.now g.run.now.footing.now.terms.now).clauses g.clause [])
  rules_next =
      let next : suc (r - f) ≡ r + 1 - f = omega (arith, m.ahead.first) in
      drop-cons clause (r - f) no_rule inside ∙ ap₂ (λ q n. q ∷ drop n clause) rule_is next

  abbrev R : List Place
  R = in_rules g.run.now.x g.clause (suc r) (drop (r + 1 - f) clause)

  same_rest : R ≡ in_rules g.run.now.x g.clause (r + 1) (drop (r + 1 - f) clause)
  same_rest = ap (λ n. in_rules g.run.now.x g.clause n (drop (r + 1 - f) clause)) (sym (add-one r))

  u : Place
  u = record { clause = g.clause; rule = r; term = place_in g.run.now.x (rule_at p r).terms }

  split : cut i g.end (order p) ≡ cond (named_in g.run.now.x (rule_at p r).terms) (u ∷ R) R
  unfolding u
  split =
      m.ahead.places ∙ ap (in_rules g.run.now.x g.clause r) rules_next ∙ sym (append-nil _)
      ∙ rule_first g.run.now.x g.clause r (rule_at p r) (drop (r + 1 - f) clause) [] (rule_rising g.run.now.going.kept merging_below)
      ∙ ap (λ us. cond (named_in g.run.now.x (rule_at p r).terms) (u ∷ us) us) (append-nil R)

  first_of : i < g.end → cut i g.end (order p) ≡ get_or (order p) i no_place ∷ cut (i + 1) g.end (order p)
  first_of h = cut_cons i g.end (order p) no_place h (stretch_inside (group_stretch g.run.now g.whole))

  pub merging_visited : i < g.end → Visited g.run.now.footing.now.tables.now g.run.now.footing.now.terms.now g.run.now.footing.now.assignment.now g.run.now.footing.now.tallies.now g.run.now.marks.now g.run.now.x i
  merging_visited h = visited g.run.now (of_run g m.low h)

  -- A rule that names x has the next place, and one that does not has not.
  module _ (e : named_in g.run.now.x (rule_at (plan_of_tables g.run.now.footing.now.tables.now g.run.now.footing.now.terms.now) r).terms ≡ true) where
    both : cut i g.end (order p) ≡ u ∷ R
    both = split ∙ ap (λ b. cond b (u ∷ R) R) e

    pub named_low : i < g.end
    named_low = at (dec_lt i g.end)
      where
        at : Dec (i < g.end) → i < g.end
        at (yes h) = h
        at (no h) =
            let none : cut i g.end (order p) ≡ [] = cut_past i g.end (order p) (omega (arith, h)) in
            let b : cut i g.end (order p) ≡ u ∷ R = both in
            let z : ◌≡◌ {A = ℕ} 0 1 = cc in
            absurd (omega arith)

    pub named_here : (place_at g.run.now.footing.now.tables.now g.run.now.footing.now.terms.now i).rule ≡ r
    unfolding u
    named_here =
        let b : get_or (order p) i no_place ∷ cut (i + 1) g.end (order p) ≡ u ∷ R = sym (first_of named_low) ∙ both in
        let same : get_or (order p) i no_place ≡ u = cc in
        ap (λ q. q.rule) same

    named_rest : cut (i + 1) g.end (order p) ≡ R
    named_rest =
        let b : get_or (order p) i no_place ∷ cut (i + 1) g.end (order p) ≡ u ∷ R = sym (first_of named_low) ∙ both in
        cc

  module _ (e : named_in g.run.now.x (rule_at (plan_of_tables g.run.now.footing.now.tables.now g.run.now.footing.now.terms.now) r).terms ≡ false) where
    pub unnamed_here : i < g.end → (place_at g.run.now.footing.now.tables.now g.run.now.footing.now.terms.now i).rule ≡ r → ⊥
    unnamed_here h s = omega (arith, s, head_rule g.run.now.x g.clause (suc r) (drop (r + 1 - f) clause) (get_or (order p) i no_place) (cut (i + 1) g.end (order p)) (sym (split ∙ ap (λ b. cond b (u ∷ R) R) e) ∙ first_of h))

  -- Whether the rule names x, by the place.
  pub at_named : {w : ℕ} → i < g.end → w ≡ word_at g.run.now.footing.now.tables.now (entry_at i) → eqb (word_place w).rule r ≡ named_in g.run.now.x (rule_at (plan_of_tables g.run.now.footing.now.tables.now g.run.now.footing.now.terms.now) r).terms
  at_named {w} h k = ap (λ n. eqb n r) (ap (λ v. (word_place v).rule) k ∙ ap (λ q. q.rule) (place_here (merging_visited h))) ∙ at (named_in g.run.now.x (rule_at p r).terms) refl
    where
      at : (b : Bool) → named_in g.run.now.x (rule_at p r).terms ≡ b → eqb (place_at g.run.now.footing.now.tables.now g.run.now.footing.now.terms.now i).rule r ≡ b
      at true e = eq-eqb _ r (named_here e)
      at false e = ne_eqb _ r (unnamed_here e h)

  pub past_unnamed : g.end ≤ i → false ≡ named_in g.run.now.x (rule_at (plan_of_tables g.run.now.footing.now.tables.now g.run.now.footing.now.terms.now) r).terms
  past_unnamed h = at (named_in g.run.now.x (rule_at p r).terms) refl
    where
      at : (b : Bool) → named_in g.run.now.x (rule_at p r).terms ≡ b → false ≡ b
      at true e = absurd (omega (arith, named_low e))
      at false e = refl

  -- The next rule, and the places behind.
  pub ahead_next : {k : ℕ} → k ≡ cond (named_in g.run.now.x (rule_at (plan_of_tables g.run.now.footing.now.tables.now g.run.now.footing.now.terms.now) r).terms) (i + 1) i → Ahead (plan_of_tables g.run.now.footing.now.tables.now g.run.now.footing.now.terms.now) g.run.now.x g.clause (r + 1) k g.end × (i ≤ k)
  ahead_next {k} h = at (named_in g.run.now.x (rule_at p r).terms) refl h
    where
      at : (b : Bool) → named_in g.run.now.x (rule_at p r).terms ≡ b → k ≡ cond b (i + 1) i → Ahead p g.run.now.x g.clause (r + 1) k g.end × (i ≤ k)
      at true e l =
          (record { there = m.ahead.there; first = omega (arith, m.ahead.first); low = omega (arith, l, named_low e); places = rw l (named_rest e ∙ same_rest) }, omega (arith, l))
      at false e l =
          (record { there = m.ahead.there; first = omega (arith, m.ahead.first); low = omega (arith, l, m.ahead.low); places = rw l (split ∙ ap (λ b. cond b (u ∷ R) R) e ∙ same_rest) }, omega (arith, l))

-- ---- where the clause's rules are

module _ {g : Group} (d : Placed g) where
  abbrev plan : Plan
  plan = plan_of_tables g.run.now.footing.now.tables.now g.run.now.footing.now.terms.now

  there : g.clause < length plan.clauses
  there = g.whole.clause_there

  laid : Laid g.run.now.footing.now.tables.now g.run.now.footing.now.terms.now
  laid = g.run.now.going.kept.ready.laid

  pub in_words : g.clause < word_at g.run.now.footing.now.tables.now 1
  in_words = omega (arith, there, clauses_word g.run.now.footing.now.tables.now g.run.now.footing.now.terms.now laid)

  pub placed_readable : RunReadable g.run.now.footing.now.tables.now g.clause
  placed_readable = run_readable g.run.now.footing.now.tables.now g.run.now.footing.now.terms.now laid g.clause in_words

  pub placed_end : {end : ℕ} → end ≡ word_at g.run.now.footing.now.tables.now (clause_first_at g.clause) + word_at g.run.now.footing.now.tables.now (clause_count_at g.clause) → end ≡ first_rule (plan_of_tables g.run.now.footing.now.tables.now g.run.now.footing.now.terms.now).clauses (suc g.clause)
  placed_end e = e ∙ sym (next_rule_lem g.run.now.footing.now.tables.now g.run.now.footing.now.terms.now laid g.clause in_words)
