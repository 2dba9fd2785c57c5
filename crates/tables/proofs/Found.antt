-- Laws of places of an accepted file: what stands there, and what is found behind it. Each takes one field from an accepted reading.
-- Assumes nothing.
use Prim.Native.Nat.{ℕ, zero, suc, ◌+◌, ◌/◌, ◌≤◌, ◌<◌}
use native.Mathlib.Omega.{arith}
use mathlib.Core.Path.{◌≡◌, refl, sym, ap, ap₂, ◌∙◌, subst}
use mathlib.Core.Bool.{Bool, true, false, cond}
use mathlib.Core.Logic.{◌⊎◌, inl, inr, ⊎_elim}
use mathlib.Core.List.{List, [], ◌∷◌, ◌++◌}
use lib.Dec.{eqb, ltb}
use lib.ListN.{length, get_or}
use borrow.Author.Tests.{eq-eqb, ne_eqb, eqb-true, leb-true, not-false}
use Rattle.plpb.specs.Lists.{◌and◌, ◌or◌, concat}
use Rattle.plpb.specs.Plan.{Rule, Clause, Plan}
use Rattle.plpb.specs.Tallies.{rules_of}
use Rattle.words.specs.Words.{num_at}
use Rattle.format.specs.File as File
use Rattle.format.specs.File.{State, Contents, refused, accepted, read_from, read, begin, plan_of, next, stage_after, add_field, finish, may_stand, tag_at, length_at, length_lawful, terms_in, terms_at, field_terms, field_locks, rule_at, bounds_lawful, mode_at, lower_at, upper_at, wrong_bounds, behind}
use Rattle.format.proofs.Bools.{and_left, true_T}
use Rattle.format.proofs.Order.{Standing, begins, rules, ends, standing}
use Rattle.format.proofs.Fields.{Clean, read_end, read_past}
use Rattle.format.proofs.Held.{not_refused, accepted_clean, accepted_behind, mapped, held}
use Rattle.tables.specs.Places.{Found, Reads, Ran, RuleHere, behind_objective, past_locks, locks_in, first_clause, behind_field, rule_from}
use Rattle.bodies.proofs.Tags.{tag_byte}

-- What a field adds, by its tag.
module _ (s : List ℕ) (at : ℕ) (d c : Contents) (same : add_field s at d ≡ c) where
  add_count : tag_at s at ≡ 1 → (c.variables ≡ num_at 2 s (at + 3)) × (c.objective ≡ d.objective) × (c.locks ≡ d.locks) × (c.rules ≡ d.rules) × (c.clauses ≡ d.clauses)
  unfolding add_field
  add_count t =
      let e = rw t at same in (
        ap (λ (x : Contents). x.variables) (sym e),
        ap (λ (x : Contents). x.objective) (sym e),
        ap (λ (x : Contents). x.locks) (sym e),
        ap (λ (x : Contents). x.rules) (sym e),
        ap (λ (x : Contents). x.clauses) (sym e),
      )

  add_objective : tag_at s at ≡ 2 → (c.objective ≡ field_terms s at) × (c.locks ≡ d.locks) × (c.clauses ≡ d.clauses)
  unfolding add_field
  add_objective t =
      let e = rw t at same in
      (ap (λ (x : Contents). x.objective) (sym e), ap (λ (x : Contents). x.locks) (sym e), ap (λ (x : Contents). x.clauses) (sym e))

  add_locks : tag_at s at ≡ 6 → (c.locks ≡ field_locks s at) × (c.rules ≡ d.rules) × (c.clauses ≡ d.clauses)
  unfolding add_field
  add_locks t =
      let e = rw t at same in
      (ap (λ (x : Contents). x.locks) (sym e), ap (λ (x : Contents). x.rules) (sym e), ap (λ (x : Contents). x.clauses) (sym e))

  add_clause : tag_at s at ≡ 3 → (c.rules ≡ []) × (c.clauses ≡ d.rules ∷ d.clauses)
  unfolding add_field
  add_clause t = let e = rw t at same in (ap (λ (x : Contents). x.rules) (sym e), ap (λ (x : Contents). x.clauses) (sym e))

  add_rule : tag_at s at ≡ 4 → (c.rules ≡ rule_at s at ∷ d.rules) × (c.clauses ≡ d.clauses)
  unfolding add_field
  add_rule t = let e = rw t at same in (ap (λ (x : Contents). x.rules) (sym e), ap (λ (x : Contents). x.clauses) (sym e))

finished : (b : Bool) (n o : ℕ) (a c : Contents) → cond b (refused n o) (accepted a) ≡ accepted c → a ≡ c
finished true n o a c e = absurd (not_refused n o c e)
finished false n o a c e = cc

ended : (s : List ℕ) (st : State) (c : Contents) → finish s st ≡ accepted c → (c.rules ≡ []) × (c.clauses ≡ [])
unfolding finish
ended s st c e =
    let h = finished (ltb (st.at + 3) (length s)) 7 (st.at + 3) (record { variables = 0; objective = []; locks = []; rules = []; clauses = [] }) c e in
    (ap (λ (x : Contents). x.rules) (sym h), ap (λ (x : Contents). x.clauses) (sym h))

-- One field of a reading from a state.
module _ (s : List ℕ) (st : State) (c : Contents) where
  clean_at : (left : ℕ) → read_from s left st ≡ accepted c → Clean s st
  unfolding read_from
  clean_at zero e = absurd (not_refused _ _ c e)
  clean_at (suc left) e = accepted_clean s left st c e

  behind_at :
      (left : ℕ) → read_from s left st ≡ accepted c → (tag_at s st.at ≡ 5 → ⊥)
      → (k : ℕ) × (d : Contents) × (read_from s k (next s st) ≡ accepted d) × (add_field s st.at d ≡ c)
  unfolding read_from
  behind_at zero e n = absurd (not_refused _ _ c e)
  behind_at (suc left) e n =
      let h = accepted_behind s left st c e (ne_eqb _ _ n) in
      (left, h.0, h.1, h.2)

  end_at_lem : (left : ℕ) → read_from s left st ≡ accepted c → tag_at s st.at ≡ 5 → finish s st ≡ accepted c
  unfolding read_from
  end_at_lem zero e t = absurd (not_refused _ _ c e)
  end_at_lem (suc left) e t = sym (read_end s left st (accepted_clean s left st c e) (eq-eqb _ _ t)) ∙ e

module _ {s : List ℕ} {at : ℕ} {rs : List Rule} {cs : List Clause} (f : Found s at rs cs) where
  clean : Clean s f.state
  clean = clean_at s f.state f.contents f.left f.reading

  pub found_room : at + 3 ≤ length s
  found_room = rw f.here at clean.head

  pub found_body : behind_field s at ≤ length s
  unfolding behind_field
  found_body = rw f.here at clean.body

  at_state : (k : ℕ) → tag_at s at ≡ k → tag_at s f.state.at ≡ k
  at_state k e = ap (tag_at s) f.here ∙ e

  -- What may stand there.
  here : Standing f.state.stage (tag_at s at)
  here = rw f.here at (standing _ _ f.stage clean.tag)

  -- A rule, and what is found behind it.
  pub found_rule : tag_at s at ≡ 4 → (rest : List Rule) × (rs ≡ rule_at s at ∷ rest) × Found s (behind_field s at) rest cs
  unfolding next stage_after behind behind_field
  found_rule e =
      let t = at_state 4 e in
      let (k, d, on, same) = behind_at s f.state f.contents f.left f.reading (λ q. absurd (omega (arith, t))) in
      let (r, c) = add_rule s f.state.at d f.contents same t in (
        d.rules,
        sym f.rules ∙ r ∙ ap (λ (n : ℕ). rule_at s n ∷ d.rules) f.here,
        record {
          left = k;
          state = next s f.state;
          contents = d;
          reading = on;
          here = ap (λ (n : ℕ). n + 3 + length_at s n) f.here;
          stage = rw t;
          rules = refl;
          clauses = sym c ∙ f.clauses;
        },
      )

  -- What is known of a rule's field.
  pub rule_room_lem : tag_at s at ≡ 4 → 15 ≤ length_at s at
  unfolding length_lawful
  rule_room_lem e =
      let h : 15 ≤ length_at s f.state.at = leb-true _ _ (and_left _ _ (rw (at_state 4 e) at clean.size)) in
      rw f.here at h

  pub rule_bounds : tag_at s at ≡ 4 → bounds_lawful (mode_at s at) (lower_at s at) (upper_at s at) ≡ true
  unfolding wrong_bounds ◌and◌
  rule_bounds e =
      let n = f.state.at in
      let h : bounds_lawful (mode_at s n) (lower_at s n) (upper_at s n) ≡ true = not-false _ (rw (at_state 4 e) at clean.bounds) in
      rw f.here at h

  -- A clause, and the rules and clauses behind its beginning.
  clause_size : tag_at s at ≡ 3 → length_at s f.state.at ≡ 0
  unfolding length_lawful
  clause_size e = eqb-true _ _ (rw (at_state 3 e) at clean.size)

  begun :
      tag_at s at ≡ 3
      → (rs ≡ []) × (k : ℕ) × (d : Contents) × (read_from s k (next s f.state) ≡ accepted d) × (cs ≡ d.rules ∷ d.clauses)
  begun e =
      let t = at_state 3 e in
      let (k, d, on, same) = behind_at s f.state f.contents f.left f.reading (λ q. absurd (omega (arith, t))) in
      let (r, c) = add_clause s f.state.at d f.contents same t in
      (sym f.rules ∙ r, k, d, on, sym f.clauses ∙ c)

  pub found_clause :
      tag_at s at ≡ 3
      → (rs ≡ []) × (c : Clause) × (rest : List Clause) × (cs ≡ c ∷ rest) × Found s (at + 3) c rest × (tag_at s (at + 3) ≡ 4)
  unfolding next stage_after behind may_stand
  found_clause e =
      let t = at_state 3 e in
      let (none, k, d, on, c) = begun e in
      let n = f.state.at in
      let four : tag_at s (n + 3 + length_at s n) ≡ 4 = eqb-true _ _ (rw t at (clean_at s (next s f.state) d k on).tag) in
      let there : f.state.at + 3 + length_at s f.state.at ≡ at + 3 = omega (arith, f.here, clause_size e) in (
        none,
        d.rules,
        d.clauses,
        c,
        record { left = k; state = next s f.state; contents = d; reading = on; here = there; stage = rw t; rules = refl; clauses = refl },
        rw there at four,
      )

  -- The end.
  pub found_end : tag_at s at ≡ 5 → (rs ≡ []) × (cs ≡ [])
  found_end e =
      let (r, c) = ended s f.state f.contents (end_at_lem s f.state f.contents f.left f.reading (at_state 5 e)) in
      (sym f.rules ∙ r, sym f.clauses ∙ c)

  pub no_rule_lem : (tag_at s at ≡ 4 → ⊥) → rs ≡ []
  no_rule_lem n = none here
    where
      none : Standing f.state.stage (tag_at s at) → rs ≡ []
      none (begins t h) = (found_clause t).0
      none (rules t h) = absurd (n t)
      none (ends t h) = (found_end t).0

-- Where no rule is left and no clause begins, the file ends.
pub no_clause_left : {s : List ℕ} {at : ℕ} {cs : List Clause} → Found s at [] cs → (tag_at s at ≡ 3 → ⊥) → cs ≡ []
no_clause_left {s} {at} {cs} f n = none (here f)
  where
    none : Standing f.state.stage (tag_at s at) → cs ≡ []
    none (begins t h) = absurd (n t)
    none (rules t h) = let (rest, e, g) = found_rule f t in let z : ◌≡◌ {A = ℕ} 0 1 = cc in absurd (omega arith)
    none (ends t h) = (found_end f t).1

four_not : (g : File.Stage) (tag : ℕ) → g ≡ File.at_clause → may_stand g tag ≡ true → tag ≡ 4 → ⊥
unfolding may_stand ◌or◌
four_not g tag e h q = true_T false (rw (e, q) at h)

-- Where a clause may begin, no rule is left of one before.
none_left : {s : List ℕ} {at : ℕ} {rs : List Rule} {cs : List Clause} (f : Found s at rs cs) → f.state.stage ≡ File.at_clause → Found s at [] cs
none_left {s} f e =
    let none = no_rule_lem f (λ q. four_not _ _ e (clean f).tag (at_state f 4 q)) in
    record {
      left = f.left;
      state = f.state;
      contents = f.contents;
      reading = f.reading;
      here = f.here;
      stage = f.stage;
      rules = f.rules ∙ none;
      clauses = f.clauses;
    }

-- The field of locks, where there is one.
record Third (s : List ℕ) (at : ℕ) (c : Contents) : Type 0 where
  head : at + 3 ≤ length s
  body : behind_field s at ≤ length s
  locks : c.locks ≡ field_locks s at
  found : Found s (past_locks s at) [] c.clauses

abbrev third_state : ℕ → ℕ → State
third_state at n = record { at = at; stage = File.at_locks; variables = n; clauses = 0; rules = 0; terms = 0 }

module _ (s : List ℕ) (left at n : ℕ) (c : Contents) (e : read_from s left (third_state at n) ≡ accepted c) where
  third_clean : Clean s (third_state at n)
  third_clean = clean_at s (third_state at n) c left e

  -- It stands here.
  third_field : tag_at s at ≡ 6 → Third s at c
  unfolding next stage_after behind behind_field past_locks
  third_field t =
      let (k, d, on, same) = behind_at s (third_state at n) c left e (λ q. absurd (omega (arith, t))) in
      let (ks, r, cl) = add_locks s at d c same t in
      let f : Found s (at + 3 + length_at s at) c.rules c.clauses =
      record { left = k; state = next s (third_state at n); contents = d; reading = on; here = refl; stage = rw t; rules = sym r; clauses = sym cl } in
      record {
        head = third_clean.head;
        body = third_clean.body;
        locks = ks;
        found = subst (λ (m : ℕ). Found s m [] c.clauses) (rw t) (none_left f (rw t));
      }

  -- Something else does: reading goes on as from behind one.
  third_none : eqb (tag_at s at) 6 ≡ false → Third s at c
  unfolding behind behind_field past_locks field_locks
  third_none t =
      let on = sym (read_past s left at n 0 0 0 t) ∙ e in
      let st : State = record { at = at; stage = File.at_clause; variables = n; clauses = 0; rules = 0; terms = 0 } in
      let h = held s left st c (record { stage = refl; clauses = omega arith; rules = omega arith; terms = omega arith }) on in
      let f : Found s at c.rules c.clauses =
      record { left = left; state = st; contents = c; reading = on; here = refl; stage = refl; rules = refl; clauses = refl } in
      record {
        head = third_clean.head;
        body = third_clean.body;
        locks = rw t h.locks;
        found = subst (λ (m : ℕ). Found s m [] c.clauses) (rw t) (none_left f refl);
      }

  third : Third s at c
  third = by (eqb (tag_at s at) 6) refl
    where
      by : (b : Bool) → eqb (tag_at s at) 6 ≡ b → Third s at c
      by true t = third_field (eqb-true _ _ t)
      by false t = third_none t

-- The first two fields: the variable count and the objective.
record Second (s : List ℕ) (at : ℕ) (c : Contents) : Type 0 where
  room : behind_field s at ≤ length s
  objective : c.objective ≡ terms_at s (at + 3) (length_at s at / 6)
  third : Third s (behind_field s at) c

abbrev second_state : ℕ → ℕ → State
second_state at n = record { at = at; stage = File.at_objective; variables = n; clauses = 0; rules = 0; terms = 0 }

module _ (s : List ℕ) (left at n : ℕ) (c : Contents) (e : read_from s left (second_state at n) ≡ accepted c) where
  second_clean : Clean s (second_state at n)
  second_clean = clean_at s (second_state at n) c left e

  second_tag : tag_at s at ≡ 2
  unfolding may_stand
  second_tag = eqb-true _ _ second_clean.tag

  second_terms : field_terms s at ≡ terms_at s (at + 3) (length_at s at / 6)
  unfolding field_terms terms_in
  second_terms = rw second_tag

  second_next : next s (second_state at n) ≡ third_state (at + 3 + length_at s at) n
  unfolding next stage_after
  second_next = rw second_tag

  second : Second s at c
  unfolding behind_field
  second =
      let t = second_tag in
      let (k, d, on, same) = behind_at s (second_state at n) c left e (λ q. absurd (omega (arith, t))) in
      let (o, ks, cl) = add_objective s at d c same t in
      let h = third s k (at + 3 + length_at s at) n d (ap (read_from s k) (sym second_next) ∙ on) in
      record {
        room = second_clean.body;
        objective = o ∙ second_terms;
        third =
            record {
              head = h.head;
              body = h.body;
              locks = ks ∙ h.locks;
              found = subst (λ (x : List Clause). Found s (past_locks s (at + 3 + length_at s at)) [] x) (sym cl) h.found;
            };
      }

-- What an accepted file says, and where its clauses begin.
pub record Begun (s : List ℕ) (p : Plan) : Type 0 where
  pub room : behind_objective s + 3 ≤ length s
  pub body : behind_field s (behind_objective s) ≤ length s
  pub variables : p.variables ≡ num_at 2 s 3
  pub objective : p.objective ≡ terms_at s 8 (length_at s 5 / 6)
  pub locks : p.locks ≡ field_locks s (behind_objective s)
  pub found : Found s (first_clause s) [] p.clauses

module _ (s : List ℕ) (left : ℕ) (c : Contents) (e : read_from s left begin ≡ accepted c) where
  first_clean : Clean s begin
  first_clean = clean_at s begin c left e

  first_tag : tag_at s 0 ≡ 1
  unfolding begin may_stand
  first_tag = eqb-true _ _ first_clean.tag

  first_size : length_at s 0 ≡ 2
  unfolding begin length_lawful
  first_size = eqb-true _ _ (rw first_tag at first_clean.size)

  first_next : next s begin ≡ second_state (3 + length_at s 0) (num_at 2 s 3)
  unfolding begin next stage_after
  first_next = rw first_tag

  first_two : (variables : c.variables ≡ num_at 2 s 3) × (d : Contents) × (c.objective ≡ d.objective) × (c.locks ≡ d.locks) × (c.clauses ≡ d.clauses) × Second s 5 d
  unfolding begin
  first_two =
      let t = first_tag in
      let (k, d, on, same) = behind_at s begin c left e (λ q. absurd (omega (arith, t))) in
      let (v, o, ks, r, cl) = add_count s 0 d c same t in
      (v, d, o, ks, cl, subst (λ (n : ℕ). Second s (3 + n) d) first_size (second s k (3 + length_at s 0) (num_at 2 s 3) d (ap (read_from s k) (sym first_next) ∙ on)))

pub begun_file : (s : List ℕ) (p : Plan) → read s ≡ accepted p → Begun s p
unfolding read plan_of behind_objective behind_field
begun_file s p a =
    let (c, e, same) = mapped plan_of (read_from s (length s) begin) p a in
    let (v, d, o, ks, cl, h) = first_two s (length s) c e in
    subst (λ (q : Plan). Begun s q) same
    (record {
      room = h.third.head;
      body = h.third.body;
      variables = v;
      objective = o ∙ h.objective;
      locks = ks ∙ h.third.locks;
      found = subst (λ (x : List Clause). Found s (first_clause s) [] x) (sym cl) h.third.found;
    })

-- The rules left of a file, at the place of the first of them, or at the end.
pub record RulesLeft (s : List ℕ) (at : ℕ) (left : List Rule) : Type 0 where
  pub rules : List Rule
  pub clauses : List Clause
  pub found : Found s at rules clauses
  pub joined : rules ++ concat clauses ≡ left
  pub stands : (tag_at s at ≡ 4) ⊎ (tag_at s at ≡ 5)

rules_at_lem :
    {s : List ℕ} {at : ℕ} {rs : List Rule} {cs : List Clause} (f : Found s at rs cs) → Standing f.state.stage (tag_at s at)
    → RulesLeft s (rule_from s at) (rs ++ concat cs)
unfolding rule_from concat
rules_at_lem {s} {at} {rs} {cs} f (begins t h) =
    let (none, c, rest, e, g, four) = found_clause f t in
    let there : at + 3 ≡ cond (eqb (tag_at s at) 3) (at + 3) at = rw t in
    subst (λ (n : ℕ). RulesLeft s n (rs ++ concat cs)) there
    (record { rules = c; clauses = rest; found = g; joined = sym (ap₂ (λ (a : List Rule) (b : List Clause). a ++ concat b) none e); stands = inl four })
rules_at_lem {s} {at} {rs} {cs} f (rules t h) =
    let there : at ≡ cond (eqb (tag_at s at) 3) (at + 3) at = rw t in
    subst (λ (n : ℕ). RulesLeft s n (rs ++ concat cs)) there
    (record { rules = rs; clauses = cs; found = f; joined = refl; stands = inl t })
rules_at_lem {s} {at} {rs} {cs} f (ends t h) =
    let there : at ≡ cond (eqb (tag_at s at) 3) (at + 3) at = rw t in
    subst (λ (n : ℕ). RulesLeft s n (rs ++ concat cs)) there
    (record { rules = rs; clauses = cs; found = f; joined = refl; stands = inr t })

rules_found : {s : List ℕ} {at : ℕ} {rs : List Rule} {cs : List Clause} → Found s at rs cs → RulesLeft s (rule_from s at) (rs ++ concat cs)
rules_found f = rules_at_lem f (here f)

pub rules_start : (s : List ℕ) (p : Plan) → Begun s p → RulesLeft s (rule_from s (first_clause s)) (rules_of p)
unfolding rules_of
rules_start s p b = rules_found b.found

from_above : (s : List ℕ) (at : ℕ) (b : Bool) → eqb (tag_at s at) 3 ≡ b → at ≤ rule_from s at
unfolding rule_from
from_above s at true e = rw e (omega arith)
from_above s at false e = rw e (omega arith)

module _ {s : List ℕ} {at : ℕ} {left : List Rule} (h : RulesLeft s at left) where
  pub rules_next : tag_at s at ≡ 4 → (rest : List Rule) × (left ≡ rule_at s at ∷ rest) × RulesLeft s (rule_from s (behind_field s at)) rest
  rules_next t =
      let (rest, e, g) = found_rule h.found t in
      (rest ++ concat h.clauses, sym h.joined ∙ ap (λ (x : List Rule). x ++ concat h.clauses) e, rules_found g)

  pub rules_end : (tag_at s at ≡ 4 → ⊥) → left ≡ []
  unfolding concat
  rules_end n =
      ⊎_elim (λ t. absurd (n t)) (λ t. let (r, c) = found_end h.found t in sym h.joined ∙ rw (r, c)) h.stands

  -- What is known of a rule's field.
  pub rules_here_lem : tag_at s at ≡ 4 → RuleHere s at
  rules_here_lem t =
      record { tag = t; room = found_body h.found; size = rule_room_lem h.found t; bounds = rule_bounds h.found t }

  pub rules_room : at + 3 ≤ length s
  rules_room = found_room h.found

  pub behind_room : tag_at s at ≡ 4 → behind_field s at + 3 ≤ length s
  behind_room t = let (rest, e, g) = found_rule h.found t in found_room g

  -- The next one lies further on.
  pub rules_on : at < rule_from s (behind_field s at)
  unfolding behind_field
  rules_on = omega (arith, from_above s (behind_field s at) _ refl)

-- The rules of a clause counted up to a place.
pub record Running (s : List ℕ) (from at count : ℕ) : Type 0 where
  pub reads : Reads s at
  pub few : count ≤ at
  pub on : from ≤ at
  pub left : (rs : List Rule) (cs : List Clause) → Found s from rs cs → (rest : List Rule) × (count + length rest ≡ length rs) × Found s at rest cs

module _ {s : List ℕ} {from at count : ℕ} (h : Running s from at count) where
  one_more : {on : ℕ} → get_or s at 0 ≡ 4 → on ≡ behind_field s at → (rs : List Rule) (cs : List Clause) → Found s at rs cs
      → (rest : List Rule) × (rs ≡ rule_at s at ∷ rest) × Found s on rest cs
  one_more e q rs cs f =
      subst (λ (n : ℕ). (rest : List Rule) × (rs ≡ rule_at s at ∷ rest) × Found s n rest cs) (sym q) (found_rule f (sym (tag_byte s at) ∙ e))

  pub run_more : {on : ℕ} → get_or s at 0 ≡ 4 → on ≡ behind_field s at → Running s from on (count + 1)
  unfolding behind_field
  run_more {on} e q =
      let (rs, cs, f) = h.reads in
      let (rest, e', g) = one_more e q rs cs f in
      record {
        reads = (rest, cs, g);
        few = omega (arith, h.few);
        on = omega (arith, h.on);
        left = λ rs cs f.
            let (left, n, f') = h.left rs cs f in
            let (rest, e', g) = one_more e q left cs f' in
            (rest, omega (arith, ap length e'), g);
      }

  pub run_end : (get_or s at 0 ≡ 4 → ⊥) → Ran s from count at
  unfolding Ran
  run_end n = (
    h.on,
    λ rs cs f.
        let (rest, e, g) = h.left rs cs f in
        let none = no_rule_lem g (λ t. n (tag_byte s at ∙ t)) in
        (omega (arith, ap length none), subst (λ (x : List Rule). Found s at x cs) none g),
  )

-- What stands before the clauses is there.
pub begun_front : (s : List ℕ) (p : Plan) → read s ≡ accepted p → behind_objective s + 3 ≤ length s
begun_front s p a = (begun_file s p a).room

pub begun_room : (s : List ℕ) (p : Plan) → read s ≡ accepted p → first_clause s + 3 ≤ length s
begun_room s p a = found_room (begun_file s p a).found

-- A field of locks told by its first byte: the place behind it, and how many it has.
module _ (s : List ℕ) (at : ℕ) where
  pub past_field : get_or s at 0 ≡ 6 → behind_field s at ≡ past_locks s at
  unfolding past_locks
  past_field e = rw (eq-eqb (tag_at s at) 6 (sym (tag_byte s at) ∙ e))

  pub past_none : (get_or s at 0 ≡ 6 → ⊥) → at ≡ past_locks s at
  unfolding past_locks
  past_none n = rw (ne_eqb (tag_at s at) 6 (λ e. n (tag_byte s at ∙ e)))

  pub locks_some : (k : ℕ) → get_or s at 0 ≡ 6 → k ≡ num_at 2 s (at + 1) → k / 3 ≡ locks_in s at
  unfolding locks_in length_at
  locks_some k e q = rw (eq-eqb (tag_at s at) 6 (sym (tag_byte s at) ∙ e), q)

  pub locks_none : (get_or s at 0 ≡ 6 → ⊥) → 0 ≡ locks_in s at
  unfolding locks_in
  locks_none n = rw (ne_eqb (tag_at s at) 6 (λ e. n (tag_byte s at ∙ e)))
