-- Reading what was written gives the plan back: by induction over the fields, each of which is read as what it was written from.
use Prim.Native.Nat.{ℕ, zero, suc, ◌+◌, ◌*◌, ◌-◌, ◌/◌, ◌%◌, ◌≤◌, ◌<◌}
use mathlib.Core.Path.{◌≡◌, refl, sym, ap, ◌∙◌, subst}
use mathlib.Core.Bool.{true, false}
use mathlib.Core.List.{List, [], ◌∷◌, ◌++◌, map, append_assoc, append-nil}
use native.Mathlib.Omega.{arith}
use lib.Dec.{T, eqb}
use lib.ListN.{length, drop, length-append, length-map}
use borrow.Author.Tests.{eq-eqb, le-leb, lt-leb, le-ltb}
use Rattle.plpb.specs.Lists.{◌and◌, ◌or◌, all, concat, sum_by}
use Rattle.plpb.specs.Plan.{Term, Rule, Clause, Lock, Plan, rising_above, rising}
use Rattle.plpb.specs.Tallies.{rules_of}
use Rattle.words.specs.Words.{num_at, bytes_of}
use Rattle.words.proofs.Words.{length_bytes_of}
use Rattle.format.specs.Limits.{terms_lawful, lock_term, rule_lawful, term_count, lawful}
use Rattle.format.specs.File.{Stage, at_count, at_objective, at_locks, at_clause, at_rule, after_rule, State, may_stand, tag_at, length_at, length_lawful, terms_in, field_terms, field_locks, past_limits, wrong_bounds, locks_fault, next, stage_after, Contents, accepted, add_field, map_reading, finish, read_from, begin, plan_of, read, behind}
use Rattle.format.specs.Writer.{field, term_bytes, rule_field, clause_fields, lock_bytes, lock_field, file_with, write}
use Rattle.format.proofs.Bools.{and_left, and_right}
use Rattle.format.proofs.Lists.{sum_by_append}
use Rattle.format.proofs.Lawful.{terms_short, terms_whole, LawfulTerms, LawfulRule, rule_parts, clause_lawful, clause_some, clause_rules, LawfulPlan, plan_parts}
use Rattle.format.proofs.Fields.{Clean, read_on, read_end, read_past}
use Rattle.format.proofs.Places.{place_num, place_terms, place_tag, place_length, place_body, place_rest, place_whole, placed_clean}
use Rattle.format.proofs.Sizes.{terms_of, length_file_with}
use Rattle.format.proofs.WrittenRule.{length_terms, rule_tag, rule_read, rule_behind, rule_clean, rule_next}
use Rattle.format.proofs.LockField.{length_locks, place_locks, locks_faultless}
use Rattle.format.proofs.Held.{not_refused, accepted_clean}
use Rattle.format.proofs.Order.{fields_from, follows, may_rule, may_clause, follows_some, Standing, begins, rules, ends, standing}

-- How many fields they are.
steps : List Rule → List Clause → ℕ
steps rs cs = length rs + (length cs + length (concat cs))

no_terms : (n : ℕ) → terms_lawful n [] ≡ true
unfolding terms_lawful rising rising_above all ◌and◌
no_terms n = refl

-- What the fields of a plan add to the contents behind them.
module _ (s : List ℕ) (n : ℕ) (at : ℕ) (rest : List ℕ) (g : Stage) (C R k : ℕ) where
  abbrev here : State
  here = record { at = at; stage = g; variables = n; clauses = C; rules = R; terms = k }

  -- A clause begins.
  module _ (e : drop at s ≡ field 3 [] ++ rest) where
    clause_behind : drop (at + 3 + length_at s at) s ≡ rest
    clause_behind = rw (place_length s at 3 [] rest e (omega arith)) (place_rest s at 3 [] rest e)

    clause_read :
        may_stand g 3 ≡ true → C < 512 → (left : ℕ) (rs : List Rule) (cs : List Clause)
        → read_from s left (record { at = at + 3 + length_at s at; stage = at_rule; variables = n; clauses = C + 1; rules = R; terms = k })
        ≡ accepted (record { variables = 0; objective = []; locks = []; rules = rs; clauses = cs })
        → read_from s (suc left) here ≡ accepted (record { variables = 0; objective = []; locks = []; rules = []; clauses = rs ∷ cs })
    unfolding length_lawful past_limits wrong_bounds field_terms locks_fault next stage_after map_reading add_field ◌and◌
    clause_read may room left rs cs ih =
        let tag = place_tag s at 3 [] rest e in
        let clean = placed_clean s at 3 [] rest e g n C R k (omega arith) may refl (rw (tag, lt-leb 512 C room)) (rw tag) (rw tag (no_terms n)) (rw tag) in
        rw (read_on s left here clean (rw tag), tag, ih) (ap (λ c. accepted c) (rw tag))

  -- A rule.
  rule_adds :
      n ≤ 512 → (r : Rule) (e : drop at s ≡ rule_field r ++ rest) → LawfulRule n r → may_stand g 4 ≡ true → R < 1_024
      → k + length r.terms ≤ 6_000 → (left : ℕ) (rs : List Rule) (cs : List Clause)
      → read_from s left
      (record { at = at + 3 + length_at s at; stage = after_rule; variables = n; clauses = C; rules = R + 1; terms = k + length r.terms })
      ≡ accepted (record { variables = 0; objective = []; locks = []; rules = rs; clauses = cs })
      → read_from s (suc left) here ≡ accepted (record { variables = 0; objective = []; locks = []; rules = r ∷ rs; clauses = cs })
  unfolding map_reading add_field
  rule_adds small r e l may roomR roomT left rs cs ih =
      let tag = rule_tag s n small at r rest e l in
      rw (read_on s left here (rule_clean s n small at r rest e l g C R k may roomR roomT) (rw tag), rule_next s n small at r rest e l g C R k may roomR roomT, ih)
      (ap (λ c. accepted c) (rw (tag, rule_read s n small at r rest e l)))

  -- The end.
  end_read :
      drop at s ≡ field 5 [] → may_stand g 5 ≡ true → (left : ℕ)
      → read_from s (suc left) here ≡ accepted (record { variables = 0; objective = []; locks = []; rules = []; clauses = [] })
  unfolding length_lawful past_limits wrong_bounds field_terms locks_fault finish ◌and◌
  end_read e may left =
      let e' : drop at s ≡ field 5 [] ++ [] = e ∙ sym (append-nil (field 5 [])) in
      let tag = place_tag s at 5 [] [] e' in
      let clean = placed_clean s at 5 [] [] e' g n C R k (omega arith) may refl (rw tag) (rw tag) (rw tag (no_terms n)) (rw tag) in
      rw (read_end s left here clean (rw tag), le-ltb (at + 3) (length s) (omega (arith, place_whole s at 5 [] [] e')))

-- All rules and clauses from some place on.
contents_read :
    (s : List ℕ) (n : ℕ) → n ≤ 512 → (left at : ℕ) (g : Stage) (C R k : ℕ) (rs : List Rule) (cs : List Clause) → drop at s ≡ fields_from rs cs
    → follows g rs ≡ true → all (rule_lawful n) rs ≡ true → all (clause_lawful n) cs ≡ true → C + length cs ≤ 512
    → R + (length rs + length (concat cs)) ≤ 1_024 → k + (sum_by terms_of rs + sum_by terms_of (concat cs)) ≤ 6_000
    → steps rs cs < left
    → read_from s left (record { at = at; stage = g; variables = n; clauses = C; rules = R; terms = k })
    ≡ accepted (record { variables = 0; objective = []; locks = []; rules = rs; clauses = cs })
unfolding fields_from follows all concat sum_by steps clause_fields
contents_read s n small zero at g C R k rs cs e f a b c d t l = absurd (omega arith)
contents_read s n small (suc left) at g C R k (r ∷ rs) cs e f a b c d t l =
    let e' : drop at s ≡ rule_field r ++ fields_from rs cs = simp append_assoc at e in
    let lr = rule_parts n r (and_left _ _ a) in
    let behind = rule_behind s n small at r (fields_from rs cs) e' lr in
    rule_adds s n at (fields_from rs cs) g C R k small r e' lr (may_rule g r rs f) (omega arith) (omega arith) left rs cs
    (contents_read s n small left _ after_rule C (R + 1) (k + length r.terms) rs cs behind refl (and_right _ _ a) b c (omega arith) (omega arith) (omega arith))
contents_read s n small (suc left) at g C R k [] (q ∷ cs) e f a b c d t l =
    let e' : drop at s ≡ field 3 [] ++ fields_from q cs = simp append_assoc at e in
    let lq = and_left (clause_lawful n q) (all (clause_lawful n) cs) b in
    let behind = clause_behind s n at (fields_from q cs) g C R k e' in
    clause_read s n at (fields_from q cs) g C R k e' (may_clause g f).0 (omega arith) left q cs
    (contents_read s n small left _ at_rule (C + 1) R k q cs behind (follows_some q (clause_some n q lq)) (clause_rules n q lq) (and_right _ _ b) (omega arith) (omega (arith, length-append q (concat cs))) (omega (arith, sum_by_append terms_of q (concat cs))) (omega (arith, length-append q (concat cs))))
contents_read s n small (suc left) at g C R k [] [] e f a b c d t l = end_read s n at [] g C R k e (may_clause g f).1 left

-- Where clauses or the end are read, no field of locks stands.
other_tag :
    (s : List ℕ) (left at n : ℕ) {c : Contents}
    → read_from s left (record { at = at; stage = at_clause; variables = n; clauses = 0; rules = 0; terms = 0 }) ≡ accepted c → eqb (tag_at s at) 6 ≡ false
unfolding read_from behind
other_tag s zero at n {c} e = absurd (not_refused _ _ c e)
other_tag s (suc left) at n {c} e = at_tag (standing at_clause _ refl (accepted_clean s left _ c e).tag)
  where
    at_tag : {tag : ℕ} → Standing at_clause tag → eqb tag 6 ≡ false
    at_tag (begins t f) = rw t
    at_tag (rules t f) = rw t
    at_tag (ends t f) = rw t

-- The fields before them.
module _ (s : List ℕ) (n : ℕ) (small : n ≤ 512) (at : ℕ) (rest : List ℕ) where
  module _ (e : drop at s ≡ field 1 (bytes_of 2 n) ++ rest) where
    two : length (bytes_of 2 n) ≡ 2
    two = length_bytes_of 2 n

    count_behind : drop (at + 3 + length_at s at) s ≡ rest
    count_behind = rw (place_length s at 1 (bytes_of 2 n) rest e (omega (arith, two))) (place_rest s at 1 (bytes_of 2 n) rest e)

    count_adds :
        1 ≤ n → (left : ℕ) (c : Contents)
        → read_from s left (record { at = at + 3 + length_at s at; stage = at_objective; variables = n; clauses = 0; rules = 0; terms = 0 }) ≡ accepted c
        → read_from s (suc left) (record { at = at; stage = at_count; variables = 0; clauses = 0; rules = 0; terms = 0 })
        ≡ accepted (record { variables = n; objective = c.objective; locks = c.locks; rules = c.rules; clauses = c.clauses })
    unfolding may_stand length_lawful past_limits wrong_bounds field_terms locks_fault next stage_after map_reading add_field ◌and◌
    count_adds some left c ih =
        let tag = place_tag s at 1 (bytes_of 2 n) rest e in
        let num : num_at 2 s (at + 3) ≡ n = place_num s 2 (at + 3) n rest (place_body s at 1 (bytes_of 2 n) rest e) (omega arith) in
        let clean =
        placed_clean s at 1 (bytes_of 2 n) rest e at_count 0 0 0 0 (omega (arith, two)) refl (rw two) (rw (tag, num, le-leb 1 n some, le-leb n 512 small)) (rw tag)
        (rw tag (no_terms 0)) (rw tag) in
        rw (read_on s left _ clean (rw tag), tag, num, ih) (ap (λ q. accepted q) (rw (tag, num)))

  module _ (ts : List Term) (e : drop at s ≡ field 2 (concat (map term_bytes ts)) ++ rest) (l : LawfulTerms n ts) where
    few : length (concat (map term_bytes ts)) ≤ 3_072
    unfolding rising
    few = omega (arith, length_terms ts, terms_short n 0 ts l.rise l.within (omega arith))

    size : length_at s at ≡ length (concat (map term_bytes ts))
    size = place_length s at 2 _ rest e (omega (arith, few))

    objective_behind : drop (at + 3 + length_at s at) s ≡ rest
    objective_behind = rw size (place_rest s at 2 _ rest e)

    objective_terms : field_terms s at ≡ ts
    unfolding field_terms terms_in
    objective_terms =
        let k : 6 * length ts / 6 ≡ length ts = omega arith in
        rw (place_tag s at 2 _ rest e, size, length_terms ts, k) (place_terms s n (at + 3) ts rest (place_body s at 2 _ rest e) (omega arith) l.within)

    objective_adds :
        (left : ℕ) (c : Contents)
        → read_from s left (record { at = at + 3 + length_at s at; stage = at_locks; variables = n; clauses = 0; rules = 0; terms = 0 }) ≡ accepted c
        → read_from s (suc left) (record { at = at; stage = at_objective; variables = n; clauses = 0; rules = 0; terms = 0 })
        ≡ accepted (record { variables = c.variables; objective = ts; locks = c.locks; rules = c.rules; clauses = c.clauses })
    unfolding may_stand length_lawful past_limits wrong_bounds locks_fault next stage_after map_reading add_field ◌and◌
    objective_adds left c ih =
        let tag = place_tag s at 2 (concat (map term_bytes ts)) rest e in
        let clean =
        placed_clean s at 2 (concat (map term_bytes ts)) rest e at_objective n 0 0 0 (omega (arith, few)) refl
        (rw (length_terms ts, eq-eqb (6 * length ts % 6) 0 (omega arith))) (rw tag) (rw tag) (rw objective_terms (terms_whole n ts l)) (rw tag) in
        rw (read_on s left _ clean (rw tag), tag, ih) (ap (λ q. accepted q) (rw (tag, objective_terms)))

  -- A field of locks.
  module _ (ks : List Lock) (e : drop at s ≡ field 6 (concat (map lock_bytes ks)) ++ rest) (l : LawfulTerms n (map lock_term ks)) where
    few_locks : length (concat (map lock_bytes ks)) ≤ 1_536
    unfolding rising
    few_locks = omega (arith, length_locks ks, length-map ks lock_term, terms_short n 0 (map lock_term ks) l.rise l.within (omega arith))

    locks_size : length_at s at ≡ length (concat (map lock_bytes ks))
    locks_size = place_length s at 6 _ rest e (omega (arith, few_locks))

    locks_behind : drop (at + 3 + length_at s at) s ≡ rest
    locks_behind = rw locks_size (place_rest s at 6 _ rest e)

    locks_count : length_at s at / 3 ≡ length ks
    locks_count = let k : 3 * length ks / 3 ≡ length ks = omega arith in rw (locks_size, length_locks ks) k

    locks_read : field_locks s at ≡ ks
    unfolding field_locks
    locks_read =
        rw (place_tag s at 6 _ rest e, locks_count) (place_locks s n (at + 3) ks rest (place_body s at 6 _ rest e) (omega arith) l.within)

    locks_clean : Clean s (record { at = at; stage = at_locks; variables = n; clauses = 0; rules = 0; terms = 0 })
    unfolding may_stand length_lawful past_limits wrong_bounds field_terms locks_fault rising ◌and◌ ◌or◌
    locks_clean =
        let tag = place_tag s at 6 (concat (map lock_bytes ks)) rest e in
        placed_clean s at 6 (concat (map lock_bytes ks)) rest e at_locks n 0 0 0 (omega (arith, few_locks)) refl
        (rw (length_locks ks, eq-eqb (3 * length ks % 3) 0 (omega arith))) (rw tag) (rw tag) (rw tag (no_terms n))
        (rw (tag, locks_count) (locks_faultless s n 0 (at + 3) ks rest (place_body s at 6 _ rest e) (omega arith) l.rise l.within))

    locks_adds :
        (left : ℕ) (c : Contents)
        → read_from s left (record { at = at + 3 + length_at s at; stage = at_clause; variables = n; clauses = 0; rules = 0; terms = 0 }) ≡ accepted c
        → read_from s (suc left) (record { at = at; stage = at_locks; variables = n; clauses = 0; rules = 0; terms = 0 })
        ≡ accepted (record { variables = c.variables; objective = c.objective; locks = ks; rules = c.rules; clauses = c.clauses })
    unfolding next stage_after map_reading add_field
    locks_adds left c ih =
        let tag = place_tag s at 6 (concat (map lock_bytes ks)) rest e in
        rw (read_on s left _ locks_clean (rw tag), tag, ih) (ap (λ q. accepted q) (rw (tag, locks_read)))

-- The whole file, with as many steps as fields or more.
module _ (p : Plan) (l : LawfulPlan p) (left : ℕ) (enough : suc (steps [] p.clauses) < left) where
  abbrev n : ℕ
  n = p.variables

  abbrev rest : List ℕ
  rest = fields_from [] p.clauses

  -- The clauses, wherever they stand.
  clauses_read :
      (s : List ℕ) (k at : ℕ) → drop at s ≡ rest → steps [] p.clauses < k
      → read_from s k (record { at = at; stage = at_clause; variables = n; clauses = 0; rules = 0; terms = 0 })
      ≡ accepted (record { variables = 0; objective = []; locks = []; rules = []; clauses = p.clauses })
  unfolding follows all rules_of term_count sum_by
  clauses_read s k at e enough' =
      contents_read s n l.high k at at_clause 0 0 0 [] p.clauses e refl refl l.clauses (omega (arith, l.clause_count)) (omega (arith, l.rule_count)) (omega (arith, l.terms)) enough'

  -- The locks' field, or none, and the clauses behind it.
  abbrev Behind : List ℕ → Type 0
  Behind between =
      (s : List ℕ) (at : ℕ) → drop at s ≡ between ++ rest
      → read_from s left (record { at = at; stage = at_locks; variables = n; clauses = 0; rules = 0; terms = 0 })
      ≡ accepted (record { variables = 0; objective = []; locks = p.locks; rules = []; clauses = p.clauses })

  field_behind : Behind (field 6 (concat (map lock_bytes p.locks)))
  field_behind s at e =
      let m : left ≡ suc (left - 1) = omega arith in
      let behind = locks_behind s n l.high at rest p.locks e l.locks in
      rw m (locks_adds s n l.high at rest p.locks e l.locks (left - 1) _ (clauses_read s (left - 1) _ behind (omega arith)))

  none_behind : p.locks ≡ [] → Behind []
  none_behind none s at e =
      let here = clauses_read s left at e (omega arith) in
      rw none (read_past s left at n 0 0 0 (other_tag s left at n here) ∙ here)

  whole_read :
      (between : List ℕ) → Behind between
      → read_from (file_with between p) (suc (suc left)) begin
      ≡ accepted (record { variables = p.variables; objective = p.objective; locks = p.locks; rules = []; clauses = p.clauses })
  unfolding begin file_with fields_from concat
  whole_read between behind =
      let s = file_with between p in
      let front = field 2 (concat (map term_bytes p.objective)) ++ (between ++ rest) in
      let e = count_behind s n l.high 0 front refl in
      let second = 0 + 3 + length_at s 0 in
      let e' = objective_behind s n l.high second (between ++ rest) p.objective e l.objective in
      count_adds s n l.high 0 front refl l.low (suc left) _
      (objective_adds s n l.high second (between ++ rest) p.objective e l.objective left _ (behind s (second + 3 + length_at s second) e'))

-- A file with such a field between objective and clauses.
file_read :
    (between : List ℕ) (p : Plan) → LawfulPlan p
    → ((left : ℕ) (enough : suc (steps [] p.clauses) < left) (l : LawfulPlan p) → Behind p l left enough between)
    → read (file_with between p) ≡ accepted p
unfolding read map_reading plan_of steps rules_of
file_read between p l behind =
    let size = length (file_with between p) in
    let n : size ≡ suc (suc (size - 2)) = omega (arith, length_file_with between p) in
    let enough : suc (steps [] p.clauses) < size - 2 = omega (arith, length_file_with between p) in
    rw (n, whole_read p l (size - 2) enough between (behind (size - 2) enough l))

-- What `lock_field` writes is such a field, or nothing.
written_behind :
    (p : Plan) (l : LawfulPlan p) (left : ℕ) (enough : suc (steps [] p.clauses) < left) (ks : List Lock) → p.locks ≡ ks
    → Behind p l left enough (lock_field ks)
unfolding lock_field
written_behind p l left enough [] e = none_behind p l left enough e
written_behind p l left enough (k ∷ ks) e =
    subst (λ q. Behind p l left enough (field 6 (concat (map lock_bytes q)))) e (field_behind p l left enough)

pub read_write : (p : Plan) → T (lawful p) → read (write p) ≡ accepted p
unfolding write
read_write p h = file_read (lock_field p.locks) p (plan_parts p h) (λ left enough l. written_behind p l left enough p.locks refl)

-- An empty field of locks says what none says.
pub read_empty : (p : Plan) → T (lawful p) → p.locks ≡ [] → read (file_with (field 6 []) p) ≡ accepted p
unfolding concat
read_empty p h none =
    file_read (field 6 []) p (plan_parts p h)
    (λ left enough l. subst (λ q. Behind p l left enough (field 6 (concat (map lock_bytes q)))) none (field_behind p l left enough))
