-- An accepted file's plan is lawful, and of bytes the file is the one written of it, but for an empty field 06: the variable count, the objective and the
-- locks were tested, and so was all behind them.
use Prim.Native.Nat.{ℕ, zero, suc, ◌+◌, ◌*◌, ◌/◌, ◌%◌, ◌≤◌, ◌<◌}
use mathlib.Core.Path.{◌≡◌, refl, sym, ap, ◌∙◌, subst}
use mathlib.Core.Bool.{Bool, true, false}
use mathlib.Core.List.{List, [], ◌∷◌, ◌++◌, map}
use mathlib.Core.Logic.{◌⊎◌, inl, inr, ⊎_elim}
use native.Mathlib.Omega.{arith}
use lib.Dec.{T, eqb}
use lib.ListN.{length, drop}
use lib.Pow.{are_bytes}
use borrow.Author.Tests.{leb-true, eqb-true, not-false}
use Rattle.plpb.specs.Lists.{all, concat, sum_by}
use Rattle.plpb.specs.Plan.{Lock, Plan, rising_above, rising}
use Rattle.plpb.specs.Tallies.{rules_of}
use Rattle.words.specs.Words.{num_at, bytes_of}
use Rattle.words.proofs.Words.{Below, bytes_below, length_bytes_of}
use Rattle.format.specs.Limits.{lock_term, term_count, lawful}
use Rattle.format.specs.File.{at_objective, at_locks, at_clause, State, may_stand, tag_at, length_at, length_lawful, terms_in, terms_at, field_terms, lock_entries, field_locks, entries_fault, locks_fault, past_limits, next, stage_after, Contents, accepted, add_field, read_from, begin, plan_of, read, behind}
use Rattle.format.specs.Writer.{field, term_bytes, lock_bytes, lock_field, file_with, write}
use Rattle.format.proofs.Bools.{and_left, and_right}
use Rattle.format.proofs.Lawful.{LawfulTerms, terms_parts, clause_lawful, LawfulPlan, plan_whole}
use Rattle.format.proofs.Fields.{Clean, read_past}
use Rattle.format.proofs.Sizes.{terms_of}
use Rattle.format.proofs.WrittenRule.{length_terms}
use Rattle.format.proofs.LockField.{length_locks, length_lock_entries, entries_rise, entries_within, peel_locks}
use Rattle.format.proofs.Order.{fields_from, no_rules}
use Rattle.format.proofs.Peel.{length_terms_at, peel, peel_terms, peel_field}
use Rattle.format.proofs.Held.{not_refused, accepted_clean, mapped, accepted_behind, Held, Within, held}

-- What stands where the locks do: their field, or an empty one where there is none.
abbrev Between : List Lock → List ℕ → Type 0
Between ks b = (b ≡ lock_field ks) ⊎ ((ks ≡ []) × (b ≡ field 6 []))

between_field : (ks : List Lock) → Between ks (field 6 (concat (map lock_bytes ks)))
unfolding lock_field concat
between_field [] = inr (refl, refl)
between_field (k ∷ ks) = inl refl

between_none : Between [] []
unfolding lock_field
between_none = inl refl

-- The locks before them.
record HeldLocks (s : List ℕ) (at n : ℕ) (c : Contents) : Type 0 where
  locks : LawfulTerms n (map lock_term c.locks)
  clauses : all (clause_lawful n) c.clauses ≡ true
  clause_count : length c.clauses ≤ 512
  rule_count : length (concat c.clauses) ≤ 1_024
  terms : sum_by terms_of (concat c.clauses) ≤ 6_000
  written : Below 256 s → (b : List ℕ) × Between c.locks b × (drop at s ≡ b ++ fields_from [] c.clauses)

-- No field of locks.
none_held :
    (s : List ℕ) (at n : ℕ) (c : Contents) → Held s (record { at = at; stage = at_clause; variables = n; clauses = 0; rules = 0; terms = 0 }) c
    → HeldLocks s at n c
unfolding sum_by rising rising_above all
none_held s at n c h =
    let none = no_rules c.rules h.follow in
    record {
      locks = rw h.locks (record { rise = refl; within = refl });
      clauses = h.clauses;
      clause_count = omega (arith, h.clause_count);
      rule_count = omega (arith, h.rule_count);
      terms = omega (arith, h.terms);
      written = λ bytes. ([], rw h.locks between_none, rw none at (h.written bytes));
    }

-- One.
module _ (s : List ℕ) (at n : ℕ) (clean : Clean s (record { at = at; stage = at_locks; variables = n; clauses = 0; rules = 0; terms = 0 })) (tag : tag_at s at ≡ 6) where
  abbrev third : State
  third = record { at = at; stage = at_locks; variables = n; clauses = 0; rules = 0; terms = 0 }

  third_size : length_at s at % 3 ≡ 0
  unfolding length_lawful
  third_size = eqb-true _ _ (rw tag at clean.size)

  third_locks : field_locks s at ≡ lock_entries s (at + 3) (length_at s at / 3)
  unfolding field_locks
  third_locks = rw tag

  third_clean : entries_fault n 0 s (at + 3) (length_at s at / 3) ≡ 0
  unfolding locks_fault
  third_clean = rw tag at clean.locks

  third_lawful : LawfulTerms n (map lock_term (field_locks s at))
  unfolding rising
  third_lawful = rw third_locks
      (record { rise = entries_rise s n 0 (at + 3) _ third_clean; within = entries_within s n 0 (at + 3) _ third_clean })

  third_written :
      Below 256 s → drop at s ≡ field 6 (concat (map lock_bytes (field_locks s at))) ++ drop (at + 3 + length_at s at) s
  third_written bytes =
      let k = length_at s at / 3 in
      let whole : 3 * k ≡ length_at s at = omega (arith, third_size) in
      let fits : at + 3 + length_at s at ≤ length s = clean.body in
      let locks = rw (whole, ← third_locks) at (peel_locks s bytes n 0 (at + 3) k third_clean (omega arith)) in
      let size : length_at s at ≡ length (concat (map lock_bytes (field_locks s at))) =
      rw (length_locks (field_locks s at), third_locks, length_lock_entries s k (at + 3)) (sym whole) in
      rw tag at (peel_field s bytes at (concat (map lock_bytes (field_locks s at))) fits size locks)

  third_held :
      (d : Contents) → Held s (next s third) d
      → HeldLocks s at n (record { variables = d.variables; objective = d.objective; locks = field_locks s at; rules = d.rules; clauses = d.clauses })
  unfolding next stage_after sum_by
  third_held d h =
      let none = no_rules d.rules (rw tag at h.follow) in
      let body = field 6 (concat (map lock_bytes (field_locks s at))) in
      record {
        locks = third_lawful;
        clauses = rw tag at h.clauses;
        clause_count = omega (arith, rw tag at h.clause_count);
        rule_count = omega (arith, rw tag at h.rule_count);
        terms = omega (arith, rw tag at h.terms);
        written = λ bytes. (body, between_field (field_locks s at), third_written bytes ∙ ap (λ l. body ++ l) (rw none at (h.written bytes)));
      }

  third_within : Within (next s third)
  unfolding next stage_after behind
  third_within = record { stage = rw tag; clauses = rw tag (omega arith); rules = rw tag (omega arith); terms = rw tag (omega arith) }

held_field :
    (s : List ℕ) (left at n : ℕ) (c : Contents)
    → read_from s (suc left) (record { at = at; stage = at_locks; variables = n; clauses = 0; rules = 0; terms = 0 }) ≡ accepted c → tag_at s at ≡ 6
    → HeldLocks s at n c
unfolding add_field
held_field s left at n c e tag =
    let clean = accepted_clean s left _ c e in
    let (d, e', same) = accepted_behind s left _ c e (rw tag) in
    subst (HeldLocks s at n) (rw tag at same) (third_held s at n clean tag d (held s left _ d (third_within s at n clean tag) e'))

held_locks :
    (s : List ℕ) (left at n : ℕ) (c : Contents)
    → read_from s left (record { at = at; stage = at_locks; variables = n; clauses = 0; rules = 0; terms = 0 }) ≡ accepted c → HeldLocks s at n c
unfolding read_from behind
held_locks s zero at n c e = absurd (not_refused _ _ c e)
held_locks s (suc left) at n c e = by (eqb (tag_at s at) 6) refl
  where
    by : (b : Bool) → eqb (tag_at s at) 6 ≡ b → HeldLocks s at n c
    by true six = held_field s left at n c e (eqb-true (tag_at s at) 6 six)
    by false other =
        none_held s at n c
        (held s (suc left) _ c (record { stage = refl; clauses = omega arith; rules = omega arith; terms = omega arith })
        (sym (read_past s (suc left) at n 0 0 0 other) ∙ e))

-- The objective before them.
record HeldObjective (s : List ℕ) (at n : ℕ) (c : Contents) : Type 0 where
  objective : LawfulTerms n c.objective
  locks : LawfulTerms n (map lock_term c.locks)
  clauses : all (clause_lawful n) c.clauses ≡ true
  clause_count : length c.clauses ≤ 512
  rule_count : length (concat c.clauses) ≤ 1_024
  terms : sum_by terms_of (concat c.clauses) ≤ 6_000
  written :
      Below 256 s → (b : List ℕ) × Between c.locks b × (drop at s ≡ field 2 (concat (map term_bytes c.objective)) ++ (b ++ fields_from [] c.clauses))

module _ (s : List ℕ) (at n : ℕ) (clean : Clean s (record { at = at; stage = at_objective; variables = n; clauses = 0; rules = 0; terms = 0 })) where
  abbrev second : State
  second = record { at = at; stage = at_objective; variables = n; clauses = 0; rules = 0; terms = 0 }

  second_tag : tag_at s at ≡ 2
  unfolding may_stand
  second_tag = eqb-true _ _ clean.tag

  second_size : length_at s at % 6 ≡ 0
  unfolding length_lawful
  second_size = eqb-true _ _ (rw second_tag at clean.size)

  second_terms : field_terms s at ≡ terms_at s (at + 3) (length_at s at / 6)
  unfolding field_terms terms_in
  second_terms = rw second_tag

  second_written :
      Below 256 s → drop at s ≡ field 2 (concat (map term_bytes (field_terms s at))) ++ drop (at + 3 + length_at s at) s
  second_written bytes =
      let k = length_at s at / 6 in
      let whole : 6 * k ≡ length_at s at = omega (arith, second_size) in
      let fits : at + 3 + length_at s at ≤ length s = clean.body in
      let terms = rw (whole, ← second_terms) at (peel_terms s bytes k (at + 3) (omega arith)) in
      let n : length_at s at ≡ length (concat (map term_bytes (field_terms s at))) =
      rw (length_terms (field_terms s at), second_terms, length_terms_at s k (at + 3)) (sym whole) in
      rw second_tag at (peel_field s bytes at (concat (map term_bytes (field_terms s at))) fits n terms)

  second_held :
      (d : Contents) → HeldLocks s (at + 3 + length_at s at) n d
      → HeldObjective s at n (record { variables = d.variables; objective = field_terms s at; locks = d.locks; rules = d.rules; clauses = d.clauses })
  second_held d h =
      record {
        objective = terms_parts _ _ clean.terms;
        locks = h.locks;
        clauses = h.clauses;
        clause_count = h.clause_count;
        rule_count = h.rule_count;
        terms = h.terms;
        written = λ bytes.
            let (b, form, rest) = h.written bytes in
            (b, form, second_written bytes ∙ ap (λ l. field 2 (concat (map term_bytes (field_terms s at))) ++ l) rest);
      }

held_objective :
    (s : List ℕ) (left at n : ℕ) (c : Contents)
    → read_from s left (record { at = at; stage = at_objective; variables = n; clauses = 0; rules = 0; terms = 0 }) ≡ accepted c → HeldObjective s at n c
unfolding read_from add_field next stage_after
held_objective s zero at n c e = absurd (not_refused _ _ c e)
held_objective s (suc left) at n c e =
    let clean = accepted_clean s left _ c e in
    let tag = second_tag s at n clean in
    let (d, e', same) = accepted_behind s left _ c e (rw tag) in
    subst (HeldObjective s at n) (rw tag at same) (second_held s at n clean d (held_locks s left (at + 3 + length_at s at) n d (rw tag at e')))

-- The whole file.
record HeldPlan (s : List ℕ) (p : Plan) : Type 0 where
  lawful : LawfulPlan p
  written : Below 256 s → (b : List ℕ) × Between p.locks b × (s ≡ file_with b p)

module _ (s : List ℕ) (clean : Clean s begin) where
  first_tag : tag_at s 0 ≡ 1
  unfolding begin may_stand
  first_tag = eqb-true _ _ clean.tag

  first_size : length_at s 0 ≡ 2
  unfolding begin length_lawful
  first_size = eqb-true _ _ (rw first_tag at clean.size)

  first_range : (1 ≤ num_at 2 s 3) × (num_at 2 s 3 ≤ 512)
  unfolding begin past_limits
  first_range = let h = not-false _ (rw first_tag at clean.limits) in (leb-true _ _ (and_left _ _ h), leb-true _ _ (and_right _ _ h))

  first_written : Below 256 s → s ≡ field 1 (bytes_of 2 (num_at 2 s 3)) ++ drop (0 + 3 + length_at s 0) s
  unfolding begin
  first_written bytes =
      let fits : 0 + 3 + length_at s 0 ≤ length s = clean.body in
      let n : length_at s 0 ≡ length (bytes_of 2 (num_at 2 s 3)) = first_size ∙ sym (length_bytes_of 2 (num_at 2 s 3)) in
      let body = peel s bytes 2 3 (omega (arith, first_size)) ∙ ap (λ k. bytes_of 2 (num_at 2 s 3) ++ drop (3 + k) s) (sym first_size) in
      rw first_tag at (peel_field s bytes 0 (bytes_of 2 (num_at 2 s 3)) fits n body)

held_plan : (s : List ℕ) (left : ℕ) (c : Contents) → read_from s left begin ≡ accepted c → HeldPlan s (plan_of c)
unfolding read_from begin add_field plan_of next stage_after file_with fields_from concat rules_of term_count
held_plan s zero c e = absurd (not_refused _ _ c e)
held_plan s (suc left) c e =
    let clean = accepted_clean s left begin c e in
    let tag = first_tag s clean in
    let (d, e', same) = accepted_behind s left begin c e (rw tag) in
    let h = held_objective s left (0 + 3 + length_at s 0) (num_at 2 s 3) d (rw tag at e') in
    subst (λ c. HeldPlan s (plan_of c)) (rw tag at same)
    (record {
      lawful =
          record {
            low = (first_range s clean).0;
            high = (first_range s clean).1;
            objective = h.objective;
            locks = h.locks;
            clauses = h.clauses;
            clause_count = h.clause_count;
            rule_count = h.rule_count;
            terms = h.terms;
          };
      written = λ bytes.
          let (b, form, rest) = h.written bytes in
          (b, form, first_written s clean bytes ∙ ap (λ l. field 1 (bytes_of 2 (num_at 2 s 3)) ++ l) rest);
    })

held_read : (s : List ℕ) (p : Plan) → read s ≡ accepted p → HeldPlan s p
unfolding read
held_read s p e =
    let (c, e', same) = mapped plan_of (read_from s (length s) begin) p e in
    subst (HeldPlan s) same (held_plan s (length s) c e')

-- Every accepted file's plan is lawful, whatever the list's numbers are.
pub accepted_lawful : (s : List ℕ) (p : Plan) → read s ≡ accepted p → T (lawful p)
accepted_lawful s p e = plan_whole p (held_read s p e).lawful

-- Of bytes it is the file written of the plan; or the plan has no lock, and an empty field 06 stands behind the objective.
pub accepted_written :
    (s : List ℕ) (p : Plan) → T (are_bytes s) → read s ≡ accepted p → (s ≡ write p) ⊎ ((p.locks ≡ []) × (s ≡ file_with (field 6 []) p))
unfolding write
accepted_written s p t e =
    let (b, form, whole) = (held_read s p e).written (bytes_below s t) in
    ⊎_elim (λ same. inl (rw same at whole)) (λ none. inr (none.0, rw none.1 at whole)) form

-- A plan with a lock has one file only.
pub one_file :
    (s t : List ℕ) (p : Plan) → T (are_bytes s) → T (are_bytes t) → read s ≡ accepted p → read t ≡ accepted p → 0 < length p.locks → s ≡ t
one_file s t p bs bt es et some = only s bs es ∙ sym (only t bt et)
  where
    only : (s : List ℕ) → T (are_bytes s) → read s ≡ accepted p → s ≡ write p
    only s b e = ⊎_elim (λ same. same) (λ none. absurd (omega (arith, ap length none.0))) (accepted_written s p b e)
