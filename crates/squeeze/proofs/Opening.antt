-- What stands in an accepted file: its objective, and its clauses where they begin. The file is the one written of its plan, or that one with an empty
-- field of locks.
-- Assumes nothing.
use Prim.Native.Nat.{ℕ, ◌+◌, ◌/◌, ◌≤◌, ◌<◌, zero-le}
use native.Mathlib.Omega.{arith}
use mathlib.Core.Path.{◌≡◌, refl, sym, ap, ◌∙◌, subst}
use mathlib.Core.Bool.{Bool, true, false, cond}
use mathlib.Core.Logic.{◌⊎◌, inl, inr, ⊎_elim}
use mathlib.Core.List.{List, [], ◌∷◌, ◌++◌, map}
use lib.Dec.{eqb}
use lib.ListN.{length, drop, length-append, length-map}
use borrow.Author.Tests.{ne_eqb}
use Rattle.plpb.specs.Lists.{all, concat}
use Rattle.plpb.specs.Plan.{Lock, Plan, rising}
use Rattle.words.specs.Words.{bytes_of, num_at}
use Rattle.words.specs.Writes.{put}
use Rattle.words.proofs.Words.{Below, below_bytes, length_bytes_of}
use Rattle.format.specs.Limits.{lock_term, lock_terms}
use Rattle.format.specs.File.{accepted, read, tag_at, length_at, terms_at}
use Rattle.format.specs.Writer.{field, term_bytes, clause_fields, lock_bytes, lock_field, file_with, write}
use Rattle.format.proofs.Lawful.{LawfulPlan, plan_parts, terms_short, clause_lawful}
use Rattle.format.proofs.Places.{place_tag, place_length, place_rest, length_field}
use Rattle.format.proofs.WrittenRule.{length_terms}
use Rattle.format.proofs.LockField.{length_locks}
use Rattle.format.proofs.Accepted.{accepted_lawful, accepted_written}
use Rattle.tables.specs.Places.{behind_objective, behind_field, past_locks, first_clause}
use Rattle.tables.proofs.Found.{begun_file}
use Rattle.fates.specs.Sums.{small_terms}
use Rattle.fates.specs.Rest.{Rest}
use Rattle.squeezed.specs.Squeezed.{Becomes}
use Rattle.rewriting.specs.Written.{terms_written}
use Rattle.rewriting.proofs.Termwise.{length_written}
use Rattle.rewriting.proofs.Putting.{drop_put}
use Rattle.rewriting.proofs.Rulewise.{rest_same}
use Rattle.squeeze.specs.Rewritten.{front_bytes}
use Rattle.fates.proofs.Resting.{no_locks, terms_small, rest_room}

-- The first clause does not stand before what is behind the objective.
far_by : (s : List ℕ) (at : ℕ) (t : Bool) → eqb (tag_at s at) 6 ≡ t → at ≤ cond t (behind_field s at) at
unfolding behind_field
far_by s at true e = omega arith
far_by s at false e = omega arith

first_far : (s : List ℕ) → behind_objective s ≤ first_clause s
unfolding past_locks
first_far s = far_by s (behind_objective s) _ refl

-- What stands between objective and first clause: nothing, or a field of locks.
abbrev Between : List ℕ → Type 0
Between b = (b ≡ []) ⊎ ((body : List ℕ) × (b ≡ field 6 body) × (length body < 65_536))

lock_between : (ks : List Lock) → length ks ≤ 512 → Between (lock_field ks)
unfolding lock_field
lock_between [] h = inl refl
lock_between (k ∷ ks) h = inr (concat (map lock_bytes (k ∷ ks)), refl, omega (arith, length_locks (k ∷ ks)))

module _ (s : List ℕ) (p : Plan) (bytes : Below 256 s) (e : read s ≡ accepted p) where
  abbrev lawful : LawfulPlan p
  lawful = plan_parts p (accepted_lawful s p e)

  few_locks : length p.locks ≤ 512
  unfolding rising
  few_locks =
      omega
      (arith, terms_short p.variables 0 (lock_terms p) lawful.locks.rise lawful.locks.within zero-le, lawful.high, length-map p.locks lock_term)

  abbrev terms : List ℕ
  terms = concat (map term_bytes p.objective)

  few_terms : length terms ≤ 3_072
  unfolding rising
  few_terms =
      omega
      (arith, length_terms p.objective, terms_short p.variables 0 p.objective lawful.objective.rise lawful.objective.within zero-le, lawful.high)

  abbrev tail : List ℕ
  tail = concat (map clause_fields p.clauses) ++ field 5 []

  -- The file by its fields.
  parts : (b : List ℕ) × (s ≡ field 1 (bytes_of 2 p.variables) ++ (field 2 terms ++ (b ++ tail))) × Between b
  unfolding write file_with
  parts =
      ⊎_elim (λ is. (lock_field p.locks, is, lock_between p.locks few_locks)) (λ is. (field 6 [], is.1, inr ([], refl, omega arith)))
      (accepted_written s p (below_bytes s bytes) e)

  at_objective_lem : drop 5 s ≡ field 2 terms ++ (parts.0 ++ tail)
  at_objective_lem =
      ap (λ k. drop (0 + 3 + k) s) (sym (length_bytes_of 2 p.variables)) ∙ place_rest s 0 1 (bytes_of 2 p.variables) _ parts.1

  size : length_at s 5 ≡ length terms
  size = place_length s 5 2 terms _ at_objective_lem (omega (arith, few_terms))

  at_locks_lem : drop (behind_objective s) s ≡ parts.0 ++ tail
  unfolding behind_objective
  at_locks_lem = ap (λ k. drop (8 + k) s) size ∙ place_rest s 5 2 terms _ at_objective_lem

  rest_at : (at : ℕ) → drop at s ≡ tail → Rest p.variables s at [] p.clauses
  unfolding concat all clause_lawful
  rest_at at d = record { high = lawful.high; bytes = d; rules = refl; clauses = lawful.clauses }

  -- Where the clauses begin, and that what stands there is what the plan says.
  first_by : (b : List ℕ) → drop (behind_objective s) s ≡ b ++ tail → Between b → Rest p.variables s (first_clause s) [] p.clauses
  unfolding past_locks behind_field
  first_by b d (inl none) =
      let here = rest_at (behind_objective s) (d ∙ ap (λ x. x ++ tail) none) in
      subst (λ at. Rest p.variables s at [] p.clauses) (rw (ne_eqb (tag_at s (behind_objective s)) 6 (no_locks here))) here
  first_by b d (inr (body, is, short)) =
      let at = behind_objective s in
      let d' : drop at s ≡ field 6 body ++ tail = d ∙ ap (λ x. x ++ tail) is in
      let tag = place_tag s at 6 body tail d' in
      let there : at + 3 + length body ≡ first_clause s = rw (tag, place_length s at 6 body tail d' short) in
      subst (λ k. Rest p.variables s k [] p.clauses) there (rest_at (at + 3 + length body) (place_rest s at 6 body tail d'))

  pub first_rest : Rest p.variables s (first_clause s) [] p.clauses
  first_rest = first_by parts.0 at_locks_lem parts.2

  -- .. at the place that the code found.
  pub clauses_at : {first : ℕ} → first ≡ first_clause s → Rest p.variables s first [] p.clauses
  clauses_at is = subst (λ k. Rest p.variables s k [] p.clauses) (sym is) first_rest

  -- The objective: its terms are small, and they are there.
  pub objective_is : terms_at s 8 (length_at s 5 / 6) ≡ p.objective
  objective_is = sym (begun_file s p e).objective

  pub objective_small : small_terms (terms_at s 8 (length_at s 5 / 6)) ≡ true
  objective_small = rw objective_is (terms_small p.variables lawful.high p.objective lawful.objective.within)

  pub objective_few : length_at s 5 / 6 ≤ 512
  unfolding rising
  objective_few = omega (arith, size, few_terms)

  -- The front that is written ends where the clauses begin, at the latest.
  pub front_short : (f : ℕ → Becomes) (v : ℕ) → length (front_bytes f v p) ≤ first_clause s
  unfolding front_bytes behind_objective
  front_short f v =
      let tw = terms_written f p.objective in
      omega
      (arith, length-append (field 1 (bytes_of 2 v)) (field 2 tw), length_field 1 (bytes_of 2 v), length_field 2 tw, length_bytes_of 2 v, length_written f p.objective, length_terms p.objective, size, first_far s)

  -- The clauses stand as they stood once the front is written.
  pub clauses_kept : (f : ℕ → Becomes) (v : ℕ) {t : List ℕ} {at : ℕ} → at ≡ first_clause s → t ≡ put 0 (front_bytes f v p) s
      → Rest p.variables t at [] p.clauses
  clauses_kept f v {t} q w =
      let short = front_short f v in
      let same = ap (drop (first_clause s)) w ∙ drop_put (first_clause s) 0 (front_bytes f v p) s zero-le (omega arith) in
      subst (λ k. Rest p.variables t k [] p.clauses) (sym q) (rest_same same first_rest)

  pub front_fits : (f : ℕ → Becomes) (v : ℕ) → length (front_bytes f v p) ≤ length s
  front_fits f v = omega (arith, front_short f v, rest_room first_rest)

-- How many terms the objective has, as the code reads it.
pub count_is : (s : List ℕ) {n : ℕ} → n ≡ num_at 2 s 6 → n / 6 ≡ length_at s 5 / 6
unfolding length_at
count_is s e = ap (λ k. k / 6) e
