-- What stands at a place from which a file holds lawful rules and clauses, and what stands behind it.
-- Assumes nothing.
use Prim.Native.Nat.{ℕ, ◌+◌, ◌≤◌}
use native.Mathlib.Omega.{arith}
use mathlib.Core.Path.{◌≡◌, refl, sym, ap, ◌∙◌, subst}
use mathlib.Core.Bool.{true}
use mathlib.Core.List.{List, [], ◌∷◌, ◌++◌, map, append_assoc, append-nil}
use lib.ListN.{length, drop, length-append}
use borrow.Author.Tests.{le-leb, leb-true, not-false}
use Rattle.plpb.specs.Lists.{◌and◌, all, concat}
use Rattle.plpb.specs.Plan.{Term, Rule, Clause, rising}
use Rattle.format.specs.File.{at_rule, may_stand, tag_at, terms_in, field_terms, mode_at, lower_at, upper_at, wrong_bounds, rule_at}
use Rattle.format.specs.Writer.{field, rule_field, clause_fields}
use Rattle.format.proofs.Bools.{and_left, and_right, and_join}
use Rattle.format.proofs.Lawful.{LawfulRule, rule_parts, clause_lawful, clause_rules, terms_short}
use Rattle.format.specs.Limits.{term_within}
use Rattle.format.proofs.Bounds.{Tested, bounds_tested}
use Rattle.format.proofs.Fields.{Clean}
use Rattle.format.proofs.Places.{place_tag, place_body, place_room, length_field}
use Rattle.format.proofs.WrittenRule.{rule_tag, rule_size, rule_read, rule_behind, rule_clean}
use Rattle.tables.specs.Places.{behind_field}
use Rattle.fates.specs.Sums.{small_terms}
use Rattle.fates.specs.Rules.{RuleFits}
use Rattle.fates.specs.Rest.{Rest, Reads, Begins}

-- Terms of n variables are small.
pub terms_small : (n : ℕ) → n ≤ 512 → (ts : List Term) → all (term_within n) ts ≡ true → small_terms ts ≡ true
unfolding small_terms all term_within
terms_small n h [] e = refl
terms_small n h (t ∷ ts) e =
    let l = leb-true t.variable n (and_left _ _ (and_left _ _ e)) in
    and_join _ _ (and_join _ _ (le-leb t.variable 512 (omega arith)) (and_right _ _ (and_left _ _ e))) (terms_small n h ts (and_right _ _ e))

-- ---- a rule at a place

module _ (s : List ℕ) (n at : ℕ) (high : n ≤ 512) (r : Rule) (rest : List ℕ) (e : drop at s ≡ rule_field r ++ rest) (l : LawfulRule n r) where
  is_rule : rule_at s at ≡ r
  is_rule = rule_read s n high at r rest e l

  few : length r.terms ≤ 512
  unfolding rising
  few = omega (arith, terms_short n 0 r.terms l.terms.rise l.terms.within (omega arith))

  clean : Clean s (record { at = at; stage = at_rule; variables = n; clauses = 0; rules = 0; terms = 0 })
  unfolding may_stand
  clean = rule_clean s n high at r rest e l at_rule 0 0 0 refl (omega arith) (omega (arith, few))

  bounds : Tested (mode_at s at) (lower_at s at) (upper_at s at)
  unfolding wrong_bounds ◌and◌
  bounds = bounds_tested _ _ _ (not-false _ (rw (rule_tag s n high at r rest e l) at clean.bounds))

  rule_fits : RuleFits s at
  unfolding rule_at behind_field terms_in
  rule_fits =
      let terms : field_terms s at ≡ r.terms = ap (λ x. x.terms) is_rule in
      let size = rule_size s n high at r rest e l in
      record {
        tag = rule_tag s n high at r rest e l;
        room = clean.body;
        size = omega (arith, size, l.some);
        few = rw size (omega (arith, few));
        small = rw terms (terms_small n high r.terms l.terms.within);
        lower = bounds.lower;
        upper = bounds.upper;
      }

-- ---- by what stands there

-- The bytes of rules and clauses up to the end are three at least.
ends_long : (xs : List ℕ) → 3 ≤ length (xs ++ field 5 [])
ends_long xs = omega (arith, length-append xs (field 5 []), length_field 5 [])

module _ {n : ℕ} {s : List ℕ} {at : ℕ} {cs : List Clause} where
  pub rest_room : {rs : List Rule} → Rest n s at rs cs → at + 3 ≤ length s
  rest_room {rs} h =
      let tail = concat (map clause_fields cs) ++ field 5 [] in
      let long = ends_long (concat (map clause_fields cs)) in
      let more = length-append (concat (map rule_field rs)) tail in
      omega (arith, place_room s at _ h.bytes (omega arith), long, more)

-- A rule, and what is behind it.
pub record Ruled (n : ℕ) (s : List ℕ) (at : ℕ) (rs : List Rule) (cs : List Clause) : Type 0 where
  pub rest : List Rule
  pub split : rs ≡ rule_at s at ∷ rest
  pub lawful : LawfulRule n (rule_at s at)
  pub fits : RuleFits s at
  pub behind : Rest n s (behind_field s at) rest cs

-- The tag where no rule is left: a clause's, or the end's.
module _ (n : ℕ) (s : List ℕ) (at : ℕ) where
  clause_bytes : (c : Clause) (cs : List Clause) → Rest n s at [] (c ∷ cs)
      → drop at s ≡ field 3 [] ++ (concat (map rule_field c) ++ (concat (map clause_fields cs) ++ field 5 []))
  unfolding concat clause_fields
  clause_bytes c cs h = simp append_assoc at h.bytes

  end_bytes_lem : Rest n s at [] [] → drop at s ≡ field 5 [] ++ []
  unfolding concat
  end_bytes_lem h = h.bytes ∙ sym (append-nil (field 5 []))

  no_other : (k : ℕ) → (3 ≡ k → ⊥) → (5 ≡ k → ⊥) → (cs : List Clause) → Rest n s at [] cs → tag_at s at ≡ k → ⊥
  no_other k three five [] h e = five (sym (place_tag s at 5 [] [] (end_bytes_lem h)) ∙ e)
  no_other k three five (c ∷ cs) h e = three (sym (place_tag s at 3 [] _ (clause_bytes c cs h)) ∙ e)

  no_four : (cs : List Clause) → Rest n s at [] cs → tag_at s at ≡ 4 → ⊥
  no_four = no_other 4 (λ e. omega arith) (λ e. omega arith)

  rule_bytes : (r : Rule) (rs : List Rule) (cs : List Clause) → Rest n s at (r ∷ rs) cs
      → drop at s ≡ rule_field r ++ (concat (map rule_field rs) ++ (concat (map clause_fields cs) ++ field 5 []))
  unfolding concat
  rule_bytes r rs cs h = simp append_assoc at h.bytes

  first_lawful : (r : Rule) (rs : List Rule) (cs : List Clause) → Rest n s at (r ∷ rs) cs → LawfulRule n r
  unfolding all
  first_lawful r rs cs h = rule_parts n r (and_left _ _ h.rules)

  rest_by : (rs : List Rule) (cs : List Clause) → Rest n s at rs cs → tag_at s at ≡ 4 → Ruled n s at rs cs
  unfolding all behind_field
  rest_by [] cs h e = absurd (no_four cs h e)
  rest_by (r ∷ rs) cs h e =
      let bytes = rule_bytes r rs cs h in
      let l = first_lawful r rs cs h in
      let is = is_rule s n at h.high r _ bytes l in
      record {
        rest = rs;
        split = ap (λ x. x ∷ rs) (sym is);
        lawful = rw is l;
        fits = rule_fits s n at h.high r _ bytes l;
        behind =
            record {
              high = h.high;
              bytes = rule_behind s n h.high at r _ bytes l;
              rules = and_right _ _ h.rules;
              clauses = h.clauses;
            };
      }

  none_by : (rs : List Rule) (cs : List Clause) → Rest n s at rs cs → (tag_at s at ≡ 4 → ⊥) → rs ≡ []
  none_by [] cs h e = refl
  none_by (r ∷ rs) cs h e = absurd (e (rule_tag s n h.high at r _ (rule_bytes r rs cs h) (first_lawful r rs cs h)))

  -- A clause, and what is behind its beginning.
  pub record Begun (cs : List Clause) : Type 0 where
    pub first : Clause
    pub rest : List Clause
    pub split : cs ≡ first ∷ rest
    pub lawful : clause_lawful n first ≡ true
    pub behind : Rest n s (at + 3) first rest

  opened_by : (c : Clause) (cs : List Clause) → Rest n s at [] (c ∷ cs) → Rest n s (at + 3) c cs
  unfolding all clause_lawful
  opened_by c cs h =
      record {
        high = h.high;
        bytes = place_body s at 3 [] _ (clause_bytes c cs h);
        rules = clause_rules n c (and_left _ _ h.clauses);
        clauses = and_right _ _ h.clauses;
      }

  begun_by : (cs : List Clause) → Rest n s at [] cs → tag_at s at ≡ 3 → Begun cs
  unfolding all clause_lawful
  begun_by [] h e = absurd (omega (arith, place_tag s at 5 [] [] (end_bytes_lem h)))
  begun_by (c ∷ cs) h e =
      record {
        first = c;
        rest = cs;
        split = refl;
        lawful = and_left _ _ h.clauses;
        behind = opened_by c cs h;
      }

  end_by : (cs : List Clause) → Rest n s at [] cs → (tag_at s at ≡ 3 → ⊥) → cs ≡ []
  end_by [] h e = refl
  end_by (c ∷ cs) h e = absurd (e (place_tag s at 3 [] _ (clause_bytes c cs h)))

module _ {n : ℕ} {s : List ℕ} {at : ℕ} {rs : List Rule} {cs : List Clause} where
  pub rest_rule : Rest n s at rs cs → tag_at s at ≡ 4 → Ruled n s at rs cs
  rest_rule h e = rest_by n s at rs cs h e

  pub rest_none : Rest n s at rs cs → (tag_at s at ≡ 4 → ⊥) → Rest n s at [] cs
  rest_none h e = subst (λ (x : List Rule). Rest n s at x cs) (none_by n s at rs cs h e) h

  pub no_rules : Rest n s at rs cs → (tag_at s at ≡ 4 → ⊥) → rs ≡ []
  no_rules h e = none_by n s at rs cs h e

module _ {n : ℕ} {s : List ℕ} {at : ℕ} {cs : List Clause} where
  pub rest_clause : Rest n s at [] cs → tag_at s at ≡ 3 → Begun n s at cs
  rest_clause h e = begun_by n s at cs h e

  -- No field of locks stands where a clause or the end does.
  pub no_locks : Rest n s at [] cs → tag_at s at ≡ 6 → ⊥
  no_locks h e = no_other n s at 6 (λ z. omega arith) (λ z. omega arith) cs h e

  pub rest_opened : {c : Clause} → Rest n s at [] (c ∷ cs) → Rest n s (at + 3) c cs
  rest_opened {c} h = opened_by n s at c cs h

  pub no_clauses : Rest n s at [] cs → (tag_at s at ≡ 3 → ⊥) → cs ≡ []
  no_clauses h e = end_by n s at cs h e

-- ---- by what is required

module _ (s : List ℕ) (at : ℕ) where
  pub reads_room : Reads s at → at + 3 ≤ length s
  reads_room r = rest_room r.3

  pub reads_rule : Reads s at → tag_at s at ≡ 4 → RuleFits s at
  reads_rule r t = (rest_rule r.3 t).fits

  pub begins_room : Begins s at → at + 3 ≤ length s
  begins_room b = rest_room b.2

  -- A clause's rules are behind its head.
  pub begins_rules : Begins s at → tag_at s at ≡ 3 → Reads s (at + 3)
  begins_rules b t = let c = rest_clause b.2 t in (b.0, c.first, c.rest, c.behind)
