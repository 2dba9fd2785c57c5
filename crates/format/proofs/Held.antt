-- What an accepted reading found from some place on: lawful rules and clauses, within the limits, and of bytes nothing but their fields.
-- By induction over the fields, each of which was tested.
use Prim.Native.Nat.{ℕ, zero, suc, ◌+◌, ◌*◌, ◌-◌, ◌/◌, ◌%◌, ◌≤◌, ◌<◌}
use mathlib.Core.Path.{◌≡◌, refl, sym, ap, ◌∙◌, subst}
use mathlib.Core.Bool.{Bool, true, false, cond}
use mathlib.Core.List.{List, [], ◌∷◌, ◌++◌, append_assoc, append-nil}
use native.Mathlib.Nat.{add-zero}
use native.Mathlib.Omega.{arith}
use lib.Dec.{eqb}
use lib.ListN.{length, drop, length-append, drop_of_length-le}
use borrow.Author.Tests.{leb-true, eqb-true, ltb-false, leb-false, lt-ltb, not-false}
use Rattle.plpb.specs.Lists.{◌and◌, ◌or◌, all, concat, sum_by}
use Rattle.plpb.specs.Plan.{Rule}
use Rattle.words.specs.Words.{num_at, bytes_of, signed, unsigned}
use Rattle.words.proofs.Words.{Below}
use Rattle.format.specs.Limits.{rule_lawful}
use Rattle.format.specs.File.{State, tag_at, length_at, length_lawful, terms_in, terms_at, mode_at, lower_at, upper_at, field_terms, past_limits, wrong_bounds, fault, next, stage_after, rule_at, Contents, Reading, refused, accepted, add_field, map_reading, finish, read_from, behind}
use Rattle.format.specs.Writer.{field, rule_field, clause_fields}
use Rattle.format.proofs.Bools.{and_left, and_right, and_join, true_T}
use Rattle.format.proofs.Lists.{sum_by_append}
use Rattle.format.proofs.Bounds.{Meant, bounds_tested, bounds_meant}
use Rattle.format.proofs.Lawful.{terms_parts, rule_whole, clause_lawful, clause_whole}
use Rattle.format.proofs.Fields.{Clean, fault_clean, read_on, read_end}
use Rattle.format.proofs.Sizes.{terms_of}
use Rattle.format.proofs.WrittenRule.{body_of, length_body}
use Rattle.format.proofs.Order.{fields_from, follows, nonempty, Standing, begins, rules, ends, standing}
use Rattle.format.proofs.Peel.{length_terms_at, peel_byte, peel_signed, peel_terms, peel_field}

pub not_refused : {A : Type 0} (n o : ℕ) (a : A) → ◌≡◌ {A = Reading A} (refused n o) (accepted a) → ⊥
not_refused n o a e = let z : ◌≡◌ {A = ℕ} 0 1 = cc in omega arith

accepted_same : {A : Type 0} (a b : A) → ◌≡◌ {A = Reading A} (accepted a) (accepted b) → a ≡ b
accepted_same a b e = cc

-- An accepted reading had a clean field, and behind it an accepted reading too.
pub accepted_clean : (s : List ℕ) (left : ℕ) (st : State) (c : Contents) → read_from s (suc left) st ≡ accepted c → Clean s st
unfolding read_from
accepted_clean s left st c e = fault_clean s st (go (fault s st) refl)
  where
    go : (k : ℕ) → fault s st ≡ k → fault s st ≡ 0
    go zero f = f
    go (suc k) f = absurd (not_refused _ _ c (rw (f, lt-ltb 0 (suc k) (omega arith)) at e))

pub mapped : {A B : Type 0} (f : A → B) (r : Reading A) (b : B) → map_reading f r ≡ accepted b → (a : A) × (r ≡ accepted a) × (f a ≡ b)
unfolding map_reading
mapped f (refused n o) b e = absurd (not_refused n o b e)
mapped f (accepted a) b e = (a, refl, accepted_same (f a) b e)

pub accepted_behind :
    (s : List ℕ) (left : ℕ) (st : State) (c : Contents) → read_from s (suc left) st ≡ accepted c → eqb (tag_at s st.at) 5 ≡ false
    → (d : Contents) × (read_from s left (next s st) ≡ accepted d) × (add_field s st.at d ≡ c)
accepted_behind s left st c e t =
    mapped (add_field s st.at) (read_from s left (next s st)) c (sym (read_on s left st (accepted_clean s left st c e) t) ∙ e)

-- What is known of the contents of the fields from some place on.
pub record Held (s : List ℕ) (st : State) (c : Contents) : Type 0 where
  pub follow : follows st.stage c.rules ≡ true
  pub locks : c.locks ≡ []
  pub rules : all (rule_lawful st.variables) c.rules ≡ true
  pub clauses : all (clause_lawful st.variables) c.clauses ≡ true
  pub clause_count : st.clauses + length c.clauses ≤ 512
  pub rule_count : st.rules + (length c.rules + length (concat c.clauses)) ≤ 1_024
  pub terms : st.terms + (sum_by terms_of c.rules + sum_by terms_of (concat c.clauses)) ≤ 6_000
  pub written : Below 256 s → drop st.at s ≡ fields_from c.rules c.clauses

-- The end.
finished : (b : Bool) (n o : ℕ) (a c : Contents) → cond b (refused n o) (accepted a) ≡ accepted c → (b ≡ false) × (a ≡ c)
finished true n o a c e = absurd (not_refused n o c e)
finished false n o a c e = (refl, accepted_same a c e)

empty_size : (s : List ℕ) (st : State) (tag : ℕ) → Clean s st → tag_at s st.at ≡ tag → length_lawful tag (length_at s st.at) ≡ eqb (length_at s st.at) 0 → length_at s st.at ≡ 0
empty_size s st tag clean t e = eqb-true _ 0 (sym e ∙ rw t at clean.size)

empty_written :
    (s : List ℕ) (st : State) → Below 256 s → Clean s st → length_at s st.at ≡ 0
    → drop st.at s ≡ field (tag_at s st.at) [] ++ drop (st.at + 3 + length_at s st.at) s
empty_written s st bytes clean n =
    peel_field s bytes st.at [] clean.body n (ap (λ k. drop k s) (sym (ap (λ k. st.at + 3 + k) n ∙ add-zero (st.at + 3))))

held_end :
    (s : List ℕ) (st : State) (c : Contents) → Clean s st → tag_at s st.at ≡ 5 → follows st.stage [] ≡ true → st.clauses ≤ 512
    → st.rules ≤ 1_024 → st.terms ≤ 6_000 → finish s st ≡ accepted c → Held s st c
unfolding finish length_lawful follows all concat sum_by fields_from
held_end s st c clean tag f C R k e =
    let (past, same) = finished _ _ _ _ _ e in
    let n = empty_size s st 5 clean tag refl in
    let last : length s ≤ st.at + 3 = ltb-false _ _ past in
    let gone = drop_of_length-le s {i = st.at + 3 + length_at s st.at} (omega arith) in
    subst (Held s st) same
    (record {
      follow = f;
      locks = refl;
      rules = refl;
      clauses = refl;
      clause_count = omega arith;
      rule_count = omega arith;
      terms = omega arith;
      written = λ bytes. rw (tag, gone, append-nil) at (empty_written s st bytes clean n);
    })

-- A clause begins.
held_clause :
    (s : List ℕ) (st : State) (d : Contents) → Clean s st → tag_at s st.at ≡ 3 → follows st.stage [] ≡ true → Held s (next s st) d
    → Held s st (record { variables = d.variables; objective = d.objective; locks = d.locks; rules = []; clauses = d.rules ∷ d.clauses })
unfolding next stage_after length_lawful all concat sum_by fields_from clause_fields
held_clause s st d clean tag f held =
    let n = empty_size s st 3 clean tag refl in
    let rules_here = rw tag at held.rules in
    record {
      follow = f;
      locks = held.locks;
      rules = refl;
      clauses = and_join _ _ (clause_whole _ d.rules (nonempty d.rules (rw tag at held.follow)) rules_here) (rw tag at held.clauses);
      clause_count = omega (arith, rw tag at held.clause_count);
      rule_count = omega (arith, rw tag at held.rule_count, length-append d.rules (concat d.clauses));
      terms = omega (arith, rw tag at held.terms, sum_by_append terms_of d.rules (concat d.clauses));
      written = λ bytes. simp append_assoc (rw tag at (empty_written s st bytes clean n) ∙ ap (λ l. field 3 [] ++ l) (held.written bytes));
    }

-- A rule.
regroup : (a b c d : List ℕ) → a ++ (b ++ c) ++ d ≡ a ++ (b ++ (c ++ d))
regroup a b c d = simp append_assoc

module _ (s : List ℕ) (st : State) (clean : Clean s st) (tag : tag_at s st.at ≡ 4) where
  abbrev at : ℕ
  at = st.at

  bounds : Meant (mode_at s at) (lower_at s at) (upper_at s at)
  unfolding wrong_bounds ◌and◌
  bounds = bounds_meant _ _ _ (bounds_tested _ _ _ (not-false _ (rw tag at clean.bounds)))

  size : (15 ≤ length_at s at) × ((length_at s at - 9) % 6 ≡ 0)
  unfolding length_lawful
  size = let h = rw tag at clean.size in (leb-true _ _ (and_left _ _ h), eqb-true _ _ (and_right _ _ h))

  counted : length (field_terms s at) ≡ (length_at s at - 9) / 6
  unfolding field_terms terms_in
  counted = rw tag (length_terms_at s ((length_at s at - 9) / 6) (at + 12))

  lawful_here : rule_lawful st.variables (rule_at s at) ≡ true
  unfolding rule_at
  lawful_here =
      rule_whole _ _ (record { both = bounds.lawful; some = omega (arith, counted, size); terms = terms_parts _ _ clean.terms })

  terms_here : field_terms s at ≡ terms_at s (at + 12) ((length_at s at - 9) / 6)
  unfolding field_terms terms_in
  terms_here = rw tag

  body_here : Below 256 s → drop (at + 3) s ≡ body_of (rule_at s at) ++ drop (at + 3 + length_at s at) s
  unfolding body_of rule_at mode_at lower_at upper_at
  body_here bytes =
      let k = (length_at s at - 9) / 6 in
      let room : at + 12 + 6 * k ≡ at + 3 + length_at s at = omega (arith, size) in
      let fits : at + 3 + length_at s at ≤ length s = clean.body in
      let m1 : at + 3 + 1 ≡ at + 4 = omega arith in
      let m2 : at + 4 + 4 ≡ at + 8 = omega arith in
      let m3 : at + 8 + 4 ≡ at + 12 = omega arith in
      let first = rw m1 at (peel_byte s bytes (at + 3) (omega arith)) in
      let lower = rw m2 at (peel_signed s bytes (at + 4) (omega arith)) in
      let upper = rw m3 at (peel_signed s bytes (at + 8) (omega arith)) in
      let terms = rw room at (peel_terms s bytes k (at + 12) (omega arith)) in
      let lo = bytes_of 4 (unsigned (signed (num_at 4 s (at + 4)))) in
      let up = bytes_of 4 (unsigned (signed (num_at 4 s (at + 8)))) in
      let rest = lower ∙ ap (λ l. lo ++ l) (upper ∙ ap (λ l. up ++ l) terms) ∙ sym (regroup lo up _ _) in
      rw (bounds.mode_back, bounds.lower_back, bounds.upper_back, terms_here) (first ∙ ap (λ l. num_at 1 s (at + 3) ∷ l) rest)

  written_here : Below 256 s → drop at s ≡ rule_field (rule_at s at) ++ drop (at + 3 + length_at s at) s
  unfolding rule_field body_of rule_at
  written_here bytes =
      let n : length_at s at ≡ length (body_of (rule_at s at)) = omega (arith, size, counted, length_body (rule_at s at)) in
      rw tag at (peel_field s bytes at (body_of (rule_at s at)) clean.body n (body_here bytes))

held_rule :
    (s : List ℕ) (st : State) (d : Contents) → Clean s st → tag_at s st.at ≡ 4 → ((r : Rule) (rs : List Rule) → follows st.stage (r ∷ rs) ≡ true)
    → Held s (next s st) d
    → Held s st (record { variables = d.variables; objective = d.objective; locks = d.locks; rules = rule_at s st.at ∷ d.rules; clauses = d.clauses })
unfolding next stage_after all sum_by fields_from concat terms_in rule_at
held_rule s st d clean tag f held =
    record {
      follow = f (rule_at s st.at) d.rules;
      locks = held.locks;
      rules = and_join _ _ (lawful_here s st clean tag) (rw tag at held.rules);
      clauses = rw tag at held.clauses;
      clause_count = rw tag at held.clause_count;
      rule_count = omega (arith, rw tag at held.rule_count);
      terms = omega (arith, rw tag at held.terms, counted s st clean tag);
      written = λ bytes. simp append_assoc (written_here s st clean tag bytes ∙ ap (λ l. rule_field (rule_at s st.at) ++ l) (held.written bytes));
    }

-- All fields from some place on.
pub record Within (st : State) : Type 0 where
  pub stage : behind st.stage ≡ true
  pub clauses : st.clauses ≤ 512
  pub rules : st.rules ≤ 1_024
  pub terms : st.terms ≤ 6_000

neither : (a b : Bool) → (a or b) ≡ false → (a ≡ false) × (b ≡ false)
unfolding ◌or◌
neither true b h = absurd (true_T _ (sym h))
neither false b h = (refl, h)

within_clause : (s : List ℕ) (st : State) → Clean s st → tag_at s st.at ≡ 3 → Within st → Within (next s st)
unfolding next stage_after behind past_limits
within_clause s st clean tag w =
    let room : st.clauses < 512 = leb-false _ _ (rw tag at clean.limits) in
    record { stage = rw tag; clauses = rw tag (omega arith); rules = rw tag w.rules; terms = rw tag w.terms }

within_rule : (s : List ℕ) (st : State) → Clean s st → tag_at s st.at ≡ 4 → Within st → Within (next s st)
unfolding next stage_after behind past_limits
within_rule s st clean tag w =
    let (a, b) = neither _ _ (rw tag at clean.limits) in
    let roomR : st.rules < 1_024 = leb-false _ _ a in
    let roomT : st.terms + terms_in 4 (length_at s st.at) ≤ 6_000 = ltb-false _ _ b in
    record { stage = rw tag; clauses = rw tag w.clauses; rules = rw tag (omega arith); terms = rw tag roomT }

held_step :
    (s : List ℕ) (left : ℕ) (st : State) (c : Contents) → Within st → read_from s (suc left) st ≡ accepted c
    → ((d : Contents) → Within (next s st) → read_from s left (next s st) ≡ accepted d → Held s (next s st) d)
    → Standing st.stage (tag_at s st.at) → Held s st c
unfolding add_field
held_step s left st c w e ih (begins tag f) =
    let clean = accepted_clean s left st c e in
    let (d, e', same) = accepted_behind s left st c e (rw tag) in
    subst (Held s st) (rw tag at same) (held_clause s st d clean tag f (ih d (within_clause s st clean tag w) e'))
held_step s left st c w e ih (rules tag f) =
    let clean = accepted_clean s left st c e in
    let (d, e', same) = accepted_behind s left st c e (rw tag) in
    subst (Held s st) (rw tag at same) (held_rule s st d clean tag f (ih d (within_rule s st clean tag w) e'))
held_step s left st c w e ih (ends tag f) =
    let clean = accepted_clean s left st c e in
    held_end s st c clean tag f w.clauses w.rules w.terms (sym (read_end s left st clean (rw tag)) ∙ e)

pub held : (s : List ℕ) (left : ℕ) (st : State) (c : Contents) → Within st → read_from s left st ≡ accepted c → Held s st c
unfolding read_from
held s zero st c w e = absurd (not_refused _ _ c e)
held s (suc left) st c w e =
    held_step s left st c w e (λ d. held s left (next s st) d) (standing _ _ w.stage (accepted_clean s left st c e).tag)
