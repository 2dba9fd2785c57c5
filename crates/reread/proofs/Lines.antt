-- A line as it is spelled: where it ends, and what it says.
-- Assumes nothing.
use Prim.Native.Nat.{ℕ, suc, ◌+◌, ◌-◌, ◌≤◌, ◌<◌}
use native.Mathlib.Omega.{arith}
use mathlib.Core.Path.{◌≡◌, refl, sym, ap, ◌∙◌}
use mathlib.Core.Bool.{Bool, true, false}
use mathlib.Core.List.{List, [], ◌∷◌, ◌++◌, append_assoc, append-nil}
use lib.Dec.{ltb, eqb}
use lib.IntN.{ℤ, pos, negsuc}
use lib.ListN.{length, get_or, drop, length-append, length-drop}
use borrow.Author.Tests.{lt-ltb, eq-eqb, ne_eqb}
use Rattle.plpb.specs.Lists.{◌and◌, all, concat}
use Rattle.plpb.proofs.Lists.{T_true, is_true, and_left, and_right, and_both, all_append}
use Rattle.plpb.specs.Plan.{Term}
use Rattle.texts.specs.Texts.{text, decimal, signed_decimal, line}
use Rattle.tokens.specs.Tokens.{is_blank, is_digit, is_inside, blanks_end, line_end, word_end}
use Rattle.tokens.proofs.Numbers.{digit_range}
use Rattle.statements.specs.Grammar.{integer_end, integer_at, sum_at, sum_end, terms_in, sum_from, min_word, is_comment, is_objective, is_exact, relation_end, bound_from, bound_end, is_bounded, closes, objective_formed, constraint_formed, bound_at, rule_at}
use Rattle.statements.proofs.Parts.{relation_equal, relation_other}
use Rattle.opb_lines.specs.ReadText.{starts}
use Rattle.opb_lines.specs.Lines.{lines_from}
use Rattle.opb_lines.proofs.Lines.{lines_here, lines_behind, next_found}
use Rattle.opb.specs.Opb.{Line, line_rule}
use Rattle.opb.specs.Spell.{coefficient, term_items, sum_items, relation, spell_line, spell_objective}
use Rattle.constraints.specs.Bytes.{term_bytes}
use Rattle.constraints.proofs.Bytes.{line_terms, line_bytes, end_bytes_lem}
use Rattle.reread.proofs.Places.{stops, digits, Here, past, byte_of, byte_at, within, run_ends, word_ends}
use Rattle.reread.proofs.Items.{no_blank, blank_digit, bound_whole, bound_stops, shape, sum_text, sum_stops, sum_here, sum_size}

-- ---- no line feed within

digit_inside : (d : ℕ) → is_digit d ≡ true → is_inside d ≡ true
unfolding is_inside
digit_inside d h = let low = (digit_range d h).0 in rw (ne_eqb d 10 (λ e. omega (arith, low, e)))

inside_digits : (xs : List ℕ) → all is_digit xs ≡ true → all is_inside xs ≡ true
unfolding all
inside_digits [] a = refl
inside_digits (d ∷ ds) a =
    is_true _
    (and_both _ _ (T_true (digit_inside d (is_true _ (and_left _ _ (T_true a))))) (T_true (inside_digits ds (is_true _ (and_right (is_digit d) _ (T_true a))))))

pub inside_decimal : (n : ℕ) → all is_inside (decimal n) ≡ true
inside_decimal n = inside_digits (decimal n) (digits n)

pub inside_both : (xs ys : List ℕ) → all is_inside xs ≡ true → all is_inside ys ≡ true → all is_inside (xs ++ ys) ≡ true
inside_both xs ys a b = all_append is_inside xs ys ∙ is_true _ (and_both _ _ (T_true a) (T_true b))

inside_coefficient : (z : ℤ) → all is_inside (coefficient z) ≡ true
unfolding coefficient text
inside_coefficient (pos n) = inside_both (43 ∷ []) (decimal n) (unfold all is_inside ◌and◌ in refl) (inside_decimal n)
inside_coefficient (negsuc n) = inside_both (45 ∷ []) (decimal (suc n)) (unfold all is_inside ◌and◌ in refl) (inside_decimal (suc n))

inside_bound : (z : ℤ) → all is_inside (signed_decimal z) ≡ true
unfolding signed_decimal text
inside_bound (pos n) = inside_decimal n
inside_bound (negsuc n) = inside_both (45 ∷ []) (decimal (suc n)) (unfold all is_inside ◌and◌ in refl) (inside_decimal (suc n))

inside_term : (t : Term) → all is_inside (term_bytes t) ≡ true
unfolding term_bytes text
inside_term t =
    inside_both (coefficient t.weight) (32 ∷ 120 ∷ (decimal t.variable ++ (32 ∷ []))) (inside_coefficient t.weight)
    (inside_both (32 ∷ 120 ∷ []) (decimal t.variable ++ (32 ∷ [])) (unfold all is_inside ◌and◌ in refl)
    (inside_both (decimal t.variable) (32 ∷ []) (inside_decimal t.variable) (unfold all is_inside ◌and◌ in refl)))

inside_sum : (ts : List Term) → all is_inside (sum_text ts) ≡ true
unfolding concat
inside_sum [] = unfold all in refl
inside_sum (t ∷ ts) = inside_both (term_bytes t) (sum_text ts) (inside_term t) (inside_sum ts)

inside_relation : (x : Bool) → all is_inside (relation x) ≡ true
unfolding relation text all is_inside ◌and◌
inside_relation true = refl
inside_relation false = refl

-- ---- a line of the text

module _ (s : List ℕ) where
  -- The lines from a line on: this one, and those from the next on.
  pub record Ended (at end : ℕ) : Type 0 where
    pub feed : line_end s at ≡ end
    pub inside : line_end s at < length s
    pub behind : starts at (drop at s) ≡ lines_from s (end + 1)
    pub lines : lines_from s at ≡ at ∷ lines_from s (end + 1)

  pub ended : {at : ℕ} {body r : List ℕ} → all is_inside body ≡ true → Here s at body (10 ∷ r) → Ended at (at + length body)
  ended {at} {body} {r} a h =
      let e : line_end s at ≡ at + length body = run_ends s h is_inside a (unfold stops is_inside in refl) in
      let b : at + length body < length s = within s (at + length body) (past s h) in
      let l : at < length s = omega (arith, b) in
      let k : at ≤ length s = omega (arith, l) in
      let n : starts at (drop at s) ≡ lines_from s (at + length body + 1) = lines_behind s at k ∙ ap (lines_from s) (sym (next_found s at k (sym e) b)) in
      record { feed = e; inside = rw e b; behind = n; lines = lines_here s at l ∙ ap (λ ls. at ∷ ls) n }

  -- Enough steps for the terms of a sum.
  pub enough : (ts : List Term) {at : ℕ} {r : List ℕ} → Here s at (sum_text ts) r → length ts ≤ length s
  enough ts {at} {r} h =
      let e : length s - at ≡ length (sum_text ts ++ r) = sym (length-drop at s) ∙ ap length h.is in
      omega (arith, e, length-append (sum_text ts) r, sum_size ts)

-- ---- relations

pub relation_first : (x : Bool) (r : List ℕ) → (b : ℕ) × (q : List ℕ) × (57 < b) × (relation x ++ r ≡ b ∷ q)
unfolding relation text
relation_first true r = (61, r, omega arith, refl)
relation_first false r = (62, 61 ∷ r, omega arith, refl)

relation_long : (x : Bool) → 0 < length (relation x)
unfolding relation text
relation_long true = omega arith
relation_long false = omega arith

module _ (s : List ℕ) where
  relation_here : (x : Bool) {at : ℕ} {r : List ℕ} → Here s at (relation x) r → (is_exact s at ≡ x) × (relation_end s at ≡ at + length (relation x))
  unfolding relation text is_exact
  relation_here true {at} h = let b : get_or s at 0 ≡ 61 = byte_at s h in (eq-eqb (get_or s at 0) 61 b, sym (relation_equal s at b))
  relation_here false {at} {r} h =
      let b : get_or s at 0 ≡ 62 = byte_at s h in
      let n : get_or s at 0 ≡ 61 → ⊥ = λ e. omega (arith, b, e) in
      (ne_eqb (get_or s at 0) 61 n, sym (relation_other s at n (sym (word_ends s h))))

-- ---- constraints

abbrev ending : Bool → ℤ → List ℕ → List ℕ
ending x z r = relation x ++ ((32 ∷ []) ++ (signed_decimal z ++ ((32 ∷ []) ++ (59 ∷ r))))

line_shape : (c : Line) (r : List ℕ) → spell_line c ++ r ≡ sum_text c.terms ++ ending c.exact c.bound (10 ∷ r)
unfolding text
line_shape c r =
    ap (λ l. l ++ r) (line_bytes c ∙ ap (λ l. sum_text c.terms ++ l) (end_bytes_lem c.exact c.bound))
    ∙ go (sum_text c.terms) (relation c.exact) (signed_decimal c.bound)
  where
    go : (a b d : List ℕ) → (a ++ ((b ++ (32 ∷ [])) ++ (d ++ (32 ∷ 59 ∷ 10 ∷ [])))) ++ r ≡ a ++ (b ++ (32 ∷ (d ++ (32 ∷ 59 ∷ 10 ∷ r))))
    go a b d = simp append_assoc

pub body : Line → List ℕ
body c = sum_text c.terms ++ ending c.exact c.bound []

line_body : (c : Line) (r : List ℕ) → spell_line c ++ r ≡ body c ++ (10 ∷ r)
unfolding body
line_body c r = line_shape c r ∙ sym (go (sum_text c.terms) (relation c.exact) (signed_decimal c.bound))
  where
    go : (a b d : List ℕ) → (a ++ (b ++ (32 ∷ (d ++ (32 ∷ 59 ∷ []))))) ++ (10 ∷ r) ≡ a ++ (b ++ (32 ∷ (d ++ (32 ∷ 59 ∷ 10 ∷ r))))
    go a b d = simp append_assoc

inside_body : (c : Line) → all is_inside (body c) ≡ true
unfolding body
inside_body c =
    inside_both (sum_text c.terms) (ending c.exact c.bound []) (inside_sum c.terms)
    (inside_both (relation c.exact) _ (inside_relation c.exact)
    (inside_both (32 ∷ []) _ (unfold all is_inside ◌and◌ in refl)
    (inside_both (signed_decimal c.bound) (32 ∷ 59 ∷ []) (inside_bound c.bound) (unfold all is_inside ◌and◌ in refl))))

body_length : (c : Line) → length (body c) ≡ length (sum_text c.terms) + length (relation c.exact) + 1 + length (signed_decimal c.bound) + 1 + 1
unfolding body
body_length c =
    omega (arith, length-append (sum_text c.terms) (ending c.exact c.bound []), length-append (relation c.exact) (32 ∷ (signed_decimal c.bound ++ (32 ∷ 59 ∷ []))), length-append (signed_decimal c.bound) (32 ∷ 59 ∷ []))

pub line_length : (c : Line) → length (spell_line c) ≡ length (body c) + 1
line_length c = ap length (sym (append-nil (spell_line c)) ∙ line_body c []) ∙ length-append (body c) (10 ∷ [])

coefficient_first : (z : ℤ) (r : List ℕ) → (b : ℕ) × (q : List ℕ) × (coefficient z ++ r ≡ b ∷ q) × (43 ≤ b) × (b ≤ 45)
unfolding coefficient text
coefficient_first (pos n) r = (43, decimal n ++ r, refl, omega arith, omega arith)
coefficient_first (negsuc n) r = (45, decimal (suc n) ++ r, refl, omega arith, omega arith)

-- The first byte of a sum is a sign.
sum_first : (t : Term) (ts : List Term) → (b : ℕ) × (q : List ℕ) × (sum_text (t ∷ ts) ≡ b ∷ q) × (43 ≤ b) × (b ≤ 45)
unfolding concat
sum_first t ts = let k = coefficient_first t.weight _ in (k.0, k.1, shape [] t (sum_text ts) ∙ k.2, k.3, k.4)

module _ (s : List ℕ) where
  pub record Constrains (at : ℕ) (c : Line) : Type 0 where
    pub comment : is_comment s at ≡ false
    pub objective : is_objective s at ≡ false
    pub terms : sum_at s at ≡ c.terms
    pub formed : constraint_formed s at ≡ true
    pub bound : bound_at s at ≡ c.bound
    pub rule : rule_at s at ≡ line_rule c

  -- What follows the sum.
  pub record Bounded (at : ℕ) (x : Bool) (z : ℤ) : Type 0 where
    pub is : is_bounded s at ≡ true
    pub exact : is_exact s at ≡ x
    pub says : integer_at s (bound_from s at) ≡ z
    pub next : bound_end s at ≡ at + length (relation x) + 1 + length (signed_decimal z) + 1
    pub semicolon : get_or s (bound_end s at) 0 ≡ 59

  bounded : (x : Bool) (z : ℤ) (r : List ℕ) {at : ℕ} → Here s at (relation x) ((32 ∷ []) ++ (signed_decimal z ++ ((32 ∷ []) ++ (59 ∷ r)))) → Bounded at x z
  unfolding is_bounded bound_from bound_end
  bounded x z r {at} h =
      let rel = relation_here s x h in
      let p1 = at + length (relation x) in
      let e1 : relation_end s at ≡ p1 = rel.1 in
      let a1 : Here s p1 (32 ∷ []) (signed_decimal z ++ ((32 ∷ []) ++ (59 ∷ r))) = record { is = past s h } in
      let e2 : blanks_end s p1 ≡ p1 + 1 = run_ends s a1 is_blank (unfold all is_blank ◌and◌ in refl) (bound_stops z _) in
      let a2 : Here s (p1 + 1) (signed_decimal z) ((32 ∷ []) ++ (59 ∷ r)) = record { is = past s a1 } in
      let w = bound_whole s z (blank_digit _) a2 in
      let p3 = p1 + 1 + length (signed_decimal z) in
      let e3 : integer_end s (p1 + 1) ≡ p3 = w.next in
      let a3 : Here s p3 (32 ∷ []) (59 ∷ r) = record { is = past s a2 } in
      let e4 : blanks_end s p3 ≡ p3 + 1 = run_ends s a3 is_blank (unfold all is_blank ◌and◌ in refl) (no_blank 59 r (omega arith)) in
      let a4 : Here s (p3 + 1) (59 ∷ []) r = record { is = past s a3 } in
      let t1 : ltb at p1 ≡ true = lt-ltb at p1 (omega (arith, relation_long x)) in
      let o = w.ok in
      record {
        is = rw (e1, e2, t1, o) (unfold ◌and◌ in refl);
        exact = rel.0;
        says = rw (e1, e2) w.says;
        next = rw (e1, e2, e3, e4);
        semicolon = rw (e1, e2, e3, e4) (byte_at s a4);
      }

  pub constrains : (t : Term) (ts : List Term) (x : Bool) (z : ℤ) {at : ℕ} {r : List ℕ}
      → Here s at (spell_line (record { terms = t ∷ ts; exact = x; bound = z })) r → Constrains at (record { terms = t ∷ ts; exact = x; bound = z })
  unfolding is_comment is_objective constraint_formed closes bound_at rule_at line_rule
  constrains t ts x z {at} {r} h =
      let c : Line = record { terms = t ∷ ts; exact = x; bound = z } in
      let behind = (32 ∷ []) ++ (signed_decimal z ++ ((32 ∷ []) ++ (59 ∷ 10 ∷ r))) in
      let a : Here s at (sum_text (t ∷ ts)) (relation x ++ behind) = record { is = h.is ∙ line_shape c r } in
      let f = relation_first x behind in
      let g : Here s at (sum_text (t ∷ ts)) (f.0 ∷ f.1) = record { is = a.is ∙ ap (λ l. sum_text (t ∷ ts) ++ l) f.3 } in
      let two = sum_here s (t ∷ ts) (length s) (enough s (t ∷ ts) a) f.2 g in
      let p = at + length (sum_text (t ∷ ts)) in
      let e : sum_end s at ≡ p = two.1 in
      let ts-is : sum_at s at ≡ t ∷ ts = two.0 in
      let after : Here s p (relation x) behind = record { is = past s a } in
      let b = bounded x z (10 ∷ r) after in
      let whole : Here s at (body c) (10 ∷ r) = record { is = h.is ∙ line_body c r } in
      let l = ended s (inside_body c) whole in
      let k = sum_first t ts in
      let first : get_or s at 0 ≡ k.0 = byte_of s a k.0 k.1 k.2 in
      let low = k.3 in
      let high = k.4 in
      let bis = b.is in
      let semi : eqb (get_or s (bound_end s p) 0) 59 ≡ true = eq-eqb (get_or s (bound_end s p) 0) 59 b.semicolon in
      let feed : bound_end s p + 1 ≡ line_end s at = omega (arith, b.next, l.feed, body_length c) in
      let closed : eqb (bound_end s p + 1) (line_end s at) ≡ true = eq-eqb (bound_end s p + 1) (line_end s at) feed in
      let exact = b.exact in
      let says = b.says in
      record {
        comment = ne_eqb (get_or s at 0) 42 (λ q. omega (arith, first, low, q));
        objective = ne_eqb (get_or s at 0) 109 (λ q. omega (arith, first, high, q));
        terms = ts-is;
        formed = rw (e, bis, semi, closed) (unfold ◌and◌ in refl);
        bound = rw e says;
        rule = rw (e, exact, says, ts-is);
      }

-- ---- an objective

objective_shape : (t : Term) (ts : List Term) (r : List ℕ) → spell_objective (t ∷ ts) ++ r ≡ min_word ++ ((32 ∷ []) ++ (sum_text (t ∷ ts) ++ (59 ∷ 10 ∷ r)))
unfolding spell_objective
objective_shape t ts r = ap (λ l. l ++ r) front ∙ go (sum_text (t ∷ ts))
  where
    front : line (text "min:" ∷ (sum_items (t ∷ ts) ++ (text ";" ∷ []))) ≡ min_word ++ (32 ∷ (sum_text (t ∷ ts) ++ (59 ∷ 10 ∷ [])))
    front = first ∙ ap (λ l. min_word ++ (32 ∷ l)) (line_terms (t ∷ ts) (59 ∷ []) [] ∙ ap (λ l. sum_text (t ∷ ts) ++ l) last)
      where
        first : line (text "min:" ∷ (sum_items (t ∷ ts) ++ (text ";" ∷ []))) ≡ min_word ++ (32 ∷ line (sum_items (t ∷ ts) ++ ((59 ∷ []) ∷ [])))
        first = unfold line sum_items concat term_items text in refl

        last : line ((59 ∷ []) ∷ []) ≡ 59 ∷ 10 ∷ []
        last = unfold line text in refl

    go : (a : List ℕ) → (min_word ++ (32 ∷ (a ++ (59 ∷ 10 ∷ [])))) ++ r ≡ min_word ++ (32 ∷ (a ++ (59 ∷ 10 ∷ r)))
    go a = ap (λ l. min_word ++ (32 ∷ l)) (append_assoc a (59 ∷ 10 ∷ []) r)

pub objective_body : List Term → List ℕ
objective_body ts = min_word ++ ((32 ∷ []) ++ (sum_text ts ++ (59 ∷ [])))

objective_body_lem : (t : Term) (ts : List Term) (r : List ℕ) → spell_objective (t ∷ ts) ++ r ≡ objective_body (t ∷ ts) ++ (10 ∷ r)
unfolding objective_body
objective_body_lem t ts r = objective_shape t ts r ∙ ap (λ l. min_word ++ (32 ∷ l)) (sym (append_assoc (sum_text (t ∷ ts)) (59 ∷ []) (10 ∷ r)))

pub objective_length : (t : Term) (ts : List Term) → length (spell_objective (t ∷ ts)) ≡ length (objective_body (t ∷ ts)) + 1
objective_length t ts = ap length (sym (append-nil (spell_objective (t ∷ ts))) ∙ objective_body_lem t ts []) ∙ length-append (objective_body (t ∷ ts)) (10 ∷ [])

inside_objective : (ts : List Term) → all is_inside (objective_body ts) ≡ true
unfolding objective_body
inside_objective ts =
    inside_both min_word _ (unfold all is_inside ◌and◌ in refl)
    (inside_both (32 ∷ []) _ (unfold all is_inside ◌and◌ in refl)
    (inside_both (sum_text ts) (59 ∷ []) (inside_sum ts) (unfold all is_inside ◌and◌ in refl)))

module _ (s : List ℕ) where
  pub record Minimises (at : ℕ) (ts : List Term) : Type 0 where
    pub comment : is_comment s at ≡ false
    pub objective : is_objective s at ≡ true
    pub terms : terms_in s at ≡ ts
    pub formed : objective_formed s at ≡ true

  pub minimises : (t : Term) (ts : List Term) {at : ℕ} {r : List ℕ} → Here s at (spell_objective (t ∷ ts)) r → Minimises at (t ∷ ts)
  unfolding is_comment is_objective objective_formed closes sum_from
  minimises t ts {at} {r} h =
      let a : Here s at min_word ((32 ∷ []) ++ (sum_text (t ∷ ts) ++ (59 ∷ 10 ∷ r))) = record { is = h.is ∙ objective_shape t ts r } in
      let g : get_or s at 0 ≡ 109 = byte_at s a in
      let o : eqb (get_or s at 0) 109 ≡ true = eq-eqb (get_or s at 0) 109 g in
      let e1 : word_end min_word s at ≡ at + 4 = word_ends s a in
      let a1 : Here s (at + 4) (32 ∷ []) (sum_text (t ∷ ts) ++ (59 ∷ 10 ∷ r)) = record { is = past s a } in
      let e2 : blanks_end s (at + 4) ≡ at + 4 + 1 = run_ends s a1 is_blank (unfold all is_blank ◌and◌ in refl) (sum_stops (t ∷ ts) 59 (10 ∷ r) (omega arith)) in
      let a2 : Here s (at + 4 + 1) (sum_text (t ∷ ts)) (59 ∷ 10 ∷ r) = record { is = past s a1 } in
      let two = sum_here s (t ∷ ts) (length s) (enough s (t ∷ ts) a2) (omega arith) a2 in
      let p = at + 4 + 1 + length (sum_text (t ∷ ts)) in
      let e3 : sum_end s (at + 4 + 1) ≡ p = two.1 in
      let a3 : Here s p (59 ∷ []) (10 ∷ r) = record { is = past s a2 } in
      let semi : eqb (get_or s p 0) 59 ≡ true = eq-eqb (get_or s p 0) 59 (byte_at s a3) in
      let whole : Here s at (objective_body (t ∷ ts)) (10 ∷ r) = record { is = h.is ∙ objective_body_lem t ts r } in
      let l = ended s (inside_objective (t ∷ ts)) whole in
      let feed : p + 1 ≡ line_end s at = omega (arith, l.feed, size) in
      let closed : eqb (p + 1) (line_end s at) ≡ true = eq-eqb (p + 1) (line_end s at) feed in
      let t1 : ltb at (at + 4) ≡ true = lt-ltb at (at + 4) (omega arith) in
      record {
        comment = ne_eqb (get_or s at 0) 42 (λ q. omega (arith, g, q));
        objective = o;
        terms = rw (o, e1, e2) two.0;
        formed = rw (o, e1, e2, e3, semi, t1, closed) (unfold ◌and◌ in refl);
      }
    where
      size : length (objective_body (t ∷ ts)) ≡ 5 + length (sum_text (t ∷ ts)) + 1
      size = unfold objective_body in omega (arith, length-append (sum_text (t ∷ ts)) (59 ∷ []))

  -- Where the two kinds of lines end.
  pub constraint_ended : (c : Line) {at : ℕ} {r : List ℕ} → Here s at (spell_line c) r → Ended s at (at + length (body c))
  constraint_ended c {at} {r} h = let whole : Here s at (body c) (10 ∷ r) = record { is = h.is ∙ line_body c r } in ended s (inside_body c) whole

  pub objective_ended : (t : Term) (ts : List Term) {at : ℕ} {r : List ℕ} → Here s at (spell_objective (t ∷ ts)) r → Ended s at (at + length (objective_body (t ∷ ts)))
  objective_ended t ts {at} {r} h =
      let whole : Here s at (objective_body (t ∷ ts)) (10 ∷ r) = record { is = h.is ∙ objective_body_lem t ts r } in ended s (inside_objective (t ∷ ts)) whole
