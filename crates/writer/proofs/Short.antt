-- A lawful plan's text is short: its length is a number of 64 bits.
-- Assumes nothing.
use Prim.Native.Nat.{ℕ, suc, ◌+◌, ◌*◌, ◌≤◌, ◌<◌, zero-le}
use native.Mathlib.Nat.{mul-suc}
use native.Mathlib.Omega.{arith}
use mathlib.Core.Path.{◌≡◌, refl, ap}
use mathlib.Core.Bool.{Bool, true, false, cond}
use mathlib.Core.List.{List, [], ◌∷◌, ◌++◌, map}
use lib.Dec.{T, leb}
use lib.IntN.{ℤ, pos, negsuc, nat_abs, neg_ℤ, ◌+ℤ◌, ◌-ℤ◌}
use lib.ListN.{length, length-append, length-map}
use borrow.Author.Tests.{leb-true, le-leb}
use Rattle.plpb.specs.Lists.{◌and◌, all, keep, concat}
use Rattle.plpb.specs.Plan.{Bound, absent, present, Term, Rule, Clause, Lock, Plan, rising, negative_part, least_total, positive_part, greatest_total}
use Rattle.plpb.specs.Tallies.{rules_of}
use Rattle.counting.proofs.Signed.{size_sum}
use Rattle.integers.proofs.Sizes.{size_less, size_negated}
use Rattle.format.specs.Limits.{bound_lawful, rule_lawful, lock_term, lock_terms, lawful, term_within}
use Rattle.format.proofs.Bools.{and_left, and_right, and_join}
use Rattle.format.proofs.Lists.{all_append}
use Rattle.format.proofs.Lawful.{weight_small, terms_short, terms_parts, clause_lawful, Within, plan_parts}
use Rattle.texts.specs.Texts.{text, decimal, signed_decimal}
use Rattle.texts.proofs.Decimal.{twenty}
use Rattle.opb.specs.Opb.{Line, Text}
use Rattle.opb.specs.Spell.{coefficient, relation, spell_line, spell_first, spell_objective, spell}
use Rattle.opb.specs.Tau.{weighted, has_weight, negated, geq, leq, lower_line, upper_line, straight, fixed, minus_lines, plus_lines, both_lines, rule_lines, rules_lines, rule_atoms, or_lines, is_single, clause_lines, new_atoms, clauses_lines, lock_line, tau}
use Rattle.constraints.specs.Bytes.{term_bytes, end_bytes, lines_bytes}
use Rattle.constraints.proofs.Bytes.{line_bytes, end_bytes_lem}
use Rattle.opbtext.proofs.Parts.{first_bytes, objective_full}
use Rattle.plpb.proofs.Lists.{T_true}
use Rattle.format.specs.Layout.{table_size, term_size}
use Rattle.format.specs.Tables.{is_loaded, plan_of_tables}
use Rattle.spelling.specs.Overlay.{Room}
use Rattle.opbtext.specs.Whole.{WholeFits}
use Rattle.writer.proofs.Fits.{atoms_few, all_atoms_few, plan_lawful, loaded_fits}

-- ---- numbers, terms, lines

abbrev Small : ℕ → Type 0
Small n = n ≤ 4_000_000_000

unfoldable small_term : Term → Bool
small_term t = leb t.variable 4_000_000_000 and leb (nat_abs t.weight) 4_000_000_000

unfoldable short_line : Line → Bool
short_line c = leb (length c.terms) 1_100 and all small_term c.terms and leb (nat_abs c.bound) 4_000_000_000

digits : (n : ℕ) → Small n → length (decimal n) ≤ 20
digits n h = twenty n (omega (arith, h))

coefficient_length : (z : ℤ) → Small (nat_abs z) → length (coefficient z) ≤ 21
unfolding coefficient text
coefficient_length (pos n) h = omega (arith, digits n h)
coefficient_length (negsuc n) h = omega (arith, digits (suc n) h)

signed_length : (z : ℤ) → Small (nat_abs z) → length (signed_decimal z) ≤ 21
unfolding signed_decimal text
signed_length (pos n) h = omega (arith, digits n h)
signed_length (negsuc n) h = omega (arith, digits (suc n) h)

term_length : (t : Term) → small_term t ≡ true → length (term_bytes t) ≤ 44
unfolding small_term term_bytes text
term_length t h =
    let v = leb-true t.variable 4_000_000_000 (and_left _ _ h) in
    let w = leb-true (nat_abs t.weight) 4_000_000_000 (and_right _ _ h) in
    omega (arith, digits t.variable v, coefficient_length t.weight w, length-append (coefficient t.weight) (32 ∷ 120 ∷ (decimal t.variable ++ (32 ∷ []))), length-append (decimal t.variable) (32 ∷ []))

terms_length : (ts : List Term) → all small_term ts ≡ true → length (concat (map term_bytes ts)) ≤ 44 * length ts
unfolding all concat
terms_length [] h = zero-le
terms_length (t ∷ ts) h =
    omega (arith, length-append (term_bytes t) (concat (map term_bytes ts)), term_length t (and_left _ _ h), terms_length ts (and_right _ _ h), mul-suc 44 (length ts))

relation_length : (b : Bool) → length (relation b) ≤ 2
unfolding relation text
relation_length true = omega arith
relation_length false = omega arith

end_length : (b : Bool) (z : ℤ) → Small (nat_abs z) → length (end_bytes b z) ≤ 27
end_length b z h =
    let e = ap length (end_bytes_lem b z) in
    let p = length-append (relation b ++ text " ") (signed_decimal z ++ text " ;\n") in
    let q = length-append (relation b) (text " ") in
    let r = length-append (signed_decimal z) (text " ;\n") in
    omega (arith, e, p, q, r, relation_length b, signed_length z h, space, ending)
  where
    space : length (text " ") ≡ 1
    space = unfold text in refl

    ending : length (text " ;\n") ≡ 3
    ending = unfold text in refl

line_length : (c : Line) → short_line c ≡ true → length (spell_line c) ≤ 50_000
unfolding short_line
line_length c h =
    let few = leb-true (length c.terms) 1_100 (and_left _ _ (and_left _ _ h)) in
    let e = ap length (line_bytes c) in
    let p = length-append (concat (map term_bytes c.terms)) (end_bytes c.exact c.bound) in
    omega (arith, e, p, few, terms_length c.terms (and_right _ _ (and_left _ _ h)), end_length c.exact c.bound (leb-true (nat_abs c.bound) 4_000_000_000 (and_right _ _ h)))

lines_length : (cs : List Line) → all short_line cs ≡ true → length (lines_bytes cs) ≤ 50_000 * length cs
unfolding lines_bytes all concat
lines_length [] h = zero-le
lines_length (c ∷ cs) h =
    omega (arith, length-append (spell_line c) (concat (map spell_line cs)), line_length c (and_left _ _ h), lines_length cs (and_right _ _ h), mul-suc 50_000 (length cs))

-- ---- which lines are short

keep_all : (p q : Term → Bool) (ts : List Term) → all p ts ≡ true → all p (keep q ts) ≡ true
unfolding all keep
keep_all p q [] h = refl
keep_all p q (t ∷ ts) h = by (q t) (keep_all p q ts (and_right _ _ h))
  where
    by : (b : Bool) → all p (keep q ts) ≡ true → all p (cond b (t ∷ keep q ts) (keep q ts)) ≡ true
    by true r = and_join _ _ (and_left _ _ h) r
    by false r = r

keep_few : (q : Term → Bool) (ts : List Term) → length (keep q ts) ≤ length ts
unfolding keep
keep_few q [] = zero-le
keep_few q (t ∷ ts) = by (q t) (keep_few q ts)
  where
    by : (b : Bool) → length (keep q ts) ≤ length ts → length (cond b (t ∷ keep q ts) (keep q ts)) ≤ suc (length ts)
    by true r = omega (arith, r)
    by false r = omega (arith, r)

geq_short : (ts : List Term) (b : ℤ) → length ts ≤ 1_100 → all small_term ts ≡ true → Small (nat_abs b) → short_line (geq ts b) ≡ true
unfolding short_line geq
geq_short ts b n h k =
    and_join _ _ (and_join _ _ (le-leb (length (keep has_weight ts)) 1_100 (omega (arith, n, keep_few has_weight ts))) (keep_all small_term has_weight ts h)) (le-leb _ _ k)

negated_small : (ts : List Term) → all small_term ts ≡ true → all small_term (map negated ts) ≡ true
unfolding all small_term negated
negated_small [] h = refl
negated_small (t ∷ ts) h = and_join _ _ (rw (size_negated t.weight) (and_left _ _ h)) (negated_small ts (and_right _ _ h))

leq_short : (ts : List Term) (b : ℤ) → length ts ≤ 1_100 → all small_term ts ≡ true → Small (nat_abs b) → short_line (leq ts b) ≡ true
unfolding leq
leq_short ts b n h k =
    geq_short (map negated ts) (neg_ℤ b) (omega (arith, n, length-map ts negated)) (negated_small ts h) (omega (arith, k, size_negated b))

one_small : (w : ℤ) (x : ℕ) → Small (nat_abs w) → Small x → small_term (weighted w x) ≡ true
unfolding small_term
one_small w x h k = and_join _ _ (le-leb _ _ k) (le-leb _ _ h)

-- ---- a rule's lines

-- What a lawful rule is known to have.
record Fine (r : Rule) : Type 0 where
  few : length r.terms ≤ 512
  small : all small_term r.terms ≡ true
  least : nat_abs (least_total r.terms) ≤ 512_000_000
  greatest : nat_abs (greatest_total r.terms) ≤ 512_000_000
  lower : bound_lawful r.lower ≡ true
  upper : bound_lawful r.upper ≡ true

within_small : (n : ℕ) (ts : List Term) → n ≤ 512 → all (term_within n) ts ≡ true → all small_term ts ≡ true
unfolding all term_within small_term
within_small n [] l h = refl
within_small n (t ∷ ts) l h =
    let a = leb-true t.variable n (and_left _ _ (and_left _ _ h)) in
    let b = weight_small t.weight (and_right _ _ (and_left _ _ h)) in
    and_join _ _ (and_join _ _ (le-leb t.variable 4_000_000_000 (omega (arith, a, l))) (le-leb (nat_abs t.weight) 4_000_000_000 (omega (arith, b)))) (within_small n ts l (and_right _ _ h))

negative_size : (w : ℤ) → nat_abs (negative_part w) ≤ nat_abs w
unfolding negative_part
negative_size (pos n) = zero-le
negative_size (negsuc n) = omega arith

positive_size : (w : ℤ) → nat_abs (positive_part w) ≤ nat_abs w
unfolding positive_part
positive_size (pos n) = omega arith
positive_size (negsuc n) = zero-le

least_size : (n : ℕ) (ts : List Term) → all (term_within n) ts ≡ true → nat_abs (least_total ts) ≤ 1_000_000 * length ts
unfolding all term_within least_total
least_size n [] h = zero-le
least_size n (t ∷ ts) h =
    omega (arith, size_sum (negative_part t.weight) (least_total ts), negative_size t.weight, weight_small t.weight (and_right _ _ (and_left _ _ h)), least_size n ts (and_right _ _ h), mul-suc 1_000_000 (length ts))

greatest_size_lem : (n : ℕ) (ts : List Term) → all (term_within n) ts ≡ true → nat_abs (greatest_total ts) ≤ 1_000_000 * length ts
unfolding all term_within greatest_total
greatest_size_lem n [] h = zero-le
greatest_size_lem n (t ∷ ts) h =
    omega (arith, size_sum (positive_part t.weight) (greatest_total ts), positive_size t.weight, weight_small t.weight (and_right _ _ (and_left _ _ h)), greatest_size_lem n ts (and_right _ _ h), mul-suc 1_000_000 (length ts))

few_terms : (n : ℕ) (ts : List Term) → rising ts ≡ true → all (term_within n) ts ≡ true → length ts ≤ n
unfolding rising
few_terms n ts r w = let s = terms_short n 0 ts r w zero-le in omega (arith, s)

rule_fine : (n : ℕ) (r : Rule) → n ≤ 512 → rule_lawful n r ≡ true → Fine r
unfolding rule_lawful
rule_fine n r l h =
    let parts = terms_parts n r.terms (and_right _ _ h) in
    let bounds = and_left _ _ (and_left _ _ h) in
    let few = few_terms n r.terms parts.rise parts.within in
    record {
      few = omega (arith, few, l);
      small = within_small n r.terms l parts.within;
      least = omega (arith, few, l, least_size n r.terms parts.within);
      greatest = omega (arith, few, l, greatest_size_lem n r.terms parts.within);
      lower = and_right _ _ (and_left _ _ bounds);
      upper = and_right _ _ bounds;
    }

bound_size : (b : ℤ) → bound_lawful (present b) ≡ true → nat_abs b ≤ 1_000_000_000
unfolding bound_lawful
bound_size b h = leb-true (nat_abs b) 1_000_000_000 h

-- One term more.
snoc_small : (ts : List Term) (w : ℤ) (x : ℕ) → all small_term ts ≡ true → Small (nat_abs w) → Small x → all small_term (ts ++ (weighted w x ∷ [])) ≡ true
unfolding all
snoc_small ts w x h k l = all_append small_term ts (weighted w x ∷ []) h (and_join _ _ (one_small w x k l) refl)

snoc_few : (ts : List Term) (t : Term) → length ts ≤ 512 → length (ts ++ (t ∷ [])) ≤ 1_100
snoc_few ts t h = omega (arith, h, length-append ts (t ∷ []))

both_lines_lem : (a b : Line) → short_line a ≡ true → short_line b ≡ true → all short_line (a ∷ b ∷ []) ≡ true
unfolding all
both_lines_lem a b h k = and_join _ _ h (and_join _ _ k refl)

one_line : (a : Line) → short_line a ≡ true → all short_line (a ∷ []) ≡ true
unfolding all
one_line a h = and_join _ _ h refl

fixed_short : (x : ℕ) → Small x → all short_line (fixed x) ≡ true
unfolding fixed all
fixed_short x h = one_line _ (geq_short (weighted (pos 1) x ∷ []) (pos 1) (omega arith) (and_join _ _ (one_small (pos 1) x (omega arith) h) refl) (omega arith))

module _ (ts : List Term) (few : length ts ≤ 512) (small : all small_term ts ≡ true) where
  lower_short : (b : Bound ℤ) → bound_lawful b ≡ true → all short_line (lower_line b ts) ≡ true
  unfolding lower_line all
  lower_short absent h = refl
  lower_short (present b) h = one_line _ (geq_short ts b (omega (arith, few)) small (omega (arith, bound_size b h)))

  upper_short : (b : Bound ℤ) → bound_lawful b ≡ true → all short_line (upper_line b ts) ≡ true
  unfolding upper_line all
  upper_short absent h = refl
  upper_short (present b) h = one_line _ (leq_short ts b (omega (arith, few)) small (omega (arith, bound_size b h)))

  module _ (low : nat_abs (least_total ts) ≤ 512_000_000) (high : nat_abs (greatest_total ts) ≤ 512_000_000) (x : ℕ) (l : Small x) where
    minus_short : (b : Bound ℤ) → bound_lawful b ≡ true → all short_line (minus_lines x b ts) ≡ true
    unfolding minus_lines
    minus_short absent h = fixed_short x l
    minus_short (present u) h =
        let b = bound_size u h in
        let n = size_sum u (pos 1) in
        both_lines_lem _ _
        (leq_short (ts ++ (weighted (greatest_total ts -ℤ u) x ∷ [])) (greatest_total ts) (snoc_few ts _ few) (snoc_small ts (greatest_total ts -ℤ u) x small (omega (arith, size_less (greatest_total ts) u, b, high)) l) (omega (arith, high)))
        (geq_short (ts ++ (weighted (u +ℤ pos 1 -ℤ least_total ts) x ∷ [])) (u +ℤ pos 1) (snoc_few ts _ few) (snoc_small ts (u +ℤ pos 1 -ℤ least_total ts) x small (omega (arith, size_less (u +ℤ pos 1) (least_total ts), n, b, low)) l) (omega (arith, n, b)))

    plus_short : (b : Bound ℤ) → bound_lawful b ≡ true → all short_line (plus_lines x b ts) ≡ true
    unfolding plus_lines
    plus_short absent h = fixed_short x l
    plus_short (present b) h =
        let s = bound_size b h in
        let n = size_less b (pos 1) in
        both_lines_lem _ _
        (geq_short (ts ++ (weighted (least_total ts -ℤ b) x ∷ [])) (least_total ts) (snoc_few ts _ few) (snoc_small ts (least_total ts -ℤ b) x small (omega (arith, size_less (least_total ts) b, s, low)) l) (omega (arith, low)))
        (leq_short (ts ++ (weighted (b -ℤ pos 1 -ℤ greatest_total ts) x ∷ [])) (b -ℤ pos 1) (snoc_few ts _ few) (snoc_small ts (b -ℤ pos 1 -ℤ greatest_total ts) x small (omega (arith, size_less (b -ℤ pos 1) (greatest_total ts), n, s, high)) l) (omega (arith, n, s)))

both_short : (k : ℕ) → k ≤ 100_000 → all short_line (both_lines k) ≡ true
unfolding both_lines all
both_short k h =
    let one : (w : ℤ) (x : ℕ) → nat_abs w ≤ 1 → x ≤ k + 3 → small_term (weighted w x) ≡ true = λ w x a b. one_small w x (omega (arith, a)) (omega (arith, b, h)) in
    and_join _ _ (geq_short (weighted (pos 1) (k + 1) ∷ weighted (negsuc 0) (k + 3) ∷ []) (pos 0) (omega arith) (and_join _ _ (one (pos 1) (k + 1) (omega arith) (omega arith)) (and_join _ _ (one (negsuc 0) (k + 3) (omega arith) (omega arith)) refl)) (omega arith))
    (and_join _ _ (geq_short (weighted (pos 1) (k + 2) ∷ weighted (negsuc 0) (k + 3) ∷ []) (pos 0) (omega arith) (and_join _ _ (one (pos 1) (k + 2) (omega arith) (omega arith)) (and_join _ _ (one (negsuc 0) (k + 3) (omega arith) (omega arith)) refl)) (omega arith))
    (and_join _ _ (geq_short (weighted (negsuc 0) (k + 1) ∷ weighted (negsuc 0) (k + 2) ∷ weighted (pos 1) (k + 3) ∷ []) (negsuc 0) (omega arith) (and_join _ _ (one (negsuc 0) (k + 1) (omega arith) (omega arith)) (and_join _ _ (one (negsuc 0) (k + 2) (omega arith) (omega arith)) (and_join _ _ (one (pos 1) (k + 3) (omega arith) (omega arith)) refl))) (omega arith))
    refl))

rule_short : (k : ℕ) (r : Rule) → k ≤ 100_000 → Fine r → all short_line (rule_lines k r) ≡ true
unfolding rule_lines
rule_short k r h f =
    all_append short_line (minus_lines (k + 2) r.upper r.terms) (plus_lines (k + 1) r.lower r.terms ++ both_lines k) (minus_short r.terms f.few f.small f.least f.greatest (k + 2) (omega (arith, h)) r.upper f.upper)
    (all_append short_line (plus_lines (k + 1) r.lower r.terms) (both_lines k) (plus_short r.terms f.few f.small f.least f.greatest (k + 1) (omega (arith, h)) r.lower f.lower) (both_short k h))

straight_short : (r : Rule) → Fine r → all short_line (straight r) ≡ true
unfolding straight
straight_short r f =
    all_append short_line (lower_line r.lower r.terms) (upper_line r.upper r.terms) (lower_short r.terms f.few f.small r.lower f.lower) (upper_short r.terms f.few f.small r.upper f.upper)

-- ---- clauses

module _ (n : ℕ) (high : n ≤ 512) where
  rules_short : (k : ℕ) (c : Clause) → k + 3 * length c ≤ 100_000 → all (rule_lawful n) c ≡ true → all short_line (rules_lines k c) ≡ true
  unfolding rules_lines all
  rules_short k [] h l = refl
  rules_short k (r ∷ rs) h l =
      all_append short_line (rule_lines k r) (rules_lines (k + 3) rs) (rule_short k r (omega (arith, h)) (rule_fine n r high (and_left _ _ l)))
      (rules_short (k + 3) rs (omega (arith, h)) (and_right _ _ l))

  straights_short : (c : Clause) → all (rule_lawful n) c ≡ true → all short_line (concat (map straight c)) ≡ true
  unfolding concat all
  straights_short [] l = refl
  straights_short (r ∷ rs) l =
      all_append short_line (straight r) (concat (map straight rs)) (straight_short r (rule_fine n r high (and_left _ _ l))) (straights_short rs (and_right _ _ l))

atoms_length : (k : ℕ) (c : Clause) → length (rule_atoms k c) ≡ length c
unfolding rule_atoms
atoms_length k [] = refl
atoms_length k (r ∷ rs) = ap suc (atoms_length (k + 3) rs)

atoms_small : (k : ℕ) (c : Clause) → k + 3 * length c ≤ 100_000 → all small_term (rule_atoms k c) ≡ true
unfolding rule_atoms all
atoms_small k [] h = refl
atoms_small k (r ∷ rs) h = and_join _ _ (one_small (pos 1) (k + 3) (omega arith) (omega (arith, h))) (atoms_small (k + 3) rs (omega (arith, h)))

clause_short : (n : ℕ) → n ≤ 512 → (k : ℕ) (c : Clause) → length c ≤ 1_024 → k + 3 * length c ≤ 100_000 → all (rule_lawful n) c ≡ true → all short_line (clause_lines k c) ≡ true
unfolding clause_lines or_lines
clause_short n high k c few h l = by (is_single c)
  where
    or : all short_line (geq (rule_atoms k c) (pos 1) ∷ rules_lines k c) ≡ true
    or = unfold all in and_join _ _ (geq_short (rule_atoms k c) (pos 1) (omega (arith, few, atoms_length k c)) (atoms_small k c h) (omega arith)) (rules_short n high k c h l)

    by : (b : Bool) → all short_line (cond b (concat (map straight c)) (geq (rule_atoms k c) (pos 1) ∷ rules_lines k c)) ≡ true
    by true = straights_short n high c l
    by false = or

clauses_short :
    (n : ℕ) → n ≤ 512 → (k : ℕ) (cs : List Clause) → length (concat cs) ≤ 1_024 → k + 3 * length (concat cs) ≤ 100_000 → all (clause_lawful n) cs ≡ true
    → all short_line (clauses_lines k cs) ≡ true
unfolding clauses_lines all concat clause_lawful
clauses_short n high k [] few h l = refl
clauses_short n high k (c ∷ cs) few h l =
    let joined = length-append c (concat cs) in
    all_append short_line (clause_lines k c) (clauses_lines (k + new_atoms c) cs) (clause_short n high k c (omega (arith, few, joined)) (omega (arith, h, joined)) (and_right _ _ (and_left _ _ l)))
    (clauses_short n high (k + new_atoms c) cs (omega (arith, few, joined)) (omega (arith, h, joined, atoms_few c)) (and_right _ _ l))

lock_short : (k : Lock) → k.variable ≤ 512 → short_line (lock_line k) ≡ true
unfolding short_line lock_line all
lock_short k h = and_join _ _ (and_join _ _ refl (and_join _ _ (one_small (pos 1) k.variable (omega arith) (omega (arith, h))) refl)) (by k.value)
  where
    by : (b : Bool) → leb (nat_abs (cond b (pos 1) (pos 0))) 4_000_000_000 ≡ true
    by true = refl
    by false = refl

locks_short : (n : ℕ) (ks : List Lock) → n ≤ 512 → all (term_within n) (map lock_term ks) ≡ true → all short_line (map lock_line ks) ≡ true
unfolding all term_within lock_term
locks_short n [] l h = refl
locks_short n (k ∷ ks) l h =
    let v = leb-true k.variable n (and_left _ _ (and_left _ _ h)) in
    and_join _ _ (lock_short k (omega (arith, v, l))) (locks_short n ks l (and_right _ _ h))

-- ---- how many lines

rule_few : (k : ℕ) (r : Rule) → length (rule_lines k r) ≤ 7
unfolding rule_lines
rule_few k r =
    let a = length-append (minus_lines (k + 2) r.upper r.terms) (plus_lines (k + 1) r.lower r.terms ++ both_lines k) in
    let b = length-append (plus_lines (k + 1) r.lower r.terms) (both_lines k) in
    omega (arith, a, b, minus_few r.upper, plus_few r.lower, both_few)
  where
    minus_few : (b : Bound ℤ) → length (minus_lines (k + 2) b r.terms) ≤ 2
    minus_few absent = unfold minus_lines fixed in omega arith
    minus_few (present u) = unfold minus_lines in omega arith

    plus_few : (b : Bound ℤ) → length (plus_lines (k + 1) b r.terms) ≤ 2
    plus_few absent = unfold plus_lines fixed in omega arith
    plus_few (present l) = unfold plus_lines in omega arith

    both_few : length (both_lines k) ≡ 3
    both_few = unfold both_lines in refl

rules_few : (k : ℕ) (c : Clause) → length (rules_lines k c) ≤ 7 * length c
unfolding rules_lines
rules_few k [] = zero-le
rules_few k (r ∷ rs) = omega (arith, length-append (rule_lines k r) (rules_lines (k + 3) rs), rule_few k r, rules_few (k + 3) rs, mul-suc 7 (length rs))

straights_few : (c : Clause) → length (concat (map straight c)) ≤ 7 * length c
unfolding concat
straights_few [] = zero-le
straights_few (r ∷ rs) = omega (arith, length-append (straight r) (concat (map straight rs)), one r, straights_few rs, mul-suc 7 (length rs))
  where
    one : (r : Rule) → length (straight r) ≤ 2
    one r = unfold straight in (let a = length-append (lower_line r.lower r.terms) (upper_line r.upper r.terms) in omega (arith, a, low r.lower, up r.upper))
      where
        low : (b : Bound ℤ) → length (lower_line b r.terms) ≤ 1
        low absent = unfold lower_line in omega arith
        low (present b) = unfold lower_line in omega arith

        up : (b : Bound ℤ) → length (upper_line b r.terms) ≤ 1
        up absent = unfold upper_line in omega arith
        up (present b) = unfold upper_line in omega arith

clauses_few : (k : ℕ) (cs : List Clause) → length (clauses_lines k cs) ≤ length cs + 7 * length (concat cs)
unfolding clauses_lines concat
clauses_few k [] = zero-le
clauses_few k (c ∷ cs) =
    omega (arith, length-append (clause_lines k c) (clauses_lines (k + new_atoms c) cs), one, clauses_few (k + new_atoms c) cs, length-append c (concat cs))
  where
    one : length (clause_lines k c) ≤ suc (7 * length c)
    one = unfold clause_lines or_lines in by (is_single c)
      where
        by : (b : Bool) → length (cond b (concat (map straight c)) (geq (rule_atoms k c) (pos 1) ∷ rules_lines k c)) ≤ suc (7 * length c)
        by true = omega (arith, straights_few c)
        by false = omega (arith, rules_few k c)

-- ---- the whole

first_length : (n m : ℕ) → Small n → Small m → length (spell_first n m) ≤ 100
first_length n m h k = rw (first_bytes n m) (unfold text in total)
  where
    total : length (42 ∷ 32 ∷ 35 ∷ 118 ∷ 97 ∷ 114 ∷ 105 ∷ 97 ∷ 98 ∷ 108 ∷ 101 ∷ 61 ∷ 32 ∷ (decimal n ++ (32 ∷ 35 ∷ 99 ∷ 111 ∷ 110 ∷ 115 ∷ 116 ∷ 114 ∷ 97 ∷ 105 ∷ 110 ∷ 116 ∷ 61 ∷ 32 ∷ (decimal m ++ (10 ∷ []))))) ≤ 100
    total =
        omega (arith, digits n h, digits m k, length-append (decimal n) (32 ∷ 35 ∷ 99 ∷ 111 ∷ 110 ∷ 115 ∷ 116 ∷ 114 ∷ 97 ∷ 105 ∷ 110 ∷ 116 ∷ 61 ∷ 32 ∷ (decimal m ++ (10 ∷ []))), length-append (decimal m) (10 ∷ []))

objective_length : (ts : List Term) → all small_term ts ≡ true → length ts ≤ 512 → length (spell_objective ts) ≤ 30_000
objective_length [] h l = unfold spell_objective in zero-le
objective_length (t ∷ ts) h l =
    let e = ap length (objective_full (t ∷ ts) (λ z. none z)) in
    let a = length-append (text "min: ") (concat (map term_bytes (t ∷ ts)) ++ text ";\n") in
    let b = length-append (concat (map term_bytes (t ∷ ts))) (text ";\n") in
    omega (arith, e, a, b, terms_length (t ∷ ts) h, l, front, back)
  where
    none : length (t ∷ ts) ≡ 0 → ⊥
    none z = omega (arith, z)

    front : length (text "min: ") ≡ 5
    front = unfold text in refl

    back : length (text ";\n") ≡ 2
    back = unfold text in refl

spell_short :
    (t : Text) → Small t.variables → length t.lines ≤ 10_000 → all short_line t.lines ≡ true → all small_term t.objective ≡ true → length t.objective ≤ 512
    → length (spell t) < 18_446_744_073_709_551_616
unfolding spell lines_bytes
spell_short t v m l o k =
    let a = length-append (spell_first t.variables (length t.lines)) (spell_objective t.objective ++ lines_bytes t.lines) in
    let b = length-append (spell_objective t.objective) (lines_bytes t.lines) in
    omega (arith, a, b, m, first_length t.variables (length t.lines) v (omega (arith, m)), objective_length t.objective o k, lines_length t.lines l)

module _ (p : Plan) (w : Within 512 1_024 6_000 p) where
  lock_count : length p.locks ≤ 512
  lock_count = omega (arith, few_terms p.variables (lock_terms p) w.locks.rise w.locks.within, length-map p.locks lock_term, w.high)

  lines_few : length (tau p).lines ≤ 10_000
  unfolding tau rules_of
  lines_few =
      let a = length-append (clauses_lines p.variables p.clauses) (map lock_line p.locks) in
      omega (arith, a, clauses_few p.variables p.clauses, w.clause_count, w.rule_count, length-map p.locks lock_line, lock_count)

  lines_short : all short_line (tau p).lines ≡ true
  unfolding tau rules_of
  lines_short =
      all_append short_line (clauses_lines p.variables p.clauses) (map lock_line p.locks)
      (clauses_short p.variables w.high p.variables p.clauses w.rule_count (omega (arith, w.high, w.rule_count)) w.clauses)
      (locks_short p.variables p.locks w.high w.locks.within)

  variables_small : Small (tau p).variables
  unfolding tau rules_of
  variables_small = omega (arith, w.high, w.rule_count, all_atoms_few p.clauses)

  objective_is : (tau p).objective ≡ p.objective
  unfolding tau
  objective_is = refl

  whole_short : length (spell (tau p)) < 18_446_744_073_709_551_616
  whole_short =
      spell_short (tau p) variables_small lines_few lines_short (rw objective_is (within_small p.variables p.objective w.high w.objective.within))
      (rw objective_is (omega (arith, w.high, few_terms p.variables p.objective w.objective.rise w.objective.within)))

pub text_short : (p : Plan) → T (lawful p) → length (spell (tau p)) < 18_446_744_073_709_551_616
text_short p t = whole_short p (plan_parts p t)

-- Tables that passed the tests are fit to be put, and there is room for any place behind their text.
pub ready : (tables terms : List ℕ) → table_size ≤ length tables → term_size ≤ length terms → is_loaded tables terms ≡ true
    → WholeFits tables terms × Room 0 (spell (tau (plan_of_tables tables terms)))
ready tables terms long room e =
    let short = text_short (plan_of_tables tables terms) (plan_lawful tables terms long room (T_true e)) in
    (loaded_fits tables terms long room (T_true e), omega (arith, short))
