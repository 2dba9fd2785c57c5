-- A line is the bytes of its terms, and behind them those of its end; the bytes of a sum are those of its parts.
-- Assumes nothing.
use Prim.Native.Nat.{ℕ, ◌<◌}
use mathlib.Core.Path.{◌≡◌, refl, sym, ap, ◌∙◌}
use mathlib.Core.Bool.{Bool, true, false, cond}
use mathlib.Core.List.{List, [], ◌∷◌, ◌++◌, map, append_assoc, append-nil}
use lib.IntN.{ℤ, pos, nat_abs}
use borrow.Author.Tests.{lt-ltb}
use Rattle.plpb.specs.Lists.{keep, concat}
use Rattle.plpb.specs.Plan.{Term}
use Rattle.texts.specs.Texts.{text, decimal, signed_decimal, line}
use Rattle.opb.specs.Opb.{Line}
use Rattle.opb.specs.Spell.{coefficient, term_items, sum_items, relation, spell_line}
use Rattle.opb.specs.Tau.{weighted, has_weight, geq}
use Rattle.constraints.specs.Bytes.{term_bytes, sum_bytes, end_bytes, lines_bytes}

-- ---- lists

map_append : {A B : Type 0} (f : A → B) (xs ys : List A) → map f (xs ++ ys) ≡ map f xs ++ map f ys
map_append f [] ys = refl
map_append f (x ∷ xs) ys = ap (λ l. f x ∷ l) (map_append f xs ys)

pub concat_append : {A : Type 0} (xs ys : List (List A)) → concat (xs ++ ys) ≡ concat xs ++ concat ys
unfolding concat
concat_append [] ys = refl
concat_append (x ∷ xs) ys = ap (λ l. x ++ l) (concat_append xs ys) ∙ sym (append_assoc x (concat xs) (concat ys))

keep_append : {A : Type 0} (p : A → Bool) (xs ys : List A) → keep p (xs ++ ys) ≡ keep p xs ++ keep p ys
unfolding keep
keep_append p [] ys = refl
keep_append p (x ∷ xs) ys = one (p x) (keep_append p xs ys)
  where
    one : (b : Bool) → keep p (xs ++ ys) ≡ keep p xs ++ keep p ys
        → cond b (x ∷ keep p (xs ++ ys)) (keep p (xs ++ ys)) ≡ cond b (x ∷ keep p xs) (keep p xs) ++ keep p ys
    one true e = ap (λ l. x ∷ l) e
    one false e = e

-- ---- sums

pub sum_none : sum_bytes [] ≡ []
unfolding sum_bytes keep concat
sum_none = refl

pub sum_append : (xs ys : List Term) → sum_bytes (xs ++ ys) ≡ sum_bytes xs ++ sum_bytes ys
unfolding sum_bytes
sum_append xs ys =
    ap (λ l. concat (map term_bytes l)) (keep_append has_weight xs ys)
    ∙ ap concat (map_append term_bytes (keep has_weight xs) (keep has_weight ys))
    ∙ concat_append (map term_bytes (keep has_weight xs)) (map term_bytes (keep has_weight ys))

pub sum_cons : (t : Term) (ts : List Term) → sum_bytes (t ∷ ts) ≡ sum_bytes (t ∷ []) ++ sum_bytes ts
sum_cons t ts = sum_append (t ∷ []) ts

-- One term: none where its coefficient is 0.
pub zero_term : (x : ℕ) → sum_bytes (weighted (pos 0) x ∷ []) ≡ []
unfolding sum_bytes keep concat has_weight
zero_term x = refl

pub some_term : (w : ℤ) (x : ℕ) → 0 < nat_abs w → sum_bytes (weighted w x ∷ []) ≡ coefficient w ++ (text " x" ++ (decimal x ++ text " "))
unfolding sum_bytes keep concat has_weight term_bytes
some_term w x h = rw (lt-ltb 0 (nat_abs w) h) (append-nil (coefficient w ++ (text " x" ++ (decimal x ++ text " "))))

-- ---- lines

-- An item that others follow.
line_more : (x : List ℕ) (xs : List (List ℕ)) (y : List ℕ) (ys : List (List ℕ)) → line (x ∷ (xs ++ (y ∷ ys))) ≡ x ++ (text " " ++ line (xs ++ (y ∷ ys)))
unfolding line
line_more x [] y ys = refl
line_more x (z ∷ zs) y ys = refl

pub line_terms : (ts : List Term) (y : List ℕ) (ys : List (List ℕ)) → line (sum_items ts ++ (y ∷ ys)) ≡ concat (map term_bytes ts) ++ line (y ∷ ys)
unfolding sum_items term_items concat term_bytes text
line_terms [] y ys = refl
line_terms (t ∷ ts) y ys =
    line_more (coefficient t.weight) ((120 ∷ decimal t.variable) ∷ sum_items ts) y ys
    ∙ ap (λ l. coefficient t.weight ++ (32 ∷ l)) (line_more (120 ∷ decimal t.variable) (sum_items ts) y ys)
    ∙ ap (λ l. coefficient t.weight ++ (32 ∷ 120 ∷ (decimal t.variable ++ (32 ∷ l)))) (line_terms ts y ys)
    ∙ shape (coefficient t.weight) (decimal t.variable) (concat (map term_bytes ts)) (line (y ∷ ys))
  where
    shape : (a b c d : List ℕ) → a ++ (32 ∷ 120 ∷ (b ++ (32 ∷ (c ++ d)))) ≡ a ++ (32 ∷ 120 ∷ (b ++ (32 ∷ []))) ++ c ++ d
    shape a b c d = simp append_assoc

pub line_bytes : (c : Line) → spell_line c ≡ concat (map term_bytes c.terms) ++ end_bytes c.exact c.bound
unfolding spell_line end_bytes
line_bytes c = line_terms c.terms (relation c.exact) (signed_decimal c.bound ∷ text ";" ∷ [])

pub geq_bytes : (ts : List Term) (b : ℤ) → spell_line (geq ts b) ≡ sum_bytes ts ++ end_bytes false b
unfolding geq sum_bytes
geq_bytes ts b = line_bytes (geq ts b)

-- The end: relation, number, `;`.
pub end_bytes_lem : (exact : Bool) (b : ℤ) → end_bytes exact b ≡ (relation exact ++ text " ") ++ (signed_decimal b ++ text " ;\n")
unfolding end_bytes line text
end_bytes_lem exact b = simp append_assoc

pub lines_none : lines_bytes [] ≡ []
unfolding lines_bytes concat
lines_none = refl

pub lines_cons : (c : Line) (cs : List Line) → lines_bytes (c ∷ cs) ≡ spell_line c ++ lines_bytes cs
unfolding lines_bytes concat
lines_cons c cs = refl

pub lines_one : (c : Line) → lines_bytes (c ∷ []) ≡ spell_line c
unfolding lines_bytes concat
lines_one c = append-nil (spell_line c)

pub lines_append : (cs ds : List Line) → lines_bytes (cs ++ ds) ≡ lines_bytes cs ++ lines_bytes ds
unfolding lines_bytes
lines_append cs ds = ap concat (map_append spell_line cs ds) ∙ concat_append (map spell_line cs) (map spell_line ds)
