-- Constraints of a rule's terms with one more, at least or at most a bound; locks and new variables.
-- Assumes nothing.
use Prim.Native.Nat.{ℕ, ◌+◌}
use mathlib.Core.Path.{◌≡◌, refl, sym, ap, ◌∙◌}
use mathlib.Core.Bool.{Bool, true, false, cond}
use mathlib.Core.List.{List, [], ◌∷◌, ◌++◌, map, append_assoc, append-nil}
use lib.IntN.{ℤ, pos, negsuc}
use mir.Facts.{to_z-of_z}
use mir.Syntax.{w32}
use mir.Val.{SFits, to_z, of_z}
use Rattle.plpb.specs.Lists.{keep, concat}
use Rattle.plpb.specs.Plan.{Term}
use Rattle.opb.specs.Spell.{spell_line}
use Rattle.opb.specs.Tau.{weighted, has_weight, negated, geq, leq, fixed, lock_line, both_lines}
use Rattle.constraints.specs.Bytes.{sum_bytes, end_bytes, lines_bytes, turned, turned_term, sided}
use Rattle.constraints.proofs.Bytes.{sum_append, sum_cons, zero_term, line_bytes, geq_bytes, lines_one}

map_same : (ts : List Term) → map (turned_term false) ts ≡ ts
unfolding turned_term
map_same [] = refl
map_same (t ∷ ts) = ap (λ l. t ∷ l) (map_same ts)

map_snoc : (b : Bool) (ts : List Term) (t : Term) → map (turned_term b) (ts ++ (t ∷ [])) ≡ map (turned_term b) ts ++ (turned_term b t ∷ [])
map_snoc b [] t = refl
map_snoc b (u ∷ ts) t = ap (λ l. turned_term b u ∷ l) (map_snoc b ts t)

sided_line : (b : Bool) (ts : List Term) (z : ℤ) → sided b ts z ≡ geq (map (turned_term b) ts) (turned b z)
unfolding sided leq turned
sided_line true ts z = unfold turned_term in refl
sided_line false ts z = ap (λ l. geq l z) (sym (map_same ts))

turned_weighted : (b : Bool) (w : ℤ) (x : ℕ) → turned_term b (weighted w x) ≡ weighted (turned b w) x
unfolding turned_term turned negated
turned_weighted true w x = refl
turned_weighted false w x = refl

pub sided_bytes :
    (b : Bool) (ts : List Term) (w : ℤ) (x : ℕ) (z : ℤ)
    → spell_line (sided b (ts ++ (weighted w x ∷ [])) z)
    ≡ sum_bytes (map (turned_term b) ts) ++ (sum_bytes (weighted (turned b w) x ∷ []) ++ end_bytes false (turned b z))
sided_bytes b ts w x z =
    ap spell_line (sided_line b (ts ++ (weighted w x ∷ [])) z)
    ∙ geq_bytes (map (turned_term b) (ts ++ (weighted w x ∷ []))) (turned b z)
    ∙ ap (λ l. sum_bytes l ++ end_bytes false (turned b z)) (map_snoc b ts (weighted w x))
    ∙ ap (λ l. l ++ end_bytes false (turned b z)) (sum_append (map (turned_term b) ts) (turned_term b (weighted w x) ∷ []))
    ∙ append_assoc (sum_bytes (map (turned_term b) ts)) (sum_bytes (turned_term b (weighted w x) ∷ [])) (end_bytes false (turned b z))
    ∙ ap (λ t. sum_bytes (map (turned_term b) ts) ++ (sum_bytes (t ∷ []) ++ end_bytes false (turned b z))) (turned_weighted b w x)

-- A number that was turned, as the machine holds it.
pub turned_held : (b : Bool) {v r : ℤ} → SFits w32 r → SFits w32 v → r ≡ turned b (to_z w32 (of_z w32 v)) → to_z w32 (of_z w32 r) ≡ turned b v
turned_held b f g e = to_z-of_z f ∙ e ∙ ap (turned b) (to_z-of_z g)

pub turned_zero : (b : Bool) → turned b (pos 0) ≡ pos 0
unfolding turned
turned_zero true = refl
turned_zero false = refl

pub fixed_bytes : (x : ℕ) → lines_bytes (fixed x) ≡ sum_bytes (weighted (pos 1) x ∷ []) ++ end_bytes false (pos 1)
unfolding fixed
fixed_bytes x = lines_one (geq (weighted (pos 1) x ∷ []) (pos 1)) ∙ geq_bytes (weighted (pos 1) x ∷ []) (pos 1)

pub lock_bytes_lem :
    (x : ℕ) (v : Bool) → spell_line (lock_line (record { variable = x; value = v }))
    ≡ sum_bytes (weighted (pos 1) x ∷ []) ++ end_bytes true (cond v (pos 1) (pos 0))
unfolding lock_line sum_bytes keep has_weight
lock_bytes_lem x v = line_bytes (lock_line (record { variable = x; value = v }))

pub pair_bytes :
    (t u : Term) (b : ℤ) → spell_line (geq (t ∷ u ∷ []) b) ≡ sum_bytes (t ∷ []) ++ (sum_bytes (u ∷ []) ++ end_bytes false b)
pair_bytes t u b =
    geq_bytes (t ∷ u ∷ []) b
    ∙ ap (λ l. l ++ end_bytes false b) (sum_cons t (u ∷ []))
    ∙ append_assoc (sum_bytes (t ∷ [])) (sum_bytes (u ∷ [])) (end_bytes false b)

pub triple_bytes :
    (t u v : Term) (b : ℤ)
    → spell_line (geq (t ∷ u ∷ v ∷ []) b) ≡ sum_bytes (t ∷ []) ++ (sum_bytes (u ∷ []) ++ (sum_bytes (v ∷ []) ++ end_bytes false b))
triple_bytes t u v b =
    geq_bytes (t ∷ u ∷ v ∷ []) b
    ∙ ap (λ l. l ++ end_bytes false b) (sum_cons t (u ∷ v ∷ []) ∙ ap (λ l. sum_bytes (t ∷ []) ++ l) (sum_cons u (v ∷ [])))
    ∙ shape (sum_bytes (t ∷ [])) (sum_bytes (u ∷ [])) (sum_bytes (v ∷ [])) (end_bytes false b)
  where
    shape : (a b c d : List ℕ) → a ++ (b ++ c) ++ d ≡ a ++ (b ++ (c ++ d))
    shape a b c d = simp append_assoc

pub both_bytes :
    (k : ℕ) → lines_bytes (both_lines k)
    ≡ spell_line (geq (weighted (pos 1) (k + 1) ∷ weighted (negsuc 0) (k + 3) ∷ []) (pos 0))
    ++ (spell_line (geq (weighted (pos 1) (k + 2) ∷ weighted (negsuc 0) (k + 3) ∷ []) (pos 0))
    ++ spell_line (geq (weighted (negsuc 0) (k + 1) ∷ weighted (negsuc 0) (k + 2) ∷ weighted (pos 1) (k + 3) ∷ []) (negsuc 0)))
unfolding both_lines lines_bytes concat
both_bytes k = ap (λ l. spell_line (geq (weighted (pos 1) (k + 1) ∷ weighted (negsuc 0) (k + 3) ∷ []) (pos 0))
    ++ (spell_line (geq (weighted (pos 1) (k + 2) ∷ weighted (negsuc 0) (k + 3) ∷ []) (pos 0)) ++ l))
    (append-nil (spell_line (geq (weighted (negsuc 0) (k + 1) ∷ weighted (negsuc 0) (k + 2) ∷ weighted (pos 1) (k + 3) ∷ []) (negsuc 0))))

-- A term whose coefficient is 0 changes nothing.
pub sided_plain : (b : Bool) (ts : List Term) (x : ℕ) (z : ℤ) → spell_line (sided b (ts ++ (weighted (pos 0) x ∷ [])) z) ≡ spell_line (sided b ts z)
sided_plain b ts x z =
    sided_bytes b ts (pos 0) x z
    ∙ ap (λ w. sum_bytes (map (turned_term b) ts) ++ (sum_bytes (weighted w x ∷ []) ++ end_bytes false (turned b z))) (turned_zero b)
    ∙ ap (λ l. sum_bytes (map (turned_term b) ts) ++ (l ++ end_bytes false (turned b z))) (zero_term x)
    ∙ sym (ap spell_line (sided_line b ts z) ∙ geq_bytes (map (turned_term b) ts) (turned b z))
