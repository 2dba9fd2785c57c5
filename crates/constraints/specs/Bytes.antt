-- The bytes of sums and of constraints, in the order in which the code puts them.
-- Assumes nothing.
use Rattle.std.specs.Prelude.{ℕ, ◌<◌, Bool, cond, List, [], ◌∷◌, ◌++◌, map, ℤ, nat_abs, neg_ℤ}
use Rattle.plpb.specs.Lists.{keep, concat}
use Rattle.plpb.specs.Plan.{Term}
use Rattle.texts.specs.Texts.{text, decimal, signed_decimal, line}
use Rattle.opb.specs.Opb.{Line}
use Rattle.opb.specs.Spell.{coefficient, relation, spell_line}
use Rattle.opb.specs.Tau.{has_weight, negated, geq, leq}

-- A term's two items, with a space behind each.
unfoldable pub term_bytes : Term → List ℕ
term_bytes t = coefficient t.weight ++ (text " x" ++ (decimal t.variable ++ text " "))

-- The terms of a sum that are written.
unfoldable pub sum_bytes : List Term → List ℕ
sum_bytes ts = concat (map term_bytes (keep has_weight ts))

-- What stands behind the sum of a constraint.
unfoldable pub end_bytes : Bool → ℤ → List ℕ
end_bytes exact bound = line (relation exact ∷ signed_decimal bound ∷ text ";" ∷ [])

unfoldable pub lines_bytes : List Line → List ℕ
lines_bytes cs = concat (map spell_line cs)

-- A number or a term with its sign changed, or as it is; a sum at most or at least a bound.
unfoldable pub turned : Bool → ℤ → ℤ
turned t z = cond t (neg_ℤ z) z

unfoldable pub turned_term : Bool → Term → Term
turned_term t k = cond t (negated k) k

unfoldable pub sided : Bool → List Term → ℤ → Line
sided t ts b = cond t (leq ts b) (geq ts b)

-- A number whose negative is one of 32 bits too.
abbrev pub Small : ℤ → Type 0
Small z = nat_abs z < 2_147_483_648
