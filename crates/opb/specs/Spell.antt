-- How a text is spelled (document 02, T-02): "Each of these is one line that ends in a line feed." "each coefficient signed; one space parts two
-- items, `;` too; no `min:` without a term."
-- Assumes nothing.
use Rattle.std.specs.Prelude.{ℕ, suc, Bool, cond, List, [], ◌∷◌, ◌++◌, map, ℤ, pos, negsuc, length}
use Rattle.plpb.specs.Lists.{concat}
use Rattle.plpb.specs.Plan.{Term}
use Rattle.texts.specs.Texts.{text, decimal, signed_decimal, line}
use Rattle.opb.specs.Opb.{Line, Text}

-- "each coefficient signed": with '+' too.
unfoldable pub coefficient : ℤ → List ℕ
coefficient (pos n) = text "+" ++ decimal n
coefficient (negsuc n) = text "-" ++ decimal (suc n)

-- A term is two items.
unfoldable pub term_items : Term → List (List ℕ)
term_items t = coefficient t.weight ∷ (text "x" ++ decimal t.variable) ∷ []

unfoldable pub sum_items : List Term → List (List ℕ)
sum_items ts = concat (map term_items ts)

-- "constraints with `>=` or `=`". The number behind has a sign only where it is below 0.
unfoldable pub relation : Bool → List ℕ
relation exact = cond exact (text "=") (text ">=")

unfoldable pub spell_line : Line → List ℕ
spell_line c = line (sum_items c.terms ++ (relation c.exact ∷ signed_decimal c.bound ∷ text ";" ∷ []))

-- "no `min:` without a term"
unfoldable pub spell_objective : List Term → List ℕ
spell_objective [] = []
spell_objective (t ∷ ts) = line (text "min:" ∷ (sum_items (t ∷ ts) ++ (text ";" ∷ [])))

-- "a first line `* #variable= n #constraint= m`"
unfoldable pub spell_first : ℕ → ℕ → List ℕ
spell_first n m = line (text "*" ∷ text "#variable=" ∷ decimal n ∷ text "#constraint=" ∷ decimal m ∷ [])

unfoldable pub spell : Text → List ℕ
spell t = spell_first t.variables (length t.lines) ++ (spell_objective t.objective ++ concat (map spell_line t.lines))
