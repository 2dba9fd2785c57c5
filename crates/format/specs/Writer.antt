-- The file of a plan (document 01, "The plan file"; T-01).
-- Assumes nothing.
use Rattle.std.specs.Prelude.{ℕ, cond, List, [], ◌∷◌, ◌++◌, map, ℤ, pos, length}
use Rattle.plpb.specs.Lists.{concat}
use Rattle.plpb.specs.Plan.{Bound, absent, present, Term, Rule, Clause, Lock, Plan}
use Rattle.words.specs.Words.{bytes_of, unsigned}

unfoldable pub field : ℕ → List ℕ → List ℕ
field tag body = tag ∷ bytes_of 2 (length body) ++ body

unfoldable pub term_bytes : Term → List ℕ
term_bytes t = bytes_of 2 t.variable ++ bytes_of 4 (unsigned t.weight)

-- "Mode 1 is lower only, 2 upper only, 3 both"
unfoldable pub mode : Bound ℤ → Bound ℤ → ℕ
mode absent absent = 0
mode (present l) absent = 1
mode absent (present u) = 2
mode (present l) (present u) = 3

-- "an absent bound is written 0"
unfoldable pub bound_number : Bound ℤ → ℤ
bound_number absent = pos 0
bound_number (present b) = b

unfoldable pub rule_field : Rule → List ℕ
rule_field r =
    field 4
    (mode r.lower r.upper
    ∷ (bytes_of 4 (unsigned (bound_number r.lower)) ++ (bytes_of 4 (unsigned (bound_number r.upper)) ++ concat (map term_bytes r.terms))))

unfoldable pub clause_fields : Clause → List ℕ
clause_fields c = field 3 [] ++ concat (map rule_field c)

-- "entries of a variable number and a byte 0 or 1"
unfoldable pub lock_bytes : Lock → List ℕ
lock_bytes k = bytes_of 2 k.variable ++ (cond k.value 1 0 ∷ [])

-- "an optional field, tag 06, between objective and first clause": it stands only where there is a lock.
unfoldable pub lock_field : List Lock → List ℕ
lock_field [] = []
lock_field (k ∷ ks) = field 6 (concat (map lock_bytes (k ∷ ks)))

-- A plan's file, given what stands between objective and first clause.
unfoldable pub file_with : List ℕ → Plan → List ℕ
file_with between p =
    field 1 (bytes_of 2 p.variables)
    ++ (field 2 (concat (map term_bytes p.objective)) ++ (between ++ (concat (map clause_fields p.clauses) ++ field 5 [])))

unfoldable pub write : Plan → List ℕ
write p = file_with (lock_field p.locks) p
