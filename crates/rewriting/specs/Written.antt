-- The bytes that are left of terms, rules and clauses.
-- Assumes nothing.
use Rattle.std.specs.Prelude.{ℕ, List, map}
use Rattle.plpb.specs.Lists.{concat}
use Rattle.plpb.specs.Plan.{Term, Clause}
use Rattle.format.specs.Writer.{term_bytes, rule_field, clause_fields}
use Rattle.squeezed.specs.Squeezed.{Becomes, terms_left, rules_left, clauses_left}

unfoldable pub terms_written : (ℕ → Becomes) → List Term → List ℕ
terms_written f ts = concat (map term_bytes (terms_left f ts))

unfoldable pub rules_written : (ℕ → Becomes) → Clause → List ℕ
rules_written f rs = concat (map rule_field (rules_left f rs))

unfoldable pub clauses_written : (ℕ → Becomes) → List Clause → List ℕ
clauses_written f cs = concat (map clause_fields (clauses_left f cs))
