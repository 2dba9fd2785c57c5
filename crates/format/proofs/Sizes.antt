-- How long a written plan is: each field takes three bytes and its body, so the largest file has 54,446.
use Prim.Native.Nat.{ℕ, ◌+◌, ◌*◌, ◌≤◌}
use mathlib.Core.Path.{◌≡◌, refl}
use mathlib.Core.List.{List, [], ◌∷◌, ◌++◌, map}
use native.Mathlib.Omega.{arith}
use lib.Dec.{T}
use lib.ListN.{length, length-append, length-map}
use Rattle.plpb.specs.Lists.{concat, sum_by}
use Rattle.plpb.specs.Plan.{Rule, Clause, Lock, Plan, rising}
use Rattle.plpb.specs.Tallies.{rules_of}
use Rattle.words.specs.Words.{bytes_of}
use Rattle.words.proofs.Words.{length_bytes_of}
use Rattle.format.specs.Limits.{lock_term, lock_terms, term_count, lawful}
use Rattle.format.specs.Writer.{field, term_bytes, rule_field, clause_fields, lock_bytes, lock_field, file_with, write}
use Rattle.format.proofs.Lists.{sum_by_append}
use Rattle.format.proofs.Lawful.{terms_short, plan_parts}
use Rattle.format.proofs.Places.{length_field}
use Rattle.format.proofs.WrittenRule.{length_terms, body_of, length_body}
use Rattle.format.proofs.LockField.{length_locks}
use Rattle.format.specs.Layout.{largest_file}

abbrev pub terms_of : Rule → ℕ
terms_of r = length r.terms

length_rule_field : (r : Rule) → length (rule_field r) ≡ 12 + 6 * terms_of r
unfolding rule_field body_of
length_rule_field r = omega (arith, length_field 4 (body_of r), length_body r)

pub length_rules : (rs : List Rule) → length (concat (map rule_field rs)) ≡ 12 * length rs + 6 * sum_by terms_of rs
unfolding concat sum_by
length_rules [] = refl
length_rules (r ∷ rs) =
    omega (arith, length-append (rule_field r) (concat (map rule_field rs)), length_rule_field r, length_rules rs)

pub length_clauses :
    (cs : List Clause) → length (concat (map clause_fields cs)) ≡ 3 * length cs + 12 * length (concat cs) + 6 * sum_by terms_of (concat cs)
unfolding concat sum_by clause_fields
length_clauses [] = refl
length_clauses (c ∷ cs) =
    omega
    (arith, length-append (clause_fields c) (concat (map clause_fields cs)), length-append (field 3 []) (concat (map rule_field c)), length_field 3 [], length_rules c, length_clauses cs, length-append c (concat cs), sum_by_append terms_of c (concat cs))

pub length_lock_field : (ks : List Lock) → length (lock_field ks) ≤ 3 + 3 * length ks
unfolding lock_field
length_lock_field [] = omega arith
length_lock_field (k ∷ ks) = omega (arith, length_field 6 (concat (map lock_bytes (k ∷ ks))), length_locks (k ∷ ks))

pub length_file_with :
    (between : List ℕ) (p : Plan)
    → length (file_with between p) ≡ 11 + 6 * length p.objective + length between + 3 * length p.clauses + 12 * length (rules_of p) + 6 * term_count p
unfolding file_with rules_of term_count
length_file_with between p =
    let n = field 1 (bytes_of 2 p.variables) in
    let ts = concat (map term_bytes p.objective) in
    let cs = concat (map clause_fields p.clauses) in
    omega
    (arith, length-append n (field 2 ts ++ (between ++ (cs ++ field 5 []))), length-append (field 2 ts) (between ++ (cs ++ field 5 [])), length-append between (cs ++ field 5 []), length-append cs (field 5 []), length_field 1 (bytes_of 2 p.variables), length_bytes_of 2 p.variables, length_field 2 ts, length_terms p.objective, length_clauses p.clauses, length_field 5 [])

-- "the largest file is then 54,446 bytes"
pub write_short : (p : Plan) → T (lawful p) → length (write p) ≤ largest_file
unfolding write rising
write_short p h =
    let l = plan_parts p h in
    let few = terms_short p.variables 0 p.objective l.objective.rise l.objective.within (omega arith) in
    let locked = terms_short p.variables 0 (lock_terms p) l.locks.rise l.locks.within (omega arith) in
    let n : length (lock_terms p) ≡ length p.locks = length-map p.locks lock_term in
    omega (arith, length_file_with (lock_field p.locks) p, length_lock_field p.locks, l.high, l.clause_count, l.rule_count, l.terms)
