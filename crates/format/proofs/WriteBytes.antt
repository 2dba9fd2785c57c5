-- What is written is bytes: tags, modes and the bytes of numbers are.
use Prim.Native.Nat.{ℕ, ◌<◌}
use mathlib.Core.Bool.{Bool, true, false, cond}
use mathlib.Core.List.{List, [], ◌∷◌, ◌++◌, map}
use native.Mathlib.Omega.{arith}
use lib.Dec.{T}
use lib.IntN.{ℤ}
use lib.ListN.{length}
use lib.Pow.{are_bytes}
use Rattle.plpb.specs.Lists.{concat}
use Rattle.plpb.specs.Plan.{Bound, absent, present, Term, Rule, Clause, Lock, Plan}
use Rattle.words.specs.Words.{bytes_of, unsigned}
use Rattle.words.proofs.Words.{Below, below_nil, below_cons, below_append, below_bytes, bytes_of_below}
use Rattle.format.specs.Writer.{field, term_bytes, mode, bound_number, rule_field, clause_fields, lock_bytes, lock_field, file_with, write}

below_concat : {A : Type 0} (f : A → List ℕ) (xs : List A) → ((x : A) → Below 256 (f x)) → Below 256 (concat (map f xs))
unfolding concat
below_concat f [] h = below_nil 256 (omega arith)
below_concat f (x ∷ xs) h = below_append 256 (f x) (concat (map f xs)) (h x) (below_concat f xs h)

field_below : (tag : ℕ) (body : List ℕ) → tag < 256 → Below 256 body → Below 256 (field tag body)
unfolding field
field_below tag body t h =
    below_cons 256 tag (bytes_of 2 (length body) ++ body) t (below_append 256 (bytes_of 2 (length body)) body (bytes_of_below 2 (length body)) h)

none_below : Below 256 []
none_below = below_nil 256 (omega arith)

term_below : (t : Term) → Below 256 (term_bytes t)
unfolding term_bytes
term_below t = below_append 256 (bytes_of 2 t.variable) _ (bytes_of_below 2 t.variable) (bytes_of_below 4 (unsigned t.weight))

mode_small : (lo up : Bound ℤ) → mode lo up < 256
unfolding mode
mode_small absent absent = omega arith
mode_small (present l) absent = omega arith
mode_small absent (present u) = omega arith
mode_small (present l) (present u) = omega arith

rule_below : (r : Rule) → Below 256 (rule_field r)
unfolding rule_field
rule_below r =
    let lo = bytes_of 4 (unsigned (bound_number r.lower)) in
    let up = bytes_of 4 (unsigned (bound_number r.upper)) in
    let ts = concat (map term_bytes r.terms) in
    field_below 4 (mode r.lower r.upper ∷ (lo ++ (up ++ ts))) (omega arith)
    (below_cons 256 (mode r.lower r.upper) (lo ++ (up ++ ts)) (mode_small r.lower r.upper)
    (below_append 256 lo (up ++ ts) (bytes_of_below 4 (unsigned (bound_number r.lower)))
    (below_append 256 up ts (bytes_of_below 4 (unsigned (bound_number r.upper))) (below_concat term_bytes r.terms term_below))))

clause_below : (c : Clause) → Below 256 (clause_fields c)
unfolding clause_fields
clause_below c =
    below_append 256 (field 3 []) (concat (map rule_field c)) (field_below 3 [] (omega arith) none_below) (below_concat rule_field c rule_below)

value_below : (v : Bool) → Below 256 (cond v 1 0 ∷ [])
value_below true = below_cons 256 1 [] (omega arith) none_below
value_below false = below_cons 256 0 [] (omega arith) none_below

lock_below : (k : Lock) → Below 256 (lock_bytes k)
unfolding lock_bytes
lock_below k = below_append 256 (bytes_of 2 k.variable) _ (bytes_of_below 2 k.variable) (value_below k.value)

locks_below : (ks : List Lock) → Below 256 (lock_field ks)
unfolding lock_field
locks_below [] = none_below
locks_below (k ∷ ks) = field_below 6 (concat (map lock_bytes (k ∷ ks))) (omega arith) (below_concat lock_bytes (k ∷ ks) lock_below)

pub write_bytes : (p : Plan) → T (are_bytes (write p))
unfolding write file_with
write_bytes p =
    let ts = concat (map term_bytes p.objective) in
    let ks = lock_field p.locks in
    let cs = concat (map clause_fields p.clauses) in
    below_bytes (write p)
    (below_append 256 (field 1 (bytes_of 2 p.variables)) (field 2 ts ++ (ks ++ (cs ++ field 5 [])))
    (field_below 1 _ (omega arith) (bytes_of_below 2 p.variables))
    (below_append 256 (field 2 ts) (ks ++ (cs ++ field 5 [])) (field_below 2 ts (omega arith) (below_concat term_bytes p.objective term_below))
    (below_append 256 ks (cs ++ field 5 []) (locks_below p.locks)
    (below_append 256 cs (field 5 []) (below_concat clause_fields p.clauses clause_below) (field_below 5 [] (omega arith) none_below)))))
