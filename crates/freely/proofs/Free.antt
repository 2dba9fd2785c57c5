-- A clause of one rule by its place, and a run that breaks nothing.
-- Assumes nothing.
use Prim.Native.Nat.{ℕ, zero, suc, ◌+◌, ◌-◌, ◌≤◌, ◌<◌}
use native.Mathlib.Omega.{arith}
use mathlib.Core.Path.{◌≡◌, refl, sym, ap, ◌∙◌}
use mathlib.Core.Bool.{Bool, true, false, not, cond, ◌&&◌}
use mathlib.Core.List.{List, [], ◌∷◌}
use lib.Dec.{leb, ltb, eqb}
use lib.ListN.{length, get_or}
use borrow.Author.Rules.{rules}
use borrow.Author.Tests.{ltb-true, ltb-false, leb-true, tests}
use Rattle.std.specs.Ordering.{is_le, is_lt, nat_cmp}
use Rattle.std.specs.Prelude.{Some, None}
use Rattle.plpb.specs.Lists.{◌or◌, keep, any}
use Rattle.plpb.specs.Plan.{Rule, Clause, Plan, Assignment, named_in}
use Rattle.plpb.specs.Equations.{clause_break}
use Rattle.plpb.specs.Count.{capped, capped_break}
use Rattle.plpb.proofs.Lists.{true_or, or_true, false_T}
use Rattle.plpb.proofs.Capped.{capped_zero}
use Rattle.words.specs.Words.{word_at}
use Rattle.words.specs.Writes.{Wrote}
use Rattle.order.specs.Order.{order, has_several, first_rule}
use Rattle.order.specs.Breaks.{spoils_part}
use Rattle.order.specs.Grouped.{naming}
use Rattle.order.specs.Blocks.{Group}
use Rattle.order.proofs.Runs.{named_inside, named_rule}
use Rattle.order.proofs.Groups.{single_break}
use Rattle.order.proofs.Thresholds.{plan_breaks}
use Rattle.format.specs.Tables.{plan_of_tables}
use Rattle.effects.specs.Kept.{lent_bits, place_at, place_rule, Visited}
use Rattle.effects.proofs.Runs.{going_rises, going_bits}
use Rattle.effects.proofs.Places.{place_named}
use Rattle.groups.proofs.Stretch.{along_length}

-- ---- a clause of one rule

one_rule : (k : Clause) (i : ℕ) (d : Rule) → length k ≤ 1 → i < length k → k ≡ get_or k i d ∷ []
one_rule [] i d l h = absurd (omega arith)
one_rule (q ∷ []) zero d l h = refl
one_rule (q ∷ []) (suc i) d l h = absurd (omega arith)
one_rule (q ∷ r ∷ k) i d l h = absurd (omega arith)

keep_fewer : {A : Type 0} (f : A → Bool) (xs : List A) → length (keep f xs) ≤ length xs
unfolding keep
keep_fewer f [] = omega arith
keep_fewer f (x ∷ xs) = at (f x) (keep_fewer f xs)
  where
    at : (b : Bool) → length (keep f xs) ≤ length xs → length (cond b (x ∷ keep f xs) (keep f xs)) ≤ suc (length xs)
    at true h = omega arith
    at false h = omega arith

module _ {tables terms assignment tallies marks : List ℕ} {x k : ℕ} (v : Visited tables terms assignment tallies marks x k) where
  abbrev p : Plan
  p = plan_of_tables tables terms

  abbrev a : Assignment
  a = lent_bits tables terms assignment

  abbrev clause : Clause
  clause = get_or (plan_of_tables tables terms).clauses (place_at tables terms k).clause []

  pub single_clause : has_several (get_or (plan_of_tables tables terms).clauses (place_at tables terms k).clause []) ≡ false → get_or (plan_of_tables tables terms).clauses (place_at tables terms k).clause [] ≡ place_rule tables terms k ∷ []
  unfolding has_several
  single_clause h =
      let n = place_named v in
      let q = place_at tables terms k in
      one_rule clause (q.rule - first_rule p.clauses q.clause) _ (ltb-false 1 (length clause) h) (named_inside p x q n)
      ∙ ap (λ r. r ∷ []) (sym (named_rule p x q n))

  pub single_spoils : has_several (get_or (plan_of_tables tables terms).clauses (place_at tables terms k).clause []) ≡ false → ltb 0 (clause_break (lent_bits tables terms assignment) x (get_or (plan_of_tables tables terms).clauses (place_at tables terms k).clause [])) ≡ spoils_part (lent_bits tables terms assignment) x (place_rule tables terms k)
  unfolding spoils_part
  single_spoils h = ap (λ c. ltb 0 (clause_break a x c)) (single_clause h) ∙ ap (ltb 0) (single_break a x (place_rule tables terms k))

  any_at : {A : Type 0} (f : A → Bool) (xs : List A) (i : ℕ) (d : A) → i < length xs → f (get_or xs i d) ≡ true → any f xs ≡ true
  unfolding any
  any_at f [] i d h e = absurd (omega arith)
  any_at f (y ∷ ys) zero d h e = ap (λ b. b or any f ys) e ∙ true_or _
  any_at f (y ∷ ys) (suc i) d h e = ap (λ b. f y or b) (any_at f ys i d (omega arith) e) ∙ or_true (f y)

  -- Where the clause of one place breaks, something does:
  pub clause_breaks : ltb 0 (clause_break (lent_bits tables terms assignment) x (get_or (plan_of_tables tables terms).clauses (place_at tables terms k).clause [])) ≡ true → eqb (capped_break (plan_of_tables tables terms) (lent_bits tables terms assignment) x) 0 ≡ false
  clause_breaks e =
      plan_breaks p a x (going_rises v.going) (omega (arith, v.going.low)) (going_bits v.going)
      ∙ ap not (any_at (λ c. ltb 0 (clause_break a x c)) p.clauses (place_at tables terms k).clause [] (place_named v).clause_there e)

  -- a clause of one rule where that is spoiled.
  pub place_breaks : has_several (get_or (plan_of_tables tables terms).clauses (place_at tables terms k).clause []) ≡ false → spoils_part (lent_bits tables terms assignment) x (place_rule tables terms k) ≡ true → eqb (capped_break (plan_of_tables tables terms) (lent_bits tables terms assignment) x) 0 ≡ false
  place_breaks h e = clause_breaks (single_spoils h ∙ e)

-- A group of such a clause is one place.
pub single_group : {p : Plan} {x c k j : ℕ} → Group p x c k j → j ≤ length (order p) → has_several (get_or p.clauses c []) ≡ false → j ≡ k + 1
unfolding has_several naming
single_group {p} {x} {c} {k} {j} g l h =
    omega (arith, g.some, ltb-false 1 (length (get_or p.clauses c [])) h, keep_fewer (λ q. named_in x q.terms) (get_or p.clauses c []), sym (along_length p k j (omega (arith, g.some)) l) ∙ ap length g.rules)

-- ---- one of two

pub pick_first : {A : Type 0} {b : Bool} (k e : A) → b ≡ true → k ≡ cond b k e
pick_first k e h = rw h refl

pub pick_second : {A : Type 0} {b : Bool} (k : A) {j e : A} → b ≡ false → j ≡ e → j ≡ cond b k e
pick_second k h f = rw h f

-- Which of the two an option tells.
pub going_on : (b : Bool) {e j : ℕ} → Some j ≡ cond b None (Some e) → (b ≡ false) × (j ≡ e)
going_on true h = absurd (grind arith)
going_on false h = (refl, grind arith)

pub stopping : (b : Bool) (e : ℕ) → None ≡ cond b None (Some e) → b ≡ true
stopping true e h = refl
stopping false e h = absurd (grind arith)

pub unbroken : (n : ℕ) → ltb 0 n ≡ false → 0 ≡ capped n
unbroken n h = let z : n ≡ 0 = omega (arith, ltb-false 0 n h) in rw (z, capped_zero) refl

-- ---- the hint

pub wrote_there : {i v : ℕ} {s t : List ℕ} → Wrote i v s t → Wrote i (word_at t i) s t
wrote_there w = record { here = refl; others = w.others; size = w.size; before = w.before; beyond = w.beyond }

-- ---- a place that a range contains

le_test : (a b : ℕ) → is_le (nat_cmp a b) ≡ leb a b
le_test a b = search (rules, tests)

lt_test : (a b : ℕ) → is_lt (nat_cmp a b) ≡ ltb a b
lt_test a b = search (rules, tests)

both_true : (a b : Bool) → (a && b) ≡ true → (a ≡ true) × (b ≡ true)
both_true true b e = (refl, e)
both_true false b e = absurd (false_T (sym e) tt)

pub within : {b : Bool} (m n k : ℕ) → b ≡ (is_le (nat_cmp m k) && is_lt (nat_cmp k n)) → b ≡ true → (m ≤ k) × (k < n)
within m n k e t =
    let h = both_true (is_le (nat_cmp m k)) (is_lt (nat_cmp k n)) (sym e ∙ t) in
    (leb-true m k (sym (le_test m k) ∙ h.0), ltb-true k n (sym (lt_test k n) ∙ h.1))
