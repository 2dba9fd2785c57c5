-- A clause by its rules that name the variable: a rule that does not name it is spoiled nowhere and fails after the flip where it fails now, so the clause's
-- count of holding rules tells of all those.
-- Assumes nothing.
use Prim.Native.Nat.{ℕ, zero, suc, ◌+◌, ◌-◌, ◌≤◌, ◌<◌}
use native.Mathlib.Nat.{zero-add, zero-mul}
use native.Mathlib.Omega.{arith}
use mathlib.Core.Path.{◌≡◌, refl, sym, ap, ap₂, ◌∙◌}
use mathlib.Core.Bool.{Bool, true, false, not, cond}
use mathlib.Core.List.{[], ◌∷◌}
use lib.Dec.{T, ltb, eqb}
use lib.ListN.{length}
use borrow.Author.Tests.{lt-ltb, eq-eqb, ne_eqb}
use Rattle.plpb.specs.Lists.{◌and◌, ◌or◌, keep, count, any, all}
use Rattle.plpb.specs.Plan.{Bound, absent, present, Rule, Clause, Assignment, flip, rule_holds, rising, named_in, names}
use Rattle.plpb.specs.Normal.{N, P, size_a, size_b}
use Rattle.plpb.specs.Expansion.{parts, is_true}
use Rattle.plpb.specs.Equations.{over, on, off, standing, shares, shares_of, product, clause_break, clause_make}
use Rattle.plpb.proofs.Lists.{and_left, and_right, true_and, false_or, and_assoc, count_nil, count_cons, all_by_count, none_by_count, not_any}
use Rattle.plpb.proofs.Theorem1.{is_false, spoiled_and_left}
use Rattle.plpb.proofs.Theorem2.{rule_holds_lem}
use Rattle.plpb.proofs.Equations.{equations}
use Rattle.plpb.proofs.Unnamed.{unnamed_holds, unnamed_shares}
use Rattle.order.specs.Breaks.{spoils_part, false_after, breaks_along, reaches}
use Rattle.order.specs.Grouped.{naming, others}
use Rattle.order.proofs.Shares.{none_naming, break_by_naming, make_by_naming}
use Rattle.order.proofs.Thresholds.{grows_absent, grows_empty, grows_still, grows_present, clause_breaks}

-- ---- a rule's thresholds

-- More can be chosen of m + w than of m exactly where a bound's size is reached then.
pub grows : (m w : ℕ) (b : Bound ℕ) → reaches m w b ≡ ltb 0 (over (m + w) b - over m b)
unfolding reaches ◌and◌
grows m w absent = grows_absent m w
grows m zero (present zero) = grows_empty m 0 0 refl
grows m (suc w) (present zero) = grows_empty m (suc w) 0 refl
grows m zero (present (suc k)) = rw (lt-ltb 0 (suc k) (omega arith)) (grows_still m 0 (suc k) refl)
grows m (suc w) (present (suc k)) = rw (lt-ltb 0 (suc k) (omega arith), lt-ltb 0 (suc w) (omega arith)) (grows_present m (suc w) (suc k) (omega arith) (omega arith))

-- A true literal's flip spoils a part of the rule where A is reached by N and its weight, a false one's where B is by P and its weight.
module _ (a : Assignment) (x : ℕ) (q : Rule) (w : ℕ) where
  pub spoils_true : standing a x q.terms ≡ on w → spoils_part a x q ≡ reaches (N a q.terms) w (size_a q)
  unfolding spoils_part shares_of shares
  spoils_true e = rw e (sym (grows (N a q.terms) w (size_a q)))

  pub spoils_false : standing a x q.terms ≡ off w → spoils_part a x q ≡ reaches (P a q.terms) w (size_b q)
  unfolding spoils_part shares_of shares
  spoils_false e = rw e (sym (grows (P a q.terms) w (size_b q)))

-- ---- a rule that the flip touches, and one that it does not

some_not_none : (n : ℕ) → ltb 0 n ≡ not (eqb n 0)
some_not_none zero = refl
some_not_none (suc n) = rw (lt-ltb 0 (suc n) (omega arith), ne_eqb (suc n) 0 (λ z. omega arith)) refl

-- Some part is false after the flip exactly where the rule does not hold then.
pub fails_after : (a : Assignment) (x : ℕ) (q : Rule) → T (rising q.terms) → 0 < x → x ≤ length a → false_after a x q ≡ not (rule_holds (flip a x) q)
unfolding false_after is_false
fails_after a x q rise low high =
    let t = equations a x q rise low high in
    ap (ltb 0) (ap₂ ◌+◌ (sym t.spoiled) (sym t.left) ∙ spoiled_and_left a x (parts q))
    ∙ some_not_none (count (is_false (flip a x)) (parts q))
    ∙ ap not (sym (all_by_count (is_true (flip a x)) (parts q)) ∙ sym (rule_holds_lem (flip a x) q))

module _ (a : Assignment) (x : ℕ) (q : Rule) (away : named_in x q.terms ≡ false) where
  pub untouched_fails : T (rising q.terms) → 0 < x → x ≤ length a → false_after a x q ≡ not (rule_holds a q)
  untouched_fails rise low high = fails_after a x q rise low high ∙ ap not (unnamed_holds a x q away)

  pub untouched_unspoiled : spoils_part a x q ≡ false
  unfolding spoils_part
  untouched_unspoiled = rw (unnamed_shares a x q away).0 refl

-- ---- a clause by its rules that name x

swap : (r s t : Bool) → r and (s and t) ≡ s and (r and t)
unfolding ◌and◌
swap true s t = refl
swap false true t = refl
swap false false t = refl

module _ (a : Assignment) (x : ℕ) where
  any_naming : (k : Clause) → any (spoils_part a x) k ≡ any (spoils_part a x) (naming x k)
  unfolding any naming keep
  any_naming [] = refl
  any_naming (q ∷ qs) = ap (λ t. spoils_part a x q or t) (any_naming qs) ∙ at (named_in x q.terms) refl
    where
      rest : Clause
      rest = naming x qs

      at : (b : Bool) → named_in x q.terms ≡ b → spoils_part a x q or any (spoils_part a x) rest ≡ any (spoils_part a x) (cond b (q ∷ rest) rest)
      at true e = refl
      at false e = ap (λ t. t or any (spoils_part a x) rest) (untouched_unspoiled a x q e) ∙ false_or _

  -- The rules that hold: those that name x, and the others.
  held_parted : (k : Clause) → count (rule_holds a) k ≡ count (rule_holds a) (naming x k) + count (rule_holds a) (others x k)
  unfolding naming others keep
  held_parted [] = sym (ap₂ ◌+◌ (count_nil (rule_holds a)) refl ∙ zero-add _)
  held_parted (q ∷ qs) = count_cons (rule_holds a) q qs ∙ ap (λ n. cond (rule_holds a q) 1 0 + n) (held_parted qs) ∙ at (named_in x q.terms)
    where
      at : (b : Bool) → cond (rule_holds a q) 1 0 + (count (rule_holds a) (naming x qs) + count (rule_holds a) (others x qs)) ≡ count (rule_holds a) (cond b (q ∷ naming x qs) (naming x qs)) + count (rule_holds a) (cond (not b) (q ∷ others x qs) (others x qs))
      at true = omega (arith, count_cons (rule_holds a) q (naming x qs))
      at false = omega (arith, count_cons (rule_holds a) q (others x qs))

  module _ (low : 0 < x) (high : x ≤ length a) where
    all_parted : (k : Clause) → T (all (λ q. rising q.terms) k) → all (false_after a x) k ≡ all (λ q. not (rule_holds a q)) (others x k) and all (false_after a x) (naming x k)
    unfolding all naming others keep
    all_parted [] t = sym (true_and true)
    all_parted (q ∷ qs) t =
        ap (λ s. false_after a x q and s) (all_parted qs (and_right (rising q.terms) (all (λ q. rising q.terms) qs) t)) ∙ at (named_in x q.terms) refl
      where
        out : Bool
        out = all (λ q. not (rule_holds a q)) (others x qs)

        inn : Bool
        inn = all (false_after a x) (naming x qs)

        at : (b : Bool) → named_in x q.terms ≡ b → false_after a x q and (out and inn) ≡ all (λ q. not (rule_holds a q)) (cond (not b) (q ∷ others x qs) (others x qs)) and all (false_after a x) (cond b (q ∷ naming x qs) (naming x qs))
        at true e = swap (false_after a x q) out inn
        at false e = ap (λ s. s and (out and inn)) (untouched_fails a x q e (and_left (rising q.terms) (all (λ q. rising q.terms) qs) t) low high) ∙ sym (and_assoc (not (rule_holds a q)) out inn)

    none_outside : (k : Clause) → all (λ q. not (rule_holds a q)) (others x k) ≡ eqb (count (rule_holds a) k) (count (rule_holds a) (naming x k))
    none_outside k = sym (not_any (rule_holds a) (others x k)) ∙ none_by_count (rule_holds a) (others x k) ∙ same (count (rule_holds a) (others x k)) (count (rule_holds a) (naming x k)) (count (rule_holds a) k) (held_parted k)
      where
        same : (u v w : ℕ) → w ≡ v + u → eqb u 0 ≡ eqb w v
        same zero v w e = sym (eq-eqb w v (omega arith))
        same (suc u) v w e = ne_eqb (suc u) 0 (λ z. omega arith) ∙ sym (ne_eqb w v (λ z. omega arith))

    -- A clause breaks exactly where no rule holds that does not name x, those that name it all fail after the flip and one of them is spoiled.
    pub clause_by_naming : (k : Clause) → T (all (λ q. rising q.terms) k) → ltb 0 (clause_break a x k) ≡ eqb (count (rule_holds a) k) (count (rule_holds a) (naming x k)) and (all (false_after a x) (naming x k) and any (spoils_part a x) (naming x k))
    unfolding breaks_along
    clause_by_naming k t =
        clause_breaks a x k
        ∙ ap₂ ◌and◌ (all_parted k t ∙ ap (λ s. s and all (false_after a x) (naming x k)) (none_outside k)) (false_or _ ∙ any_naming k)
        ∙ and_assoc _ _ _

  -- Of one rule it breaks where that is spoiled, and counts what that does.
  module _ (q : Rule) where
    pub single_break : clause_break a x (q ∷ []) ≡ (shares_of a x q).e
    unfolding clause_break product
    single_break = omega arith

    pub single_make : clause_make a x (q ∷ []) ≡ (shares_of a x q).f
    unfolding clause_make product
    single_make = omega arith

  pub no_break : (k : Clause) → names k x ≡ false → clause_break a x k ≡ 0
  unfolding product
  no_break k e = break_by_naming a x k ∙ rw (none_naming x k e) (zero-mul _)

  pub no_make : (k : Clause) → names k x ≡ false → clause_make a x k ≡ 0
  unfolding product
  no_make k e = make_by_naming a x k ∙ rw (none_naming x k e) (zero-mul _)
