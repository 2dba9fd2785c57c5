-- The rules of a clause run through one after the other, and the clauses.
-- Assumes nothing.
use Prim.Native.Nat.{ℕ, ◌+◌, ◌≤◌}
use native.Mathlib.Nat.{le_refl}
use native.Mathlib.Omega.{arith}
use mathlib.Core.Path.{◌≡◌, refl, sym, ap, ap₂, ◌∙◌, subst}
use mathlib.Core.Bool.{Bool, true, false, not, cond, ◌||◌}
use mathlib.Core.List.{List, [], ◌∷◌, map}
use lib.IntN.{ℤ}
use lib.Signed.{le_z}
use Rattle.std.specs.Prelude.{Option, None, Some}
use Rattle.std.specs.Option.{is_some}
use Rattle.plpb.specs.Lists.{◌and◌, ◌or◌, keep, any, is_empty}
use Rattle.plpb.specs.Plan.{Bound, absent, present, is_present, Rule, Clause, at_least, at_most, least_total}
use Rattle.plpb.proofs.Lists.{or_assoc, or_false, T_true, false_T, keep_empty}
use Rattle.format.specs.File.{tag_at, rule_at}
use Rattle.tables.specs.Places.{behind_field}
use Rattle.squeezed.specs.Squeezed.{Becomes, put_in, greatest_total, possible, always, trimmed, rules_left, remains, clauses_left}
use Rattle.squeezed.proofs.Alike.{always_possible}
use Rattle.counting.specs.Bound.{bound_of as as_bound}
use Rattle.fates.specs.Rules.{Fated, unbounded}
use Rattle.fates.specs.declared.bounds.Bounds.{Bounds}
use Rattle.fates.specs.Rest.{Rest, Reads, Begins, Ran}
use Rattle.fates.proofs.Resting.{rest_rule, rest_none, no_rules, rest_clause, no_clauses}

-- ---- what is left of a rule tells whether all values meet it, and whether some do

lower_gone : (l : Bound ℤ) (s : ℤ) → not (is_present (cond (at_least l s) absent l)) ≡ at_least l s
unfolding is_present at_least
lower_gone absent s = refl
lower_gone (present l) s = by (le_z l s)
  where
    by : (t : Bool) → not (is_present (cond t absent (present l))) ≡ t
    by true = refl
    by false = refl

upper_gone : (u : Bound ℤ) (s : ℤ) → not (is_present (cond (at_most u s) absent u)) ≡ at_most u s
unfolding is_present at_most
upper_gone absent s = refl
upper_gone (present u) s = by (le_z s u)
  where
    by : (t : Bool) → not (is_present (cond t absent (present u))) ≡ t
    by true = refl
    by false = refl

-- Where the lower bound is gone, the upper one tells; r is whether it is gone too.
pub lower_none : (b : Bounds) {r : Bool} → is_some b.lower ≡ false → is_some b.upper ≡ not r → r ≡ unbounded (Some b)
unfolding unbounded is_present ◌and◌
lower_none b {r} e f = by b.lower b.upper r e f
  where
    by : (l u : Option ℤ) (r : Bool) → is_some l ≡ false → is_some u ≡ not r → r ≡ (not (is_present (as_bound l)) and not (is_present (as_bound u)))
    by None None true e f = refl
    by None None false e f = absurd (false_T refl (T_true f))
    by None (Some u) true e f = absurd (false_T f (T_true refl))
    by None (Some u) false e f = refl
    by (Some l) u r e f = absurd (false_T e (T_true refl))

pub lower_some : (b : Bounds) → is_some b.lower ≡ true → false ≡ unbounded (Some b)
unfolding unbounded is_present ◌and◌
lower_some b e = by b.lower b.upper e
  where
    by : (l u : Option ℤ) → is_some l ≡ true → false ≡ (not (is_present (as_bound l)) and not (is_present (as_bound u)))
    by None u e = absurd (false_T refl (T_true e))
    by (Some l) u e = refl

module _ (r : Rule) where
  never_always : possible r ≡ false → always r ≡ false
  never_always e = by (always r) refl
    where
      by : (t : Bool) → always r ≡ t → always r ≡ false
      by true h = absurd (false_T e (always_possible r (T_true h)))
      by false h = h

  pub always_fate : (o : Option Bounds) → Fated o r → unbounded o ≡ always r
  unfolding Fated unbounded always trimmed
  always_fate None f = sym (never_always f)
  always_fate (Some b) f = rw (f.1, f.2) (ap₂ ◌and◌ (lower_gone r.lower (least_total r.terms)) (upper_gone r.upper (greatest_total r.terms)))

  pub possible_fate : (o : Option Bounds) → Fated o r → is_some o ≡ possible r
  unfolding Fated
  possible_fate None f = sym f
  possible_fate (Some b) f = sym f.0

-- The code's `or` is that of the definitions.
pub or_same : (s t : Bool) → (s || t) ≡ (s or t)
unfolding ◌or◌
or_same true t = refl
or_same false t = refl

-- ---- the rules of a clause

module _ (f : ℕ → Becomes) (s : List ℕ) where
  -- Where running through is: what is left, and what was found before it.
  pub record Along (at : ℕ) (met kept : Bool) (n : ℕ) (rs : List Rule) (cs : List Clause) : Type 0 where
    pub left : List Rule
    pub rest : Rest n s at left cs
    pub met_all : (met or any always (map (put_in f) left)) ≡ any always (map (put_in f) rs)
    pub kept_all : (kept or any possible (map (put_in f) left)) ≡ any possible (map (put_in f) rs)

  abbrev pub Running : ℕ → ℕ → Bool → Bool → Type 0
  Running from at met kept = (from ≤ at) × ((n : ℕ) (rs : List Rule) (cs : List Clause) → Rest n s from rs cs → Along at met kept n rs cs)

  pub run_start : (from : ℕ) → Running from from false false
  unfolding ◌or◌
  run_start from = (le_refl from, λ n rs cs h. record { left = rs; rest = h; met_all = refl; kept_all = refl })

  module _ (from at : ℕ) (met kept : Bool) where
    -- What stands at the place.
    pub run_rest : Running from at met kept → Reads s from → Reads s at
    run_rest run (n, rs, cs, z) = let a = run.1 n rs cs z in (n, a.left, cs, a.rest)

    along_more : (n : ℕ) (rs : List Rule) (cs : List Clause) → Along at met kept n rs cs → tag_at s at ≡ 4 → {next : ℕ} {met' kept' : Bool}
        → next ≡ behind_field s at → met' ≡ (met or always (put_in f (rule_at s at))) → kept' ≡ (kept or possible (put_in f (rule_at s at)))
        → Along next met' kept' n rs cs
    unfolding any
    along_more n rs cs a t {next} e g h =
        let r = rest_rule a.rest t in
        record {
          left = r.rest;
          rest = subst (λ (k : ℕ). Rest n s k r.rest cs) (sym e) r.behind;
          met_all =
              ap (λ m. m or any always (map (put_in f) r.rest)) g ∙ or_assoc met (always (put_in f (rule_at s at))) (any always (map (put_in f) r.rest))
              ∙ (rw r.split at a.met_all);
          kept_all =
              ap (λ m. m or any possible (map (put_in f) r.rest)) h
              ∙ or_assoc kept (possible (put_in f (rule_at s at))) (any possible (map (put_in f) r.rest)) ∙ (rw r.split at a.kept_all);
        }

    -- One rule more, of which o is left.
    pub run_more : Running from at met kept → tag_at s at ≡ 4 → (o : Option Bounds) → {next : ℕ} {met' kept' : Bool}
        → Fated o (put_in f (rule_at s at)) → next ≡ behind_field s at → met' ≡ (met or unbounded o) → kept' ≡ (kept or is_some o)
        → Running from next met' kept'
    unfolding behind_field
    run_more run t o d e g h = (
      omega (arith, run.0, e),
      λ n rs cs z.
          along_more n rs cs (run.1 n rs cs z) t e (g ∙ ap (λ x. met or x) (always_fate (put_in f (rule_at s at)) o d))
          (h ∙ ap (λ x. kept or x) (possible_fate (put_in f (rule_at s at)) o d)),
    )

    pub run_end : Running from at met kept → (tag_at s at ≡ 4 → ⊥) → Ran f s from met kept at
    unfolding Ran any
    run_end run t = (
      run.0,
      λ n rs cs z.
          let a = run.1 n rs cs z in
          let e = no_rules a.rest t in
          (sym (or_false met) ∙ (rw e at a.met_all), sym (or_false kept) ∙ (rw e at a.kept_all), rest_none a.rest t),
    )

-- ---- the clauses

mapped_empty : (rs : List Rule) → is_empty (map trimmed rs) ≡ is_empty rs
unfolding is_empty
mapped_empty [] = refl
mapped_empty (r ∷ rs) = refl

lost_by : (f : ℕ → Becomes) (c : Clause) (cs : List Clause) (met : Bool)
    → any is_empty (map (rules_left f) (cond (not met) (c ∷ cs) cs)) ≡ (not (met or any possible (map (put_in f) c)) or any is_empty (map (rules_left f) cs))
unfolding any ◌or◌ rules_left
lost_by f c cs true = refl
lost_by f c cs false = ap (λ t. t or any is_empty (map (rules_left f) cs)) (mapped_empty (keep possible (map (put_in f) c)) ∙ keep_empty possible (map (put_in f) c))

-- A clause more: it is lost where no rule of it is met by all values, or kept.
lost_clause : (f : ℕ → Becomes) (c : Clause) (cs : List Clause)
    → any is_empty (clauses_left f (c ∷ cs)) ≡ (not (any always (map (put_in f) c) or any possible (map (put_in f) c)) or any is_empty (clauses_left f cs))
unfolding clauses_left keep remains
lost_clause f c cs = lost_by f c (keep (remains f) cs) (any always (map (put_in f) c))

module _ (f : ℕ → Becomes) (s : List ℕ) where
  -- Of the clauses none was lost so far.
  pub record Kept (at n : ℕ) (all : List Clause) : Type 0 where
    pub left : List Clause
    pub rest : Rest n s at [] left
    pub same : any is_empty (clauses_left f left) ≡ any is_empty (clauses_left f all)

  abbrev pub Keeping : ℕ → ℕ → Type 0
  Keeping from at = (n : ℕ) (cs : List Clause) → Rest n s from [] cs → Kept at n cs

  -- What stands at the place.
  pub keep_rest : (from at : ℕ) → Keeping from at → Begins s from → Begins s at
  keep_rest from at keeping (n, cs, z) = let k = keeping n cs z in (n, k.left, k.rest)

  record One (either : Bool) (next n : ℕ) (cs : List Clause) : Type 0 where
    left : List Clause
    rest : Rest n s next [] left
    same : (not either or any is_empty (clauses_left f left)) ≡ any is_empty (clauses_left f cs)

  -- A clause that was run through.
  module _ (from at : ℕ) (met kept : Bool) (next : ℕ) {either : Bool} (keeping : Keeping from at) (t : tag_at s at ≡ 3)
      (ran : Ran f s (at + 3) met kept next) (is : either ≡ (met or kept)) where
    one : (n : ℕ) (cs : List Clause) → Rest n s from [] cs → One either next n cs
    unfolding Ran
    one n cs h =
        let k = keeping n cs h in
        let b = rest_clause k.rest t in
        let (m, p, behind) = ran.1 n b.first b.rest b.behind in
        record {
          left = b.rest;
          rest = behind;
          same =
              ap (λ e. not e or any is_empty (clauses_left f b.rest)) (is ∙ ap₂ ◌or◌ m p) ∙ sym (lost_clause f b.first b.rest)
              ∙ ap (λ x. any is_empty (clauses_left f x)) (sym b.split) ∙ k.same;
        }

    pub keep_lost : either ≡ false → (n : ℕ) (cs : List Clause) → Rest n s from [] cs → true ≡ any is_empty (clauses_left f cs)
    unfolding ◌or◌
    keep_lost e n cs h = let o = one n cs h in sym (ap (λ t. not t or any is_empty (clauses_left f o.left)) e) ∙ o.same

    pub keep_more : either ≡ true → Keeping from next
    unfolding ◌or◌
    keep_more e n cs h =
        let o = one n cs h in
        record { left = o.left; rest = o.rest; same = sym (ap (λ t. not t or any is_empty (clauses_left f o.left)) e) ∙ o.same }

  pub keep_end : (from at : ℕ) → Keeping from at → (tag_at s at ≡ 3 → ⊥) → (n : ℕ) (cs : List Clause) → Rest n s from [] cs
      → false ≡ any is_empty (clauses_left f cs)
  unfolding any clauses_left keep
  keep_end from at keeping t n cs h =
      let k = keeping n cs h in
      (rw (no_clauses k.rest t) at k.same)
