-- Which fields follow which: the rules and clauses of a plan as fields, and what may stand in each stage. By cases of the stage.
use Prim.Native.Nat.{ℕ, ◌<◌}
use mathlib.Core.Path.{◌≡◌, refl}
use mathlib.Core.Bool.{Bool, true, false}
use mathlib.Core.List.{List, [], ◌∷◌, ◌++◌, map}
use native.Mathlib.Omega.{arith}
use lib.ListN.{length}
use borrow.Author.Tests.{eqb-true}
use Rattle.plpb.specs.Lists.{◌or◌, concat}
use Rattle.plpb.specs.Plan.{Rule, Clause}
use Rattle.format.specs.File.{Stage, at_count, at_objective, at_locks, at_clause, at_rule, after_rule, may_stand, behind}
use Rattle.format.specs.Writer.{field, rule_field, clause_fields}
use Rattle.format.proofs.Bools.{true_T}
use mathlib.Core.Logic.{◌⊎◌, inl, inr, ⊎_elim}

-- The fields of rules, and of clauses behind them, up to the end.
unfoldable pub fields_from : List Rule → List Clause → List ℕ
fields_from rs cs = concat (map rule_field rs) ++ (concat (map clause_fields cs) ++ field 5 [])

-- Which rules may come next in a stage.
unfoldable pub follows : Stage → List Rule → Bool
follows at_count rs = false
follows at_objective rs = false
follows at_locks rs = false
follows at_clause [] = true
follows at_clause (r ∷ rs) = false
follows at_rule [] = false
follows at_rule (r ∷ rs) = true
follows after_rule rs = true

pub may_rule : (g : Stage) (r : Rule) (rs : List Rule) → follows g (r ∷ rs) ≡ true → may_stand g 4 ≡ true
unfolding follows may_stand ◌or◌
may_rule at_count r rs h = h
may_rule at_objective r rs h = h
may_rule at_locks r rs h = absurd (true_T _ h)
may_rule at_clause r rs h = h
may_rule at_rule r rs h = refl
may_rule after_rule r rs h = refl

pub may_clause : (g : Stage) → follows g [] ≡ true → (may_stand g 3 ≡ true) × (may_stand g 5 ≡ true)
unfolding follows may_stand ◌or◌
may_clause at_count h = (h, h)
may_clause at_objective h = (h, h)
may_clause at_locks h = (refl, refl)
may_clause at_clause h = (refl, refl)
may_clause at_rule h = (h, h)
may_clause after_rule h = (refl, refl)

pub follows_some : (rs : List Rule) → 0 < length rs → follows at_rule rs ≡ true
unfolding follows
follows_some [] h = absurd (omega arith)
follows_some (r ∷ rs) h = refl

pub no_rules : (rs : List Rule) → follows at_clause rs ≡ true → rs ≡ []
unfolding follows
no_rules [] h = refl
no_rules (r ∷ rs) h = absurd (true_T _ h)

pub nonempty : (rs : List Rule) → follows at_rule rs ≡ true → 0 < length rs
unfolding follows
nonempty [] h = absurd (true_T _ h)
nonempty (r ∷ rs) h = omega arith

-- What may stand in a stage behind objective and locks.
pub data Standing (g : Stage) (tag : ℕ) : Type 0 where
  begins : tag ≡ 3 → follows g [] ≡ true → Standing g tag
  rules : tag ≡ 4 → ((r : Rule) (rs : List Rule) → follows g (r ∷ rs) ≡ true) → Standing g tag
  ends : tag ≡ 5 → follows g [] ≡ true → Standing g tag

pub either : (a b : Bool) → (a or b) ≡ true → (a ≡ true) ⊎ (b ≡ true)
unfolding ◌or◌
either true b h = inl refl
either false b h = inr h

pub standing : (g : Stage) (tag : ℕ) → behind g ≡ true → may_stand g tag ≡ true → Standing g tag
unfolding behind may_stand follows
standing at_count tag b h = absurd (true_T _ b)
standing at_objective tag b h = absurd (true_T _ b)
standing at_locks tag b h = absurd (true_T _ b)
standing at_clause tag b h = ⊎_elim (λ e. begins (eqb-true tag 3 e) refl) (λ e. ends (eqb-true tag 5 e) refl) (either _ _ h)
standing at_rule tag b h = rules (eqb-true tag 4 h) (λ r rs. refl)
standing after_rule tag b h =
    ⊎_elim (⊎_elim (λ e. begins (eqb-true tag 3 e) refl) (λ e. rules (eqb-true tag 4 e) (λ r rs. refl)))
    (λ e. ends (eqb-true tag 5 e) refl)
    (⊎_elim (λ e. inl (either _ _ e)) (λ e. inr e) (either _ _ h))
