-- What a variable's run says of its plan.
-- Assumes nothing.
use Rattle.std.specs.Prelude.{ℕ, ◌≤◌, ◌<◌, [], get_or}
use Rattle.plpb.specs.Plan.{Plan, Clause, Rule, Assignment}
use Rattle.order.specs.Order.{Place}
use Rattle.format.specs.Tables.{plan_of_tables}
use Rattle.effects.specs.Kept.{lent_bits, place_at, place_rule}
use Rattle.effects.specs.declared.run.Run.{Run}

-- The plan and the assignment.
abbrev pub plan : Run → Plan
plan r = plan_of_tables r.footing.now.tables.now r.footing.now.terms.now

abbrev pub bits : Run → Assignment
bits r = lent_bits r.footing.now.tables.now r.footing.now.terms.now r.footing.now.assignment.now

-- Place k is one of the run.
abbrev pub Inside : Run → ℕ → Type 0
Inside r k = (r.first ≤ k) × (k < r.end)

-- Place k of the order, its rule and its clause.
abbrev pub place : Run → ℕ → Place
place r k = place_at r.footing.now.tables.now r.footing.now.terms.now k

abbrev pub rule : Run → ℕ → Rule
rule r k = place_rule r.footing.now.tables.now r.footing.now.terms.now k

abbrev pub clause : Run → ℕ → Clause
clause r k = get_or (plan r).clauses (place r k).clause []
