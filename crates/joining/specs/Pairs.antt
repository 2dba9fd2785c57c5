-- e and g of a clause's rules joined, or f and g.
-- Assumes nothing.
use Rattle.std.specs.Prelude.{ℕ, ◌+◌, ◌*◌, ◌≡◌}
use Rattle.plpb.specs.Plan.{Clause, Assignment}
use Rattle.plpb.specs.Count.{capped}
use Rattle.plpb.specs.Equations.{clause_break, clause_make}
use Rattle.plpb.specs.Equations.{Shares as SharesOf}
use Rattle.counting.specs.Count.{number}
use Rattle.rules.specs.declared.state.State.{State}
use Rattle.rules.specs.State.{Balanced, shares_from}
use Rattle.joining.specs.declared.Pair.{Pair}
use Rattle.joining.specs.declared.Counted.{Counted}
use Rattle.joining.specs.declared.Counted.TheVariants.{Spoiled, Mended}

-- Those of some rules joined with those of one more, each capped.
pub record JoinedPair (t : Pair) (e g : ℕ) (r : Pair) : Type 0 where
  pub changed : number r.e ≡ capped (number t.e * (e + g) + number t.g * e)
  pub left : number r.g ≡ capped (number t.g * g)

-- What is counted of a rule's parts, and of a clause.
abbrev pub rule_count : Counted → SharesOf → ℕ
rule_count Spoiled s = s.e
rule_count Mended s = s.f

abbrev pub clause_count : Counted → Assignment → ℕ → Clause → ℕ
clause_count Spoiled a x c = clause_break a x c
clause_count Mended a x c = clause_make a x c

-- The flip spoils of state r what is counted of state s, and leaves the same of both.
pub record SeenFor (d : Counted) (s r : State) : Type 0 where
  pub changed : (shares_from r).e ≡ rule_count d (shares_from s)
  pub left : (shares_from r).g ≡ (shares_from s).g
  pub balanced : Balanced r
