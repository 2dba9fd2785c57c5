-- `join` meets its contract, by whether the rule names the variable.
-- Assumes nothing.
use mathlib.Core.Path.{ap, ◌∙◌}
use Rattle.counting.specs.Shares.{shares_in, capped_shares, joined_shares}
use Rattle.rules.proofs.States.{untouched_out}
use Rattle.rules.proofs.state.State.join.Goals as goal

pub returns-in-Out : goal.returns-in-Out
returns-in-Out c =
    c.narrowed.ensures
    ∙ ap (λ q. capped_shares (joined_shares (shares_in c.args.shares) q)) (untouched_out c.args.self c.in-Out.is (ap (λ s. s.g) c.shares.ensures))
