-- `statements::objective_sum` meets its contract.
-- Assumes nothing.
use Rattle.tokens.specs.Tokens.{word_end}
use Rattle.tokens.specs.Found.{Reads, Behind}
use Rattle.tokens.proofs.Runs.{word_or, behind}
use Rattle.statements.specs.Grammar.{min_word}
use Rattle.statements.proofs.objective_sum.Goals as goal

pub returns : goal.returns
returns c =
    let word : Reads (Behind (word_end min_word)) c.args.t c.unwrap_or.result = rw c.unwrap_or.ensures (word_or min_word c.args.t c.past_word.result c.past_word.ensures) in
    behind word c.past_blanks.ensures
