-- `opb_lines::first_line` meets its contract.
-- Assumes nothing.
use mathlib.Core.Path.{sym, ap, ◌∙◌}
use lib.ListN.{drop}
use Rattle.tokens.specs.Tokens.{begins, number_at, seen}
use Rattle.tokens.proofs.Runs.{whole, read_behind, behind}
use Rattle.opb_lines.specs.ReadText.{star, variable_name, constraint_name, named_from, variables_in, constraints_in}
use Rattle.opb_lines.proofs.FirstLine.{no_star, no_variables, no_blanks, no_constraints, no_feed, first_is, second_is, first_there}
use Rattle.opb_lines.proofs.first_line.Goals as goal

pub returns-in_err-behind : goal.returns-in_err-behind
returns-in_err-behind c =
    rw c.from_residual.ensures (no_star _ (sym (read_behind (whole c.from.result c.from.ensures) (λ s at. begins star (drop at s))) ∙ c.in_err-behind.ensures))

pub returns-in_err-variables : goal.returns-in_err-variables
returns-in_err-variables c =
    rw c.from_residual-in_err-variables.ensures (no_variables (behind (whole c.from.result c.from.ensures) c.in_ok-behind.ensures.1) c.past_blanks.ensures c.in_err-variables.ensures)

pub returns-in_err-second : goal.returns-in_err-second
returns-in_err-second c =
    rw c.from_residual-in_err-second.ensures
    (no_blanks (behind (whole c.from.result c.from.ensures) c.in_ok-behind.ensures.1) c.past_blanks.ensures c.in_ok-variables.ensures.1.rest c.in_err-second.ensures)

pub returns-in_err-constraints : goal.returns-in_err-constraints
returns-in_err-constraints c =
    rw c.from_residual-in_err-constraints.ensures
    (no_constraints (behind (whole c.from.result c.from.ensures) c.in_ok-behind.ensures.1) c.past_blanks.ensures c.in_ok-variables.ensures.1.rest c.in_ok-second.ensures.1 c.in_err-constraints.ensures)

pub returns-in_err-past_word : goal.returns-in_err-past_word
returns-in_err-past_word c =
    rw c.from_residual-in_err-past_word.ensures
    (no_feed (behind (whole c.from.result c.from.ensures) c.in_ok-behind.ensures.1) c.past_blanks.ensures c.in_ok-variables.ensures.1.rest c.in_ok-second.ensures.1 c.in_ok-constraints.ensures.1.rest
    c.past_blanks-2.ensures c.in_err-past_word.ensures)

pub returns : goal.returns
unfolding variables_in constraints_in
returns c =
    let start = whole c.from.result c.from.ensures in
    let begun = behind start c.in_ok-behind.ensures.1 in
    let there = sym (read_behind start (λ s at. begins star (drop at s))) ∙ c.in_ok-behind.ensures.0 in
    let from = c.past_blanks.ensures in
    let variables = c.in_ok-variables.ensures in
    let second = c.in_ok-second.ensures in
    let constraints = c.in_ok-constraints.ensures in (
      first_there begun from variables.1.rest second.1 constraints.1.rest c.past_blanks-2.ensures there variables.0 second.0 constraints.0 c.in_ok-past_word.ensures.0,
      record {
        variables = variables.1.value ∙ ap seen (read_behind (first_is begun from) (λ s k. number_at s (named_from variable_name s k)));
        constraints =
            constraints.1.value ∙ ap seen (read_behind (second_is begun from variables.1.rest second.1) (λ s k. number_at s (named_from constraint_name s k)));
      },
    )
