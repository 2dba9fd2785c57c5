-- `cells::field::read_field` meets its contract.
-- Assumes nothing.
use mathlib.Core.Path.{ap, ◌∙◌}
use mathlib.Core.List.{[], ◌∷◌}
use Rattle.std.proofs.Common.{Some, None}
use Rattle.std.proofs.lemmas.Bool.Decides.{Decides-eqb}
use Rattle.std.proofs.lemmas.Slice.Eq.{strip_prefix_is}
use Rattle.cells.specs.Grammar.{quote}
use Rattle.cells.specs.Values.{no_bytes}
use Rattle.cells.specs.Reading.{gathered}
use Rattle.cells.proofs.Fields.{field_quoted, field_plain}
use Rattle.cells.proofs.field.read_field.Goals as goal

pub returns-in-Some : goal.returns-in-Some
returns-in-Some c =
    c.quoted.ensures ∙ ap (gathered no_bytes) (field_quoted _ _ (strip_prefix_is Decides-eqb c.args.s.now (quote ∷ []) (Some c.in-Some.rest) c.in-Some.ensures.cases))

pub returns-in-None : goal.returns-in-None
returns-in-None c = c.plain.ensures ∙ ap (gathered no_bytes) (field_plain _ (strip_prefix_is Decides-eqb c.args.s.now (quote ∷ []) None c.in-None.ensures.cases))
