-- `read_literal` meets its contract: the term read, its sign and size, and its variable's value. The weight goes as bits, and fits.
-- Assumes nothing.
use Rattle.std.proofs.Common.{rules}
use mathlib.Core.Bool.{not, cond}
use mathlib.Core.Path.{refl, ◌∙◌, ap, ap₂}
use lib.IntN.{nat_abs}
use mir.Syntax.{w32}
use mir.Facts.{to_z-of_z}
use mir.Val.{SFits}
use Rattle.plpb.specs.Plan.{Term, value}
use Rattle.std.specs.Int.{is_negative as signed_below}
use Rattle.plpb.specs.Normal.{is_negative, literal, literal_true, size}
use Rattle.format.specs.Tables.{term_of}
use Rattle.rules.specs.Terms.{bits_in}
use Rattle.rules.proofs.Sizes.{signs, differs}
use Rattle.rules.proofs.term.read_literal.Goals as goal

pub value_of-value-requires : goal.value_of-value-requires
unfolding term_of
value_of-value-requires c =
    let readable = c.requires in
    rw (ap (λ (t : Term). t.variable) c.read_term-t.ensures) (readable.low, readable.high)

pub returns : goal.returns
unfolding size literal literal_true
returns c =
    let bits = bits_in c.args.assignment.now in
    let t = c.read_term-t.result in
    let read = c.read_term-t.ensures in
    let fits : SFits w32 t.weight = search rules in
    let back = to_z-of_z fits in
    let negated = c.is_negative.ensures ∙ ap signed_below back ∙ signs _ ∙ ap (λ (u : Term). is_negative u.weight) read in
    record {
      sized = c.magnitude.ensures ∙ ap nat_abs back ∙ ap (λ (u : Term). nat_abs u.weight) read;
      truth = differs _ _ refl ∙ ap₂ (λ b v. cond b (not v) v) negated (c.value_of-value.ensures ∙ ap (λ (u : Term). value bits u.variable) read);
    }
