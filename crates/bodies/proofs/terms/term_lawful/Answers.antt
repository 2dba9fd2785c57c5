-- `terms::term_lawful` meets its contract: only the size of the weight is judged.
-- Assumes nothing.
use mathlib.Core.Path.{◌∙◌}
use mir.Syntax.{w32}
use mir.Facts.{to_z-of_z}
use Rattle.format.specs.File.{term_at}
use Rattle.bodies.proofs.TermLaws.{term_size_lem}
use Rattle.bodies.proofs.terms.term_lawful.Goals as goal

pub returns : goal.returns
unfolding term_at
returns c =
    c.term_fits.ensures
    ∙ rw
    (c.read_u16.ensures, c.magnitude-size.ensures, to_z-of_z {w = w32} (record { sfits = c.read_i32.type_inv }), c.read_i32.ensures)
    (term_size_lem _ _ _ _)
