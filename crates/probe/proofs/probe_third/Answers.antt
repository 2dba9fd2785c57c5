-- `probe_third` meets its contract: it is `third`.
-- Assumes nothing.
use mir.Syntax.{w64}
use mathlib.Core.Path.{◌∙◌, ap}
use mir.Facts.{to_z-of_z}
use Rattle.plpb.specs.Search.{third}
use Rattle.probe.proofs.probe_third.Goals as goal

pub returns : goal.returns
returns c = to_z-of_z {w = w64} (record { sfits = c.third.type_inv }) ∙ c.third.ensures ∙ ap third (to_z-of_z c.ranges.a)
