-- `Several::put` meets its contract: (15), then the rules.
-- Assumes nothing.
use mathlib.Core.Path.{sym}
use Rattle.clauselines.proofs.Rules.{or_bytes}
use Rattle.spelling.proofs.Puts.{puts_then, puts_same, room_same, room_first, room_after}
use Rattle.clauselines.proofs.several.Several.put.Goals as goal

pub put_atoms-a-requires : goal.put_atoms-a-requires
put_atoms-a-requires c = room_first _ _ _ (room_same _ (or_bytes _ _ _ _ _) c.requires)

pub put_end-b-requires : goal.put_end-b-requires
put_end-b-requires c = room_first _ _ _ (room_after c.put_atoms-a.ensures _ (room_same _ (or_bytes _ _ c.args.self.now.first _ _) c.requires))

pub put_rules-requires : goal.put_rules-requires
put_rules-requires c = room_after c.put_end-b.ensures _ (room_after c.put_atoms-a.ensures _ (room_same _ (or_bytes _ _ c.args.self.now.first _ _) c.requires))

pub returns : goal.returns
returns c = puts_same (sym (or_bytes _ _ _ _ _)) (puts_then c.put_atoms-a.ensures (puts_then c.put_end-b.ensures c.put_rules.ensures))
