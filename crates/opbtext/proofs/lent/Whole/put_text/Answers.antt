-- `Whole::put_text` meets its contract: its four parts, one behind the other.
-- Assumes nothing.
use Prim.Native.Nat.{◌+◌}
use mathlib.Core.Path.{◌≡◌, sym}
use Rattle.words.specs.Words.{word_at}
use Rattle.opb.specs.Spell.{spell_first}
use Rattle.opbtext.proofs.Whole.{variable_count, line_count, whole_bytes, first_is}
use Rattle.spelling.proofs.Puts.{puts_then, puts_same, room_same, room_first, room_after}
use Rattle.opbtext.proofs.lent.Whole.put_text.Goals.{After-variables}
use Rattle.opbtext.proofs.lent.Whole.put_text.Goals as goal

-- The first line's numbers are those of the whole text.
first : (c : After-variables) → spell_first c.variables.result (c.clauses_lines.result + c.some_words.result)
    ≡ spell_first (variable_count c.args.self.now.tables.now c.args.self.now.terms.now) (line_count c.args.self.now.tables.now c.args.self.now.terms.now)
first c =
    let g = word_at c.args.self.now.terms.now in
    first_is c.args.self.now.tables.now c.args.self.now.terms.now (c.variables.ensures g) (c.clauses_lines.ensures.0 g (word_at c.args.self.now.tables.now 0)) c.some_words.ensures.0 c.index-n.ensures

pub put_first-a-requires : goal.put_first-a-requires
put_first-a-requires c =
    room_same _ (sym (first (goal.at.put_first-a-requires c).After-variables)) (room_first _ _ _ (room_same _ (whole_bytes c.args.self.now.tables.now c.args.self.now.terms.now) c.requires))

pub put_objective-b-requires : goal.put_objective-b-requires
put_objective-b-requires c =
    room_first _ _ _ (room_after (puts_same (first (goal.at.put_objective-b-requires c).After-variables) c.put_first-a.ensures) _ (room_same _ (whole_bytes c.args.self.now.tables.now c.args.self.now.terms.now) c.requires))

pub put_clauses-c-requires : goal.put_clauses-c-requires
put_clauses-c-requires c =
    record {
      clauses_fit = c.args.self.now.fits.clauses;
      room = room_first _ _ _
          (room_after c.put_objective-b.ensures _
          (room_after (puts_same (first (goal.at.put_clauses-c-requires c).After-variables) c.put_first-a.ensures) _ (room_same _ (whole_bytes c.args.self.now.tables.now c.args.self.now.terms.now) c.requires)));
    }

pub put_locks-requires : goal.put_locks-requires
put_locks-requires c =
    room_after c.put_clauses-c.ensures _
    (room_after c.put_objective-b.ensures _
    (room_after (puts_same (first (goal.at.put_locks-requires c).After-variables) c.put_first-a.ensures) _ (room_same _ (whole_bytes c.args.self.now.tables.now c.args.self.now.terms.now) c.requires)))

pub returns : goal.returns
returns c =
    puts_same (sym (whole_bytes c.args.self.now.tables.now c.args.self.now.terms.now))
    (puts_then (puts_same (first (goal.at.returns c).After-variables) c.put_first-a.ensures) (puts_then c.put_objective-b.ensures (puts_then c.put_clauses-c.ensures c.put_locks.ensures)))
