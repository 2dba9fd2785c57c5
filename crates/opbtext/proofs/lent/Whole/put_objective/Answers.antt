-- `Whole::put_objective` meets its contract: a line where some coefficient is not 0, else none.
-- Assumes nothing.
use mathlib.Core.Path.{◌≡◌, refl, sym}
use mathlib.Core.List.{[], ◌∷◌}
use Rattle.texts.specs.Texts.{text}
use Rattle.spelling.proofs.Puts.{puts_nothing, puts_then, puts_same, room_same, room_first, room_after}
use Rattle.opbtext.proofs.Parts.{objective_none, objective_some}
use Rattle.opbtext.proofs.lent.Whole.put_objective.Goals as goal

minimum : 109 ∷ 105 ∷ 110 ∷ 58 ∷ 32 ∷ [] ≡ text "min: "
unfolding text
minimum = refl

semicolon : 59 ∷ 10 ∷ [] ≡ text ";\n"
unfolding text
semicolon = refl

pub returns-then-some_words-eq0 : goal.returns-then-some_words-eq0
returns-then-some_words-eq0 c =
    puts_same (objective_none c.args.self.now.tables.now c.some_words.ensures.0 c.index-n.ensures c.if-some_words-eq0.true) (puts_nothing _ _)

pub put_bytes-a-requires : goal.put_bytes-a-requires
put_bytes-a-requires c =
    let whole = objective_some c.args.self.now.tables.now c.some_words.ensures.0 c.index-n.ensures c.if-some_words-eq0.false in
    room_same _ (sym minimum) (room_first _ _ _ (room_same _ whole c.requires))

pub put_coefficients-b-requires : goal.put_coefficients-b-requires
put_coefficients-b-requires c =
    let whole = objective_some c.args.self.now.tables.now c.some_words.ensures.0 c.index-n.ensures c.if-some_words-eq0.false in
    room_first _ _ _ (room_after (puts_same minimum c.put_bytes-a.ensures) _ (room_same _ whole c.requires))

pub put_bytes-requires : goal.put_bytes-requires
put_bytes-requires c =
    let whole = objective_some c.args.self.now.tables.now c.some_words.ensures.0 c.index-n.ensures c.if-some_words-eq0.false in
    room_same _ (sym semicolon)
    (room_after c.put_coefficients-b.ensures _ (room_after (puts_same minimum c.put_bytes-a.ensures) _ (room_same _ whole c.requires)))

pub returns : goal.returns
returns c =
    let whole = objective_some c.args.self.now.tables.now c.some_words.ensures.0 c.index-n.ensures c.if-some_words-eq0.false in
    puts_same (sym whole) (puts_then (puts_same minimum c.put_bytes-a.ensures) (puts_then c.put_coefficients-b.ensures (puts_same semicolon c.put_bytes.ensures)))
