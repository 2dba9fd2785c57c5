-- `Text::past_word` meets its contract: the library's test says whether the word begins the rest of the text.
-- Assumes nothing.
use mathlib.Core.Path.{refl, ◌∙◌}
use Rattle.tokens.proofs.Runs.{word_at, word_end_is}
use Rattle.tokens.proofs.text.Text.past_word.Goals as goal

pub returns-then-starts_with : goal.returns-then-starts_with
returns-then-starts_with c =
    let there = word_at c.args.word.now c.args.self.bytes.now c.args.self.at c.starts_with.ensures.value ∙ c.if-starts_with.true in
    (there, record { bytes = refl; at = word_end_is _ _ _ there })

pub returns-else-starts_with : goal.returns-else-starts_with
returns-else-starts_with c = word_at c.args.word.now c.args.self.bytes.now c.args.self.at c.starts_with.ensures.value ∙ c.if-starts_with.false
