-- The goals that the search leaves.
use Rattle.std.proofs.Common.{◌≡◌, [], ◌∷◌, sym, refl, ap, ◌∙◌}
use Rattle.words.specs.Words.{word_bytes}
use Rattle.words.specs.Writes.{front, put_words}
use Rattle.words.proofs.Writes.{words_behind}
use Rattle.xorwow.specs.Xorwow.{step, output, stream, after}
use Rattle.xorwow.proofs.Stream.{length_stream, after_next, stream_next, none_written}
use Rattle.xorwow.proofs.fill.Goals as goal

pub loop-i-init : goal.loop-i-init
unfolding after
loop-i-init c = (refl, none_written _ _)

pub loop-i-preserved : goal.loop-i-preserved
loop-i-preserved c =
    let l = c.loop-i in
    let g = c.args.g in
    let s = c.args.numbers.now in
    let stepped = c.next-at.ensures ∙ ap step l.invariant.0 in
    let number : c.output.result ≡ output (step (after l.i g)) = c.output.ensures ∙ ap output stepped in (
      stepped ∙ sym (after_next l.i g),
      words_behind s (stream l.i g) (output (step (after l.i g)) ∷ []) l.i l.invariant.1 (sym (length_stream l.i g))
          (c.write_word.ensures ∙ ap (λ v. put_words l.i (v ∷ []) l.numbers) number)
          ∙ ap (λ ns. front (word_bytes ns) s) (sym (stream_next l.i g)),
    )
