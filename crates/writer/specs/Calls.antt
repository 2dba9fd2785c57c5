-- What writing a loaded plan as an OPB text answers and leaves (document 02, T-02): "in writing, 33 after 22 when the text outgrows the lent buffer; the
-- answer gives its length, bytes beyond the text stay."
-- Assumes nothing.
use Rattle.std.specs.Prelude.{ℕ, Bool, not, cond, List, ltb, eqb, length}
use Rattle.plpb.specs.Lists.{◌or◌}
use Rattle.words.specs.Writes.{front}
use Rattle.format.specs.File.{refuse}
use Rattle.format.specs.Layout.{table_size, term_size}
use Rattle.format.specs.Tables.{is_loaded, plan_of_tables}
use Rattle.opb.specs.Spell.{spell}
use Rattle.opb.specs.Tau.{tau}

-- The text of the plan that two tables hold.
unfoldable pub text_of : List ℕ → List ℕ → List ℕ
text_of tables terms = spell (tau (plan_of_tables tables terms))

unfoldable pub too_small : List ℕ → List ℕ → Bool
too_small tables terms = ltb (length tables) table_size or ltb (length terms) term_size

-- The refusal: 21, 22, then 33, where the buffer has less room than the text needs.
unfoldable pub write_refusal : List ℕ → List ℕ → List ℕ → ℕ
write_refusal tables terms text =
    refuse (too_small tables terms) 21
    (refuse (not (is_loaded tables terms)) 22 (refuse (ltb (length text) (length (text_of tables terms))) 33 0))

-- "the answer gives its length": with 33 too, so that a caller can lend more. With 21 and 22 there is no text.
unfoldable pub write_length : List ℕ → List ℕ → ℕ
write_length tables terms = refuse (too_small tables terms) 0 (refuse (not (is_loaded tables terms)) 0 (length (text_of tables terms)))

-- What the buffer holds afterwards: the text at its front and "bytes beyond the text stay"; with a refusal all of them.
unfoldable pub text_after : List ℕ → List ℕ → List ℕ → List ℕ
text_after tables terms text = cond (eqb (write_refusal tables terms text) 0) (front (text_of tables terms) text) text
