-- Tables that a text was read into are tables that an accepted loading leaves.
-- Assumes nothing.
use Prim.Native.Nat.{ℕ}
use mathlib.Core.Path.{◌≡◌, refl, sym}
use mathlib.Core.Bool.{Bool, true, false}
use mathlib.Core.List.{List}
use Rattle.plpb.specs.Plan.{Plan}
use Rattle.format.specs.File.{accepted}
use Rattle.format.specs.Tables.{Holds, Loaded}
use Rattle.format.specs.Writer.{write}
use Rattle.format.proofs.RoundTrip.{read_write}
use Rattle.format.proofs.WriteBytes.{write_bytes}
use Rattle.verdict.specs.Answers.{Accepted}
use Rattle.tables.specs.Load.{too_small, tables_of, terms_of}
use Rattle.tables.proofs.Whole.{not_accepted}
use Rattle.tables.proofs.Holding.{words_hold}
use Rattle.opb_lines.specs.ReadText.{plan_of_text, read_text}
use Rattle.opb_fill.specs.Fill.{Says}
use Rattle.opb_fill.proofs.Accepted.{text_lawful}
use Rattle.opb_read.specs.Reads.{reading, tables_read, terms_read, ReadingHolds}
use Rattle.opb_read.proofs.Whole.{says}

module _ (s t u : List ℕ) where
  abbrev Claim : List ℕ → List ℕ → Type 0
  Claim a b = (p : Plan) × (read_text s ≡ accepted p) × Holds p a b × Loaded a b

  held : Says s → Claim (tables_of (read_text s) t) (terms_of (read_text s) u)
  unfolding tables_of terms_of Loaded
  held e =
      let p = plan_of_text s in
      let w = text_lawful s p e in
      let h : Holds p (tables_of (read_text s) t) (terms_of (read_text s) u) = rw e (words_hold p t u w) in
      (p, e, h, (write p, p, write_bytes p, read_write p w, h))

  go : (b : Bool) → too_small t u ≡ b → reading s t u ≡ Accepted → Claim (tables_read s t u) (terms_read s t u)
  unfolding reading tables_read terms_read
  go true q e = absurd (not_accepted 21 0 (rw q at e))
  go false q e = rw q (held (says s (sym (rw q at e))))

pub reading_holds : ReadingHolds
reading_holds s t u = go s t u (too_small t u) refl
