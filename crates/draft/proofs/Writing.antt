-- Laws of bytes written one behind the other, and of the parts of a plan file.
-- Assumes nothing.
use Prim.Native.Nat.{ℕ, ◌+◌, ◌≤◌}
use native.Mathlib.Omega.{arith}
use mathlib.Core.Path.{◌≡◌, sym, ap, ◌∙◌}
use mathlib.Core.Bool.{cond}
use mathlib.Core.List.{List, [], ◌++◌}
use lib.Dec.{eqb}
use lib.ListN.{length, length-append}
use borrow.Author.Tests.{eq-eqb, ne_eqb}
use Rattle.words.specs.Words.{bytes_of}
use Rattle.words.specs.Writes.{put}
use Rattle.words.proofs.Words.{length_bytes_of}
use Rattle.words.proofs.Writes.{length_put}
use Rattle.fields.proofs.Writing.{put_on, put_none}
use Rattle.draft.specs.Draft.{Wrote}

-- What was written keeps the buffer's length.
pub put_long : (o : List ℕ) {t : List ℕ} (at : ℕ) (bs : List ℕ) → t ≡ put at bs o → at + length bs ≤ length o → length t ≡ length o
put_long o at bs e h = ap length e ∙ length_put at bs o h

-- Parts written one behind the other.
pub wrote_none : (at : ℕ) (o : List ℕ) → Wrote at [] o o at
wrote_none at o = record { written = sym (put_none at o); behind = omega arith }

pub wrote_more : (o : List ℕ) {t u : List ℕ} (at : ℕ) {to r : ℕ} (xs ys : List ℕ) → Wrote at xs o t to → at + length xs ≤ length o → Wrote to ys t u r → Wrote at (xs ++ ys) o u r
wrote_more o at xs ys p h q =
    record {
      written = put_on o at xs ys h p.written p.behind q.written;
      behind = omega (arith, q.behind, p.behind, length-append xs ys);
    }

pub wrote_as : {at : ℕ} {xs ys o t : List ℕ} {r : ℕ} → xs ≡ ys → Wrote at xs o t r → Wrote at ys o t r
wrote_as {at} {xs} {ys} {o} {t} {r} e h = rw e at h

-- A term, or none.
pub term_none : (o : List ℕ) (at w : ℕ) (bs : List ℕ) → w ≡ 0 → Wrote at (cond (eqb w 0) [] bs) o o at
term_none o at w bs e = rw (eq-eqb w 0 e) (wrote_none at o)

pub term_some : (o : List ℕ) {t : List ℕ} (at w v : ℕ) → (w ≡ 0 → ⊥) → t ≡ put at (bytes_of 2 v ++ bytes_of 4 w) o → Wrote at (cond (eqb w 0) [] (bytes_of 2 v ++ bytes_of 4 w)) o t (at + 6)
term_some o at w v n e =
    rw (ne_eqb w 0 n)
    (record { written = e; behind = omega (arith, length-append (bytes_of 2 v) (bytes_of 4 w), length_bytes_of 2 v, length_bytes_of 4 w) })
