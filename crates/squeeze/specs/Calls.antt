-- What a squeeze answers, and what it leaves in the two buffers, for every file and every length of the list (document 02, T-12).
-- Assumes nothing.
use Rattle.std.specs.Prelude.{ℕ, ◌-◌, ◌≡◌, cond, List, Option, None, Some, ltb, ℤ, pos, length, take, drop, replicate}
use Rattle.plpb.specs.Plan.{Plan}
use Rattle.words.specs.Words.{word_bytes}
use Rattle.words.specs.Writes.{front}
use Rattle.format.specs.File.{Reading, refused, accepted, read}
use Rattle.format.specs.Writer.{write}
use Rattle.format.specs.Tables.{pad_to}
use Rattle.squeeze.specs.declared.Squeezed.{Squeezed}
use Rattle.squeeze.specs.declared.Unfit.{Unfit}
use Rattle.squeeze.specs.declared.Unfit.TheVariants.{AllLocked, ClauseLost}
use Rattle.squeezed.specs.Squeezed.{unlocked, squeezed, constant, all_locked, clause_lost}

-- "21 for a list below 512 places", a word each.
abbrev pub list_size : ℕ
list_size = 2_048

-- "report the new length, the objective's constant and, in a lent list, which old variable each new one was".
pub record Outcome : Type 0 where
  pub refusal : ℕ
  pub offset : ℕ
  pub length : ℕ
  pub constant : ℤ
  pub file : List ℕ
  pub old : List ℕ

-- The answer's numbers are the outcome's.
abbrev pub Answers : Squeezed → Outcome → Type 0
Answers r o = (r.refusal ≡ o.refusal) × (r.offset ≡ o.offset) × (r.length ≡ o.length) × (r.constant ≡ o.constant)

-- "Turned away, with nothing changed".
unfoldable pub turned_away : ℕ → ℕ → List ℕ → List ℕ → Outcome
turned_away number offset file old = record { refusal = number; offset = offset; length = 0; constant = pos 0; file = file; old = old }

-- "Rewrite the plan file in its own buffer"; "Bytes after the new end are 0"; "0 in unused places". What is lent past the list's full limit stays.
unfoldable pub rewritten : Plan → List ℕ → List ℕ → Outcome
rewritten p file old =
    record {
      refusal = 0;
      offset = 0;
      length = length (write (squeezed p));
      constant = constant p;
      file = pad_to (length file) (write (squeezed p));
      old = front (word_bytes (pad_to 512 (unlocked p))) old;
    }

-- "then 71 if every variable is locked, then 72 if a clause lost all rules"
unfoldable pub squeezing : Plan → List ℕ → List ℕ → Outcome
squeezing p file old =
    cond (all_locked p) (turned_away 71 0 file old) (cond (clause_lost p) (turned_away 72 0 file old) (rewritten p file old))

-- The number of such a fault, 0 where there is none.
unfoldable pub fault_number : Option Unfit → ℕ
fault_number None = 0
fault_number (Some AllLocked) = 71
fault_number (Some ClauseLost) = 72

unfoldable pub by_reading : Reading Plan → List ℕ → List ℕ → Outcome
by_reading (refused number offset) file old = turned_away number offset file old
by_reading (accepted p) file old = squeezing p file old

-- "21 for a list below 512 places, the file's own, then 71 [..], then 72".
unfoldable pub outcome : List ℕ → List ℕ → Outcome
outcome file old = cond (ltb (length old) list_size) (turned_away 21 0 file old) (by_reading (read file) file old)

-- An accepted file that is not turned away ends as a file that is accepted, of the squeezed plan, with zeros behind it.
abbrev pub LeavesAccepted : Type 0
LeavesAccepted = (file old : List ℕ) (p : Plan) → read file ≡ accepted p → (outcome file old).refusal ≡ 0
    → (read (take (outcome file old).length (outcome file old).file) ≡ accepted (squeezed p))
    × (drop (outcome file old).length (outcome file old).file ≡ replicate (length file - (outcome file old).length) 0)

-- "Turned away, with nothing changed".
abbrev pub NothingChanged : Type 0
NothingChanged = (file old : List ℕ) → ((outcome file old).refusal ≡ 0 → ⊥) → ((outcome file old).file ≡ file) × ((outcome file old).old ≡ old)
