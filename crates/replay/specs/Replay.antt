-- A list of calls lent as bytes, the bytes of its answers, and the book's account of the list after opening, as what is lent is to be left.
-- Assumes nothing.
use Rattle.std.specs.Prelude.{ℕ, zero, suc, ◌+◌, ◌*◌, ◌/◌, cond, List, [], ◌∷◌, ◌++◌, ltb, eqb, length, get_or}
use Rattle.plpb.specs.Book.{flip_call, counts_call, Answer, refused, accepted, counted}
use Rattle.plpb.specs.Book.{Call as CallOf}
use Rattle.plpb.specs.Count.{given}
use Rattle.counting.specs.Count.{count_words, marked_words}
use Rattle.words.specs.Words.{num_at, word_bytes}
use Rattle.words.specs.Writes.{front}
use Rattle.format.specs.File.{refuse}
use Rattle.tallies.specs.Calls.{Lent, plan, told, open_refusal}
use Rattle.tallies.specs.Demand.{account}
use Rattle.replay.specs.declared.Answered.{Answered}
use Rattle.replay.specs.declared.Call.{Call}
use Rattle.replay.specs.declared.Call.TheVariants.{Flip, Counts}

-- A call in 5 bytes: its kind, 0 for flip and any other for counts, and its variable.
unfoldable pub call_of : ℕ → ℕ → CallOf
call_of kind x = cond (eqb kind 0) (flip_call x) (counts_call x)

-- A call of the code says this one.
abbrev pub called : Call → CallOf
called (Flip x) = flip_call x
called (Counts x) = counts_call x

-- k calls from a place on.
unfoldable pub calls_from : ℕ → List ℕ → ℕ → List CallOf
calls_from zero s at = []
calls_from (suc k) s at = call_of (get_or s at 0) (num_at 4 s (at + 1)) ∷ calls_from k s (at + 5)

-- The whole calls of a list. What stands behind the last of them is no call.
unfoldable pub calls_of : List ℕ → List CallOf
calls_of s = calls_from (length s / 5) s 0

-- An answer in six words: the refusal, 0 for none; how many rule tallies a flip rewrote; the break count and its mark; the make count and its mark.
unfoldable pub answer_words : Answer → List ℕ
answer_words (refused n) = n ∷ 0 ∷ (count_words (given 0) ++ count_words (given 0))
answer_words (accepted rules) = 0 ∷ rules ∷ (count_words (given 0) ++ count_words (given 0))
answer_words (counted b m) = 0 ∷ 0 ∷ (count_words b ++ count_words m)

-- .. so many bytes, and as the code has it.
abbrev pub answer_size : ℕ
answer_size = 24

abbrev pub answered_words : Answered → List ℕ
answered_words a = a.refusal ∷ a.rules ∷ (marked_words a.breaks ++ marked_words a.makes)

unfoldable pub answer_bytes : List Answer → List ℕ
answer_bytes [] = []
answer_bytes (a ∷ rest) = word_bytes (answer_words a) ++ answer_bytes rest

-- 21 where the answers have no room, else as opening is refused.
unfoldable pub replay_refusal : Lent → List ℕ → List ℕ → ℕ
replay_refusal l list out = refuse (ltb (length out) (answer_size * (length list / 5))) 21 (open_refusal l)

-- The answers are the book's, the first n assignment bytes its bits, the tallies their fresh count; all else, and all with a refusal, is as lent.
unfoldable pub replay_out : Lent → List ℕ → List ℕ → List ℕ
replay_out l list out =
    cond (eqb (replay_refusal l list out) 0) (front (answer_bytes (account (plan l) l (calls_of list)).answers) out) out

unfoldable pub replay_assignment : Lent → List ℕ → List ℕ → List ℕ
replay_assignment l list out =
    cond (eqb (replay_refusal l list out) 0)
    (told (plan l) l (account (plan l) l (calls_of list)).bits).assignment
    l.assignment

unfoldable pub replay_tallies : Lent → List ℕ → List ℕ → List ℕ
replay_tallies l list out =
    cond (eqb (replay_refusal l list out) 0)
    (told (plan l) l (account (plan l) l (calls_of list)).bits).tallies
    l.tallies
