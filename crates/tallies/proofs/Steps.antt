-- After an accepted opening all that is lent is told by the bits alone, and each call's answer and bits are the book's: so a list's are.
use Prim.Native.Nat.{ℕ}
use mathlib.Core.Path.{◌≡◌, refl, sym, ap, ap₂, ◌∙◌}
use mathlib.Core.Bool.{true, false, cond}
use mathlib.Core.List.{List, [], ◌∷◌, ◌++◌}
use lib.Dec.{ltb}
use lib.ListN.{length, take, drop, take-append-drop}
use lib.Seq.{length-take-le, length_front}
use Rattle.plpb.specs.Lists.{◌or◌}
use Rattle.plpb.specs.Plan.{Plan, Assignment, flip, is_variable, is_locked}
use Rattle.plpb.specs.Tallies.{fresh_count}
use Rattle.plpb.specs.Book.{Call, flip_call, counts_call, refusal, entry, book}
use Rattle.plpb.proofs.Flip.{length_flip}
use Rattle.plpb.proofs.Locks.{variable_range}
use Rattle.format.specs.Tables.{table_size, term_size}
use Rattle.tallies.specs.Layout.{assignment_size, tally_size, bits_of, bit_bytes, tally_bytes}
use Rattle.tallies.specs.Calls.{Lent, lent, plan, bits, told, too_small, fresh_bytes, open_tallies, call_refusal, flip_refusal, turned, flip_assignment, flip_tallies, flip_rules, counts_break, counts_make, answer, left_by}
use Rattle.tallies.specs.Demand.{answers, after, opened}
use Rattle.tallies.proofs.Bits.{length_bit_bytes, bits_of_bytes, are_bits_bytes, turned_bytes, whole_bytes}
use Rattle.tallies.proofs.TallyBytes.{length_fresh, take_fresh, drop_fresh}
use Rattle.tallies.proofs.Refusals.{either, one_of, Opens, opens_accepted, only_variable, flip_fault, only_flip, refused_left, counts_left, plan_fits, assignment_room, tallies_room}

pub told_plan : (l : Lent) (b : Assignment) → plan (told (plan l) l b) ≡ plan l
unfolding plan told
told_plan l b = refl

pub told_bits : (l : Lent) (b : Assignment) → length b ≡ (plan l).variables → bits_of (plan l).variables (told (plan l) l b).assignment ≡ b
unfolding told
told_bits l b size = bits_of_bytes (plan l).variables b (drop (plan l).variables l.assignment) size

-- The same tables with another assignment and other tallies.
abbrev with_both : Lent → List ℕ → List ℕ → Lent
with_both l a t = lent l.tables l.terms a t

module _ (l : Lent) (o : Opens l) (b : Assignment) (size : length b ≡ (plan l).variables) where
  told_fresh : fresh_bytes (told (plan l) l b) ≡ tally_bytes (fresh_count (plan l) b)
  unfolding fresh_bytes
  told_fresh = rw (told_plan l b, told_bits l b size)

  told_tallies : take tally_size (told (plan l) l b).tallies ≡ fresh_bytes (told (plan l) l b)
  unfolding told
  told_tallies = take_fresh (plan l) (plan_fits l o) b (drop tally_size l.tallies) ∙ sym told_fresh

  told_room : length (told (plan l) l b).assignment ≡ length l.assignment
  unfolding told
  told_room =
      length_front l.assignment (bit_bytes b) (plan l).variables
      (length_bit_bytes b ∙ size ∙ sym (length-take-le (plan l).variables l.assignment (assignment_room l o)))

  pub told_tallies_room : length (told (plan l) l b).tallies ≡ length l.tallies
  unfolding told
  told_tallies_room =
      length_front l.tallies (tally_bytes (fresh_count (plan l) b)) tally_size
      (length_fresh (plan l) (plan_fits l o) b ∙ sym (length-take-le tally_size l.tallies (tallies_room l o)))

  told_sizes : too_small (told (plan l) l b) ≡ too_small l
  unfolding too_small told
  told_sizes =
      ap₂ (λ a t. ltb (length l.tables) table_size or ltb (length l.terms) term_size or ltb a assignment_size or ltb t tally_size)
      told_room told_tallies_room

  told_opens : Opens (told (plan l) l b)
  told_opens =
      record {
        sizes = rw told_sizes o.sizes;
        loaded = unfold told in o.loaded;
        bits = rw told_plan (unfold told in are_bits_bytes (plan l).variables b (drop (plan l).variables l.assignment) size);
      }

  pub told_refusal : (x : ℕ) → call_refusal (told (plan l) l b) x ≡ cond (is_variable (plan l) x) 0 23
  told_refusal x = only_variable (told (plan l) l b) x told_opens told_tallies ∙ ap (λ p. cond (is_variable p x) 0 23) (told_plan l b)

  pub told_flip_refusal : (x : ℕ) → flip_refusal (told (plan l) l b) x ≡ flip_fault (plan l) x
  told_flip_refusal x =
      only_flip (told (plan l) l b) x (only_variable (told (plan l) l b) x told_opens told_tallies) ∙ ap (λ p. flip_fault p x) (told_plan l b)

  -- What an accepted flip leaves is told by the flipped bits.
  module _ (x : ℕ) (v : is_variable (plan l) x ≡ true) (k : is_locked (plan l) x ≡ false) where
    flipped : turned (told (plan l) l b).assignment x ≡ (told (plan l) l (flip b x)).assignment
    unfolding told
    flipped =
        let h = variable_range (plan l) x v in
        turned_bytes b (drop (plan l).variables l.assignment) x h.0 (rw size h.1)

    flipped_bits : bits_of (plan l).variables (turned (told (plan l) l b).assignment x) ≡ flip b x
    flipped_bits = ap (bits_of (plan l).variables) flipped ∙ told_bits l (flip b x) (length_flip b x ∙ size)

    pub told_flip : left_by (told (plan l) l b) (flip_call x) ≡ told (plan l) l (flip b x)
    unfolding left_by flip_assignment flip_tallies told plan
    told_flip =
        rw (told_flip_refusal x, v, k)
        (ap₂ (with_both l) flipped (ap₂ (λ c ts. tally_bytes (fresh_count (plan l) c) ++ ts) flipped_bits (drop_fresh (plan l) (plan_fits l o) b (drop tally_size l.tallies))))

  pub told_left : (c : Call) → left_by (told (plan l) l b) c ≡ told (plan l) l (entry (plan l) b c).bits
  unfolding entry refusal
  told_left (flip_call x) =
      one_of (plan l) x (λ v k. rw (v, k) (told_flip x v k))
      (λ v k. rw (v, k) (refused_left (told (plan l) l b) x {k = 25} (rw (told_flip_refusal x, v, k))))
      (λ v. rw v (refused_left (told (plan l) l b) x {k = 22} (rw (told_flip_refusal x, v))))
  told_left (counts_call x) =
      either (is_variable (plan l) x) (λ e. rw e (counts_left (told (plan l) l b) x)) (λ e. rw e (counts_left (told (plan l) l b) x))

  pub told_answer : (c : Call) → answer (told (plan l) l b) c ≡ (entry (plan l) b c).answer
  unfolding answer entry refusal flip_rules counts_break counts_make
  told_answer (flip_call x) =
      one_of (plan l) x (λ v k. rw (told_flip_refusal x, v, k, told_plan l b)) (λ v k. rw (told_flip_refusal x, v, k)) (λ v. rw (told_flip_refusal x, v))
  told_answer (counts_call x) =
      either (is_variable (plan l) x) (λ e. rw (told_refusal x, e, told_plan l b, told_bits l b size)) (λ e. rw (told_refusal x, e))

-- ---- a list of calls

entry_size : (p : Plan) (b : Assignment) (c : Call) → length (entry p b c).bits ≡ length b
unfolding entry refusal
entry_size p b (flip_call x) = one_of p x (λ v k. rw (v, k) (length_flip b x)) (λ v k. rw (v, k)) (λ v. rw v)
entry_size p b (counts_call x) = either (is_variable p x) (λ e. rw e) (λ e. rw e)

pub book_size : (p : Plan) (b : Assignment) (cs : List Call) → length (book p b cs).bits ≡ length b
unfolding book
book_size p b [] = refl
book_size p b (c ∷ cs) = book_size p (entry p b c).bits cs ∙ entry_size p b c

module _ (l : Lent) (o : Opens l) where
  pub answers_of_book : (b : Assignment) (cs : List Call) → length b ≡ (plan l).variables → answers (told (plan l) l b) cs ≡ (book (plan l) b cs).answers
  unfolding answers book
  answers_of_book b [] size = refl
  answers_of_book b (c ∷ cs) size =
      ap₂ ◌∷◌ (told_answer l o b size c)
      (ap (λ m. answers m cs) (told_left l o b size c) ∙ answers_of_book (entry (plan l) b c).bits cs (entry_size (plan l) b c ∙ size))

  pub after_book : (b : Assignment) (cs : List Call) → length b ≡ (plan l).variables → after (told (plan l) l b) cs ≡ told (plan l) l (book (plan l) b cs).bits
  unfolding after book
  after_book b [] size = refl
  after_book b (c ∷ cs) size =
      ap (λ m. after m cs) (told_left l o b size c) ∙ after_book (entry (plan l) b c).bits cs (entry_size (plan l) b c ∙ size)

  -- What opening leaves is the first of these states; and so is what is lent to an accepted call.
  pub opened_told : opened l ≡ told (plan l) l (bits l)
  unfolding opened open_tallies told fresh_bytes
  opened_told =
      rw (opens_accepted l o)
      (ap (λ a. with_both l a (fresh_bytes l ++ drop tally_size l.tallies)) (whole_bytes (plan l).variables l.assignment o.bits))

  pub lent_told : take tally_size l.tallies ≡ fresh_bytes l → l ≡ told (plan l) l (bits l)
  unfolding told fresh_bytes
  lent_told e =
      ap₂ (with_both l) (whole_bytes (plan l).variables l.assignment o.bits)
      (sym (take-append-drop tally_size l.tallies) ∙ ap (λ ts. ts ++ drop tally_size l.tallies) e)
