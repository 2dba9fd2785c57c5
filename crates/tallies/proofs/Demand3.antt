-- Demand 3: a list of calls keeps to the states that bits tell, where each call is the book's entry; and a value turns once with each flip that names it.
use Prim.Native.Nat.{ℕ, zero, suc, ◌+◌, ◌%◌, ◌≤◌}
use native.Mathlib.Nat.{zero-add}
use native.Mathlib.Numerals.{one-add}
use native.Mathlib.Omega.{arith}
use mathlib.Core.Path.{◌≡◌, refl, sym, ap, subst, ◌∙◌}
use mathlib.Core.Logic.{◌↔◌, ◌≢◌}
use mathlib.Core.Bool.{Bool, true, false, not, cond, true≢false, false≢true}
use mathlib.Core.List.{List, [], ◌∷◌}
use borrow.Author.Tests.{eqb-true, eqb-false}
use lib.Dec.{eqb}
use lib.ListN.{length}
use Rattle.plpb.specs.Lists.{◌and◌}
use Rattle.plpb.specs.Plan.{Plan, Assignment, value, flip, is_variable}
use Rattle.plpb.specs.Book.{Call, flip_call, counts_call, refusal, entry, book}
use Rattle.plpb.proofs.Lists.{not_not}
use Rattle.plpb.proofs.Flip.{length_flip, flip_same, flip_other}
use Rattle.format.proofs.Accepted.{accepted_lawful}
use Rattle.format.proofs.Lawful.{lawful_roomy}
use Rattle.format.proofs.ReadBack.{read_back}
use Rattle.tallies.specs.Calls.{Lent, plan, bits, told}
use Rattle.tallies.specs.Narrow.{is_refused, is_flip_of}
use Rattle.tallies.specs.Demand.{answers, after, opened, flips_of, end, account, Agrees, Demand3}
use Rattle.tallies.proofs.Bits.{length_bits_of, length_bit_bytes}
use Rattle.tallies.proofs.TallyBytes.{length_fresh}
use Rattle.tallies.proofs.Refusals.{either, one_of, Opens, opens, assignment_room, plan_fits}
use Rattle.tallies.proofs.Steps.{told_bits, book_size, answers_of_book, after_book, opened_told}
use Rattle.tallies.proofs.Narrow.{each_call}

-- ---- odd and even

-- A value turned over k times.
turns : ℕ → Bool → Bool
turns zero v = v
turns (suc k) v = not (turns k v)

turns_not : (k : ℕ) (v : Bool) → turns k (not v) ≡ not (turns k v)
unfolding turns
turns_not zero v = refl
turns_not (suc k) v = ap not (turns_not k v)

turned_odd : (k : ℕ) (v : Bool) → (turns k v ≢ v) ↔ (k % 2 ≡ 1)
unfolding turns
turned_odd zero v = (λ h. absurd (h refl), λ e. omega arith)
turned_odd (suc zero) true = (λ h. refl, λ e. false≢true)
turned_odd (suc zero) false = (λ h. refl, λ e. true≢false)
turned_odd (suc (suc k)) v =
    rw not_not (λ h. let e : k % 2 ≡ 1 = (turned_odd k v).0 h in omega arith, λ e. (turned_odd k v).1 (omega arith))

-- ---- the book's bits turn once with each accepted flip

one_flip_lem : (b : Assignment) (x y k : ℕ) → 1 ≤ x → x ≤ length b → turns k (value (flip b y) x) ≡ turns (cond (eqb y x and true) 1 0 + k) (value b x)
unfolding turns ◌and◌
one_flip_lem b x y k low high =
    either (eqb y x)
    (λ e. rw (e, eqb-true y x e, one-add, flip_same b x low high) (turns_not k (value b x)))
    (λ e. rw (e, zero-add, flip_other b y x (λ q. eqb-false y x e (sym q))))

no_flip : (x y k : ℕ) → cond (eqb y x and false) 1 0 + k ≡ k
unfolding ◌and◌
no_flip x y k = either (eqb y x) (λ e. rw (e, zero-add)) (λ e. rw (e, zero-add))

value_turns : (p : Plan) (x : ℕ) (b : Assignment) (cs : List Call) → 1 ≤ x → x ≤ length b → value (book p b cs).bits x ≡ turns (flips_of x cs (book p b cs).answers) (value b x)
unfolding book flips_of entry refusal turns is_flip_of is_refused
value_turns p x b [] low high = refl
value_turns p x b (flip_call y ∷ cs) low high =
    one_of p y
    (λ v k. rw (v, k, book) (value_turns p x (flip b y) cs low (rw length_flip high) ∙ one_flip_lem b x y _ low high))
    (λ v k. rw (v, k, book, no_flip x y) (value_turns p x b cs low high))
    (λ v. rw (v, book, no_flip x y) (value_turns p x b cs low high))
value_turns p x b (counts_call y ∷ cs) low high =
    either (is_variable p y) (λ e. rw (e, book, zero-add) (value_turns p x b cs low high)) (λ e. rw (e, book, zero-add) (value_turns p x b cs low high))

-- ---- the whole list

module _ (l : Lent) (o : Opens l) (cs : List Call) where
  lent_bits_lem : Assignment
  lent_bits_lem = bits l

  lent_size : length lent_bits_lem ≡ (plan l).variables
  unfolding lent_bits_lem
  lent_size = length_bits_of (plan l).variables l.assignment (assignment_room l o)

  end_told : end l cs ≡ told (plan l) l (account (plan l) l cs).bits
  unfolding lent_bits_lem
  end_told = ap (λ m. after m cs) (opened_told l o) ∙ after_book l o lent_bits_lem cs lent_size

  end_size : length (account (plan l) l cs).bits ≡ (plan l).variables
  unfolding lent_bits_lem
  end_size = book_size (plan l) lent_bits_lem cs ∙ lent_size

  end_answers : answers (opened l) cs ≡ (account (plan l) l cs).answers
  unfolding lent_bits_lem
  end_answers = ap (λ m. answers m cs) (opened_told l o) ∙ answers_of_book l o lent_bits_lem cs lent_size

  pub agrees : Agrees (plan l) l cs
  unfolding lent_bits_lem
  agrees =
      let b = (account (plan l) l cs).bits in
      record {
        same_answers = end_answers;
        same_state = end_told;
        bits_size = length_bit_bytes b ∙ end_size;
        tallies_size = length_fresh (plan l) (plan_fits l o) b;
        odd_flips = λ x low high. rw (end_told, told_bits l b end_size, end_answers, value_turns (plan l) x lent_bits_lem cs low (rw lent_size high)) (turned_odd (flips_of x cs (account (plan l) l cs).answers) (value lent_bits_lem x));
        each_step = each_call (plan l) (opened l) cs (unfold opened plan in refl);
      }

-- The plan of the file is the plan read back from the tables that hold it.
pub demand3 : Demand3
unfolding plan
demand3 file p l cs e h z =
    subst (λ q. Agrees q l cs) (read_back p l.tables l.terms (lawful_roomy p (accepted_lawful file p e)) h) (agrees l (opens l z) cs)
