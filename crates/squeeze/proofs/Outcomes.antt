-- What the code works out by the map is the outcome by the plan, case by case of the order of checks.
-- Assumes nothing.
use Prim.Native.Nat.{ℕ, suc, ◌+◌, ◌-◌, ◌≤◌, ◌<◌}
use native.Mathlib.Omega.{arith}
use mathlib.Core.Path.{◌≡◌, refl, sym, ap, ap₂, ◌∙◌, subst}
use mathlib.Core.Bool.{Bool, true, false, not, cond}
use mathlib.Core.List.{List, [], ◌∷◌, ◌++◌, append_assoc}
use lib.Dec.{eqb}
use lib.IntN.{pos}
use Rattle.std.specs.Prelude.{Option, None, Some}
use lib.ListN.{length, drop, replicate, length-append, length-replicate}
use borrow.Author.Tests.{ne_eqb, lt-ltb, le-ltb}
use Rattle.plpb.specs.Lists.{◌and◌, keep, count, any, is_empty, row}
use Rattle.plpb.specs.Plan.{Bound, absent, present, Plan, lock_of, is_locked, is_present}
use Rattle.plpb.proofs.Lists.{count_le, length_row}
use Rattle.words.specs.Words.{bytes_of, word_at, word_bytes}
use Rattle.words.specs.Writes.{front}
use Rattle.words.proofs.Words.{length_word_bytes}
use Rattle.format.specs.Tables.{pad_with, pad_to}
use Rattle.format.specs.File.{Reading, refused, accepted, read}
use Rattle.format.specs.Writer.{field, lock_field, file_with, write}
use Rattle.verdict.specs.Answers as Judged
use Rattle.verdict.specs.Answers.{Answer, Refused}
use Rattle.tables.specs.Places.{plan_of_file}
use Rattle.squeezed.specs.Squeezed.{Becomes, locked, renumbered, is_unlocked, unlocked, new_number, under_lock, becomes, given_total, clauses_left, squeezed, constant, all_locked, clause_lost}
use Rattle.squeezed.proofs.Numbers.{in_range_lem}
use Rattle.fates.specs.Codes.{decode, decoded}
use Rattle.numbering.specs.Numbered.{is_number}
use Rattle.numbering.proofs.Filling.{same_keep}
use Rattle.rewriting.specs.Written.{terms_written, clauses_written}
use Rattle.squeeze.specs.declared.Squeezed.{Squeezed}
use Rattle.squeeze.specs.declared.Unfit.{Unfit}
use Rattle.squeeze.specs.declared.Unfit.TheVariants.{AllLocked, ClauseLost}
use Rattle.squeeze.specs.Calls.{Outcome, Answers, fault_number, turned_away, rewritten, squeezing, by_reading, outcome, list_size}
use Rattle.squeeze.specs.Rewritten.{front_bytes, file_bytes}

-- ---- the list

-- A full list written over the first places of what is lent.
pub list_whole : (ws o ys : List ℕ) → length ws ≤ 512 → ys ≡ word_bytes (pad_to 512 ws) → ys ++ drop list_size o ≡ front (word_bytes (pad_to 512 ws)) o
unfolding front pad_with
list_whole ws o ys h e =
    let n : length (word_bytes (pad_to 512 ws)) ≡ list_size =
    length_word_bytes (pad_to 512 ws) ∙ omega (arith, length-append ws (replicate (512 - length ws) 0), length-replicate {A = ℕ} (512 - length ws) 0) in
    ap₂ (λ a k. a ++ drop k o) e (sym n)

pub list_short : (q : ℕ → Bool) (n : ℕ) → n ≤ 512 → length (keep q (row 1 n)) ≤ 512
unfolding count
list_short q n h = omega (arith, count_le q (row 1 n), length_row 1 n)

-- A code that is a new number is an unlocked variable's.
unfoldable is_new : Becomes → Bool
is_new (locked v) = false
is_new (renumbered k) = true

number_by : (s t : Bool) (w : ℕ) → (not s and not t) ≡ is_new (cond s (locked false) (cond t (locked true) (renumbered w)))
unfolding is_new ◌and◌
number_by true t w = refl
number_by false true w = refl
number_by false false w = refl

number_is : (w : ℕ) → is_number w ≡ is_new (decode w)
unfolding is_number decode
number_is w = number_by (eqb w 513) (eqb w 514) w

new_by : (b : Bound Bool) (k : ℕ) → is_new (under_lock b k) ≡ not (is_present b)
unfolding is_new under_lock is_present
new_by absent k = refl
new_by (present v) k = refl

-- ---- by the map

module _ (p : Plan) (m : List ℕ) (says : (x : ℕ) → decoded m x ≡ becomes p x) where
  same : decoded m ≡ becomes p
  same = λ i x. says x i

  new_is : (x : ℕ) → 1 ≤ x → x < 1 + p.variables → is_number (word_at m x) ≡ is_unlocked p x
  unfolding decoded becomes is_unlocked is_locked
  new_is x l u =
      let range = in_range_lem p x l (omega arith) in
      number_is (word_at m x) ∙ ap is_new (says x ∙ (let e : becomes p x ≡ under_lock (lock_of p x) (new_number p x) = rw range in e))
      ∙ new_by (lock_of p x) (new_number p x)

  pub list_is : keep (λ x. is_number (word_at m x)) (row 1 p.variables) ≡ unlocked p
  unfolding unlocked
  list_is = same_keep (λ x. is_number (word_at m x)) (is_unlocked p) 1 p.variables new_is

  pub constant_is : given_total (decoded m) p.objective ≡ constant p
  unfolding constant
  constant_is = ap (λ f. given_total f p.objective) same

  joined : (a b c d : List ℕ) → ((a ++ b) ++ c) ++ d ≡ a ++ (b ++ ([] ++ (c ++ d)))
  joined a b c d = append_assoc (a ++ b) c d ∙ append_assoc a b (c ++ d)

  bytes_are : file_bytes (becomes p) (length (unlocked p)) p ≡ write (squeezed p)
  unfolding file_bytes front_bytes write file_with squeezed lock_field terms_written clauses_written
  bytes_are = joined (field 1 (bytes_of 2 (length (unlocked p)))) (field 2 (terms_written (becomes p) p.objective)) (clauses_written (becomes p) p.clauses) (field 5 [])

  pub file_is : (v : ℕ) → v ≡ length (unlocked p) → file_bytes (decoded m) v p ≡ write (squeezed p)
  file_is v e = ap₂ (λ f k. file_bytes f k p) same e ∙ bytes_are

  lost_is : any is_empty (clauses_left (decoded m) p.clauses) ≡ clause_lost p
  unfolding clause_lost squeezed
  lost_is = ap (λ f. any is_empty (clauses_left f p.clauses)) same

  all_is : (xs : List ℕ) → eqb (length xs) 0 ≡ is_empty xs
  unfolding is_empty
  all_is [] = refl
  all_is (x ∷ xs) = ne_eqb (suc (length xs)) 0 (λ e. omega arith)

  -- Which fault there is.
  module _ {v k : ℕ} (left : v ≡ length (unlocked p))
      (fault : k ≡ cond (eqb v 0) 71 (cond (any is_empty (clauses_left (decoded m) p.clauses)) 72 0)) where
    fault_is : k ≡ cond (all_locked p) 71 (cond (clause_lost p) 72 0)
    unfolding all_locked
    fault_is = fault ∙ ap₂ (λ a b. cond a 71 (cond b 72 0)) (ap (λ n. eqb n 0) left ∙ all_is (unlocked p)) lost_is

    turned_by : (a b : Bool) (file old : List ℕ) → k ≡ cond a 71 (cond b 72 0) → (k ≡ 0 → ⊥)
        → cond a (turned_away 71 0 file old) (cond b (turned_away 72 0 file old) (rewritten p file old)) ≡ turned_away k 0 file old
    turned_by true b file old e n = ap (λ j. turned_away j 0 file old) (sym e)
    turned_by false true file old e n = ap (λ j. turned_away j 0 file old) (sym e)
    turned_by false false file old e n = absurd (n e)

    pub turned : (file old : List ℕ) → (k ≡ 0 → ⊥) → squeezing p file old ≡ turned_away k 0 file old
    unfolding squeezing
    turned file old n = turned_by (all_locked p) (clause_lost p) file old fault_is n

    through_by : (a b : Bool) (file old : List ℕ) → k ≡ cond a 71 (cond b 72 0) → k ≡ 0
        → cond a (turned_away 71 0 file old) (cond b (turned_away 72 0 file old) (rewritten p file old)) ≡ rewritten p file old
    through_by true b file old e z = absurd (omega arith)
    through_by false true file old e z = absurd (omega arith)
    through_by false false file old e z = refl

    pub through : (file old : List ℕ) → k ≡ 0 → squeezing p file old ≡ rewritten p file old
    unfolding squeezing
    through file old z = through_by (all_locked p) (clause_lost p) file old fault_is z

-- A fault has a number.
pub no_fault : (f : Unfit) → fault_number (Some f) ≡ 0 → ⊥
unfolding fault_number
no_fault AllLocked e = omega (arith, e)
no_fault ClauseLost e = omega (arith, e)

pub none_is_0 : {o : Option Unfit} → o ≡ None → fault_number o ≡ 0
unfolding fault_number
none_is_0 e = rw e

-- ---- the answer and the bytes

-- What an answer, a file and a list are to be.
abbrev pub Is : Squeezed → List ℕ → List ℕ → Outcome → Type 0
Is r file old o = Answers r o × ((file ≡ o.file) × (old ≡ o.old))

abbrev pub Refuses : Squeezed → ℕ → ℕ → Type 0
Refuses r k at = (r.refusal ≡ k) × (r.offset ≡ at) × (r.length ≡ 0) × (r.constant ≡ pos 0)

pub is_turned : (r : Squeezed) (k at : ℕ) (file old : List ℕ) {o : Outcome} → o ≡ turned_away k at file old → Refuses r k at → Is r file old o
unfolding turned_away
is_turned r k at file old e h = subst (λ o. Is r file old o) (sym e) (h, (refl, refl))

module _ (p : Plan) (m : List ℕ) (says : (x : ℕ) → decoded m x ≡ becomes p x) (r : Squeezed) (file old file' old' : List ℕ) {v : ℕ} where
  pub is_rewritten : {o : Outcome} → o ≡ rewritten p file old → v ≡ length (unlocked p)
      → (r.refusal ≡ 0) × (r.offset ≡ 0) × (r.length ≡ length (file_bytes (decoded m) v p)) × (r.constant ≡ given_total (decoded m) p.objective)
      → file' ≡ pad_to (length file) (file_bytes (decoded m) v p)
      → old' ≡ front (word_bytes (pad_to 512 (keep (λ x. is_number (word_at m x)) (row 1 p.variables)))) old → Is r file' old' o
  unfolding rewritten
  is_rewritten e left (a, b, c, d) f g =
      let is = file_is p m says v left in
      subst (λ o. Is r file' old' o) (sym e) (
        (a, b, c ∙ ap length is, d ∙ constant_is p m says),
        (f ∙ ap (pad_to (length file)) is, g ∙ ap (λ xs. front (word_bytes (pad_to 512 xs)) old) (list_is p m says)),
      )

-- ---- the order of checks

pub small_list : (file old : List ℕ) → length old < list_size → outcome file old ≡ turned_away 21 0 file old
unfolding outcome
small_list file old h = rw (lt-ltb (length old) list_size h)

large_list : (file old : List ℕ) → list_size ≤ length old → outcome file old ≡ by_reading (read file) file old
unfolding outcome
large_list file old h = rw (le-ltb (length old) list_size h)

refused_reading : (x : Reading Plan) (n at : ℕ) (file old : List ℕ) → Refused n at ≡ Judged.outcome x → by_reading x file old ≡ turned_away n at file old
unfolding by_reading Judged.outcome Judged.refusal_of Judged.offset_of
refused_reading (refused k o) n at file old e = ap₂ (λ a b. turned_away a b file old) (sym (ap Judged.refusal_of e)) (sym (ap Judged.offset_of e))
refused_reading (accepted p) n at file old e = absurd (let z : ◌≡◌ {A = ℕ} 0 1 = cc in omega arith)

pub refused_file : (file old : List ℕ) (a : Answer) (n at : ℕ) (r : Squeezed) → list_size ≤ length old → a ≡ Judged.outcome (read file) → a ≡ Refused n at
    → Refuses r (Judged.refusal_of a) (Judged.offset_of a) → Is r file old (outcome file old)
unfolding Judged.refusal_of Judged.offset_of
refused_file file old a n at r h e d (x, y, z, w) =
    is_turned r n at file old (large_list file old h ∙ refused_reading (read file) n at file old (sym d ∙ e))
    (x ∙ ap Judged.refusal_of d, y ∙ ap Judged.offset_of d, z, w)

accepted_file : (file old : List ℕ) → list_size ≤ length old → read file ≡ accepted (plan_of_file file)
    → outcome file old ≡ squeezing (plan_of_file file) file old
unfolding by_reading
accepted_file file old h e = large_list file old h ∙ ap (λ x. by_reading x file old) e

pub is_squeezed : (r : Squeezed) (file old file' old' : List ℕ) → list_size ≤ length old → read file ≡ accepted (plan_of_file file)
    → Is r file' old' (squeezing (plan_of_file file) file old) → Is r file' old' (outcome file old)
is_squeezed r file old file' old' h e = subst (λ o. Is r file' old' o) (sym (accepted_file file old h e))
