-- Work tables of the same lengths give a race the same answer and assignment, and a search leaves work tables of the lengths that it was lent: so it is
-- all one whether races are searched one after another or each by itself.
-- Assumes nothing.
use Prim.Native.Nat.{ℕ, ◌≤◌}
use native.Mathlib.Omega.{arith}
use mathlib.Core.Path.{◌≡◌, refl, sym, ap, ap₂, ◌∙◌, subst}
use mathlib.Core.Bool.{Bool, true, false, cond}
use mathlib.Core.List.{List, [], ◌∷◌, ◌++◌, map}
use lib.Dec.{eqb}
use lib.ListN.{length, drop, replicate, length-append, length-drop, length-replicate}
use lib.Seq.{drop_at}
use borrow.Author.Tests.{eqb-true}
use Rattle.plpb.specs.Lists.{◌or◌, any}
use Rattle.format.specs.Layout.{table_size, term_size}
use Rattle.columns.specs.Layout.{column_size, kept_size}
use Rattle.format.specs.Assignment.{assignment_size}
use Rattle.lending.specs.Lent.{too_small, search_refusal}
use Rattle.search.specs.Calls.{answer, search_assignment, cleared, unless}
use Rattle.search.proofs.Refusing.{accepted}
use Rattle.festival.specs.Own.{Works, works, Entry, lent_to, answered, Raced, own, leaves, in_turn, left_by, accepts, clear, SameRoom, Apart}

-- ---- a race with other work tables

module _ {w v : Works} (e : Entry) (same : SameRoom w v) where
  same_refusal : search_refusal (lent_to w e) e.asked ≡ search_refusal (lent_to v e) e.asked
  unfolding search_refusal too_small
  same_refusal = rw (same.tables, same.terms, same.assignment, same.tallies, same.marks)

  same_accepts : accepts w e ≡ accepts v e
  unfolding accepts
  same_accepts = ap (λ (n : ℕ). eqb n 0) same_refusal

  pub same_own : own w e ≡ own v e
  unfolding own answered unless search_assignment answer
  same_own = rw same_refusal

-- ---- what a search leaves

clear_length : (n : ℕ) (s : List ℕ) → n ≤ length s → length (replicate n 0 ++ drop n s) ≡ length s
clear_length n s h = omega (arith, length-append (replicate n 0) (drop n s), length-replicate {A = ℕ} n 0, length-drop n s, h)

clear_again : (n : ℕ) (s : List ℕ) → replicate n 0 ++ drop n (replicate n 0 ++ drop n s) ≡ replicate n 0 ++ drop n s
clear_again n s = ap (λ (t : List ℕ). replicate n 0 ++ t) (drop_at (replicate n 0) (drop n s) n (length-replicate {A = ℕ} n 0))

pub same_works : {a b c d m a' b' c' d' m' : List ℕ} → a ≡ a' → b ≡ b' → c ≡ c' → d ≡ d' → m ≡ m' → works a b c d m ≡ works a' b' c' d' m'
same_works {a} {b} {c} {d} {m} {a'} {b'} {c'} {d'} {m'} ea eb ec ed em =
    ap (λ (x : List ℕ). works x b c d m) ea ∙ ap (λ (x : List ℕ). works a' x c d m) eb ∙ ap (λ (x : List ℕ). works a' b' x d m) ec
    ∙ ap (λ (x : List ℕ). works a' b' c' x m) ed ∙ ap (λ (x : List ℕ). works a' b' c' d' x) em

cleared_twice : (w : Works) → clear (clear w) ≡ clear w
unfolding clear
cleared_twice w =
    same_works (clear_again table_size w.tables) (clear_again term_size w.terms) (clear_again assignment_size w.assignment)
    (clear_again kept_size w.tallies) (clear_again column_size w.marks)

pub leaves_is : (w : Works) (e : Entry) → leaves w e ≡ cond (accepts w e) (clear w) w
unfolding leaves cleared accepts clear
leaves_is w e = by (eqb (search_refusal (lent_to w e) e.asked) 0)
  where
    by : (b : Bool) →
        record {
          tables = cond b (replicate table_size 0 ++ drop table_size w.tables) w.tables;
          terms = cond b (replicate term_size 0 ++ drop term_size w.terms) w.terms;
          assignment = cond b (replicate assignment_size 0 ++ drop assignment_size w.assignment) w.assignment;
          tallies = cond b (replicate kept_size 0 ++ drop kept_size w.tallies) w.tallies;
          marks = cond b (replicate column_size 0 ++ drop column_size w.marks) w.marks;
        }
        ≡ cond b
        (record {
          tables = replicate table_size 0 ++ drop table_size w.tables;
          terms = replicate term_size 0 ++ drop term_size w.terms;
          assignment = replicate assignment_size 0 ++ drop assignment_size w.assignment;
          tallies = replicate kept_size 0 ++ drop kept_size w.tallies;
          marks = replicate column_size 0 ++ drop column_size w.marks;
        })
        w
    by true = refl
    by false = refl

pub same_room : (w : Works) (e : Entry) → SameRoom (leaves w e) w
same_room w e = subst (λ (v : Works). SameRoom v w) (sym (leaves_is w e)) (by (accepts w e) refl)
  where
    by : (b : Bool) → accepts w e ≡ b → SameRoom (cond b (clear w) w) w
    by true h =
        let s = accepted (lent_to w e) e.asked (eqb-true _ _ (unfold accepts in h)) in
        unfold clear in
        record {
          tables = clear_length table_size w.tables s.work_long;
          terms = clear_length term_size w.terms s.work_long_terms;
          assignment = clear_length assignment_size w.assignment s.work.assignment;
          tallies = clear_length kept_size w.tallies s.work.tallies;
          marks = clear_length column_size w.marks s.work.marks;
        }
    by false h = record { tables = refl; terms = refl; assignment = refl; tallies = refl; marks = refl }

-- ---- any number of races

owns : {w v : Works} (es : List Entry) → SameRoom w v → map (own w) es ≡ map (own v) es
owns [] s = refl
owns (e ∷ es) s = ap₂ ◌∷◌ (same_own e s) (owns es s)

anys : {w v : Works} (es : List Entry) → SameRoom w v → any (accepts w) es ≡ any (accepts v) es
unfolding any
anys [] s = refl
anys (e ∷ es) s = ap₂ ◌or◌ (same_accepts e s) (anys es s)

in_turn_lem : (w : Works) (es : List Entry) → in_turn w es ≡ map (own w) es
unfolding in_turn
in_turn_lem w [] = refl
in_turn_lem w (e ∷ es) = ap (λ (rs : List Raced). own w e ∷ rs) (in_turn_lem (leaves w e) es ∙ owns es (same_room w e))

pub left : (w : Works) (es : List Entry) → left_by w es ≡ cond (any (accepts w) es) (clear w) w
unfolding left_by any
left w [] = refl
left w (e ∷ es) =
    left (leaves w e) es ∙ ap (λ (b : Bool). cond b (clear (leaves w e)) (leaves w e)) (anys es (same_room w e))
    ∙ ap (λ (v : Works). cond (any (accepts w) es) (clear v) v) (leaves_is w e) ∙ by (accepts w e) (any (accepts w) es)
  where
    by : (b c : Bool) → cond c (clear (cond b (clear w) w)) (cond b (clear w) w) ≡ cond (b or c) (clear w) w
    by true true = unfold ◌or◌ in cleared_twice w
    by true false = unfold ◌or◌ in refl
    by false true = unfold ◌or◌ in refl
    by false false = unfold ◌or◌ in refl

pub apart : Apart
apart = record { alone = λ w v e s. same_own e s; in_turn = in_turn_lem; left = left }
