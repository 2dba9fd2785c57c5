-- The lists in the words of the marks, as one entry of a run after another is gone through.
-- Assumes nothing.
use Prim.Native.Nat.{ℕ, suc, ◌+◌, ◌*◌, ◌-◌, ◌≤◌, ◌<◌}
use native.Mathlib.Decide.{ℕ_discrete, dec_le}
use native.Mathlib.Nat.{lt_of_not-le}
use native.Mathlib.Numerals.{add-one}
use native.Mathlib.Omega.{arith}
use borrow.Author.Tests.{eq-eqb, ne_eqb, lt-ltb, le-ltb}
use mathlib.Core.Path.{◌≡◌, refl, sym, ap, ap₂, subst, ◌∙◌}
use mathlib.Core.Bool.{Bool, true, false}
use mathlib.Core.List.{List, [], ◌∷◌, ◌++◌}
use lib.Dec.{ltb, eqb}
use lib.ListN.{length, get_or, replicate, length-append, get_or-append}
use lib.Seq.{get_or-append_seam}
use Rattle.plpb.specs.Lists.{◌and◌}
use Rattle.plpb.specs.Plan.{Plan, is_locked}
use borrow.Rule.Slice.PartMut.{put_mid}
use Rattle.std.proofs.lemmas.List.{length-replicate}
use Rattle.words.specs.Words.{word_at, word_bytes}
use Rattle.words.specs.Writes.{Wrote, put, put_words}
use Rattle.words.proofs.Writes.{word_wrote, lent_part, word_bytes_zeros}
use Rattle.order.specs.Order.{Place, occurrences, word_place}
use Rattle.order.proofs.Runs.{Named}
use Rattle.format.specs.Layout.{end_at, entry_at, lock_at, term_room, clause_room}
use Rattle.format.specs.Tables.{plan_of_tables}
use Rattle.format.proofs.Arranged.{Arranged}
use Rattle.format.proofs.ReadBack.{holds_arranged}
use Rattle.format.proofs.Placed.{get_d_row}
use Rattle.format.proofs.LockWords.{lock_word_lem, word_locked}
use Rattle.format.proofs.Spells.{spells_all, spells_map}
use Rattle.recount.specs.Core.{Laid}
use Rattle.recount.proofs.Laid.{parts, sections, clauses_word, variables_word}
use Rattle.columns.specs.Layout.{column_size, column_word_count, list_at, list_count_at}
use Rattle.columns.specs.Columns.{no_place, terms_ahead, words_from, Listed}
use Rattle.columns.specs.Frames.{Only}
use Rattle.columns.proofs.Frames.{only_next, only_wider, wrote_only}
use Rattle.columns.proofs.Entries.{run_size, run_few, run_named, run_place}
use Rattle.listing.specs.Listing.{reached_by, list_to, ListOf, Listing}
use Rattle.listing.proofs.Filling.{part_only, zero_word}
use Rattle.listing.proofs.Reaching.{ahead_next, ahead_rise, ahead_all, list_first, list_last, list_passed, list_locked, list_few, list_beside, list_there, list_longer, ends_there, ends_elsewhere}

-- ---- a list in words

list_at_lem : (p : Plan) (xs : List ℕ) (f : ℕ → ℕ) (d : ℕ) → ListOf p xs f d → (j : ℕ) → j < length xs → f (list_at (terms_ahead p d) + j) ≡ get_or xs j 0
unfolding words_from
list_at_lem p xs f d l j h = sym (get_d_row f (list_at (terms_ahead p d)) (length xs) j 0 h) ∙ ap (λ ys. get_or ys j 0) l.listed

list_told : (p : Plan) (xs : List ℕ) (f : ℕ → ℕ) (d : ℕ) → f (list_count_at d) ≡ length xs → ((j : ℕ) → j < length xs → f (list_at (terms_ahead p d) + j) ≡ get_or xs j 0) → ListOf p xs f d
unfolding words_from
list_told p xs f d e each = record { counted = e; listed = spells_map f (list_at (terms_ahead p d)) xs (spells_all f (list_at (terms_ahead p d)) xs 0 each) }

-- ---- one entry

pub variables_few : {tables terms : List ℕ} → Laid tables terms → (plan_of_tables tables terms).variables ≤ 512
variables_few {tables} {terms} l = (parts tables terms l).high

module _ {tables terms : List ℕ} (l : Laid tables terms) {x k : ℕ} (low : 1 ≤ x) (high : x ≤ (plan_of_tables tables terms).variables) (from : word_at tables (end_at (x - 1)) ≤ k) (to : k < word_at tables (end_at x)) where
  abbrev p : Plan
  p = plan_of_tables tables terms

  arranged : Arranged (plan_of_tables tables terms) (word_at tables)
  arranged = holds_arranged p (parts tables terms l) tables terms l.holds

  i : ℕ
  i = k - word_at tables (end_at (x - 1))

  inside : k - word_at tables (end_at (x - 1)) < length (occurrences (plan_of_tables tables terms) x)
  inside = omega (arith, run_size p (parts tables terms l) (word_at tables) (word_at terms) (sections tables terms l) arranged x low high)

  abbrev q : Place
  q = get_or (occurrences p x) (k - word_at tables (end_at (x - 1))) no_place

  named : Named (plan_of_tables tables terms) x q
  named = run_named p (parts tables terms l) (word_at tables) (word_at terms) (sections tables terms l) arranged x low high _ inside

  pub entry_few : k < term_room
  entry_few = omega (arith, run_few p (parts tables terms l) (word_at tables) (word_at terms) (sections tables terms l) arranged x low high)

  module _ {w c : ℕ} (e : w ≡ word_at tables (entry_at k)) (f : c ≡ (word_place w).clause) where
    clause_here : c ≡ q.clause
    clause_here =
        let z : k ≡ word_at tables (end_at (x - 1)) + (k - word_at tables (end_at (x - 1))) = omega arith in
        f ∙ ap (λ o. o.clause) (ap word_place (e ∙ ap (λ n. word_at tables (entry_at n)) z) ∙ run_place p (parts tables terms l) (word_at tables) (word_at terms) (sections tables terms l) arranged x low high _ inside)

    pub below : c < length (plan_of_tables tables terms).clauses
    below = rw clause_here named.clause_there

    pub clause_few : c < clause_room
    clause_few = omega (arith, below, (parts tables terms l).clause_count)

    module _ {at : ℕ} (start_here : at ≡ terms_ahead (plan_of_tables tables terms) c) where
      module _ (free : is_locked (plan_of_tables tables terms) x ≡ false) {s : List ℕ} (y : Listing (plan_of_tables tables terms) x (k - word_at tables (end_at (x - 1))) s) {n : ℕ} (u : n ≡ word_at s (list_count_at c)) where
        abbrev L : List ℕ
        L = list_to p x (k - word_at tables (end_at (x - 1))) c

        told : ListOf p L (word_at s) c
        told = y.each c below

        long : n ≡ length L
        long = u ∙ told.counted

        pub list_room : at + n ≤ term_room
        list_room = omega (arith, start_here, long, list_few p x low free c below (k - word_at tables (end_at (x - 1))), ahead_next p c below, ahead_all p (suc c), (parts tables terms l).terms)

        -- The test says whether the clause has x already.
        tested : (b : Bool) → reached_by p x (k - word_at tables (end_at (x - 1))) c ≡ b → (ltb 0 n and eqb (word_at s (list_at (at + n - 1))) x) ≡ b
        unfolding ◌and◌
        tested true h =
            let last = ends_there p x (k - word_at tables (end_at (x - 1))) c low h in
            let z : list_at (at + n - 1) ≡ list_at (terms_ahead p c) + (length L - 1) = omega (arith, start_here, long, last.0) in
            ap₂ ◌and◌ (lt-ltb 0 n (omega (arith, long, last.0))) (eq-eqb _ x (ap (word_at s) z ∙ list_at_lem p L (word_at s) c told (length L - 1) (omega (arith, last.0)) ∙ last.1))
        tested false h = elim (ℕ_discrete n 0) [
          | yes none ↦ ap (λ b. b and eqb (word_at s (list_at (at + n - 1))) x) (le-ltb 0 n (omega (arith, none)))
          | no some ↦
              let z : list_at (at + n - 1) ≡ list_at (terms_ahead p c) + (length L - 1) = omega (arith, start_here, long, some) in
              let less = ends_elsewhere p x (k - word_at tables (end_at (x - 1))) c low h (omega (arith, long, some)) in
              let word = ap (word_at s) z ∙ list_at_lem p L (word_at s) c told (length L - 1) (omega (arith, long, some)) in
              ap₂ ◌and◌ (lt-ltb 0 n (omega (arith, some))) (ne_eqb _ x (λ e. omega (arith, e, word, less)))
        ]

        ends : {b : Bool} → b ≡ (ltb 0 n and eqb (word_at s (list_at (at + n - 1))) x) → b ≡ reached_by p x (k - word_at tables (end_at (x - 1))) c
        ends h = h ∙ tested _ refl

        after : k + 1 - word_at tables (end_at (x - 1)) ≡ suc (k - word_at tables (end_at (x - 1)))
        after = omega arith

        entered : (d : ℕ) → list_to p x (suc (k - word_at tables (end_at (x - 1)))) d ≡ list_to p x (k + 1 - word_at tables (end_at (x - 1))) d
        entered d = ap (λ j. list_to p x j d) (sym after)

        -- It has it: nothing is written.
        pub list_same : {b : Bool} → b ≡ (ltb 0 n and eqb (word_at s (list_at (at + n - 1))) x) → b ≡ true → Listing (plan_of_tables tables terms) x (k + 1 - word_at tables (end_at (x - 1))) s
        list_same {b} h t = record { room = y.room; each = λ d z. subst (λ xs. ListOf p xs (word_at s) d) (same d (ℕ_discrete d q.clause) ∙ entered d) (y.each d z) }
          where
            same : (d : ℕ) → Dec (d ≡ q.clause) → list_to p x (k - word_at tables (end_at (x - 1))) d ≡ list_to p x (suc (k - word_at tables (end_at (x - 1)))) d
            same d (yes e) = sym (ap (list_to p x (suc (k - word_at tables (end_at (x - 1))))) e ∙ list_there p x (k - word_at tables (end_at (x - 1))) no_place inside (ap (reached_by p x (k - word_at tables (end_at (x - 1)))) (sym clause_here) ∙ sym (ends h) ∙ t) ∙ ap (list_to p x (k - word_at tables (end_at (x - 1)))) (sym e))
            same d (no e) = sym (list_beside p x (k - word_at tables (end_at (x - 1))) no_place inside d e)

        -- It has not: the list is one longer.
        module _ {b : Bool} (h : b ≡ (ltb 0 n and eqb (word_at s (list_at (at + n - 1))) x)) (t : b ≡ false) where
          unreached : reached_by p x (k - word_at tables (end_at (x - 1))) q.clause ≡ false
          unreached = ap (reached_by p x (k - word_at tables (end_at (x - 1)))) (sym clause_here) ∙ sym (ends h) ∙ t

          longer : list_to p x (k + 1 - word_at tables (end_at (x - 1))) c ≡ L ++ (x ∷ [])
          longer =
              sym (entered c)
              ∙ ap (list_to p x (suc (k - word_at tables (end_at (x - 1))))) clause_here
              ∙ list_longer p x (k - word_at tables (end_at (x - 1))) no_place inside unreached
              ∙ ap (λ d. list_to p x (k - word_at tables (end_at (x - 1))) d ++ (x ∷ [])) (sym clause_here)

          pub list_space : at + n + 1 ≤ terms_ahead (plan_of_tables tables terms) (suc c)
          list_space =
              omega (arith, start_here, long, ap length longer, length-append L (x ∷ []), list_few p x low free c below (k + 1 - word_at tables (end_at (x - 1))), ahead_next p c below)

          pub place_few : at + n < term_room
          place_few = omega (arith, list_space, ahead_all p (suc c), (parts tables terms l).terms)

          module _ {v m : ℕ} {a z : List ℕ} (ev : v ≡ x) (ea : a ≡ put_words (list_at (at + n)) (v ∷ []) s) (em : m ≡ n + 1) (ez : z ≡ put_words (list_count_at c) (m ∷ []) a) where
            first : Wrote (list_at (at + n)) v s a
            first = word_wrote (list_at (at + n)) v s a (omega (arith, place_few, y.room)) (omega (arith, ev, high, (parts tables terms l).high)) ea

            second : Wrote (list_count_at c) m a z
            second = word_wrote (list_count_at c) m a z (omega (arith, clause_few, first.size, y.room)) (omega (arith, em, place_few)) ez

            pub list_only : Only (list_count_at 0) column_word_count s z
            list_only = only_next (wrote_only (omega arith) (omega (arith, place_few)) first) (wrote_only (omega arith) (omega (arith, clause_few)) second)

            -- A word of another list, or of this one's beginning, stands.
            stands : (d j : ℕ) → d < length p.clauses → ((terms_ahead p d + j ≡ at + n) → ⊥) → word_at z (list_at (terms_ahead p d) + j) ≡ word_at s (list_at (terms_ahead p d) + j)
            stands d j g o = second.others (list_at (terms_ahead p d) + j) (λ e. omega (arith, e, clause_few)) ∙ first.others (list_at (terms_ahead p d) + j) (λ e. o (omega (arith, e)))

            own : ListOf p (L ++ (x ∷ [])) (word_at z) c
            own = list_told p (L ++ (x ∷ [])) (word_at z) c (second.here ∙ em ∙ omega (arith, long, length-append L (x ∷ []))) each
              where
                each : (j : ℕ) → j < length (L ++ (x ∷ [])) → word_at z (list_at (terms_ahead p c) + j) ≡ get_or (L ++ (x ∷ [])) j 0
                each j g = elim (ℕ_discrete j (length L)) [
                  | yes e ↦
                      let here : list_at (terms_ahead p c) + j ≡ list_at (at + n) = omega (arith, start_here, long, e) in
                      ap (word_at z) here ∙ second.others (list_at (at + n)) (λ o. omega (arith, o, clause_few)) ∙ first.here ∙ ev ∙ sym (ap (λ o. get_or (L ++ (x ∷ [])) o 0) e ∙ get_or-append_seam L x [] 0)
                  | no o ↦
                      let few : j < length L = omega (arith, o, g, length-append L (x ∷ [])) in
                      stands c j below (λ e. omega (arith, e, start_here, long, few)) ∙ list_at_lem p L (word_at s) c told j few ∙ sym (get_or-append L (x ∷ []) 0 j few)
                ]

            other : (d : ℕ) → d < length p.clauses → (d ≡ c → ⊥) → ListOf p (list_to p x (k - word_at tables (end_at (x - 1))) d) (word_at z) d
            other d g o =
                let L' = list_to p x (k - word_at tables (end_at (x - 1))) d in
                list_told p L' (word_at z) d
                (second.others (list_count_at d) (λ e. o (omega (arith, e))) ∙ first.others (list_count_at d) (λ e. omega (arith, e, g, (parts tables terms l).clause_count)) ∙ (y.each d g).counted)
                (λ j few. stands d j g (λ e. apart j few e) ∙ list_at_lem p L' (word_at s) d (y.each d g) j few)
              where
                apart : (j : ℕ) → j < length (list_to p x (k - word_at tables (end_at (x - 1))) d) → terms_ahead p d + j ≡ at + n → ⊥
                apart j few e = elim (dec_le d c) [
                  | yes le ↦ omega (arith, e, few, start_here, list_few p x low free d g (k - word_at tables (end_at (x - 1))), ahead_next p d g, ahead_rise p (suc d) c (omega (arith, o, le)) (omega (arith, below)))
                  | no ge ↦ omega (arith, e, list_space, ahead_rise p (suc c) d (lt_of_not-le ge) (omega (arith, g)))
                ]

            pub list_more : Listing (plan_of_tables tables terms) x (k + 1 - word_at tables (end_at (x - 1))) z
            list_more = record { room = rw (second.size ∙ first.size) y.room; each = each }
              where
                each : (d : ℕ) → d < length p.clauses → ListOf p (list_to p x (k + 1 - word_at tables (end_at (x - 1))) d) (word_at z) d
                each d g = elim (ℕ_discrete d c) [
                  | yes e ↦ subst (λ o. ListOf p (list_to p x (k + 1 - word_at tables (end_at (x - 1))) o) (word_at z) o) (sym e) (subst (λ xs. ListOf p xs (word_at z) c) (sym longer) own)
                  | no o ↦ subst (λ xs. ListOf p xs (word_at z) d) (sym (list_beside p x (k - word_at tables (end_at (x - 1))) no_place inside d (λ e. o (e ∙ sym clause_here))) ∙ entered d) (other d g o)
                ]

-- ---- a run, and all

pub list_at_end : {p : Plan} {x i j : ℕ} {t : List ℕ} → i ≡ j → Listing p x i t → Listing p x j t
list_at_end {p} {x} {i} {j} {t} e y = subst (λ n. Listing p x n t) e y

lists_same : {p : Plan} {x y i j : ℕ} {t : List ℕ} → ((d : ℕ) → d < length p.clauses → list_to p x i d ≡ list_to p y j d) → Listing p x i t → Listing p y j t
lists_same {p} {x} {y} {i} {j} {t} e z = record { room = z.room; each = λ d h. subst (λ xs. ListOf p xs (word_at t) d) (e d h) (z.each d h) }

module _ {tables terms : List ℕ} (l : Laid tables terms) {x : ℕ} (low : 1 ≤ x) (high : x ≤ (plan_of_tables tables terms).variables) where
  pub run_begins : word_at tables (end_at (x - 1)) ≤ word_at tables (end_at x)
  run_begins = omega (arith, run_size (plan_of_tables tables terms) (parts tables terms l) (word_at tables) (word_at terms) (sections tables terms l) (holds_arranged (plan_of_tables tables terms) (parts tables terms l) tables terms l.holds) x low high)

  pub run_ends : word_at tables (end_at x) ≤ term_room
  run_ends = run_few (plan_of_tables tables terms) (parts tables terms l) (word_at tables) (word_at terms) (sections tables terms l) (holds_arranged (plan_of_tables tables terms) (parts tables terms l) tables terms l.holds) x low high

  pub run_listed : is_locked (plan_of_tables tables terms) x ≡ false → {k end first : ℕ} {t : List ℕ} → first ≡ word_at tables (end_at (x - 1)) → end ≡ word_at tables (end_at x) → k ≤ end → end ≤ k → Listing (plan_of_tables tables terms) x (k - word_at tables (end_at (x - 1))) t → Listing (plan_of_tables tables terms) (x + 1) 0 t
  run_listed free {k} {end} {first} {t} e f h m y =
      let all : k - word_at tables (end_at (x - 1)) ≡ length (occurrences (plan_of_tables tables terms) x) = omega (arith, f, h, m, run_size (plan_of_tables tables terms) (parts tables terms l) (word_at tables) (word_at terms) (sections tables terms l) (holds_arranged (plan_of_tables tables terms) (parts tables terms l) tables terms l.holds) x low high) in
      rw (add-one x) (lists_same (list_passed (plan_of_tables tables terms) x low free) (list_at_end all y))

  lock_word_here : ltb 0 (word_at tables (lock_at x)) ≡ is_locked (plan_of_tables tables terms) x
  lock_word_here = word_locked (plan_of_tables tables terms) x _ (lock_word_lem (plan_of_tables tables terms) tables terms l.room l.holds x low (omega (arith, high, (parts tables terms l).high)))

  pub locked_listed : {w : ℕ} {t : List ℕ} → w ≡ word_at tables (lock_at x) → 0 < w → Listing (plan_of_tables tables terms) x 0 t → Listing (plan_of_tables tables terms) (x + 1) 0 t
  locked_listed e h y = rw (add-one x) (lists_same (λ d _. list_locked (plan_of_tables tables terms) x low (sym lock_word_here ∙ lt-ltb 0 (word_at tables (lock_at x)) (omega (arith, e, h))) d) y)

  pub is_free : {w : ℕ} → w ≡ word_at tables (lock_at x) → w ≤ 0 → is_locked (plan_of_tables tables terms) x ≡ false
  is_free e h = sym lock_word_here ∙ le-ltb 0 (word_at tables (lock_at x)) (omega (arith, e, h))

-- No variable is listed.
pub record Cleared (p : Plan) (c : ℕ) (s t : List ℕ) : Type 0 where
  pub each : (d : ℕ) → d < c → word_at t (list_count_at d) ≡ 0
  pub only : Only (list_count_at 0) column_word_count s t

-- A part of the marks filled with zeros: the counts of so many lists.
pub cleared : (p : Plan) (c : ℕ) {s : List ℕ} (ys : List ℕ) → c < 514 → column_size ≤ length s → ys ≡ replicate (4 * (8_176 + c) - 32_704) 0 → Cleared p c s (put_mid 32_704 (4 * (8_176 + c) - 32_704) s ys)
cleared p c {s} ys few room e =
    let long : length ys ≡ 4 * (8_176 + c) - 32_704 = ap length e ∙ length-replicate {A = ℕ} (4 * (8_176 + c) - 32_704) 0 in
    let size : 4 * (8_176 + c) - 32_704 ≡ 4 * c = omega arith in
    let put_back : put_mid 32_704 (4 * (8_176 + c) - 32_704) s ys ≡ put 32_704 (word_bytes (replicate c 0)) s =
    lent_part 32_704 (4 * (8_176 + c)) s ys (omega arith) long ∙ ap (λ (b : List ℕ). put 32_704 b s) (e ∙ ap (λ (n : ℕ). replicate n 0) size ∙ sym (word_bytes_zeros c)) in
    record {
      each = λ d h. ap (λ t. word_at t (8_176 + d)) put_back ∙ zero_word 8_176 c d s h (omega arith);
      only = only_wider (omega arith) (omega arith) (part_only 8_176 (8_176 + c) ys (omega arith) (omega arith) long);
    }

pub cleared_all : {tables terms s t : List ℕ} {c clauses : ℕ} → Laid tables terms → column_size ≤ length s → clauses ≡ word_at tables 1 → clauses ≤ c → Cleared (plan_of_tables tables terms) c s t → Listing (plan_of_tables tables terms) 1 0 t × Only (list_count_at 0) column_word_count s t
cleared_all {tables} {terms} {s} {t} l room e left y = (
  record {
    room = rw y.only.size room;
    each = λ d h. subst (λ xs. ListOf (plan_of_tables tables terms) xs (word_at t) d) (sym (list_first (plan_of_tables tables terms) d)) (list_told (plan_of_tables tables terms) [] (word_at t) d (y.each d (omega (arith, e, left, clauses_word tables terms l))) (λ j m. absurd (omega arith)));
  },
  y.only,
)

-- Every variable is.
pub all_listed : {tables terms t : List ℕ} {x n : ℕ} → Laid tables terms → n ≡ word_at tables 0 → x ≤ n + 1 → n < x → Listing (plan_of_tables tables terms) x 0 t → Listed (plan_of_tables tables terms) t
all_listed {tables} {terms} {t} {x} {n} l e high low y =
    let p = plan_of_tables tables terms in
    let z : x ≡ suc p.variables = omega (arith, e, variables_word tables terms l, high, low) in
    record { room = y.room; each = λ d h. let o = subst (λ xs. ListOf p xs (word_at t) d) (ap (λ m. list_to p m 0 d) z ∙ list_last p d) (y.each d h) in record { counted = o.counted; listed = o.listed } }
