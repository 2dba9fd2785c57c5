-- One race after another in the buffers that all share: each writes its own two places, and reads none of another's.
-- Assumes nothing.
use Prim.Native.Nat.{ℕ, zero, suc, ◌+◌, ◌*◌, ◌≤◌, ◌<◌}
use native.Mathlib.Nat.{add-zero, zero-add, add-suc, suc-add, mul-suc, mul-zero, not-suc-le-zero, le_of_suc-le-suc}
use native.Mathlib.Omega.{arith}
use mathlib.Core.Path.{◌≡◌, refl, sym, ap, ◌∙◌, subst}
use mathlib.Core.Bool.{Bool, true, false, cond}
use mathlib.Core.List.{List, [], ◌∷◌, ◌++◌, map, append_assoc, append-nil}
use lib.Dec.{eqb}
use lib.ListN.{length, get_or, take, drop, length-append, length-drop}
use lib.Seq.{drop_at, take_at, drop-append-add, length-take-le, take-suc}
use borrow.Author.Tests.{eqb-true}
use Rattle.plpb.specs.Lists.{any, concat}
use Rattle.plpb.specs.Search.{Reached, failed, reached}
use Rattle.words.specs.Writes.{put, front}
use Rattle.words.proofs.Writes.{front_put, front_none}
use Rattle.format.specs.Tables.{plan_of_tables}
use Rattle.format.specs.Assignment.{assignment_size, bit_bytes}
use Rattle.format.proofs.Lawful.{plan_parts}
use Rattle.format.proofs.IsLoaded.{is_loaded_lawful}
use Rattle.tallies.proofs.Bits.{length_bit_bytes}
use Rattle.finds.specs.Whole.{with_find}
use Rattle.settings.specs.declared.Settings.{Settings as Asked}
use Rattle.settings.specs.Settings.{settings_of}
use Rattle.numbers.specs.Numbers.{numbers_of}
use Rattle.lending.specs.Lent.{Lent, search_refusal}
use Rattle.search.specs.Calls.{answer, search_assignment}
use Rattle.search.proofs.Refusing.{accepted}
use Rattle.search.proofs.Within.{Whole, find_whole}
use Rattle.division.specs.declared.Part.{Part}
use Rattle.exchange.specs.Exchange.{answer_size, answer_bytes}
use Rattle.exchange.proofs.Laws.{length_answer}
use Rattle.festival.specs.Own.{Works, Entry, lent_to, Raced, own, leaves, left_by, accepts, clear, SameRoom}
use Rattle.festival.specs.Festival.{Given, Buffers, buffers, place, entry, entries, raced, race_once, race_next, EachOwn}
use Rattle.festival.proofs.Apart.{same_own, same_room, left}

-- ---- an assignment keeps its length

find_length : (n : ℕ) (r : Reached) (s : List ℕ) → Whole n r → n ≤ length s → length (with_find r n s) ≡ length s
unfolding with_find
find_length n failed s w h = refl
find_length n (reached a) s w h = omega (arith, length-append (bit_bytes a) (drop n s), length_bit_bytes a, w, length-drop n s, h)

module _ (l : Lent) (k : Asked) where
  found_length : search_refusal l k ≡ 0
      → length (with_find (answer l k).assignment (plan_of_tables l.tables l.terms).variables l.assignment) ≡ length l.assignment
  unfolding answer
  found_length z =
      let p = plan_of_tables l.tables l.terms in
      let s = accepted l k z in
      let few = (plan_parts p (is_loaded_lawful l.tables l.terms s.loaded)).high in
      find_length p.variables _ l.assignment (find_whole (settings_of k) p (numbers_of l.numbers)) (omega (arith, few, s.room))

  assignment_length : length (search_assignment l k) ≡ length l.assignment
  unfolding search_assignment
  assignment_length = by (eqb (search_refusal l k) 0) refl
    where
      by : (b : Bool) → eqb (search_refusal l k) 0 ≡ b
          → length (cond b (with_find (answer l k).assignment (plan_of_tables l.tables l.terms).variables l.assignment) l.assignment)
          ≡ length l.assignment
      by true e = found_length (eqb-true _ _ e)
      by false e = refl

-- ---- places of one size, one behind the other

abbrev Each : ℕ → List (List ℕ) → Type 0
Each n [] = Unit {0}
Each n (x ∷ xs) = (length x ≡ n) × Each n xs

joined_length : (n : ℕ) (xs : List (List ℕ)) → Each n xs → length (concat xs) ≡ n * length xs
unfolding concat
joined_length n [] h = sym (mul-zero n)
joined_length n (x ∷ xs) h = omega (arith, length-append x (concat xs), h.0, joined_length n xs h.1, mul-suc n (length xs))

joined_snoc : (xs : List (List ℕ)) (y : List ℕ) → concat (xs ++ y ∷ []) ≡ concat xs ++ y
unfolding concat
joined_snoc [] y = append-nil y
joined_snoc (x ∷ xs) y = ap (λ (t : List ℕ). x ++ t) (joined_snoc xs y) ∙ sym (append_assoc x (concat xs) y)

joined_place : (n : ℕ) (xs : List (List ℕ)) (rest : List ℕ) (i : ℕ) → Each n xs → i < length xs → place n i (concat xs ++ rest) ≡ get_or xs i []
unfolding concat
joined_place n [] rest i h l = absurd (not-suc-le-zero l)
joined_place n (x ∷ xs) rest zero h l =
    rw (mul-zero n, append_assoc x (concat xs) rest) (take_at x (concat xs ++ rest) n h.0)
joined_place n (x ∷ xs) rest (suc i) h l =
    let at : n * suc i ≡ length x + n * i = omega (arith, mul-suc n i, h.0) in
    rw (at, append_assoc x (concat xs) rest, drop-append-add x (concat xs ++ rest) (n * i))
    (joined_place n xs rest i h.1 (le_of_suc-le-suc l))

joined_front : (n : ℕ) (xs : List (List ℕ)) (s : List ℕ) (i : ℕ) → Each n xs → i < length xs → place n i (front (concat xs) s) ≡ get_or xs i []
unfolding front
joined_front n xs s i h l = joined_place n xs (drop (length (concat xs)) s) i h l

-- ---- the races in their order

entries_snoc : (g : Given) (s : List ℕ) (i : ℕ) (ps : List Part) (p : Part)
    → entries g s i (ps ++ p ∷ []) ≡ entries g s i ps ++ entry g s (i + length ps) p ∷ []
unfolding entries
entries_snoc g s i [] p = ap (λ (k : ℕ). entry g s k p ∷ []) (sym (add-zero i))
entries_snoc g s i (q ∷ ps) p =
    ap (λ (es : List Entry). entry g s i q ∷ es)
    (entries_snoc g s (suc i) ps p
    ∙ ap (λ (k : ℕ). entries g s (suc i) ps ++ entry g s k p ∷ []) (suc-add i (length ps) ∙ sym (add-suc i (length ps))))

entries_length : (g : Given) (s : List ℕ) (i : ℕ) (ps : List Part) → length (entries g s i ps) ≡ length ps
unfolding entries
entries_length g s i [] = refl
entries_length g s i (p ∷ ps) = ap suc (entries_length g s (suc i) ps)

-- What each race gives, by a measure of it.
module _ (f : Raced → List ℕ) (w : Works) where
  given_by : List Entry → List (List ℕ)
  given_by es = map f (map (own w) es)

  given_length : (es : List Entry) → length (given_by es) ≡ length es
  unfolding given_by
  given_length [] = refl
  given_length (e ∷ es) = ap suc (given_length es)

  given_snoc : (es : List Entry) (e : Entry) → given_by (es ++ e ∷ []) ≡ given_by es ++ f (own w e) ∷ []
  unfolding given_by
  given_snoc [] e = refl
  given_snoc (d ∷ es) e = ap (λ (xs : List (List ℕ)). f (own w d) ∷ xs) (given_snoc es e)

  given_at : (g : Given) (s : List ℕ) (j : ℕ) (ps : List Part) (i : ℕ) (p : Part) → i < length ps
      → get_or (given_by (entries g s j ps)) i [] ≡ f (own w (entry g s (j + i) (get_or ps i p)))
  unfolding given_by entries
  given_at g s j [] i p l = absurd (not-suc-le-zero l)
  given_at g s j (q ∷ ps) zero p l = ap (λ (k : ℕ). f (own w (entry g s k q))) (sym (add-zero j))
  given_at g s j (q ∷ ps) (suc i) p l =
      given_at g s (suc j) ps i p (le_of_suc-le-suc l)
      ∙ ap (λ (k : ℕ). f (own w (entry g s k (get_or ps i p)))) (suc-add j i ∙ sym (add-suc j i))

abbrev assignment_of : Raced → List ℕ
assignment_of r = r.assignment

abbrev bytes_of : Raced → List ℕ
bytes_of r = answer_bytes r.answer

each_answer : (w : Works) (es : List Entry) → Each answer_size (given_by bytes_of w es)
unfolding given_by
each_answer w [] = tt
each_answer w (e ∷ es) = (length_answer (own w e).answer, each_answer w es)

pub place_length : (n i : ℕ) (s : List ℕ) → n * i + n ≤ length s → length (place n i s) ≡ n
place_length n i s h = length-take-le n (drop (n * i) s) (omega (arith, length-drop (n * i) s, h))

each_assignment : (w : Works) (g : Given) (s : List ℕ) (i : ℕ) (ps : List Part) → assignment_size * i + assignment_size * length ps ≤ length s
    → Each assignment_size (given_by assignment_of w (entries g s i ps))
unfolding given_by entries own entry
each_assignment w g s i [] h = tt
each_assignment w g s i (p ∷ ps) h = (
  assignment_length (lent_to w (entry g s i p)) (entry g s i p).asked ∙ place_length assignment_size i s (omega (arith, h)),
  each_assignment w g s (suc i) ps (omega (arith, h)),
)

-- ---- the work tables

room_left : (w : Works) (es : List Entry) → SameRoom (left_by w es) w
unfolding left_by
room_left w [] = record { tables = refl; terms = refl; assignment = refl; tallies = refl; marks = refl }
room_left w (e ∷ es) =
    let a = room_left (leaves w e) es in
    let b = same_room w e in
    record {
      tables = a.tables ∙ b.tables;
      terms = a.terms ∙ b.terms;
      assignment = a.assignment ∙ b.assignment;
      tallies = a.tallies ∙ b.tallies;
      marks = a.marks ∙ b.marks;
    }

left_snoc : (w : Works) (es : List Entry) (e : Entry) → left_by w (es ++ e ∷ []) ≡ leaves (left_by w es) e
unfolding left_by
left_snoc w [] e = refl
left_snoc w (d ∷ es) e = left_snoc (leaves w d) es e

-- ---- one race more

pub same_buffers : {a c a' c' : List ℕ} {w w' : Works} → a ≡ a' → c ≡ c' → w ≡ w' → buffers a c w ≡ buffers a' c' w'
same_buffers {a} {c} {a'} {c'} {w} ea ec ew =
    ap (λ (x : List ℕ). buffers x c w) ea ∙ ap (λ (x : List ℕ). buffers a' x w) ec ∙ ap (λ (v : Works). buffers a' c' v) ew

-- What stands behind bytes that were written.
behind : (xs s : List ℕ) {n : ℕ} → length xs ≡ n → drop n (front xs s) ≡ drop n s
unfolding front
behind xs s {n} e = drop_at xs (drop (length xs) s) n e ∙ ap (λ (k : ℕ). drop k s) e

module _ (g : Given) (ps : List Part) (p : Part) (b : Buffers) (h : assignment_size * length ps + assignment_size ≤ length b.assignments) where
  s : List ℕ
  s = b.assignments

  w : Works
  w = b.works

  es : List Entry
  es = entries g b.assignments 0 ps

  xs : List ℕ
  xs = concat (given_by assignment_of w es)

  xs_length : length xs ≡ assignment_size * length ps
  unfolding xs es s
  xs_length =
      joined_length assignment_size _ (each_assignment w g b.assignments 0 ps (omega (arith, h)))
      ∙ ap (λ (n : ℕ). assignment_size * n) (given_length assignment_of w es ∙ entries_length g b.assignments 0 ps)

  ys_length : length (concat (given_by bytes_of w es)) ≡ answer_size * length ps
  unfolding es
  ys_length =
      joined_length answer_size _ (each_answer w es)
      ∙ ap (λ (n : ℕ). answer_size * n) (given_length bytes_of w es ∙ entries_length g b.assignments 0 ps)

  same_place : drop (assignment_size * length ps) (front xs s) ≡ drop (assignment_size * length ps) s
  same_place = behind xs s xs_length

  the_entry : entry g (front xs s) (length ps) p ≡ entry g s (length ps) p
  unfolding entry
  the_entry = rw same_place

  at_end : entries g s 0 (ps ++ p ∷ []) ≡ es ++ entry g s (length ps) p ∷ []
  unfolding es s
  at_end = entries_snoc g b.assignments 0 ps p ∙ ap (λ (k : ℕ). entries g b.assignments 0 ps ++ entry g b.assignments k p ∷ []) (zero-add (length ps))

  works_so : Works
  works_so = cond (any (accepts w) es) (clear w) w

  so_room : SameRoom works_so w
  unfolding works_so
  so_room = subst (λ (v : Works). SameRoom v w) (left w es) (room_left w es)

  next_assignments : put (assignment_size * length ps) (own works_so (entry g (front xs s) (length ps) p)).assignment (front xs s)
      ≡ front (concat (given_by assignment_of w (entries g s 0 (ps ++ p ∷ [])))) s
  unfolding xs
  next_assignments =
      rw (
        the_entry,
        same_own (entry g s (length ps) p) so_room,
        at_end,
        given_snoc assignment_of w es (entry g s (length ps) p),
        joined_snoc (given_by assignment_of w es) (own w (entry g s (length ps) p)).assignment,
        sym xs_length,
      )
      (front_put (concat (given_by assignment_of w es)) (own w (entry g s (length ps) p)).assignment s)

  next_answers : put (answer_size * length ps) (answer_bytes (own works_so (entry g (front xs s) (length ps) p)).answer)
      (front (concat (given_by bytes_of w es)) b.answers)
      ≡ front (concat (given_by bytes_of w (entries g s 0 (ps ++ p ∷ [])))) b.answers
  next_answers =
      rw (
        the_entry,
        same_own (entry g s (length ps) p) so_room,
        at_end,
        given_snoc bytes_of w es (entry g s (length ps) p),
        joined_snoc (given_by bytes_of w es) (answer_bytes (own w (entry g s (length ps) p)).answer),
        sym ys_length,
      )
      (front_put (concat (given_by bytes_of w es)) (answer_bytes (own w (entry g s (length ps) p)).answer) b.answers)

  next_works : leaves works_so (entry g (front xs s) (length ps) p)
      ≡ cond (any (accepts w) (entries g s 0 (ps ++ p ∷ []))) (clear w) w
  unfolding works_so
  next_works =
      rw (the_entry, at_end)
      (ap (λ (v : Works). leaves v (entry g s (length ps) p)) (sym (left w es)) ∙ sym (left_snoc w es (entry g s (length ps) p))
      ∙ left w (es ++ entry g s (length ps) p ∷ []))

  next : race_next g (length ps) p (raced g ps b) ≡ raced g (ps ++ p ∷ []) b
  unfolding race_next race_once raced given_by xs es w s works_so
  next = same_buffers next_assignments next_answers next_works

-- The races before i are made: race i is next.
pub next_race : (g : Given) (ps : List Part) (b : Buffers) (i : ℕ) (p : Part) → i < length ps → assignment_size * i + assignment_size ≤ length b.assignments
    → race_next g i (get_or ps i p) (raced g (take i ps) b) ≡ raced g (take (suc i) ps) b
next_race g ps b i p l h =
    let n = length-take-le i ps (omega (arith, l)) in
    ap (λ (k : ℕ). race_next g k (get_or ps i p) (raced g (take i ps) b)) (sym n)
    ∙ next g (take i ps) (get_or ps i p) b (omega (arith, n, h))
    ∙ ap (λ (qs : List Part). raced g qs b) (sym (take-suc ps i p l))

pub no_race : (g : Given) (b : Buffers) → raced g [] b ≡ b
unfolding raced entries concat any
no_race g b = same_buffers (front_none b.assignments) (front_none b.answers) refl

-- ---- one race among all

pub each_own : EachOwn
unfolding raced given_by
each_own g ps b h k =
    let w = b.works in
    let es = entries g b.assignments 0 ps in
    let long = each_assignment w g b.assignments 0 ps (omega (arith, h)) in
    let one = each_answer w es in
    let many = entries_length g b.assignments 0 ps in
    record {
      assignment =
          λ i p l. joined_front assignment_size (given_by assignment_of w es) b.assignments i long (omega (arith, l, given_length assignment_of w es, many))
          ∙ given_at assignment_of w g b.assignments 0 ps i p l ∙ ap (λ (n : ℕ). (own w (entry g b.assignments n (get_or ps i p))).assignment) (zero-add i);
      answer =
          λ i p l. joined_front answer_size (given_by bytes_of w es) b.answers i one (omega (arith, l, given_length bytes_of w es, many))
          ∙ given_at bytes_of w g b.assignments 0 ps i p l ∙ ap (λ (n : ℕ). answer_bytes (own w (entry g b.assignments n (get_or ps i p))).answer) (zero-add i);
      assignments_behind =
          behind _ b.assignments (joined_length assignment_size _ long ∙ ap (λ (n : ℕ). assignment_size * n) (given_length assignment_of w es ∙ many));
      answers_behind = behind _ b.answers (joined_length answer_size _ one ∙ ap (λ (n : ℕ). answer_size * n) (given_length bytes_of w es ∙ many));
    }
