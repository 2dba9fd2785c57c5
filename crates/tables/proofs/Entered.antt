-- Laws of entries: the words that the code writes for a rule and for terms are those of the definitions.
-- Assumes nothing.
use Prim.Native.Nat.{ℕ, suc, ◌+◌, ◌*◌, ◌-◌, ◌/◌, ◌≤◌, ◌<◌}
use native.Mathlib.Omega.{arith}
use mathlib.Core.Path.{◌≡◌, refl, sym, ap, ap₂, ◌∙◌}
use mathlib.Core.List.{List, [], ◌∷◌, ◌++◌, append_assoc, append-nil}
use lib.ListN.{length, get_or, length-append, take, drop, length-drop}
use borrow.Rule.Slice.PartMut.{mid_of, put_mid}
use Rattle.plpb.specs.Plan.{Term, Rule}
use Rattle.words.specs.Words.{num_at, word_bytes, signed, unsigned}
use Rattle.words.specs.Writes.{front, put, put_words}
use Rattle.words.proofs.Words.{Below, num_at_lt, unsigned_signed, length_word_bytes}
use Rattle.words.proofs.Writes.{front_none, front_put, length_front, lent_tail, word_bytes_append, words_behind}
use Rattle.std.proofs.lemmas.List.{take_more, length-take-le}
use Rattle.format.specs.File.{tag_at, length_at, terms_in, term_at, terms_at, field_terms, rule_at, mode_at, lower_at, upper_at}
use Rattle.format.specs.Tables.{rule_entries, term_entries}
use Rattle.format.proofs.Bounds.{Meant, bounds_tested, bounds_meant}
use Rattle.format.proofs.Peel.{length_terms_at}
use Rattle.format.proofs.Sections.{length_term_entries}
use Rattle.tables.specs.Places.{RuleHere, behind_field}
use Rattle.bodies.proofs.Tags.{tag_byte}
use Rattle.bodies.proofs.Parts.{terms_part}

-- A field's length has two bytes.
pub size_small : (s : List ℕ) (at : ℕ) → Below 256 s → terms_in 4 (length_at s at) < 4_294_967_296
unfolding terms_in length_at
size_small s at b = let h : num_at 2 s (at + 1) < 65_536 = num_at_lt 2 s (at + 1) b in omega arith

module _ (s : List ℕ) (at : ℕ) (h : RuleHere s at) where
  pub here_room : at + 3 ≤ length s
  unfolding behind_field
  here_room = omega (arith, h.room)

  pub here_body : at + 18 ≤ length s
  unfolding behind_field
  here_body = omega (arith, h.room, h.size)

  pub here_terms : length (rule_at s at).terms ≡ terms_in 4 (length_at s at)
  unfolding rule_at field_terms
  here_terms = rw h.tag (length_terms_at s (terms_in 4 (length_at s at)) (at + 12))

  meant : Meant (mode_at s at) (lower_at s at) (upper_at s at)
  meant = bounds_meant _ _ _ (bounds_tested _ _ _ h.bounds)

  pub rule_words_lem :
      (first : ℕ) {a b c d e : ℕ} → a ≡ first → b ≡ terms_in 4 (length_at s at) → c ≡ get_or s (at + 3) 0
      → d ≡ num_at 4 s (at + 4) → d < 4_294_967_296 → e ≡ num_at 4 s (at + 8) → e < 4_294_967_296
      → a ∷ b ∷ c ∷ d ∷ e ∷ [] ≡ rule_entries first (rule_at s at ∷ [])
  unfolding rule_entries rule_at tag_at mode_at lower_at upper_at
  rule_words_lem first {a} {b} {c} {d} {e} pa pb pc pd ld pe le =
      let qb = pb ∙ sym here_terms in
      let qc = pc ∙ tag_byte s (at + 3) ∙ sym meant.mode_back in
      let qd = sym (unsigned_signed d ld) ∙ ap (λ (n : ℕ). unsigned (signed n)) pd ∙ ap unsigned (sym meant.lower_back) in
      let qe = sym (unsigned_signed e le) ∙ ap (λ (n : ℕ). unsigned (signed n)) pe ∙ ap unsigned (sym meant.upper_back) in
      λ i. pa i ∷ qb i ∷ qc i ∷ qd i ∷ qe i ∷ []

-- A rule's entry, and those behind it.
pub entries_more : (first : ℕ) (r : Rule) (rs : List Rule) → rule_entries first (r ∷ rs) ≡ rule_entries first (r ∷ []) ++ rule_entries (first + length r.terms) rs
unfolding rule_entries
entries_more first r rs = refl

-- A term's entry.
pub term_words : (s : List ℕ) (at : ℕ) {a b : ℕ} → a ≡ num_at 2 s at → b ≡ num_at 4 s (at + 2) → b < 4_294_967_296 → a ∷ b ∷ [] ≡ term_entries (term_at s at ∷ [])
unfolding term_entries term_at
term_words s at {a} {b} p q l = ap₂ (λ (x y : ℕ). x ∷ y ∷ []) p (sym (unsigned_signed b l) ∙ ap (λ (n : ℕ). unsigned (signed n)) q)

term_entries_append : (ts us : List Term) → term_entries (ts ++ us) ≡ term_entries ts ++ term_entries us
unfolding term_entries
term_entries_append [] us = refl
term_entries_append (t ∷ ts) us = ap (λ (l : List ℕ). t.variable ∷ unsigned t.weight ∷ l) (term_entries_append ts us)

-- Terms written behind those at the front of the term table.
pub terms_lent :
    (o t : List ℕ) (ts us : List Term) (end : ℕ) (ys : List ℕ) → t ≡ front (word_bytes (term_entries ts)) o → end ≡ 8 * length ts → end ≤ length t
    → ys ≡ front (word_bytes (term_entries us)) (mid_of end (length t - end) t)
    → put_mid end (length t - end) t ys ≡ front (word_bytes (term_entries (ts ++ us))) o
terms_lent o t ts us end ys p q l e =
    let n : end ≡ length (word_bytes (term_entries ts)) = omega (arith, q, length_word_bytes (term_entries ts), length_term_entries ts) in
    lent_tail end (word_bytes (term_entries us)) t ys l e
    ∙ ap₂ (λ (k : ℕ) (x : List ℕ). put k (word_bytes (term_entries us)) x) n p
    ∙ front_put (word_bytes (term_entries ts)) (word_bytes (term_entries us)) o
    ∙ ap (λ (x : List ℕ). front x o) (sym (ap word_bytes (term_entries_append ts us) ∙ word_bytes_append (term_entries ts) (term_entries us)))

-- The words of an entry written one behind the other.
pub entry_start : (ws o : List ℕ) → o ≡ front (word_bytes (take 0 ws)) o
unfolding word_bytes
entry_start ws o = sym (front_none o)

module _ (ws o : List ℕ) (i : ℕ) where
  pub entry_more : {s t : List ℕ} → i < length ws → s ≡ front (word_bytes (take i ws)) o → t ≡ put_words i (get_or ws i 0 ∷ []) s → t ≡ front (word_bytes (take (i + 1) ws)) o
  entry_more h p q =
      words_behind o (take i ws) (get_or ws i 0 ∷ []) i p (sym (length-take-le i ws (omega (arith, h)))) q
      ∙ ap (λ (us : List ℕ). front (word_bytes us) o) (sym (take_more ws i 0 h))

-- How many entries are left behind i of them.
pub one_less : {i n : ℕ} → i < n → n - i ≡ suc (n - (i + 1))
one_less h = omega (arith, h)

pub none_left : {i n : ℕ} → n ≤ i → n - i ≡ 0
none_left h = omega (arith, h)

pub all_left : (n : ℕ) → n - 0 ≡ n
all_left n = omega arith

-- The terms left, and the one at the place.
pub terms_more : (s : List ℕ) (at : ℕ) {left less next : ℕ} → left ≡ suc less → at + 6 ≡ next → terms_at s at left ≡ term_at s at ∷ terms_at s next less
unfolding terms_at
terms_more s at {less = less} e f = ap (terms_at s at) e ∙ ap (λ (a : ℕ). term_at s at ∷ terms_at s a less) f

terms_none : (s : List ℕ) (at : ℕ) {left : ℕ} → left ≡ 0 → terms_at s at left ≡ []
unfolding terms_at
terms_none s at e = ap (terms_at s at) e

pub front_long : (o : List ℕ) (ts : List Term) → 8 * length ts ≤ length o → length (front (word_bytes (term_entries ts)) o) ≡ length o
front_long o ts h = length_front (word_bytes (term_entries ts)) o (omega (arith, length_word_bytes (term_entries ts), length_term_entries ts))

-- The terms of a rule, in the part of the file that they are.
pub rule_part :
    (s : List ℕ) (from count : ℕ) {b : ℕ} → b ≡ from + 6 * count → b ≤ length s
    → (length (take (b - from) (drop from s)) / 6 ≡ count) × (terms_at (take (b - from) (drop from s)) 0 (length (take (b - from) (drop from s)) / 6) ≡ terms_at s from count)
rule_part s from count {b} e l =
    let n : length (take (b - from) (drop from s)) ≡ 6 * count = length-take-le (b - from) (drop from s) (omega (arith, length-drop from s)) ∙ (let m : b - from ≡ 6 * count = omega arith in m) in
    let k : length (take (b - from) (drop from s)) / 6 ≡ count = omega (arith, n) in
    (k, terms_part s from (b - from) _ (omega (arith, k, e)) ∙ ap (terms_at s from) k)

-- Terms of a field written one behind the other.
pub record Written (s : List ℕ) (count : ℕ) (o : List ℕ) (i : ℕ) (t : List ℕ) : Type 0 where
  pub done : List Term
  pub filled : t ≡ front (word_bytes (term_entries done)) o
  pub many : length done ≡ i
  pub rest : done ++ terms_at s (6 * i) (count - i) ≡ terms_at s 0 count
  pub same : length t ≡ length o

pub written_start : (s : List ℕ) (count : ℕ) (o : List ℕ) → Written s count o 0 o
unfolding term_entries word_bytes
written_start s count o =
    record { done = []; filled = sym (front_none o); many = refl; rest = ap₂ (terms_at s) first_place (all_left count); same = refl }
  where
    first_place : 6 * 0 ≡ 0
    first_place = refl

module _ {s : List ℕ} {count : ℕ} {o : List ℕ} {i : ℕ} {t : List ℕ} (h : Written s count o i t) where
  pub written_more :
      (ys : List ℕ) → i < count → 8 * count ≤ length o
      → ys ≡ front (word_bytes (term_entries (term_at s (6 * i) ∷ []))) (mid_of (8 * i) (length t - 8 * i) t)
      → Written s count o (i + 1) (put_mid (8 * i) (length t - 8 * i) t ys)
  written_more ys l space e =
      let x = term_at s (6 * i) in
      let f = terms_lent o t h.done (x ∷ []) (8 * i) ys h.filled (omega (arith, h.many)) (omega (arith, space, l, h.same)) e in
      let n : length (h.done ++ (x ∷ [])) ≡ length h.done + 1 = length-append h.done (x ∷ []) in
      record {
        done = h.done ++ (x ∷ []);
        filled = f;
        many = omega (arith, n, h.many);
        rest =
            append_assoc h.done (x ∷ []) (terms_at s (6 * (i + 1)) (count - (i + 1)))
            ∙ ap (λ (l : List Term). h.done ++ l) (sym (terms_more s (6 * i) (one_less l) (omega arith)))
            ∙ h.rest;
        same = ap length f ∙ front_long o (h.done ++ (x ∷ [])) (omega (arith, n, h.many, l, space));
      }

  pub written_end : count ≤ i → t ≡ front (word_bytes (term_entries (terms_at s 0 count))) o
  written_end l =
      h.filled
      ∙ ap (λ (ts : List Term). front (word_bytes (term_entries ts)) o)
      (sym (append-nil h.done) ∙ ap (λ (ts : List Term). h.done ++ ts) (sym (terms_none s (6 * i) (none_left l))) ∙ h.rest)
