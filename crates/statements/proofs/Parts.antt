-- Signs, relations, and the tests of a term on what is seen of its numbers.
-- Assumes nothing.
use Prim.Native.Nat.{ℕ, zero, suc, ◌+◌, ◌≤◌, ◌<◌}
use native.Mathlib.Omega.{arith}
use mathlib.Core.Path.{◌≡◌, refl, sym, ap, ◌∙◌}
use mathlib.Core.Bool.{Bool, true, false, cond}
use mathlib.Core.List.{List, [], ◌∷◌}
use lib.Dec.{leb, ltb, eqb}
use lib.IntN.{ℤ, pos, nat_abs}
use lib.ListN.{length, get_or, drop, drop_of_length-le, get_or-eq_default}
use borrow.Author.Tests.{eq-eqb, ne_eqb, lt-ltb, lt-leb, leb-true, ltb-true, ltb-false}
use Rattle.plpb.specs.Lists.{◌and◌, ◌or◌}
use Rattle.plpb.proofs.Lists.{and_true, and_false, or_true}
use Rattle.std.specs.Prelude.{Option, Some, None, is_some}
use Rattle.format.proofs.Bools.{and_join}
use Rattle.format.specs.Limits.{weight_lawful}
use Rattle.bodies.specs.Terms.{term_lawful}
use Rattle.tokens.specs.Tokens.{blanks_end, digits_end, number_at, begins, word_end, most, seen}
use Rattle.tokens.specs.declared.text.Text.{Text}
use Rattle.tokens.specs.Found.{left, read, Reads, Behind, takes, Found}
use Rattle.tokens.proofs.Runs.{here, word_there, read_behind, behind}
use Rattle.std.specs.Option.{option_or, unwrap_or}
use Rattle.tokens.proofs.Numbers.{seen_small, seen_ltb, seen_leb}
use Rattle.statements.specs.declared.Signed.{Signed}
use Rattle.statements.specs.Parts.{SignedAt}
use Rattle.statements.specs.Grammar.{unsigned_from, integer_end, is_integer, with_sign, letter_at, index_from, index_end, term_end, is_term, is_exact, relation_end, bound_from, bound_end, is_bounded}

-- A part that is not there, before those behind it or behind those before it.
pub left_false : {a : Bool} (b : Bool) → a ≡ false → a and b ≡ false
unfolding ◌and◌
left_false b e = rw e

pub last_false : (a : Bool) {b : Bool} → b ≡ false → a and b ≡ false
last_false a e = ap (λ b. a and b) e ∙ and_false a

-- A term by its parts, each read from the text behind the one before.
pub no_weight : (s : List ℕ) (at : ℕ) → is_integer s at ≡ false → is_term s at ≡ false
unfolding is_term
no_weight s at e = left_false _ (left_false _ (left_false _ (left_false _ e)))

module _ {s : List ℕ} {at : ℕ} where
  module _ {w : Text} (p : Behind integer_end s at w) where
    letter_by : {b : Bool} → takes blanks_end w ≡ b → ltb (integer_end s at) (letter_at s at) ≡ b
    unfolding letter_at
    letter_by e = sym (read_behind p (λ s k. ltb k (blanks_end s k))) ∙ e

    pub no_letter : takes blanks_end w ≡ false → is_term s at ≡ false
    unfolding is_term
    no_letter e = left_false _ (left_false _ (left_false _ (last_false _ (letter_by e))))

    module _ {l : Text} (q : Reads (Behind blanks_end) w l) where
      letter_is : Behind letter_at s at l
      unfolding letter_at
      letter_is = behind p q

      x_by : {b : Bool} → begins (120 ∷ []) (left l) ≡ b → ltb (letter_at s at) (index_from s at) ≡ b
      unfolding index_from
      x_by e = word_there 120 [] s (letter_at s at) ∙ sym (read_behind letter_is (λ s k. begins (120 ∷ []) (drop k s))) ∙ e

      pub no_x : begins (120 ∷ []) (left l) ≡ false → is_term s at ≡ false
      unfolding is_term
      no_x e = left_false _ (left_false _ (last_false _ (x_by e)))

      module _ {f : Text} (r : Reads (Behind (word_end (120 ∷ []))) l f) where
        pub from_is : Behind index_from s at f
        unfolding index_from
        from_is = behind letter_is r

        index_by : {b : Bool} → takes digits_end f ≡ b → ltb (index_from s at) (index_end s at) ≡ b
        unfolding index_end
        index_by e = sym (read_behind from_is (λ s k. ltb k (digits_end s k))) ∙ e

        pub no_index : takes digits_end f ≡ false → is_term s at ≡ false
        unfolding is_term
        no_index e = left_false _ (last_false _ (index_by e))

        module _ {i : Text} (t : Reads (Behind digits_end) f i) where
          index_is : Behind index_end s at i
          unfolding index_end
          index_is = behind from_is t

          last_by : {b : Bool} → takes blanks_end i ≡ b → ltb (index_end s at) (term_end s at) ≡ b
          unfolding term_end
          last_by e = sym (read_behind index_is (λ s k. ltb k (blanks_end s k))) ∙ e

          pub no_last : takes blanks_end i ≡ false → is_term s at ≡ false
          unfolding is_term
          no_last e = last_false _ (last_by e)

          pub end_is : {k : Text} → Reads (Behind blanks_end) i k → Behind term_end s at k
          unfolding term_end
          end_is e = behind index_is e

          pub all_there :
              is_integer s at ≡ true → takes blanks_end w ≡ true → begins (120 ∷ []) (left l) ≡ true → takes digits_end f ≡ true
              → takes blanks_end i ≡ true → is_term s at ≡ true
          unfolding is_term
          all_there a b c d e = and_join _ _ (and_join _ _ (and_join _ _ (and_join _ _ a (letter_by b)) (x_by c)) (index_by d)) (last_by e)

-- A signed number behind an item.
pub signed_behind : {end : List ℕ → ℕ → ℕ} {s : List ℕ} {at : ℕ} {u : Text} {r : Signed} → Behind end s at u → Reads SignedAt u r → SignedAt s (end s at) r
signed_behind b h = record {
  negative = h.negative ∙ read_behind b (λ s k. eqb (get_or s k 0) 45);
  size = h.size ∙ read_behind b (λ s k. seen (number_at s (unsigned_from s k)));
}

-- A relation by its parts.
pub no_relation : (s : List ℕ) (at : ℕ) → ltb at (relation_end s at) ≡ false → is_bounded s at ≡ false
unfolding is_bounded
no_relation s at e = left_false _ e

module _ {s : List ℕ} {at : ℕ} where
  module _ {k : Text} (p : Behind relation_end s at k) {f : Text} (q : Reads (Behind blanks_end) k f) where
    pub bound_is : Behind bound_from s at f
    unfolding bound_from
    bound_is = behind p q

    pub no_bound : read is_integer f ≡ false → is_bounded s at ≡ false
    unfolding is_bounded
    no_bound e = last_false _ (sym (read_behind bound_is is_integer) ∙ e)

    pub both_there : ltb at (relation_end s at) ≡ true → read is_integer f ≡ true → is_bounded s at ≡ true
    unfolding is_bounded
    both_there a b = and_join _ _ a (sym (read_behind bound_is is_integer) ∙ b)

    pub bound_ends : {i : Text} → Reads (Behind integer_end) f i → {r : Text} → Reads (Behind blanks_end) i r → Behind bound_end s at r
    unfolding bound_end
    bound_ends e g = behind (behind bound_is e) g

-- Nothing stands beyond the end.
none : (s : List ℕ) (at k : ℕ) → length s ≤ at → 0 < k → eqb (get_or s at 0) k ≡ false
none s at k h n = rw (get_or-eq_default s 0 {n = at} h) (ne_eqb 0 k (λ e. omega arith))

sign_by : (t : Bool) (at : ℕ) → at ≤ cond t (at + 1) at
sign_by true at = omega arith
sign_by false at = omega arith

module _ (s : List ℕ) (at : ℕ) where
  pub sign_from : at ≤ unsigned_from s at
  unfolding unsigned_from
  sign_from = sign_by _ at

  pub sign_none : length s ≤ at → at ≡ unsigned_from s at
  unfolding unsigned_from ◌or◌
  sign_none h = rw (none s at 43 h (omega arith), none s at 45 h (omega arith))

  pub sign_plus : get_or s at 0 ≡ 43 → at + 1 ≡ unsigned_from s at
  unfolding unsigned_from ◌or◌
  sign_plus h = rw (eq-eqb _ 43 h)

  pub sign_minus : (get_or s at 0 ≡ 43 → ⊥) → get_or s at 0 ≡ 45 → at + 1 ≡ unsigned_from s at
  unfolding unsigned_from ◌or◌
  sign_minus n h = rw (ne_eqb _ 43 n, eq-eqb _ 45 h)

  pub sign_other : (get_or s at 0 ≡ 43 → ⊥) → (get_or s at 0 ≡ 45 → ⊥) → at ≡ unsigned_from s at
  unfolding unsigned_from ◌or◌
  sign_other n m = rw (ne_eqb _ 43 n, ne_eqb _ 45 m)

  pub relation_equal : get_or s at 0 ≡ 61 → at + 1 ≡ relation_end s at
  unfolding relation_end is_exact
  relation_equal h = rw (eq-eqb _ 61 h)

  pub relation_other : {r : ℕ} → (get_or s at 0 ≡ 61 → ⊥) → r ≡ word_end (62 ∷ 61 ∷ []) s at → r ≡ relation_end s at
  unfolding relation_end is_exact
  relation_other n e = rw (ne_eqb _ 61 n) e

-- A word of one byte, which is not 0, is that byte, and is as long as it.
pub word_of_one : (w : ℕ) (s : List ℕ) (at : ℕ) → 0 < w → eqb (get_or s at 0) w ≡ begins (w ∷ []) (drop at s)
unfolding begins
word_of_one w s at n = go (ltb at (length s)) refl
  where
    go : (t : Bool) → ltb at (length s) ≡ t → eqb (get_or s at 0) w ≡ begins (w ∷ []) (drop at s)
    go true e = rw (here s at (ltb-true at (length s) e)) (sym (and_true (eqb (get_or s at 0) w)))
    go false e =
        let l = ltb-false at (length s) e in
        rw (drop_of_length-le s {i = at} l) (none s at w l n)

module _ (w : ℕ) (n : 0 < w) (t : Text) where
  no_word : begins (w ∷ []) (left t) ≡ false → read (λ s at. eqb (get_or s at 0) w) t ≡ false
  no_word e = word_of_one w t.bytes.now t.at n ∙ e

  module _ {k : Text} (there : begins (w ∷ []) (left t) ≡ true) (b : Reads (Behind (word_end (w ∷ []))) t k) where
    a_word : read (λ s at. eqb (get_or s at 0) w) t ≡ true
    a_word = word_of_one w t.bytes.now t.at n ∙ there

    word_on : k.at ≡ t.at + 1
    unfolding word_end
    word_on = b.at ∙ rw there refl

  -- It is there where the byte is.
  pub byte_is : (r : Option Text) → Found (begins (w ∷ []) (left t)) (Reads (Behind (word_end (w ∷ []))) t) r → is_some r ≡ read (λ s at. eqb (get_or s at 0) w) t
  byte_is None e = sym (no_word e)
  byte_is (Some k) (e, b) = sym (word_of_one w t.bytes.now t.at n ∙ e)

-- A sign is passed where one stands.
pub sign_passed :
    (t : Text) (minus plus : Option Text) → Found (begins (45 ∷ []) (left t)) (Reads (Behind (word_end (45 ∷ []))) t) minus
    → Found (begins (43 ∷ []) (left t)) (Reads (Behind (word_end (43 ∷ []))) t) plus → Reads (Behind unsigned_from) t (unwrap_or (option_or minus plus) t)
unfolding unsigned_from ◌or◌
sign_passed t None None m p = record { bytes = refl; at = rw (no_word 43 (omega arith) t p, no_word 45 (omega arith) t m) }
sign_passed t None (Some k) m (p, b) = record { bytes = b.bytes; at = rw (a_word 43 (omega arith) t p b) (word_on 43 (omega arith) t p b) }
sign_passed t (Some k) plus (m, b) p = record {
  bytes = b.bytes;
  at = rw (a_word 45 (omega arith) t m b, or_true (read (λ s at. eqb (get_or s at 0) 43) t)) (word_on 45 (omega arith) t m b);
}

-- A relation is one of two words.
pub relation_passed :
    (t : Text) (equal least : Option Text) → Found (begins (61 ∷ []) (left t)) (Reads (Behind (word_end (61 ∷ []))) t) equal
    → Found (begins (62 ∷ 61 ∷ []) (left t)) (Reads (Behind (word_end (62 ∷ 61 ∷ []))) t) least
    → Found (takes relation_end t) (Reads (Behind relation_end) t) (option_or equal least)
unfolding relation_end is_exact
relation_passed t None None e l = rw (no_word 61 (omega arith) t e) (word_there 62 (61 ∷ []) t.bytes.now t.at ∙ l)
relation_passed t None (Some k) e (l, b) =
    let no = no_word 61 (omega arith) t e in
    (rw no (word_there 62 (61 ∷ []) t.bytes.now t.at ∙ l), record { bytes = b.bytes; at = rw no b.at })
relation_passed t (Some k) least (e, b) l =
    let is = a_word 61 (omega arith) t e b in
    (rw is (lt-ltb t.at (t.at + 1) (omega arith)), record { bytes = b.bytes; at = rw is (word_on 61 (omega arith) t e b) })

pub relation_found :
    (t : Text) (equal least : Option Text) {r : Option Text} → r ≡ option_or equal least → Found (begins (61 ∷ []) (left t)) (Reads (Behind (word_end (61 ∷ []))) t) equal
    → Found (begins (62 ∷ 61 ∷ []) (left t)) (Reads (Behind (word_end (62 ∷ 61 ∷ []))) t) least
    → Found (takes relation_end t) (Reads (Behind relation_end) t) r
relation_found t equal least is e l = rw is (relation_passed t equal least e l)

-- A number's size does not depend on its sign.
pub size_signed : (b : Bool) (k : ℕ) → nat_abs (with_sign b k) ≡ k
unfolding with_sign
size_signed true zero = refl
size_signed true (suc k) = refl
size_signed false k = refl

-- What is seen of a term is lawful where the term is.
weight_seen : (b : Bool) (k : ℕ) → weight_lawful (pos (seen k)) ≡ weight_lawful (with_sign b k)
unfolding weight_lawful
weight_seen b k = rw (size_signed b k, seen_ltb 0 k (omega arith), seen_leb 1_000_000 k (omega arith))

pub term_seen :
    (n v x k : ℕ) (b : Bool) → n ≤ 512
    → term_lawful n v (record { variable = seen x; weight = pos (seen k) }) ≡ term_lawful n v (record { variable = x; weight = with_sign b k })
unfolding term_lawful ◌and◌
term_seen n v x k b h = rw (weight_seen b k, seen_leb n x (omega arith)) (go (ltb most x) refl)
  where
    go : (t : Bool) → ltb most x ≡ t → ltb v (seen x) and (leb x n and weight_lawful (with_sign b k)) ≡ ltb v x and (leb x n and weight_lawful (with_sign b k))
    go true e =
        let m = ltb-true most x e in
        let f : leb x n ≡ false = lt-leb x n (omega arith) in
        rw f (and_false (ltb v (seen x)) ∙ sym (and_false (ltb v x)))
    go false e = rw (seen_small x (ltb-false most x e))

-- A lawful term's variable is seen as it is.
pub variable_seen : (n v x : ℕ) (w : ℤ) → n ≤ 512 → term_lawful n v (record { variable = x; weight = w }) ≡ true → seen x ≡ x
unfolding term_lawful ◌and◌
variable_seen n v x w h e = go (ltb v x) (leb x n) refl refl
  where
    go : (a b : Bool) → ltb v x ≡ a → leb x n ≡ b → seen x ≡ x
    go true true p q = let m = leb-true x n q in seen_small x (omega arith)
    go true false p q = absurd (let z : false ≡ true = rw (p, q) at e in let y : ◌≡◌ {A = ℕ} 0 1 = cc in omega arith)
    go false b p q = absurd (let z : false ≡ true = rw p at e in let y : ◌≡◌ {A = ℕ} 0 1 = cc in omega arith)
