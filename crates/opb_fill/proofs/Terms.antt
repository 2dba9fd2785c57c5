-- Laws of a sum written term by term: behind each other, or each at its variable's place.
-- Assumes nothing.
use Prim.Native.Nat.{ℕ, zero, suc, ◌%◌, ◌+◌, ◌*◌, ◌-◌, ◌≤◌, ◌<◌}
use native.Mathlib.Omega.{arith}
use mathlib.Core.Path.{◌≡◌, refl, sym, ap, ap₂, ◌∙◌}
use mathlib.Core.Bool.{Bool, true, false}
use mathlib.Core.List.{List, [], ◌∷◌, ◌++◌, append_assoc, append-nil}
use lib.Dec.{eqb}
use lib.ListN.{length, get_or, length-append}
use borrow.Author.Tests.{leb-true}
use borrow.Rule.Slice.PartMut.{mid_of, put_mid}
use Rattle.plpb.specs.Lists.{all}
use Rattle.plpb.specs.Plan.{Term}
use Rattle.words.specs.Words.{word_bytes, unsigned, bytes_of}
use Rattle.words.specs.Writes.{front, put}
use Rattle.words.proofs.Writes.{front_none}
use Rattle.format.specs.Layout.{term_size}
use Rattle.format.specs.Tables.{term_entries}
use Rattle.format.proofs.Bools.{and_left, and_right}
use Rattle.format.proofs.Lawful.{weight_small}
use Rattle.format.specs.Limits.{term_within}
use Rattle.tables.proofs.Entered.{terms_lent, front_long}
use Rattle.tables.proofs.Dense.{Placing, placing_more}
use Rattle.tokens.specs.declared.text.Text.{Text}
use Rattle.tokens.specs.Tokens.{number_at}
use Rattle.tokens.specs.Found.{read, Reads}
use Rattle.tokens.proofs.Runs.{read_behind}
use Rattle.tokens.proofs.Numbers.{seen_small}
use Rattle.statements.specs.declared.Weighted.{Weighted}
use Rattle.statements.specs.Grammar.{unsigned_from, index_from, integer_at, with_sign, is_term, term_at, sum_at}
use Rattle.statements.specs.Parts.{WeightedAt}
use Rattle.statements.proofs.Parts.{size_signed}
use Rattle.statements.proofs.Sums.{sum_some, sum_none}
use Rattle.opb_fill.specs.Fill.{InRange}

-- The word of a number with its sign.
pub positive : (b : Bool) (k : ℕ) → b ≡ false → k ≡ unsigned (with_sign b k)
unfolding with_sign unsigned
positive b k e = rw e

pub negated : (b : Bool) (k r : ℕ) → b ≡ true → k < 4_294_967_296 → r < 4_294_967_296 → (r + k) % 4_294_967_296 ≡ 0 → r ≡ unsigned (with_sign b k)
unfolding with_sign unsigned
negated b zero r e l m h = rw e (omega (arith, h, m))
negated b (suc k) r e l m h = rw e (omega (arith, h, l, m))

-- What is seen of a term in range is the term.
module _ (s : List ℕ) (at : ℕ) (t : Weighted) (h : WeightedAt s at t) (r : term_within 512 (term_at s at) ≡ true) where
  pub variable_is : t.variable ≡ (term_at s at).variable
  unfolding term_at term_within
  variable_is = let l = leb-true (number_at s (index_from s at)) 512 (and_left _ _ r) in h.variable ∙ seen_small (number_at s (index_from s at)) (omega arith)

  size_is : t.weight.size ≡ number_at s (unsigned_from s at)
  unfolding term_at term_within integer_at
  size_is =
      let k = number_at s (unsigned_from s at) in
      let l = weight_small (integer_at s at) (and_right _ _ r) in
      h.weight.size ∙ seen_small k (omega (arith, l, size_signed (eqb (get_or s at 0) 45) k))

  pub weight_is : {w : ℕ} → w ≡ unsigned (with_sign t.weight.negative t.weight.size) → w ≡ unsigned (term_at s at).weight
  unfolding term_at integer_at
  weight_is e = e ∙ ap₂ (λ b k. unsigned (with_sign b k)) h.weight.negative size_is

-- The first of the terms to come is in range, and so are those behind it.
module _ (s : List ℕ) (at : ℕ) (t : Weighted) (some : is_term s at ≡ true) (h : WeightedAt s at t) (r : InRange (sum_at s at)) where
  pub here_and_rest : sum_at s at ≡ term_at s at ∷ read sum_at t.rest
  here_and_rest = (sum_some s at some).0 ∙ ap (λ ts. term_at s at ∷ ts) (sym (read_behind h.rest sum_at))

  range_both : (term_within 512 (term_at s at) ≡ true) × InRange (read sum_at t.rest)
  unfolding all
  range_both = let q : all (term_within 512) (term_at s at ∷ read sum_at t.rest) ≡ true = ap (all (term_within 512)) (sym here_and_rest) ∙ r in (and_left _ _ q, and_right _ _ q)

  pub range_here : term_within 512 (term_at s at) ≡ true
  range_here = range_both.0

  pub range_rest : InRange (read sum_at t.rest)
  range_rest = range_both.1

-- The terms of a sum written one behind the other.
pub record Written (all_of : List Term) (o : List ℕ) (text : Text) (end : ℕ) (t : List ℕ) : Type 0 where
  pub done : List Term
  pub filled : t ≡ front (word_bytes (term_entries done)) o
  pub place : end ≡ 8 * length done
  pub rest : done ++ read sum_at text ≡ all_of
  pub range : InRange (read sum_at text)
  pub space : end + 8 * length (read sum_at text) ≤ length o
  pub limit : length o ≤ term_size
  pub same : length t ≡ length o

pub written_start :
    (text : Text) (o : List ℕ) → InRange (read sum_at text) → 8 * length (read sum_at text) ≤ length o → length o ≤ term_size
    → Written (read sum_at text) o text 0 o
unfolding term_entries word_bytes
written_start text o r l m =
    record {
      done = [];
      filled = sym (front_none o);
      place = refl;
      rest = refl;
      range = r;
      space = omega arith;
      limit = m;
      same = refl;
    }

module _ {all_of : List Term} {o : List ℕ} {text : Text} {end : ℕ} {t : List ℕ} (h : Written all_of o text end t) where
  module _ (x : Weighted) (some : read is_term text ≡ true) (k : Reads WeightedAt text x) where
    abbrev s : List ℕ
    s = text.bytes.now

    abbrev at : ℕ
    at = text.at

    abbrev rest' : List Term
    rest' = read sum_at x.rest

    split : sum_at s at ≡ term_at s at ∷ rest'
    split = here_and_rest s at x some k h.range

    pub written_space : end + 8 ≤ length t
    written_space = omega (arith, h.space, h.same, ap length split)

    pub written_more :
        (w : ℕ) (ys : List ℕ) → w ≡ unsigned (with_sign x.weight.negative x.weight.size)
        → ys ≡ front (word_bytes (x.variable ∷ w ∷ [])) (mid_of end (length t - end) t)
        → Written all_of o x.rest (end + 8) (put_mid end (length t - end) t ys)
    unfolding term_entries
    written_more w ys q e =
        let r = range_here s at x some k h.range in
        let us = term_at s at ∷ [] in
        let e' = e ∙ ap₂ (λ a b. front (word_bytes (a ∷ b ∷ [])) (mid_of end (length t - end) t)) (variable_is s at x k r) (weight_is s at x k r q) in
        let f = terms_lent o t h.done us end ys h.filled h.place (omega (arith, written_space)) e' in
        let n : length (h.done ++ us) ≡ length h.done + 1 = length-append h.done us in
        record {
          done = h.done ++ us;
          filled = f;
          place = omega (arith, n, h.place);
          rest = append_assoc h.done us rest' ∙ ap (λ l. h.done ++ l) (sym split) ∙ h.rest;
          range = range_rest s at x some k h.range;
          space = omega (arith, h.space, ap length split);
          limit = h.limit;
          same = ap length f ∙ front_long o (h.done ++ us) (omega (arith, n, h.place, h.space, ap length split));
        }

  pub written_end : read is_term text ≡ false → (end ≡ 8 * length all_of) × (t ≡ front (word_bytes (term_entries all_of)) o)
  written_end none =
      let all_done = sym (append-nil h.done) ∙ ap (λ ts. h.done ++ ts) (sym (sum_none text.bytes.now text.at none).0) ∙ h.rest in
      (h.place ∙ ap (λ ts. 8 * length ts) all_done, h.filled ∙ ap (λ ts. front (word_bytes (term_entries ts)) o) all_done)

-- The same, each at its variable's place.
pub placed_more :
    (s : List ℕ) (at : ℕ) (all_of : List Term) (o t u : List ℕ) (x : Weighted) (some : is_term s at ≡ true) (k : WeightedAt s at x)
    (r : InRange (sum_at s at)) (w : ℕ) → w ≡ unsigned (with_sign x.weight.negative x.weight.size) → Placing all_of o (sum_at s at) t
    → u ≡ put (4 * (x.variable - 1)) (bytes_of 4 w) t → Placing all_of o (read sum_at x.rest) u
placed_more s at all_of o t u x some k r w q h e =
    let i = range_here s at x some k r in
    placing_more h _ _ (here_and_rest s at x some k r) u
    (e ∙ ap₂ (λ a b. put (4 * (a - 1)) (bytes_of 4 b) t) (variable_is s at x k i) (weight_is s at x k i q))
