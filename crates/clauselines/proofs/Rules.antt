-- A clause's rules and new variables, one after another.
-- Assumes nothing.
use Prim.Native.Nat.{ℕ, suc, ◌+◌, ◌*◌, ◌-◌, ◌<◌}
use native.Mathlib.Nat.{add-zero}
use native.Mathlib.Omega.{arith}
use mathlib.Core.Path.{◌≡◌, refl, ap, ap₂, ◌∙◌}
use mathlib.Core.Bool.{false}
use mathlib.Core.List.{List, [], ◌∷◌, ◌++◌, append_assoc}
use lib.IntN.{pos}
use lib.ListN.{length}
use Rattle.plpb.specs.Lists.{row}
use Rattle.plpb.specs.Plan.{Clause}
use Rattle.format.specs.Tables.{rule_of}
use Rattle.format.proofs.Lists.{length_spread}
use Rattle.opb.specs.Tau.{weighted, geq, rule_atoms, rules_lines, rule_lines, or_lines}
use Rattle.constraints.specs.Bytes.{sum_bytes, end_bytes, lines_bytes}
use Rattle.constraints.proofs.Bytes.{sum_none, sum_cons, geq_bytes, lines_none, lines_cons, lines_append}
use Rattle.clauselines.specs.Clauses.{atom_terms, rules_in}
use Rattle.clauselines.proofs.Looping.{Pieces}

-- ---- new variables

module _ (k count : ℕ) where
  abbrev pub atom_rest : ℕ → List ℕ
  atom_rest i = sum_bytes (atom_terms (k + 3 * i) (count - i))

  abbrev pub atom_piece : ℕ → List ℕ
  atom_piece i = sum_bytes (weighted (pos 1) (k + 3 * i + 3) ∷ [])

  atoms_more : (i : ℕ) → i < count → atom_rest i ≡ atom_piece i ++ atom_rest (suc i)
  unfolding atom_terms
  atoms_more i h =
      let e : count - i ≡ suc (count - suc i) = omega arith in
      let n : k + 3 * i + 3 ≡ k + 3 * suc i = omega arith in
      ap (λ m. sum_bytes (atom_terms (k + 3 * i) m)) e
      ∙ sum_cons (weighted (pos 1) (k + 3 * i + 3)) (atom_terms (k + 3 * i + 3) (count - suc i))
      ∙ ap (λ m. atom_piece i ++ sum_bytes (atom_terms m (count - suc i))) n

  atoms_none : atom_rest count ≡ []
  unfolding atom_terms
  atoms_none = let e : count - count ≡ 0 = omega arith in ap (λ m. sum_bytes (atom_terms (k + 3 * count) m)) e ∙ sum_none

  pub atom_pieces : Pieces (sum_bytes (atom_terms k count)) atom_piece atom_rest count
  atom_pieces = record { whole = (let e : k + 3 * 0 ≡ k = omega arith in let z : count - 0 ≡ count = omega arith in ap₂ (λ m n. sum_bytes (atom_terms m n)) e z); more = atoms_more; none = atoms_none }

pub atoms_are : (k : ℕ) (c : Clause) → rule_atoms k c ≡ atom_terms k (length c)
unfolding rule_atoms atom_terms
atoms_are k [] = refl
atoms_are k (r ∷ rs) = ap (λ ts. weighted (pos 1) (k + 3) ∷ ts) (atoms_are (k + 3) rs)

-- ---- rules

module _ (f g : ℕ → ℕ) where
  pub length_rules : (i k : ℕ) → length (rules_in f g i k) ≡ k
  unfolding rules_in
  length_rules i k = length_spread (rule_of f g) i k

  module _ (first count k : ℕ) where
    abbrev pub rule_rest : ℕ → List ℕ
    rule_rest i = lines_bytes (rules_lines (k + 3 * i) (rules_in f g (first + i) (count - i)))

    abbrev pub rule_piece : ℕ → List ℕ
    rule_piece i = lines_bytes (rule_lines (k + 3 * i) (rule_of f g (first + i)))

    rules_more : (i : ℕ) → i < count → rule_rest i ≡ rule_piece i ++ rule_rest (suc i)
    unfolding rules_in row rules_lines
    rules_more i h =
        let e : count - i ≡ suc (count - suc i) = omega arith in
        let n : k + 3 * i + 3 ≡ k + 3 * suc i = omega arith in
        let m : suc (first + i) ≡ first + suc i = omega arith in
        ap (λ j. lines_bytes (rules_lines (k + 3 * i) (rules_in f g (first + i) j))) e
        ∙ lines_append (rule_lines (k + 3 * i) (rule_of f g (first + i))) (rules_lines (k + 3 * i + 3) (rules_in f g (suc (first + i)) (count - suc i)))
        ∙ ap₂ (λ a b. rule_piece i ++ lines_bytes (rules_lines a (rules_in f g b (count - suc i)))) n m

    rules_none : rule_rest count ≡ []
    unfolding rules_in row rules_lines
    rules_none = let e : count - count ≡ 0 = omega arith in ap (λ j. lines_bytes (rules_lines (k + 3 * count) (rules_in f g (first + count) j))) e ∙ lines_none

    pub rule_pieces : Pieces (lines_bytes (rules_lines k (rules_in f g first count))) rule_piece rule_rest count
    rule_pieces = record {
      whole = (
          let e : k + 3 * 0 ≡ k = omega arith in
          let z : count - 0 ≡ count = omega arith in
          ap (λ n. lines_bytes (rules_lines (k + 3 * 0) (rules_in f g (first + 0) n))) z ∙ ap₂ (λ a b. lines_bytes (rules_lines a (rules_in f g b count))) e (add-zero first)
          );
      more = rules_more;
      none = rules_none;
    }

    -- (15), then the rules' lines.
    pub or_bytes :
        lines_bytes (or_lines k (rules_in f g first count))
        ≡ sum_bytes (atom_terms k count) ++ (end_bytes false (pos 1) ++ lines_bytes (rules_lines k (rules_in f g first count)))
    unfolding or_lines
    or_bytes =
        let c = rules_in f g first count in
        lines_cons (geq (rule_atoms k c) (pos 1)) (rules_lines k c)
        ∙ ap (λ l. l ++ lines_bytes (rules_lines k c)) (geq_bytes (rule_atoms k c) (pos 1) ∙ ap (λ ts. sum_bytes ts ++ end_bytes false (pos 1)) (atoms_are k c ∙ ap (atom_terms k) (length_rules first count)))
        ∙ append_assoc (sum_bytes (atom_terms k count)) (end_bytes false (pos 1)) (lines_bytes (rules_lines k c))
