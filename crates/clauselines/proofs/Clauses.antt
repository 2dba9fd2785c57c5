-- The clauses, one after another.
-- Assumes nothing.
use Prim.Native.Nat.{ℕ, suc, ◌+◌, ◌*◌, ◌-◌, ◌≤◌, ◌<◌, zero-le}
use native.Mathlib.Nat.{add-zero, add_assoc}
use native.Mathlib.Omega.{arith}
use mathlib.Core.Path.{◌≡◌, refl, sym, ap, ap₂, subst, ◌∙◌}
use mathlib.Core.Bool.{true, false, cond}
use mathlib.Core.List.{List, [], ◌∷◌, ◌++◌, map, append-nil}
use lib.Dec.{eqb}
use lib.ListN.{length}
use borrow.Author.Tests.{eq-eqb, ne_eqb}
use Rattle.plpb.specs.Lists.{row, concat, sum_by}
use Rattle.plpb.specs.Plan.{Clause}
use Rattle.words.specs.Words.{word_at}
use Rattle.format.specs.Tables.{rule_of, clause_of}
use Rattle.format.specs.Layout.{clause_first_at, clause_count_at}
use Rattle.opb.specs.Tau.{straight, or_lines, is_single, clause_lines, new_atoms, clauses_lines}
use Rattle.spelling.specs.Overlay.{Puts, Room}
use Rattle.spelling.proofs.Puts.{Left, left_start, left_more, left_room, left_done}
use Rattle.constraints.specs.Bytes.{lines_bytes}
use Rattle.constraints.proofs.Bytes.{lines_none, lines_append}
use Rattle.rulelines.specs.Rules.{RuleFits}
use Rattle.clauselines.specs.Clauses.{atom_count, rules_in, clauses_in, RulesFit, ClauseFits, ClausesFit}
use Rattle.clauselines.proofs.Rules.{length_rules}

module _ (f g : ℕ → ℕ) (c : ℕ) where
  -- A clause's rules.
  clause_is : clause_of f g c ≡ rules_in f g (f (clause_first_at c)) (f (clause_count_at c))
  unfolding clause_of rules_in
  clause_is = refl

  clause_length : length (clause_of f g c) ≡ f (clause_count_at c)
  clause_length = ap length clause_is ∙ length_rules f g (f (clause_first_at c)) (f (clause_count_at c))

  pub atoms_of : new_atoms (clause_of f g c) ≡ atom_count (f (clause_count_at c))
  unfolding new_atoms is_single atom_count
  atoms_of = ap (λ n. cond (eqb n 1) 0 (3 * n)) clause_length

  one_rule : rules_in f g (f (clause_first_at c)) 1 ≡ rule_of f g (f (clause_first_at c)) ∷ []
  unfolding rules_in row
  one_rule = refl

  pub single_lines : (k : ℕ) → f (clause_count_at c) ≡ 1 → clause_lines k (clause_of f g c) ≡ straight (rule_of f g (f (clause_first_at c)))
  unfolding clause_lines is_single concat
  single_lines k e =
      rw (clause_length, eq-eqb (f (clause_count_at c)) 1 e)
      (ap (λ (d : Clause). concat (map straight d)) (clause_is ∙ ap (rules_in f g (f (clause_first_at c))) e ∙ one_rule) ∙ append-nil (straight (rule_of f g (f (clause_first_at c)))))

  pub several_lines :
      (k : ℕ) → (f (clause_count_at c) ≡ 1 → ⊥) → clause_lines k (clause_of f g c) ≡ or_lines k (rules_in f g (f (clause_first_at c)) (f (clause_count_at c)))
  unfolding clause_lines is_single
  several_lines k h = rw (clause_length, ne_eqb (f (clause_count_at c)) 1 h) (ap (λ (d : Clause). or_lines k d) clause_is)

-- Clauses from c on, where those up to there took the variables up to k.
pub record Going (tables terms : List ℕ) (at : ℕ) (s : List ℕ) (c k next : ℕ) (t : List ℕ) : Type 0 where
  pub within : c ≤ word_at tables 1
  pub place : k + sum_by new_atoms (clauses_in (word_at tables) (word_at terms) c (word_at tables 1 - c))
      ≡ word_at tables 0 + sum_by new_atoms (clauses_in (word_at tables) (word_at terms) 0 (word_at tables 1))
  pub left : Left (lines_bytes (clauses_lines (word_at tables 0) (clauses_in (word_at tables) (word_at terms) 0 (word_at tables 1)))) at s
      (lines_bytes (clauses_lines k (clauses_in (word_at tables) (word_at terms) c (word_at tables 1 - c)))) next t

module _ (tables terms : List ℕ) (at : ℕ) (s : List ℕ) where
  abbrev f : ℕ → ℕ
  f = word_at tables

  abbrev g : ℕ → ℕ
  g = word_at terms

  pub going_start : {k : ℕ} → k ≡ f 0 → Going tables terms at s 0 k at s
  going_start {k} e =
      let z : f 1 - 0 ≡ f 1 = omega arith in
      rw e
      (record {
        within = zero-le;
        place = ap (λ n. f 0 + sum_by new_atoms (clauses_in f g 0 n)) z;
        left = rw z (left_start (lines_bytes (clauses_lines (f 0) (clauses_in f g 0 (f 1)))) at s);
      })

  cons : (c : ℕ) → c < f 1 → clauses_in f g c (f 1 - c) ≡ clause_of f g c ∷ clauses_in f g (suc c) (f 1 - suc c)
  unfolding clauses_in row
  cons c h = let e : f 1 - c ≡ suc (f 1 - suc c) = omega arith in ap (λ n. map (clause_of f g) (row c n)) e

  none : clauses_in f g (f 1) (f 1 - f 1) ≡ []
  unfolding clauses_in row
  none = let e : f 1 - f 1 ≡ 0 = omega arith in ap (λ n. map (clause_of f g) (row (f 1) n)) e

  module _ {c k next : ℕ} {t : List ℕ} (l : Going tables terms at s c k next t) where
    split :
        c < f 1 → lines_bytes (clauses_lines k (clauses_in f g c (f 1 - c)))
        ≡ lines_bytes (clause_lines k (clause_of f g c)) ++ lines_bytes (clauses_lines (k + new_atoms (clause_of f g c)) (clauses_in f g (suc c) (f 1 - suc c)))
    unfolding clauses_lines
    split h =
        ap (λ (d : List Clause). lines_bytes (clauses_lines k d)) (cons c h)
        ∙ lines_append (clause_lines k (clause_of f g c)) (clauses_lines (k + new_atoms (clause_of f g c)) (clauses_in f g (suc c) (f 1 - suc c)))

    pub going_room :
        c < f 1 → Room at (lines_bytes (clauses_lines (f 0) (clauses_in f g 0 (f 1)))) → Room next (lines_bytes (clause_lines k (clause_of f g c)))
    going_room h = left_room l.left (lines_bytes (clause_lines k (clause_of f g c))) (lines_bytes (clauses_lines (k + new_atoms (clause_of f g c)) (clauses_in f g (suc c) (f 1 - suc c)))) (split h)

    pub going_few : ClausesFit tables terms → k ≤ 100_000
    going_few h = omega (arith, l.place, h.few)

    pub going_fits : c < f 1 → ClausesFit tables terms → ClauseFits tables terms c k
    going_fits h fit = record { entry = omega (arith, fit.entries); rules = fit.rules c k h (going_few fit) }

    atoms_next : c < f 1 → sum_by new_atoms (clauses_in f g c (f 1 - c)) ≡ new_atoms (clause_of f g c) + sum_by new_atoms (clauses_in f g (suc c) (f 1 - suc c))
    unfolding sum_by
    atoms_next h = ap (sum_by new_atoms) (cons c h)

    pub going_more :
        {u : List ℕ} {r j : ℕ} → c < f 1 → Puts (lines_bytes (clause_lines k (clause_of f g c))) next t u r → j ≡ atom_count (f (clause_count_at c))
        → Going tables terms at s (suc c) (k + j) r u
    going_more {j = j} h a e =
        let n : j ≡ new_atoms (clause_of f g c) = e ∙ sym (atoms_of f g c) in
        rw n
        (record {
          within = h;
          place = add_assoc k (new_atoms (clause_of f g c)) _ ∙ ap (λ m. k + m) (sym (atoms_next h)) ∙ l.place;
          left = left_more l.left (lines_bytes (clause_lines k (clause_of f g c))) (lines_bytes (clauses_lines (k + new_atoms (clause_of f g c)) (clauses_in f g (suc c) (f 1 - suc c)))) (split h) a;
        })

    pub going_done : f 1 ≤ c → Puts (lines_bytes (clauses_lines (f 0) (clauses_in f g 0 (f 1)))) at s t next
    unfolding clauses_lines
    going_done h =
        let e : c ≡ f 1 = omega (arith, h, l.within) in
        left_done l.left (rw e (ap (λ (d : List Clause). lines_bytes (clauses_lines k d)) none ∙ lines_none))

pub atom_small : (first n : ℕ) → first + n ≤ 1_024 → atom_count n ≤ 3_072
unfolding atom_count
atom_small first n h = by (eqb n 1)
  where
    by : (b : _) → cond b 0 (3 * n) ≤ 3_072
    by true = zero-le
    by false = omega arith

-- What a clause's entry says, as it is read.
module _ (tables terms : List ℕ) (c k : ℕ) {first count : ℕ} (p : first ≡ word_at tables (clause_first_at c)) (q : count ≡ word_at tables (clause_count_at c)) where
  pub read_rules : ClauseFits tables terms c k → RulesFit tables terms first count k
  read_rules h = rw (p, q) h.rules

  pub read_first : count ≡ 1 → ClauseFits tables terms c k → RuleFits tables terms first
  read_first e h = subst (λ (n : ℕ). RuleFits tables terms n) (add-zero first) ((read_rules h).each 0 (omega (arith, e)))

  pub read_single : count ≡ 1 → lines_bytes (straight (rule_of (word_at tables) (word_at terms) first))
      ≡ lines_bytes (clause_lines k (clause_of (word_at tables) (word_at terms) c))
  read_single e =
      ap (λ (n : ℕ). lines_bytes (straight (rule_of (word_at tables) (word_at terms) n))) p
      ∙ ap lines_bytes (sym (single_lines (word_at tables) (word_at terms) c k (sym q ∙ e)))

  pub read_several : (count ≡ 1 → ⊥) → lines_bytes (or_lines k (rules_in (word_at tables) (word_at terms) first count))
      ≡ lines_bytes (clause_lines k (clause_of (word_at tables) (word_at terms) c))
  read_several h =
      ap₂ (λ (n m : ℕ). lines_bytes (or_lines k (rules_in (word_at tables) (word_at terms) n m))) p q
      ∙ ap lines_bytes (sym (several_lines (word_at tables) (word_at terms) c k (λ e. h (q ∙ e))))
