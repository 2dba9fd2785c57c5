-- The whole text as bytes: its parts, one behind the other.
-- Assumes nothing.
use Prim.Native.Nat.{ℕ, ◌+◌}
use mathlib.Core.Path.{◌≡◌, refl, ap, ap₂, ◌∙◌}
use mathlib.Core.List.{List, ◌++◌, map}
use lib.ListN.{length, length-append, length-map}
use Rattle.plpb.specs.Lists.{sum_by}
use Rattle.words.specs.Words.{word_at, signed}
use Rattle.format.specs.Tables.{sparse, term_lock, locks_of, objective_of, plan_in, plan_of_tables}
use Rattle.opb.specs.Opb.{Line}
use Rattle.opb.specs.Spell.{spell_first, spell_objective, spell}
use Rattle.opb.specs.Tau.{new_atoms, lock_line, clauses_lines, tau}
use Rattle.constraints.specs.Bytes.{lines_bytes}
use Rattle.constraints.proofs.Bytes.{lines_append}
use Rattle.clauselines.specs.Clauses.{clauses_in}
use Rattle.opbtext.specs.Whole.{lock_lines}
use Rattle.format.specs.Layout.{lock_at}

module _ (tables terms : List ℕ) where
  abbrev f : ℕ → ℕ
  f = word_at tables

  abbrev g : ℕ → ℕ
  g = word_at terms

  abbrev pub clause_lines_of : List Line
  clause_lines_of = clauses_lines (f 0) (clauses_in f g 0 (f 1))

  abbrev pub variable_count : ℕ
  variable_count = f 0 + sum_by new_atoms (clauses_in f g 0 (f 1))

  abbrev pub line_count : ℕ
  line_count = length clause_lines_of + length (sparse (λ x. signed (f (lock_at x))) 0 (f 0))

  count_is : length (clause_lines_of ++ lock_lines tables 0 (f 0)) ≡ line_count
  unfolding lock_lines
  count_is =
      length-append clause_lines_of (lock_lines tables 0 (f 0))
      ∙ ap (λ n. length clause_lines_of + n) (length-map (map term_lock (sparse (λ x. signed (f (lock_at x))) 0 (f 0))) lock_line ∙ length-map (sparse (λ x. signed (f (lock_at x))) 0 (f 0)) term_lock)

  pub whole_bytes :
      spell (tau (plan_of_tables tables terms))
      ≡ spell_first variable_count line_count ++ (spell_objective (objective_of f) ++ (lines_bytes clause_lines_of ++ lines_bytes (lock_lines tables 0 (f 0))))
  whole_bytes =
      parts
      ∙ ap₂ (λ n l. spell_first variable_count n ++ (spell_objective (objective_of f) ++ l)) count_is (lines_append clause_lines_of (lock_lines tables 0 (f 0)))
    where
      parts : spell (tau (plan_of_tables tables terms))
          ≡ spell_first variable_count (length (clause_lines_of ++ lock_lines tables 0 (f 0))) ++ (spell_objective (objective_of f) ++ lines_bytes (clause_lines_of ++ lock_lines tables 0 (f 0)))
      parts = unfold spell tau plan_of_tables plan_in lines_bytes lock_lines locks_of clauses_in in refl

  -- The numbers of the first line, as they are counted.
  pub first_is :
      {v m w n : ℕ} → v ≡ variable_count → m ≡ length clause_lines_of → w ≡ length (sparse (λ x. signed (f (lock_at x))) 0 n) → n ≡ f 0
      → spell_first v (m + w) ≡ spell_first variable_count line_count
  first_is d e h i = ap₂ spell_first d (ap₂ ◌+◌ e (h ∙ ap (λ k. length (sparse (λ x. signed (f (lock_at x))) 0 k)) i))
