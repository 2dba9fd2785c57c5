-- The added last clause, as words written over the tables.
-- Assumes nothing.
use Rattle.std.specs.Prelude.{ℕ, ◌+◌, ◌*◌, ◌<◌, List, [], ◌∷◌, T, ℤ, length}
use Rattle.plpb.specs.Plan.{Term}
use Rattle.words.specs.Words.{word_at, signed, unsigned}
use Rattle.words.specs.Writes.{put_words}
use Rattle.format.specs.Limits.{lawful}
use Rattle.format.specs.Tables.{Holds, plan_of_tables, sparse}
use Rattle.format.specs.Layout.{clauses_at, last_upper_at, rules_at}

-- The objective's terms of the k variables above v.
unfoldable pub terms_above : List ℕ → ℕ → ℕ → List Term
terms_above tables v k = sparse (λ x. signed (word_at tables (3 + x))) v k

-- One clause more, of one rule more with `count` terms: "the added last clause O ≤ m", of mode 2 for an upper bound alone.
unfoldable pub added_entries : ℕ → ℕ → List ℕ → List ℕ
added_entries count bound s =
    put_words 1 ((word_at s 1 + 1) ∷ (word_at s 2 + 1) ∷ (word_at s 3 + count) ∷ [])
    (put_words (rules_at + 5 * word_at s 2) (word_at s 3 ∷ count ∷ 2 ∷ 0 ∷ bound ∷ [])
    (put_words (clauses_at + 2 * word_at s 1) (word_at s 2 ∷ 1 ∷ []) s))

-- "Each added clause replaces the one before": the last rule's upper bound.
unfoldable pub rebound : ℤ → List ℕ → List ℕ
rebound m s = put_words (last_upper_at (word_at s 2)) (unsigned m ∷ []) s

-- Tables of a lawful plan, whose objective has a term, as a rule must: they have room for the clause.
pub record Boundable (tables terms : List ℕ) : Type 0 where
  pub lawful : T (lawful (plan_of_tables tables terms))
  pub holds : Holds (plan_of_tables tables terms) tables terms
  pub some : 0 < length (plan_of_tables tables terms).objective
