-- Tables that an accepted loading leaves hold the plan of its file: the words written fill the full limits, so that the first bytes are theirs.
-- Assumes nothing.
use Prim.Native.Nat.{ℕ}
use native.Mathlib.Omega.{arith}
use mathlib.Core.Path.{◌≡◌, refl}
use mathlib.Core.Bool.{Bool, true, false}
use mathlib.Core.List.{List, ◌++◌}
use lib.Dec.{T}
use lib.ListN.{drop}
use lib.Seq.{take_at}
use Rattle.plpb.specs.Plan.{Plan}
use Rattle.words.specs.Words.{word_bytes}
use Rattle.words.proofs.Words.{length_word_bytes}
use Rattle.format.specs.File.{Reading, refused, accepted, read}
use Rattle.format.specs.Limits.{lawful}
use Rattle.format.specs.Tables.{table_words, term_words, table_size, term_size, Holds}
use Rattle.format.proofs.Accepted.{accepted_lawful}
use Rattle.format.proofs.Lawful.{plan_parts, room_for}
use Rattle.format.proofs.Sections.{length_table_words, length_term_words}
use Rattle.verdict.specs.Answers.{Answer, Accepted, Refused}
use Rattle.tables.specs.Load.{outcome, too_small, loading, tables_of, terms_of, tables_after, terms_after, LoadingHolds}

not_accepted : (n o : ℕ) → ◌≡◌ {A = Answer} (Refused n o) Accepted → ⊥
not_accepted n o e = let z : ◌≡◌ {A = ℕ} 0 1 = cc in omega arith

-- What is left of a plan that is lawful.
pub words_hold : (p : Plan) (t u : List ℕ) → T (lawful p) → Holds p (word_bytes (table_words p) ++ drop table_size t) (word_bytes (term_words p) ++ drop term_size u)
unfolding Holds
words_hold p t u w =
    let l = room_for p (plan_parts p w) in (
      take_at (word_bytes (table_words p)) (drop table_size t) table_size (omega (arith, length_word_bytes (table_words p), length_table_words p l)),
      take_at (word_bytes (term_words p)) (drop term_size u) term_size (omega (arith, length_word_bytes (term_words p), length_term_words p l)),
    )

reading_holds : (r : Reading Plan) (t u : List ℕ) → ((p : Plan) → r ≡ accepted p → T (lawful p)) → outcome r ≡ Accepted → (p : Plan) × (r ≡ accepted p) × Holds p (tables_of r t) (terms_of r u)
unfolding outcome tables_of terms_of
reading_holds (refused n o) t u w e = absurd (not_accepted n o e)
reading_holds (accepted p) t u w e = (p, refl, words_hold p t u (w p refl))

pub loading_holds : LoadingHolds
loading_holds file t u = go (too_small t u) refl
  where
    go : (b : Bool) → too_small t u ≡ b → loading file t u ≡ Accepted → (p : Plan) × (read file ≡ accepted p) × Holds p (tables_after file t u) (terms_after file t u)
    go true s e = absurd (not_accepted 21 0 (unfold loading in rw s at e))
    go false s e = unfold tables_after terms_after in rw s (reading_holds (read file) t u (accepted_lawful file) (unfold loading in rw s at e))
