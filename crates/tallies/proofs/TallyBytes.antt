-- The bytes of a fresh count fill the tallies' full limits, because each section is padded to its size and a word is four bytes.
use Prim.Native.Nat.{ℕ, ◌*◌, ◌≤◌}
use mathlib.Core.Path.{◌≡◌, ap, ◌∙◌}
use mathlib.Core.List.{List, ◌++◌}
use lib.Dec.{T}
use lib.ListN.{length, take, drop, length-map}
use lib.Seq.{take_at, drop_at}
use Rattle.plpb.specs.Plan.{Plan, Assignment}
use Rattle.plpb.specs.Tallies.{rules_of, fresh_count}
use Rattle.words.proofs.Words.{length_word_bytes}
use Rattle.format.specs.Tables.{same_bytes}
use Rattle.format.specs.Limits.{lawful, roomy}
use Rattle.format.proofs.Bools.{T_true, true_T}
use Rattle.format.proofs.IsLoaded.{same_equal, same_self as same-itself}
use Rattle.format.proofs.Lawful.{lawful_roomy, roomy_parts}
use Rattle.tallies.specs.Layout.{tally_size, tally_words, tally_bytes}
use Rattle.format.specs.Layout.{clause_room, rule_room, tally_word_count}
use Rattle.tallies.proofs.Order.{length_order}

-- ---- sizes

-- A plan whose rules and clauses the tallies have room for.
pub record Fits (p : Plan) : Type 0 where
  pub rules : length (rules_of p) ≤ rule_room
  pub clauses : length p.clauses ≤ clause_room

pub roomy_fits : (p : Plan) → T (roomy p) → Fits p
roomy_fits p t = let q = roomy_parts p t in record { rules = q.rule_count; clauses = q.clause_count }

pub lawful_fits : (p : Plan) → T (lawful p) → Fits p
lawful_fits p t = roomy_fits p (lawful_roomy p t)

module _ (p : Plan) (fits : Fits p) (a : Assignment) where
  pub fresh_rules : length (fresh_count p a).true_weights ≤ rule_room
  unfolding fresh_count
  fresh_rules = simp length-map fits.rules

  pub fresh_clauses : length (fresh_count p a).rules_holding ≤ clause_room
  unfolding fresh_count
  fresh_clauses = simp length-map fits.clauses

  pub length_fresh_words : length (tally_words (fresh_count p a)) ≡ tally_word_count
  unfolding tally_words
  length_fresh_words = length_order 0 _ _ _ fresh_rules fresh_clauses

  pub length_fresh : length (tally_bytes (fresh_count p a)) ≡ tally_size
  unfolding tally_bytes
  length_fresh = length_word_bytes (tally_words (fresh_count p a)) ∙ ap (λ k. 4 * k) length_fresh_words

  pub take_fresh : (rest : List ℕ) → take tally_size (tally_bytes (fresh_count p a) ++ rest) ≡ tally_bytes (fresh_count p a)
  take_fresh rest = take_at (tally_bytes (fresh_count p a)) rest tally_size length_fresh

  pub drop_fresh : (rest : List ℕ) → drop tally_size (tally_bytes (fresh_count p a) ++ rest) ≡ rest
  drop_fresh rest = drop_at (tally_bytes (fresh_count p a)) rest tally_size length_fresh

-- ---- the test of equal bytes, by truth

pub same_self : (xs : List ℕ) → T (same_bytes xs xs)
same_self xs = true_T (same_bytes xs xs) (same-itself xs)

pub same_bytes_lem : (xs ys : List ℕ) → T (same_bytes xs ys) → xs ≡ ys
same_bytes_lem xs ys t = same_equal xs ys (T_true (same_bytes xs ys) t)
