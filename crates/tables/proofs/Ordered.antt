-- The order behind the sections that the file fills: the builder reads the plan back from them and leaves the whole tables.
-- Assumes nothing.
use Prim.Native.Nat.{ℕ, ◌+◌, ◌-◌, ◌≤◌}
use native.Mathlib.Omega.{arith}
use mathlib.Core.Path.{◌≡◌, sym, ap, ap₂, ◌∙◌}
use mathlib.Core.List.{List, ◌++◌}
use lib.ListN.{length, take, drop}
use lib.Seq.{take_at, drop-append-add, drop-drop}
use Rattle.plpb.specs.Plan.{Plan}
use Rattle.words.specs.Words.{word_bytes}
use Rattle.words.specs.Writes.{front}
use Rattle.words.proofs.Words.{length_word_bytes}
use Rattle.format.specs.Layout.{base_size, table_size, term_size}
use Rattle.format.specs.Tables.{base_words, table_words, term_words, plan_of_tables}
use Rattle.format.proofs.Lawful.{LawfulPlan, room_for, roomy_whole}
use Rattle.format.proofs.Sections.{length_table_words}
use Rattle.arrange.specs.Arranging.{Based}
use Rattle.arrange.proofs.Bases.{plan_here}
use Rattle.tables.proofs.Whole.{terms_long, base_long, base_size_lem}

module _ (p : Plan) (q : LawfulPlan p) (tables terms : List ℕ) {t u : List ℕ} (long : table_size ≤ length tables) (e : t ≡ front (word_bytes (base_words p)) tables) (f : u ≡ front (word_bytes (term_words p)) terms) where
  based : Based p t u
  unfolding front
  based = record {
    room = roomy_whole p (room_for p q);
    base = ap (take base_size) e ∙ take_at (word_bytes (base_words p)) (drop (length (word_bytes (base_words p))) tables) base_size (base_long p q);
    body = ap (take term_size) f ∙ take_at (word_bytes (term_words p)) (drop (length (word_bytes (term_words p))) terms) term_size (terms_long p q);
    long = rw (ap length e ∙ base_size_lem p q tables long) long;
  }

  pub order_ready : Based (plan_of_tables t u) t u
  order_ready = rw (plan_here based) based

  past : drop table_size t ≡ drop table_size tables
  unfolding front
  past =
      let n = length (word_bytes (base_words p)) in
      let first : table_size ≡ n + (table_size - n) = omega (arith, base_long p q) in
      ap₂ (λ k s. drop k s) first e
      ∙ drop-append-add (word_bytes (base_words p)) (drop n tables) (table_size - n)
      ∙ drop-drop (table_size - n) n tables
      ∙ ap (λ k. drop k tables) (sym first)

  pub order_left : {w : List ℕ} → w ≡ word_bytes (table_words (plan_of_tables t u)) ++ drop table_size t → w ≡ front (word_bytes (table_words p)) tables
  unfolding front
  order_left {w} g =
      let n : table_size ≡ length (word_bytes (table_words p)) = omega (arith, length_word_bytes (table_words p), length_table_words p (room_for p q)) in
      g ∙ ap₂ (λ r l. word_bytes (table_words r) ++ l) (plan_here based) (past ∙ ap (λ k. drop k tables) n)
