-- A list in the tallies' order has the rules' entries first, then the clauses', and the whole's last, because each section is padded to its size.
-- Assumes nothing.
use Prim.Native.Nat.{ℕ, zero, suc, ◌+◌, ◌-◌, ◌≤◌, ◌<◌}
use mathlib.Core.Path.{◌≡◌, refl, ◌∙◌}
use mathlib.Core.List.{List, [], ◌∷◌, ◌++◌}
use lib.ListN.{length, get_or, replicate, length-append, get_or-append}
use lib.Seq.{get_or-append-add}
use Rattle.format.specs.Tables.{pad_with}
use Rattle.format.specs.Layout.{clause_room, holding_at, rule_room, tally_word_count, unsatisfied_at}
use Rattle.format.proofs.Spells.{length_pad_with}
use Rattle.tallies.specs.Layout.{tally_order}

-- What is padded is the same everywhere.
module _ {A : Type 0} (u : A) where
  unused : (m i : ℕ) → get_or (replicate m u) i u ≡ u
  unused zero i = refl
  unused (suc m) zero = refl
  unused (suc m) (suc i) = unused m i

  pub padded : (xs : List A) (k i : ℕ) → get_or (pad_with u k xs) i u ≡ get_or xs i u
  unfolding pad_with
  padded xs k i = more xs (k - length xs) i
    where
      more : (ys : List A) (m j : ℕ) → get_or (ys ++ replicate m u) j u ≡ get_or ys j u
      more [] m j = unused m j
      more (y ∷ ys) m zero = refl
      more (y ∷ ys) m (suc j) = more ys m j

  -- A padded section with more behind it.
  module _ (xs ys : List A) (k : ℕ) (few : length xs ≤ k) where
    pub in_section : (i : ℕ) → i < k → get_or (pad_with u k xs ++ ys) i u ≡ get_or xs i u
    in_section i h = get_or-append (pad_with u k xs) ys u i (rw (length_pad_with u k xs few) h) ∙ padded xs k i

    pub behind_section : (i : ℕ) → get_or (pad_with u k xs ++ ys) (k + i) u ≡ get_or ys i u
    behind_section i = rw (length_pad_with u k xs few) at (get_or-append-add (pad_with u k xs) ys i u)

  module _ (rules clauses : List A) (whole : A) (few : length rules ≤ rule_room) (less : length clauses ≤ clause_room) where
    pub order_rule : (i : ℕ) → i < rule_room → get_or (tally_order u rules clauses whole) i u ≡ get_or rules i u
    unfolding tally_order
    order_rule i h = in_section rules _ rule_room few i h

    pub order_clause : (c : ℕ) → c < clause_room → get_or (tally_order u rules clauses whole) (holding_at c) u ≡ get_or clauses c u
    unfolding tally_order
    order_clause c h = behind_section rules _ rule_room few c ∙ in_section clauses (whole ∷ []) clause_room less c h

    pub order_whole : get_or (tally_order u rules clauses whole) unsatisfied_at u ≡ whole
    unfolding tally_order
    order_whole = behind_section rules _ rule_room few clause_room ∙ behind_section clauses (whole ∷ []) clause_room less 0

    pub length_order : length (tally_order u rules clauses whole) ≡ tally_word_count
    unfolding tally_order
    length_order = simp (length-append, length_pad_with u rule_room rules few, length_pad_with u clause_room clauses less)
