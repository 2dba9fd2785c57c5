-- The first line by its parts, each at the place where the code found it.
-- Assumes nothing.
use mathlib.Core.Path.{◌≡◌, sym, ap, ◌∙◌}
use mathlib.Core.Bool.{Bool, true, false}
use mathlib.Core.List.{List, [], ◌∷◌}
use Prim.Native.Nat.{ℕ}
use lib.Dec.{ltb, eqb}
use native.Mathlib.Omega.{arith}
use lib.ListN.{get_or, drop}
use Rattle.std.specs.Prelude.{Option, Some, None}
use Rattle.plpb.specs.Lists.{◌and◌}
use Rattle.format.proofs.Bools.{and_join}
use Rattle.tokens.specs.Tokens.{blanks_end, digits_end, begins, word_end, number_at, seen}
use Rattle.tokens.specs.declared.text.Text.{Text}
use Rattle.tokens.specs.Found.{left, read, Reads, Behind, takes, Found, NumberAt}
use Rattle.tokens.specs.declared.Number.{Number}
use Rattle.tokens.proofs.Runs.{word_there, read_behind, behind}
use Rattle.statements.proofs.Parts.{left_false, last_false, word_of_one}
use Rattle.opb_lines.specs.ReadText.{star, variable_name, constraint_name, named_from, named_end, is_named, variables_at, constraints_at, first_end, first_formed}
use Rattle.opb_lines.specs.Lines.{NamedAt}

-- A number behind its name.
abbrev pub Named : List ℕ → List ℕ → ℕ → Bool
Named name s at = begins name (drop at s) and ltb (named_from name s at) (named_end name s at)

pub no_name : (name s : List ℕ) (at : ℕ) → begins name (drop at s) ≡ false → Named name s at ≡ false
no_name name s at e = left_false _ e

module _ (name : List ℕ) {s : List ℕ} {at : ℕ} {k : Text} (there : begins name (drop at s) ≡ true) (p : Behind (word_end name) s at k) {f : Text} (q : Reads (Behind blanks_end) k f) where
  from_is : Behind (named_from name) s at f
  unfolding named_from
  from_is = behind p q

  digits_by : {b : Bool} → takes digits_end f ≡ b → ltb (named_from name s at) (named_end name s at) ≡ b
  unfolding named_end
  digits_by e = sym (read_behind from_is (λ s k. ltb k (digits_end s k))) ∙ e

  pub named_by : (r : Option Number) → Found (takes digits_end f) (Reads NumberAt f) r → Found (Named name s at) (NamedAt name s at) r
  unfolding named_end
  named_by None e = last_false _ (digits_by e)
  named_by (Some n) (e, h) =
      (and_join _ _ there (digits_by e), record { value = h.value ∙ ap seen (read_behind from_is number_at); rest = behind from_is h.rest })

named_is : (b : ℕ) (name s : List ℕ) (at : ℕ) → is_named (b ∷ name) s at ≡ Named (b ∷ name) s at
unfolding is_named
named_is b name s at = ap (λ t. t and ltb (named_from (b ∷ name) s at) (named_end (b ∷ name) s at)) (word_there b name s at)

-- The first line by its parts.
pub no_star : (s : List ℕ) → begins star (drop 0 s) ≡ false → first_formed s ≡ false
unfolding first_formed
no_star s e = left_false _ (left_false _ (left_false _ (left_false _ (word_there 42 [] s 0 ∙ e))))

module _ {s : List ℕ} {k : Text} (p : Behind (word_end star) s 0 k) {v : Text} (q : Reads (Behind blanks_end) k v) where
  pub first_is : Behind (λ s at. variables_at s) s 0 v
  unfolding variables_at
  first_is = let b = behind p q in record { bytes = b.bytes; at = b.at }

  variables_by : {b : Bool} → read (Named variable_name) v ≡ b → is_named variable_name s (variables_at s) ≡ b
  variables_by e =
      named_is 35 (118 ∷ 97 ∷ 114 ∷ 105 ∷ 97 ∷ 98 ∷ 108 ∷ 101 ∷ 61 ∷ []) s (variables_at s) ∙ sym (read_behind first_is (Named variable_name)) ∙ e

  pub no_variables : read (Named variable_name) v ≡ false → first_formed s ≡ false
  unfolding first_formed
  no_variables e = left_false _ (left_false _ (left_false _ (last_false _ (variables_by e))))

  module _ {i : Text} (r : Reads (Behind (named_end variable_name)) v i) where
    end_is : Behind (λ s at. named_end variable_name s (variables_at s)) s 0 i
    end_is = let b = behind first_is r in record { bytes = b.bytes; at = b.at }

    blanks_by : {b : Bool} → takes blanks_end i ≡ b → ltb (named_end variable_name s (variables_at s)) (constraints_at s) ≡ b
    unfolding constraints_at
    blanks_by e = sym (read_behind end_is (λ s k. ltb k (blanks_end s k))) ∙ e

    pub no_blanks : takes blanks_end i ≡ false → first_formed s ≡ false
    unfolding first_formed
    no_blanks e = left_false _ (left_false _ (last_false _ (blanks_by e)))

    module _ {c : Text} (t : Reads (Behind blanks_end) i c) where
      pub second_is : Behind (λ s at. constraints_at s) s 0 c
      unfolding constraints_at
      second_is = let b = behind end_is t in record { bytes = b.bytes; at = b.at }

      constraints_by : {b : Bool} → read (Named constraint_name) c ≡ b → is_named constraint_name s (constraints_at s) ≡ b
      constraints_by e =
          named_is 35 (99 ∷ 111 ∷ 110 ∷ 115 ∷ 116 ∷ 114 ∷ 97 ∷ 105 ∷ 110 ∷ 116 ∷ 61 ∷ []) s (constraints_at s)
          ∙ sym (read_behind second_is (Named constraint_name))
          ∙ e

      pub no_constraints : read (Named constraint_name) c ≡ false → first_formed s ≡ false
      unfolding first_formed
      no_constraints e = left_false _ (last_false _ (constraints_by e))

      module _ {j : Text} (u : Reads (Behind (named_end constraint_name)) c j) {l : Text} (w : Reads (Behind blanks_end) j l) where
        feed_by : {t : Bool} → begins (10 ∷ []) (left l) ≡ t → eqb (get_or s (first_end s) 0) 10 ≡ t
        unfolding first_end
        feed_by e =
            word_of_one 10 s (first_end s) (omega arith) ∙ sym (read_behind (behind (behind second_is u) w) (λ s at. begins (10 ∷ []) (drop at s))) ∙ e

        pub no_feed : begins (10 ∷ []) (left l) ≡ false → first_formed s ≡ false
        unfolding first_formed
        no_feed e = last_false _ (feed_by e)

        pub first_there :
            begins star (drop 0 s) ≡ true → read (Named variable_name) v ≡ true → takes blanks_end i ≡ true → read (Named constraint_name) c ≡ true
            → begins (10 ∷ []) (left l) ≡ true → first_formed s ≡ true
        unfolding first_formed
        first_there e f g h n =
            and_join _ _ (and_join _ _ (and_join _ _ (and_join _ _ (word_there 42 [] s 0 ∙ e) (variables_by f)) (blanks_by g)) (constraints_by h)) (feed_by n)
