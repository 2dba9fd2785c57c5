-- What the call answers and leaves, by what it has tested.
-- Assumes nothing.
use Prim.Native.Nat.{ℕ, ◌≤◌, ◌<◌}
use native.Mathlib.Nat.{zero-add}
use native.Mathlib.Omega.{arith}
use mathlib.Core.Path.{◌≡◌, refl, ap, ◌∙◌}
use mathlib.Core.Bool.{true, false}
use mathlib.Core.List.{List, [], ◌++◌}
use lib.ListN.{length}
use borrow.Author.Tests.{lt-ltb, le-ltb}
use Rattle.plpb.specs.Lists.{◌or◌}
use Rattle.words.specs.Writes.{front}
use Rattle.format.specs.File.{refuse}
use Rattle.format.specs.Layout.{table_size, term_size}
use Rattle.format.specs.Tables.{is_loaded, plan_of_tables}
use Rattle.opb.specs.Spell.{spell}
use Rattle.opb.specs.Tau.{tau}
use Rattle.spelling.specs.Overlay.{overlay, Puts}
use Rattle.spelling.proofs.Overlay.{overlay_front}
use Rattle.writer.specs.Calls.{text_of, too_small, write_refusal, write_length, text_after}

abbrev pub Outcome : List ℕ → List ℕ → List ℕ → ℕ → ℕ → List ℕ → Type 0
Outcome tables terms text refusal size after =
    ((refusal ≡ write_refusal tables terms text) × (size ≡ write_length tables terms)) × (after ≡ text_after tables terms text)

module _ (tables terms text : List ℕ) where
  small_outcome : too_small tables terms ≡ true → Outcome tables terms text 21 0 text
  unfolding text_after write_refusal write_length refuse
  small_outcome e = rw e ((refl, refl), refl)

  pub short_tables : length tables < table_size → Outcome tables terms text 21 0 text
  unfolding too_small ◌or◌
  short_tables h = small_outcome (rw (lt-ltb (length tables) table_size h) refl)

  module _ (long : table_size ≤ length tables) where
    pub short_terms : length terms < term_size → Outcome tables terms text 21 0 text
    unfolding too_small ◌or◌
    short_terms h = small_outcome (rw (le-ltb (length tables) table_size long, lt-ltb (length terms) term_size h) refl)

    module _ (room : term_size ≤ length terms) where
      large : too_small tables terms ≡ false
      unfolding too_small ◌or◌
      large = rw (le-ltb (length tables) table_size long, le-ltb (length terms) term_size room) refl

      pub not_loaded : is_loaded tables terms ≡ false → Outcome tables terms text 22 0 text
      unfolding text_after write_refusal write_length refuse
      not_loaded e = rw (large, e) ((refl, refl), refl)

      module _ (e : is_loaded tables terms ≡ true) where
        pub outgrown : length text < length (text_of tables terms) → Outcome tables terms text 33 (length (text_of tables terms)) text
        unfolding text_after write_refusal write_length refuse
        outgrown h = rw (large, e, lt-ltb (length text) (length (text_of tables terms)) h) ((refl, refl), refl)

        pub written : length (text_of tables terms) ≤ length text → Outcome tables terms text 0 (length (text_of tables terms)) (front (text_of tables terms) text)
        unfolding text_after write_refusal write_length refuse
        written h = rw (large, e, le-ltb (length text) (length (text_of tables terms)) h) ((refl, refl), refl)

-- Measured: nothing is put into no buffer.
pub nothing_put : {bs t : List ℕ} {r : ℕ} → Puts bs 0 [] t r → t ≡ []
unfolding overlay
nothing_put a = a.bytes

pub measured : {bs s t : List ℕ} {r : ℕ} → Puts bs 0 s t r → r ≡ length bs
measured {bs} a = a.place ∙ zero-add (length bs)

-- Put where there is room for all.
pub all_put : {bs s t : List ℕ} {r : ℕ} → Puts bs 0 s t r → length bs ≤ length s → t ≡ front bs s
all_put {bs} {s} a h = a.bytes ∙ overlay_front bs s h

-- The text measured, and then put where there is room for it.
module _ (tables terms text : List ℕ) (long : table_size ≤ length tables) (room : term_size ≤ length terms) (e : is_loaded tables terms ≡ true)
    {none : List ℕ} {n : ℕ} (m : Puts (spell (tau (plan_of_tables tables terms))) 0 [] none n)
  where
    size : n ≡ length (text_of tables terms)
    unfolding text_of
    size = measured m

    pub untouched : none ++ text ≡ text
    untouched = ap (λ (l : List ℕ). l ++ text) (nothing_put m)

    pub is_outgrown : length (none ++ text) < n → (33 ≡ write_refusal tables terms text) × (n ≡ write_length tables terms) × (none ++ text ≡ text_after tables terms text)
    is_outgrown h =
        let o = outgrown tables terms text long room e (omega (arith, h, size, ap length untouched)) in
        (o.0.0, size ∙ o.0.1, untouched ∙ o.1)

    pub is_written : {t : List ℕ} {r : ℕ} → n ≤ length (none ++ text) → Puts (spell (tau (plan_of_tables tables terms))) 0 (none ++ text) t r
        → (0 ≡ write_refusal tables terms text) × (n ≡ write_length tables terms) × (t ≡ text_after tables terms text)
    unfolding text_of
    is_written h a =
        let o = written tables terms text long room e (omega (arith, h, size, ap length untouched)) in
        (o.0.0, size ∙ o.0.1, all_put a (omega (arith, h, size)) ∙ ap (front (text_of tables terms)) untouched ∙ o.1)
