-- What stands at a place of a file is read as what was written there: the bytes from that place on begin with what was written.
use Prim.Native.Nat.{ℕ, ◌+◌, ◌^◌, ◌≤◌, ◌<◌}
use mathlib.Core.Path.{◌≡◌, refl, sym, ap, ap₂, ◌∙◌}
use mathlib.Core.Bool.{true, false}
use mathlib.Core.List.{List, [], ◌∷◌, ◌++◌, map, append_assoc}
use native.Mathlib.Nat.{add-zero, add_assoc}
use native.Mathlib.Omega.{arith}
use lib.IntN.{ℤ, nat_abs}
use lib.ListN.{length, drop, length-append, length-drop}
use lib.Seq.{drop-drop, drop-append_seam}
use borrow.Author.Tests.{leb-true}
use Rattle.plpb.specs.Lists.{all, concat}
use Rattle.plpb.specs.Plan.{Term}
use Rattle.words.specs.Words.{num_at, bytes_of, signed, unsigned}
use Rattle.words.proofs.Words.{length_bytes_of, num_at_drop, num_at_bytes_of, signed_unsigned, unsigned_lt}
use Rattle.format.specs.Limits.{terms_lawful, term_within}
use Rattle.format.specs.File.{Stage, may_stand, tag_at, length_at, length_lawful, term_at, terms_at, past_limits, wrong_bounds, field_terms, locks_fault}
use Rattle.format.specs.Writer.{field, term_bytes}
use Rattle.format.proofs.Bools.{and_left, and_right}
use Rattle.format.proofs.Fields.{Clean}
use Rattle.format.proofs.Lawful.{weight_small}

pub length_term_bytes : (t : Term) → length (term_bytes t) ≡ 6
unfolding term_bytes
length_term_bytes t =
    length-append (bytes_of 2 t.variable) (bytes_of 4 (unsigned t.weight)) ∙ ap₂ ◌+◌ (length_bytes_of 2 t.variable) (length_bytes_of 4 (unsigned t.weight))

pub length_field : (tag : ℕ) (body : List ℕ) → length (field tag body) ≡ 3 + length body
unfolding field
length_field tag body = rw (length-append (bytes_of 2 (length body)) body, length_bytes_of 2 (length body)) (omega arith)

module _ (s : List ℕ) where
  -- The place behind what stands at a place, and how long the file is at least.
  pub place_behind : (at to : ℕ) (xs rest : List ℕ) → drop at s ≡ xs ++ rest → at + length xs ≡ to → drop to s ≡ rest
  place_behind at to xs rest e l =
      rw (← l) (sym (drop-drop (length xs) at s) ∙ ap (drop (length xs)) e ∙ drop-append_seam xs rest)

  pub place_room : (at : ℕ) (xs : List ℕ) → drop at s ≡ xs → 0 < length xs → at + length xs ≡ length s
  place_room at xs e l = omega (arith, sym (length-drop at s) ∙ ap length e)

  pub place_byte : (at x : ℕ) (rest : List ℕ) → drop at s ≡ x ∷ rest → num_at 1 s at ≡ x
  unfolding num_at
  place_byte at x rest e =
      ap (num_at 1 s) (sym (add-zero at)) ∙ sym (num_at_drop 1 at s 0) ∙ ap (λ l. num_at 1 l 0) e ∙ add-zero x

  pub place_num : (k at v : ℕ) (rest : List ℕ) → drop at s ≡ bytes_of k v ++ rest → v < 256 ^ k → num_at k s at ≡ v
  place_num k at v rest e l =
      ap (num_at k s) (sym (add-zero at)) ∙ sym (num_at_drop k at s 0) ∙ ap (λ t. num_at k t 0) e ∙ num_at_bytes_of k v rest l

  pub place_signed :
      (at : ℕ) (z : ℤ) (rest : List ℕ) → drop at s ≡ bytes_of 4 (unsigned z) ++ rest → nat_abs z < 2_147_483_648 → signed (num_at 4 s at) ≡ z
  place_signed at z rest e l = ap signed (place_num 4 at (unsigned z) rest e (unsigned_lt z l)) ∙ signed_unsigned z l

  -- Terms.
  pub place_term :
      (n at : ℕ) (t : Term) (rest : List ℕ) → drop at s ≡ term_bytes t ++ rest → n < 65_536 → term_within n t ≡ true → term_at s at ≡ t
  unfolding term_bytes term_at term_within
  place_term n at t rest e l h =
      let v : t.variable ≤ n = leb-true _ _ (and_left _ _ h) in
      let w = weight_small t.weight (and_right _ _ h) in
      let e' : drop at s ≡ bytes_of 2 t.variable ++ (bytes_of 4 (unsigned t.weight) ++ rest) = simp append_assoc at e in
      let p = place_num 2 at t.variable _ e' (omega arith) in
      let d = place_behind at (at + 2) (bytes_of 2 t.variable) _ e' (ap (λ m. at + m) (length_bytes_of 2 t.variable)) in
      let q = place_signed (at + 2) t.weight rest d (omega arith) in
      λ i. record { variable = p i; weight = q i }

  pub place_terms :
      (n at : ℕ) (ts : List Term) (rest : List ℕ) → drop at s ≡ concat (map term_bytes ts) ++ rest → n < 65_536 → all (term_within n) ts ≡ true
      → terms_at s at (length ts) ≡ ts
  unfolding all concat terms_at
  place_terms n at [] rest e l h = refl
  place_terms n at (t ∷ ts) rest e l h =
      let e' : drop at s ≡ term_bytes t ++ (concat (map term_bytes ts) ++ rest) = simp append_assoc at e in
      let d = place_behind at (at + 6) (term_bytes t) _ e' (ap (λ m. at + m) (length_term_bytes t)) in
      ap₂ (λ a b. a ∷ b) (place_term n at t _ e' l (and_left _ _ h)) (place_terms n (at + 6) ts rest d l (and_right _ _ h))

  -- A field: its tag, its length, its body, what is behind it, and that it is there whole.
  module _ (at tag : ℕ) (body rest : List ℕ) (e : drop at s ≡ field tag body ++ rest) where
    pub place_tag : tag_at s at ≡ tag
    unfolding field tag_at
    place_tag = place_byte at tag _ e

    behind_tag : drop (at + 1) s ≡ bytes_of 2 (length body) ++ (body ++ rest)
    unfolding field
    behind_tag = place_behind at (at + 1) (tag ∷ []) _ (simp append_assoc at e) refl

    pub place_length : length body < 65_536 → length_at s at ≡ length body
    unfolding length_at
    place_length l = place_num 2 (at + 1) (length body) _ behind_tag l

    pub place_body : drop (at + 3) s ≡ body ++ rest
    place_body =
        place_behind (at + 1) (at + 3) (bytes_of 2 (length body)) _ behind_tag (ap (λ m. at + 1 + m) (length_bytes_of 2 (length body)) ∙ add_assoc at 1 2)

    pub place_rest : drop (at + 3 + length body) s ≡ rest
    place_rest = place_behind (at + 3) _ body rest place_body refl

    pub place_whole : at + 3 + length body + length rest ≡ length s
    place_whole =
        let l : length (field tag body ++ rest) ≡ 3 + length body + length rest =
        length-append (field tag body) rest ∙ ap (λ m. m + length rest) (length_field tag body) in
        let r = place_room at (field tag body ++ rest) e (omega arith) in
        omega arith

    -- It meets no condition where its tag may stand here, its length is lawful, and so is what it says.
    pub placed_clean :
        (g : Stage) (n C R k : ℕ) → length body < 65_536 → may_stand g tag ≡ true → length_lawful tag (length body) ≡ true
        → past_limits s (record { at = at; stage = g; variables = n; clauses = C; rules = R; terms = k }) ≡ false → wrong_bounds s at ≡ false
        → terms_lawful n (field_terms s at) ≡ true → locks_fault s (record { at = at; stage = g; variables = n; clauses = C; rules = R; terms = k }) ≡ 0
        → Clean s (record { at = at; stage = g; variables = n; clauses = C; rules = R; terms = k })
    placed_clean g n C R k l may size limits bounds terms locks = record {
      head = omega (arith, place_whole);
      tag = rw place_tag may;
      size = rw (place_tag, place_length l) size;
      body = omega (arith, place_whole, place_length l);
      limits = limits;
      bounds = bounds;
      terms = terms;
      locks = locks;
    }
