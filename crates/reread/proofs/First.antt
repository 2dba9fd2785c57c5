-- The first line as it is spelled.
-- Assumes nothing.
use Prim.Native.Nat.{ℕ, ◌+◌, ◌<◌}
use native.Mathlib.Omega.{arith}
use mathlib.Core.Path.{◌≡◌, refl, sym, ◌∙◌}
use mathlib.Core.Bool.{true}
use mathlib.Core.List.{List, [], ◌∷◌, ◌++◌, append_assoc}
use lib.Dec.{ltb, eqb}
use lib.IntN.{pos}
use lib.ListN.{length, get_or}
use borrow.Author.Tests.{lt-ltb, eq-eqb}
use Rattle.plpb.specs.Lists.{◌and◌, all}
use Rattle.texts.specs.Texts.{text, decimal, signed_decimal, line}
use Rattle.tokens.specs.Tokens.{is_blank, is_digit, is_inside, blanks_end, digits_end, word_end, number_at}
use Rattle.opb.specs.Spell.{spell_first}
use Rattle.opb_lines.specs.ReadText.{star, variable_name, constraint_name, named_from, named_end, is_named, variables_at, constraints_at, first_end, first_formed, variables_in, constraints_in}
use Rattle.reread.proofs.Places.{stops, some_digit, Here, past, byte_at, run_ends, word_ends, digits_end_lem, digits_say}
use Rattle.reread.proofs.Items.{no_blank, blank_digit, bound_stops}
use Rattle.reread.proofs.Lines.{inside_both, inside_decimal}

first_shape : (n m : ℕ) (r : List ℕ) → spell_first n m ++ r
    ≡ star ++ ((32 ∷ []) ++ (variable_name ++ ((32 ∷ []) ++ (decimal n ++ ((32 ∷ []) ++ (constraint_name ++ ((32 ∷ []) ++ (decimal m ++ (10 ∷ r)))))))))
unfolding spell_first line text
first_shape n m r = go (decimal n) (decimal m)
  where
    go : (a b : List ℕ) → (star ++ (32 ∷ (variable_name ++ (32 ∷ (a ++ (32 ∷ (constraint_name ++ (32 ∷ (b ++ (10 ∷ [])))))))))) ++ r
        ≡ star ++ (32 ∷ (variable_name ++ (32 ∷ (a ++ (32 ∷ (constraint_name ++ (32 ∷ (b ++ (10 ∷ r)))))))))
    go a b = simp append_assoc

pub first_body : ℕ → ℕ → List ℕ
first_body n m = star ++ ((32 ∷ []) ++ (variable_name ++ ((32 ∷ []) ++ (decimal n ++ ((32 ∷ []) ++ (constraint_name ++ ((32 ∷ []) ++ decimal m)))))))

pub first_body_lem : (n m : ℕ) (r : List ℕ) → spell_first n m ++ r ≡ first_body n m ++ (10 ∷ r)
unfolding first_body
first_body_lem n m r = first_shape n m r ∙ sym (go (decimal n) (decimal m))
  where
    go : (a b : List ℕ) → (star ++ (32 ∷ (variable_name ++ (32 ∷ (a ++ (32 ∷ (constraint_name ++ (32 ∷ b)))))))) ++ (10 ∷ r)
        ≡ star ++ (32 ∷ (variable_name ++ (32 ∷ (a ++ (32 ∷ (constraint_name ++ (32 ∷ (b ++ (10 ∷ r)))))))))
    go a b = simp append_assoc

pub inside_first : (n m : ℕ) → all is_inside (first_body n m) ≡ true
unfolding first_body
inside_first n m =
    inside_both star _ (unfold all is_inside ◌and◌ in refl)
    (inside_both (32 ∷ []) _ (unfold all is_inside ◌and◌ in refl)
    (inside_both variable_name _ (unfold all is_inside ◌and◌ in refl)
    (inside_both (32 ∷ []) _ (unfold all is_inside ◌and◌ in refl)
    (inside_both (decimal n) _ (inside_decimal n)
    (inside_both (32 ∷ []) _ (unfold all is_inside ◌and◌ in refl)
    (inside_both constraint_name _ (unfold all is_inside ◌and◌ in refl)
    (inside_both (32 ∷ []) _ (unfold all is_inside ◌and◌ in refl) (inside_decimal m))))))))

decimal_stops : (n : ℕ) (r : List ℕ) → stops is_blank (decimal n ++ r) ≡ true
decimal_stops n r = unfold signed_decimal in bound_stops (pos n) r

module _ (s : List ℕ) where
  -- A number behind its name and a space.
  pub record Names (name : List ℕ) (at n end : ℕ) : Type 0 where
    pub ok : is_named name s at ≡ true
    pub says : number_at s (named_from name s at) ≡ n
    pub next : named_end name s at ≡ end

  names : (name : List ℕ) (n : ℕ) (r : List ℕ) {at : ℕ} → 0 < length name → stops is_digit r ≡ true → Here s at name ((32 ∷ []) ++ (decimal n ++ r))
      → Names name at n (at + length name + 1 + length (decimal n))
  unfolding is_named named_end named_from
  names name n r {at} l d h =
      let p = at + length name in
      let e1 : word_end name s at ≡ p = word_ends s h in
      let a1 : Here s p (32 ∷ []) (decimal n ++ r) = record { is = past s h } in
      let e2 : blanks_end s p ≡ p + 1 = run_ends s a1 is_blank (unfold all is_blank ◌and◌ in refl) (decimal_stops n r) in
      let a2 : Here s (p + 1) (decimal n) r = record { is = past s a1 } in
      let e3 : digits_end s (p + 1) ≡ p + 1 + length (decimal n) = digits_end_lem s n d a2 in
      let t1 : ltb at p ≡ true = lt-ltb at p (omega (arith, l)) in
      let t2 : ltb (p + 1) (p + 1 + length (decimal n)) ≡ true = lt-ltb (p + 1) (p + 1 + length (decimal n)) (omega (arith, some_digit n)) in
      record {
        ok = rw (e1, e2, e3, t1, t2) (unfold ◌and◌ in refl);
        says = rw (e1, e2) (digits_say s n d a2);
        next = rw (e1, e2, e3);
      }

  pub record FirstSays (n m : ℕ) : Type 0 where
    pub formed : first_formed s ≡ true
    pub variables : variables_in s ≡ n
    pub constraints : constraints_in s ≡ m

  pub first_says : (n m : ℕ) (r : List ℕ) → s ≡ spell_first n m ++ r → FirstSays n m
  unfolding first_formed first_end variables_in constraints_in variables_at constraints_at
  first_says n m r q =
      let d = decimal m ++ (10 ∷ r) in
      let c2 = constraint_name ++ ((32 ∷ []) ++ d) in
      let a0 : Here s 0 star ((32 ∷ []) ++ (variable_name ++ ((32 ∷ []) ++ (decimal n ++ ((32 ∷ []) ++ c2))))) = record { is = q ∙ first_shape n m r } in
      let e1 : word_end star s 0 ≡ 1 = word_ends s a0 in
      let a1 : Here s 1 (32 ∷ []) (variable_name ++ ((32 ∷ []) ++ (decimal n ++ ((32 ∷ []) ++ c2)))) = record { is = past s a0 } in
      let e2 : blanks_end s 1 ≡ 2 = run_ends s a1 is_blank (unfold all is_blank ◌and◌ in refl) (no_blank 35 _ (omega arith)) in
      let a2 : Here s 2 variable_name ((32 ∷ []) ++ (decimal n ++ ((32 ∷ []) ++ c2))) = record { is = past s a1 } in
      let v = names variable_name n ((32 ∷ []) ++ c2) (omega arith) (blank_digit _) a2 in
      let b1 : Here s 12 (32 ∷ []) (decimal n ++ ((32 ∷ []) ++ c2)) = record { is = past s a2 } in
      let b2 : Here s 13 (decimal n) ((32 ∷ []) ++ c2) = record { is = past s b1 } in
      let p = 13 + length (decimal n) in
      let n2 : named_end variable_name s 2 ≡ p = v.next in
      let a3 : Here s p (32 ∷ []) c2 = record { is = past s b2 } in
      let e3 : blanks_end s p ≡ p + 1 = run_ends s a3 is_blank (unfold all is_blank ◌and◌ in refl) (no_blank 35 _ (omega arith)) in
      let a4 : Here s (p + 1) constraint_name ((32 ∷ []) ++ d) = record { is = past s a3 } in
      let c = names constraint_name m (10 ∷ r) (omega arith) (feed_digit r) a4 in
      let b3 : Here s (p + 1 + 12) (32 ∷ []) d = record { is = past s a4 } in
      let b4 : Here s (p + 1 + 12 + 1) (decimal m) (10 ∷ r) = record { is = past s b3 } in
      let k = p + 1 + 12 + 1 + length (decimal m) in
      let n4 : named_end constraint_name s (p + 1) ≡ k = c.next in
      let a5 : Here s k [] (10 ∷ r) = record { is = past s b4 } in
      let e5 : blanks_end s k ≡ k + 0 = run_ends s a5 is_blank (unfold all in refl) (feed_blank r) in
      let z : k + 0 ≡ k = omega arith in
      let a6 : Here s k (10 ∷ []) r = record { is = past s b4 } in
      let g : eqb (get_or s k 0) 10 ≡ true = eq-eqb (get_or s k 0) 10 (byte_at s a6) in
      let t1 : ltb p (p + 1) ≡ true = lt-ltb p (p + 1) (omega arith) in
      let vo = v.ok in
      let co = c.ok in
      record {
        formed = rw (e1, e2, vo, n2, e3, co, n4, e5, z, g, t1) (unfold ◌and◌ in refl);
        variables = rw (e1, e2) v.says;
        constraints = rw (e1, e2, n2, e3) c.says;
      }
    where
      feed_digit : (r : List ℕ) → stops is_digit (10 ∷ r) ≡ true
      feed_digit r = unfold stops is_digit ◌and◌ in refl

      feed_blank : (r : List ℕ) → stops is_blank (10 ∷ r) ≡ true
      feed_blank r = unfold stops is_blank in refl
