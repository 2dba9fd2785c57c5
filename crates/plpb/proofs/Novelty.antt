-- Laws of Novelty+'s ranking: it holds the variables that it is given, and asks of the last flips only those of these variables.
-- Assumes nothing.
use Prim.Native.Nat.{ℕ, suc, max}
use mathlib.Core.Bool.{Bool, true, false, cond}
use mathlib.Core.List.{List, [], ◌∷◌}
use mathlib.Core.Path.{◌≡◌, refl, ap, ap₂, ◌∙◌, fun_ext}
use lib.Dec.{T, ltb}
use lib.ListN.{length}
use Rattle.plpb.specs.Lists.{◌and◌, ◌or◌, all}
use Rattle.plpb.specs.Plan.{Plan, Assignment}
use Rattle.plpb.specs.Walk.{pick, ◌>>=◌}
use Rattle.plpb.specs.Settings.{Heuristic, skc, novelty, Settings}
use Rattle.plpb.specs.Novelty.{is_older, ranks_before, placed, ranked, latest, is_newest}
use Rattle.plpb.specs.Choice.{pick_from, noisy_choice, skc_choice, ranked_choice, novelty_choice, choice_by}
use Rattle.plpb.proofs.Lists.{and_left, and_right, and_both}

-- ---- the variables ranked are those given

module _ (p : Plan) (a : Assignment) (last : ℕ → ℕ) where
  pub length_placed : (x : ℕ) (ys : List ℕ) → length (placed p a last x ys) ≡ suc (length ys)
  unfolding placed
  length_placed x [] = refl
  length_placed x (y ∷ ys) = either (ranks_before p a last y x) (length_placed x ys)
    where
      either : (b : Bool) → length (placed p a last x ys) ≡ suc (length ys) → length (cond b (y ∷ placed p a last x ys) (x ∷ y ∷ ys)) ≡ suc (suc (length ys))
      either true e = ap suc e
      either false e = refl

  pub length_ranked : (xs : List ℕ) → length (ranked p a last xs) ≡ length xs
  unfolding ranked
  length_ranked [] = refl
  length_ranked (x ∷ xs) = length_placed x (ranked p a last xs) ∙ ap suc (length_ranked xs)

  module _ (q : ℕ → Bool) where
    all_placed : (x : ℕ) (ys : List ℕ) → T (q x) → T (all q ys) → T (all q (placed p a last x ys))
    unfolding placed all
    all_placed x [] h k = and_both _ _ h tt
    all_placed x (y ∷ ys) h k = either (ranks_before p a last y x) (all_placed x ys h (and_right _ _ k))
      where
        either : (b : Bool) → T (all q (placed p a last x ys)) → T (all q (cond b (y ∷ placed p a last x ys) (x ∷ y ∷ ys)))
        either true j = and_both _ _ (and_left _ _ k) j
        either false j = and_both _ _ h k

    pub all_ranked : (xs : List ℕ) → T (all q xs) → T (all q (ranked p a last xs))
    unfolding ranked all
    all_ranked [] h = tt
    all_ranked (x ∷ xs) h = all_placed x (ranked p a last xs) (and_left _ _ h) (all_ranked xs (and_right _ _ h))

-- ---- what is asked of the last flips

-- Two accounts of the last flips agree about some variables.
unfoldable pub Agree : (ℕ → ℕ) → (ℕ → ℕ) → List ℕ → Type 0
Agree f g [] = Unit {0}
Agree f g (x ∷ xs) = (f x ≡ g x) × Agree f g xs

pub agree_all : (f g : ℕ → ℕ) (q : ℕ → Bool) → ((x : ℕ) → T (q x) → f x ≡ g x) → (xs : List ℕ) → T (all q xs) → Agree f g xs
unfolding Agree all
agree_all f g q h [] k = tt
agree_all f g q h (x ∷ xs) k = (h x (and_left _ _ k), agree_all f g q h xs (and_right _ _ k))

module _ (p : Plan) (a : Assignment) (f g : ℕ → ℕ) where
  before_agrees : (x y : ℕ) → f x ≡ g x → f y ≡ g y → ranks_before p a f x y ≡ ranks_before p a g x y
  unfolding ranks_before is_older
  before_agrees x y d e = rw (d, e)

  placed_agrees : (x : ℕ) (ys : List ℕ) → f x ≡ g x → Agree f g ys → placed p a f x ys ≡ placed p a g x ys
  unfolding placed Agree
  placed_agrees x [] d h = refl
  placed_agrees x (y ∷ ys) d h =
      ap₂ (λ b zs. cond b (y ∷ zs) (x ∷ y ∷ ys)) (before_agrees y x h.0 d) (placed_agrees x ys d h.1)

  agree_placed : (x : ℕ) (ys : List ℕ) → f x ≡ g x → Agree f g ys → Agree f g (placed p a f x ys)
  unfolding placed Agree
  agree_placed x [] d h = (d, tt)
  agree_placed x (y ∷ ys) d h = either (ranks_before p a f y x) (agree_placed x ys d h.1)
    where
      either : (b : Bool) → Agree f g (placed p a f x ys) → Agree f g (cond b (y ∷ placed p a f x ys) (x ∷ y ∷ ys))
      either true j = (h.0, j)
      either false j = (d, h)

  agree_ranked : (xs : List ℕ) → Agree f g xs → Agree f g (ranked p a f xs)
  unfolding ranked Agree
  agree_ranked [] h = tt
  agree_ranked (x ∷ xs) h = agree_placed x (ranked p a f xs) h.0 (agree_ranked xs h.1)

  ranked_agrees : (xs : List ℕ) → Agree f g xs → ranked p a f xs ≡ ranked p a g xs
  unfolding ranked Agree
  ranked_agrees [] h = refl
  ranked_agrees (x ∷ xs) h = placed_agrees x (ranked p a f xs) h.0 (agree_ranked xs h.1) ∙ ap (placed p a g x) (ranked_agrees xs h.1)

  latest_agrees : (xs : List ℕ) → Agree f g xs → latest f xs ≡ latest g xs
  unfolding latest Agree
  latest_agrees [] h = refl
  latest_agrees (x ∷ xs) h = ap₂ max h.0 (latest_agrees xs h.1)

  choice_agrees : (s : Settings) (xs ys : List ℕ) → Agree f g xs → Agree f g ys → ranked_choice s f xs ys ≡ ranked_choice s g xs ys
  unfolding ranked_choice is_newest Agree
  choice_agrees s xs [] h k = refl
  choice_agrees s xs (x ∷ []) h k = refl
  choice_agrees s xs (x ∷ y ∷ ys) h k = rw (latest_agrees xs h, k.0)

  novelty_agrees : (s : Settings) (xs : List ℕ) → Agree f g xs → novelty_choice s p a f xs ≡ novelty_choice s p a g xs
  unfolding novelty_choice ◌>>=◌
  novelty_agrees s xs h =
      let e = choice_agrees s xs (ranked p a f xs) h (agree_ranked xs h) ∙ ap (ranked_choice s g xs) (ranked_agrees xs h) in
      ap (pick 1_000) (fun_ext (λ r. ap (λ w. cond (ltb r s.chance) (pick_from 0 xs) w) e))

  -- A choice asks of a try only its assignment and the last flips of the variables to choose from.
  pub choices_agree : (h : Heuristic) (s : Settings) (m n : List ℕ) (xs : List ℕ) → Agree f g xs
      → choice_by h s p (record { bits = a; flips = m }) f xs ≡ choice_by h s p (record { bits = a; flips = n }) g xs
  unfolding choice_by skc_choice noisy_choice
  choices_agree skc s m n xs e = refl
  choices_agree novelty s m n xs e = novelty_agrees s xs e
