-- The choice of a variable: SKC (document 01, "The walk": "Choice (Algorithm 2, SKC)"; paper 004, Algorithm 2) or Novelty+ (document 02, T-09).
-- Assumes nothing.
use Rattle.std.specs.Prelude.{ℕ, suc, min, not, cond, List, [], ◌∷◌, ltb, eqb, length, get_or}
use Rattle.plpb.specs.Lists.{◌and◌, keep, is_empty, row}
use Rattle.plpb.specs.Plan.{Clause, Plan, Assignment, is_locked, names}
use Rattle.plpb.specs.Count.{cap, capped_break}
use Rattle.plpb.specs.Walk.{Walk, done, pick, ◌>>=◌}
use Rattle.plpb.specs.Settings.{Heuristic, skc, novelty, Settings}
use Rattle.plpb.specs.Try.{Try}
use Rattle.plpb.specs.Novelty.{last_flip, ranked, is_newest}

-- "the clause's variables, each once", in ascending order; "Only unlocked variables of a clause may be chosen"
unfoldable pub choosable : Plan → Clause → List ℕ
choosable p c = keep (λ x. names c x and not (is_locked p x)) (row 1 p.variables)

-- "A pick among m [..] in ascending order of clause or variable number"
unfoldable pub pick_from : {A : Type 0} → A → List A → Walk A
pick_from d xs = pick (length xs) (λ i. done (get_or xs i d))

-- The least break count among some variables, by where counts stand: "'Least' in the choice follows this order." (T-08)
unfoldable pub least_break : Plan → Assignment → List ℕ → ℕ
least_break p a [] = suc cap
least_break p a (x ∷ xs) = min (capped_break p a x) (least_break p a xs)

-- Those among some variables whose break count stands at a given place.
unfoldable pub with_break : Plan → Assignment → ℕ → List ℕ → List ℕ
with_break p a b xs = keep (λ x. eqb (capped_break p a x) b) xs

-- "Otherwise a number r with r mod 1000 < noise leads to a pick among the least break counts, else to a pick among all."; "The noise number follows
-- the same rule with 1,000" (T-06).
unfoldable pub noisy_choice : Settings → Plan → Try → List ℕ → Walk ℕ
noisy_choice s p t xs = do
  r ← pick 1_000 done
  pick_from 0 (cond (ltb r s.noise) (with_break p t.bits (least_break p t.bits xs) xs) xs)

-- "Choice (Algorithm 2, SKC) among the clause's variables, each once: if any has break count 0, pick among those."
unfoldable pub skc_choice : Settings → Plan → Try → List ℕ → Walk ℕ
skc_choice s p t xs =
    let free = with_break p t.bits 0 xs in
    cond (is_empty free) (noisy_choice s p t xs) (pick_from 0 free)

-- "If the first is not the one most recently flipped in this try among them, or it is alone, flip it. Otherwise a number under noise takes the second,
-- else the first." The variables are xs, and ranked in the list behind them.
unfoldable pub ranked_choice : Settings → (ℕ → ℕ) → List ℕ → List ℕ → Walk ℕ
ranked_choice s last xs [] = done 0
ranked_choice s last xs (x ∷ []) = done x
ranked_choice s last xs (x ∷ y ∷ ys) =
    let noisy = pick 1_000 (λ r. done (cond (ltb r s.noise) y x)) in
    cond (is_newest last xs x) noisy (done x)

-- "One number under the walk chance, per 1,000, leads to a pick among the clause's unlocked variables. Otherwise rank them"; "Numbers are judged as in
-- T-06."
unfoldable pub novelty_choice : Settings → Plan → Assignment → (ℕ → ℕ) → List ℕ → Walk ℕ
novelty_choice s p a last xs = do
  r ← pick 1_000 done
  cond (ltb r s.chance) (pick_from 0 xs) (ranked_choice s last xs (ranked p a last xs))

-- The choice of each heuristic; `last` says of each variable the number of its last flip in this try.
unfoldable pub choice_by : Heuristic → Settings → Plan → Try → (ℕ → ℕ) → List ℕ → Walk ℕ
choice_by skc s p t last xs = skc_choice s p t xs
choice_by novelty s p t last xs = novelty_choice s p t.bits last xs

-- "Offer Novelty+ (Hoos, 1999) beside it."
unfoldable pub choice : Settings → Plan → Try → List ℕ → Walk ℕ
choice s p t xs = choice_by s.heuristic s p t (last_flip t.flips) xs
