-- Laws of shares: the paper's cases from capped binomials, and those of a clause joined rule by rule, capped at each step.
-- Assumes nothing.
use Prim.Native.Nat.{ℕ, ◌+◌, ◌*◌, ◌-◌, ◌≤◌}
use native.Mathlib.Nat.{sub-add_cancel, add-mul, mul-add, mul-sub, mul_assoc, mul-le-mul, mul-le-mul_left, le_refl}
use native.Mathlib.Omega.{arith}
use mathlib.Core.List.{List, [], ◌∷◌}
use mathlib.Core.Path.{◌≡◌, refl, sym, ◌∙◌, ap}
use Rattle.plpb.specs.Count.{capped}
use Rattle.plpb.specs.Equations.{over, shares, shares_of, product, clause_break, clause_make}
use Rattle.plpb.specs.Equations.{out, on, off}
use Rattle.plpb.specs.Equations.{Shares as SharesOf}
use Rattle.plpb.specs.Plan.{Bound, Rule, Clause, Assignment}
use Rattle.plpb.proofs.Capped.{capped_zero, capped_one, capped_twice, sum_of, same_sum, same_product}
use Rattle.counting.specs.Shares.{capped_shares, start_shares, joined_shares, joined_along}

pub same_shares : {e f g e' f' g' : ℕ} → e ≡ e' → f ≡ f' → g ≡ g' → ◌≡◌ {A = SharesOf} (record { e = e; f = f; g = g }) (record { e = e'; f = f'; g = g' })
same_shares p q r = λ i. record { e = p i; f = q i; g = r i }

-- The three cases of a rule: what each promises of e, f and g is what the paper's table has in that case.
module _ (n p : ℕ) (A B : Bound ℕ) {e f g : ℕ} where
  pub case_absent : (e ≡ capped 0) × ((f ≡ capped 0) × (g ≡ capped (over n A + over p B))) → ◌≡◌ {A = SharesOf} (record { e = e; f = f; g = g }) (capped_shares (shares out n p A B))
  unfolding capped_shares shares
  case_absent h = same_shares h.0 h.1.0 h.1.1

  pub case_true : (w : ℕ) → (e ≡ capped (over (n + w) A - over n A)) × ((f ≡ capped (over p B - over (p - w) B)) × (g ≡ capped (over n A + over (p - w) B))) → ◌≡◌ {A = SharesOf} (record { e = e; f = f; g = g }) (capped_shares (shares (on w) n p A B))
  unfolding capped_shares shares
  case_true w h = same_shares h.0 h.1.0 h.1.1

  pub case_false : (w : ℕ) → (e ≡ capped (over (p + w) B - over p B)) × ((f ≡ capped (over n A - over (n - w) A)) × (g ≡ capped (over p B + over (n - w) A))) → ◌≡◌ {A = SharesOf} (record { e = e; f = f; g = g }) (capped_shares (shares (off w) n p A B))
  unfolding capped_shares shares
  case_false w h = same_shares h.0 h.1.0 h.1.1

-- A difference that the code works out from the smaller upper number and what is added to it.
pub from_smaller : (m w : ℕ) (A : Bound ℕ) {d : ℕ} → w ≤ m → d ≡ capped (over (m - w + w) A - over (m - w) A) → d ≡ capped (over m A - over (m - w) A)
from_smaller m w A h e = rw (sub-add_cancel h) at e

-- One number of a joined pair, as the code makes it: spoil · capped (false) + keep · spoil', with each step capped.
pub joined_one : (s k t u false first second r : ℕ) → false ≡ capped (t + u) → first ≡ capped (s * false) → second ≡ capped (k * t) → r ≡ capped (first + second) → r ≡ capped (s * (t + u) + k * t)
joined_one s k t u false first second r hf h1 h2 hr =
    let whole : first ≡ capped (s * (t + u)) =
    h1 ∙ same_product s s false (t + u) refl (ap capped hf ∙ capped_twice (t + u)) in
    hr ∙ sum_of (s * (t + u)) (k * t) whole h2

-- What was capped stays as it is: so do the shares that the code holds, from the start on.
capped_again : (s : SharesOf) → capped_shares (capped_shares s) ≡ capped_shares s
unfolding capped_shares
capped_again s = same_shares (capped_twice s.e) (capped_twice s.f) (capped_twice s.g)

pub capped_stays : (s t : SharesOf) → s ≡ capped_shares t → capped_shares s ≡ s
capped_stays s t h = ap capped_shares h ∙ capped_again t ∙ sym h

pub capped_start : capped_shares start_shares ≡ start_shares
unfolding capped_shares start_shares
capped_start = same_shares capped_zero capped_zero capped_one

-- Capped shares of which the joined ones are the same once capped.
joined_same : (s s' t t' : SharesOf) → capped_shares s ≡ capped_shares s' → capped_shares t ≡ capped_shares t' → capped_shares (joined_shares s t) ≡ capped_shares (joined_shares s' t')
unfolding capped_shares joined_shares
joined_same s s' t t' p q =
    same_shares
    (spoiled s.e s'.e t.e t'.e (ap (λ r. r.e) p) (ap (λ r. r.e) q))
    (spoiled s.f s'.f t.f t'.f (ap (λ r. r.f) p) (ap (λ r. r.f) q))
    (same_product s.g s'.g t.g t'.g keep keep')
  where
    keep : capped s.g ≡ capped s'.g
    keep = ap (λ r. r.g) p

    keep' : capped t.g ≡ capped t'.g
    keep' = ap (λ r. r.g) q

    spoiled : (x x' y y' : ℕ) → capped x ≡ capped x' → capped y ≡ capped y' → capped (x * (y + t.g) + s.g * y) ≡ capped (x' * (y' + t'.g) + s'.g * y')
    spoiled x x' y y' h l =
        same_sum (x * (y + t.g)) (x' * (y' + t'.g)) (s.g * y) (s'.g * y')
        (same_product x x' (y + t.g) (y' + t'.g) h (same_sum y y' t.g t'.g l keep'))
        (same_product s.g s'.g y y' keep l)

module _ {A : Type 0} (f : A → SharesOf) where
  along_same : (s s' : SharesOf) (rs : List A) → capped_shares s ≡ capped_shares s' → capped_shares (joined_along f s rs) ≡ capped_shares (joined_along f s' rs)
  unfolding joined_along
  along_same s s' [] p = p
  along_same s s' (r ∷ rs) p =
      along_same (joined_shares s (f r)) (joined_shares s' (f r)) rs (joined_same s s' (f r) (f r) p refl)

  -- One turn of a loop over rules: with the shares of the next rule joined, capped, what all come to does not change.
  pub joined_step : (state next rule : SharesOf) (r : A) (rs : List A) → rule ≡ capped_shares (f r) → next ≡ capped_shares (joined_shares state rule) → capped_shares (joined_along f next rs) ≡ capped_shares (joined_along f state (r ∷ rs))
  unfolding joined_along
  joined_step state next rule r rs p q =
      along_same next (joined_shares state (f r)) rs
      (ap capped_shares q
      ∙ capped_again (joined_shares state rule)
      ∙ joined_same state state rule (f r) refl (ap capped_shares p ∙ capped_again (f r)))

-- Three joined in either order.
regroup : (a k x y u v : ℕ) → (a * (x + y) + k * x) * (u + v) + k * y * u ≡ a * (x * (u + v) + y * u + y * v) + k * (x * (u + v) + y * u)
regroup a k x y u v = simp (add-mul, mul-add, mul_assoc) (omega arith)

joined_assoc : (s t u : SharesOf) → joined_shares (joined_shares s t) u ≡ joined_shares s (joined_shares t u)
unfolding joined_shares
joined_assoc s t u =
    same_shares
    (regroup s.e s.g t.e t.g u.e u.g)
    (regroup s.f s.g t.f t.g u.f u.g)
    (mul_assoc s.g t.g u.g)

-- The shares of a clause: equations (6) and (7), and the product of what each rule leaves.
module _ (f : Rule → SharesOf) where
  unfoldable clause_shares : Clause → SharesOf
  clause_shares c =
      record {
        e = product (λ r. (f r).e + (f r).g) c - product (λ r. (f r).g) c;
        f = product (λ r. (f r).f + (f r).g) c - product (λ r. (f r).g) c;
        g = product (λ r. (f r).g) c;
      }

  leaves_fewer : (h : Rule → ℕ) (c : Clause) → product (λ r. (f r).g) c ≤ product (λ r. h r + (f r).g) c
  unfolding product
  leaves_fewer h [] = le_refl 1
  leaves_fewer h (r ∷ rs) = mul-le-mul (omega arith) (leaves_fewer h rs)

  clause_cons : (r : Rule) (rs : Clause) → clause_shares (r ∷ rs) ≡ joined_shares (f r) (clause_shares rs)
  unfolding clause_shares joined_shares product
  clause_cons r rs =
      same_shares
      (part (f r).e (f r).g (product (λ q. (f q).e + (f q).g) rs) (product (λ q. (f q).g) rs) (leaves_fewer (λ q. (f q).e) rs))
      (part (f r).f (f r).g (product (λ q. (f q).f + (f q).g) rs) (product (λ q. (f q).g) rs) (leaves_fewer (λ q. (f q).f) rs))
      refl
    where
      part : (e g E G : ℕ) → G ≤ E → (e + g) * E - g * G ≡ e * (E - G + G) + g * (E - G)
      part e g E G h = rw (sub-add_cancel h) (omega (arith, add-mul e g E, mul-sub g E G, mul-le-mul_left g h))

  along_clause : (s : SharesOf) (c : Clause) → joined_along f s c ≡ joined_shares s (clause_shares c)
  unfolding joined_along joined_shares clause_shares product
  along_clause s [] = same_shares (omega arith) (omega arith) (omega arith)
  along_clause s (r ∷ rs) =
      along_clause (joined_shares s (f r)) rs
      ∙ joined_assoc s (f r) (clause_shares rs)
      ∙ ap (joined_shares s) (sym (clause_cons r rs))

-- Joined from the start, the rules of a clause give its break count, its make count and what all leave.
pub clause_shares_lem : (a : Assignment) (x : ℕ) (c : Clause) → joined_along (shares_of a x) start_shares c ≡ record { e = clause_break a x c; f = clause_make a x c; g = product (λ r. (shares_of a x r).g) c }
unfolding clause_shares start_shares joined_shares clause_break clause_make
clause_shares_lem a x c = along_clause (shares_of a x) start_shares c ∙ same_shares (omega arith) (omega arith) (omega arith)
