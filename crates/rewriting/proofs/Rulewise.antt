-- Rules and clauses rewritten one after the other: what is written does not reach past what was read.
-- Assumes nothing.
use Prim.Native.Nat.{ℕ, ◌+◌, ◌*◌, ◌-◌, ◌≤◌}
use native.Mathlib.Omega.{arith}
use mathlib.Core.Path.{◌≡◌, refl, sym, ap, ap₂, ◌∙◌, subst}
use mathlib.Core.Bool.{Bool, true, false, cond}
use mathlib.Core.List.{List, [], ◌∷◌, ◌++◌, map, append_assoc, append-nil}
use lib.IntN.{ℤ, pos}
use Rattle.std.specs.Prelude.{Option, None, Some}
use Rattle.std.specs.Option.{unwrap_or}
use lib.ListN.{length, drop, length-append}
use Rattle.plpb.specs.Lists.{keep, concat, sum_by}
use Rattle.plpb.specs.Plan.{Rule, Clause}
use Rattle.words.specs.Words.{bytes_of, unsigned}
use Rattle.words.specs.Writes.{put}
use Rattle.words.proofs.Words.{length_bytes_of}
use Rattle.format.specs.File.{tag_at, length_at, terms_in, rule_at}
use Rattle.format.specs.Writer.{field, mode, bound_number, rule_field}
use Rattle.format.proofs.Peel.{length_terms_at}
use Rattle.format.proofs.Sizes.{length_rules}
use Rattle.tables.specs.Places.{behind_field}
use Rattle.squeezed.specs.Squeezed.{Becomes, put_in, possible, trimmed, rules_left}
use Rattle.squeezed.proofs.Lawful.{fewer_rules, rules_terms}
use Rattle.counting.specs.Bound.{bound_of as as_bound}
use Rattle.fates.specs.Rules.{Fated, RuleFits}
use Rattle.fates.specs.declared.bounds.Bounds.{Bounds}
use Rattle.fates.specs.Rest.{Rest}
use Rattle.fates.proofs.Judging.{rule_terms}
use Rattle.fates.proofs.Resting.{rest_rule, rest_none, no_rules}
use Rattle.rewriting.specs.Written.{terms_written, rules_written}
use Rattle.rewriting.specs.Moved.{Laid, RulesMoved}
use Rattle.fields.proofs.Writing.{put_before, put_none}
use Rattle.rewriting.proofs.Putting.{drop_put, Laying, laying_more, laying_done}

-- Nothing written; and the same by another name.
pub laid_none : (s : List ℕ) (to : ℕ) {bytes : List ℕ} → bytes ≡ [] → Laid s to bytes s to
unfolding Laid
laid_none s to {bytes} e = (sym (put_none to s) ∙ ap (λ x. put to x s) (sym e), omega (arith, ap length e))

pub laid_is : (s t : List ℕ) (to end : ℕ) {bytes bytes' : List ℕ} → bytes ≡ bytes' → Laid s to bytes t end → Laid s to bytes' t end
laid_is s t to end e l = subst (λ x. Laid s to x t end) e l

-- ---- one rule

shift : (a lo up ts : List ℕ) (m : ℕ) → ((a ++ (m ∷ [])) ++ (lo ++ up)) ++ ts ≡ a ++ (m ∷ (lo ++ (up ++ ts)))
shift a lo up ts m =
    append_assoc (a ++ (m ∷ [])) (lo ++ up) ts ∙ append_assoc a (m ∷ []) ((lo ++ up) ++ ts) ∙ ap (λ l. a ++ (m ∷ l)) (append_assoc lo up ts)

-- Its terms are written first, its head and bounds before them.
module _ (s : List ℕ) (to m lo up : ℕ) (ts : List ℕ) where
  abbrev body : List ℕ
  body = m ∷ (bytes_of 4 lo ++ (bytes_of 4 up ++ ts))

  long : length body ≡ 9 + length ts
  long =
      omega
      (arith, length-append (bytes_of 4 lo) (bytes_of 4 up ++ ts), length-append (bytes_of 4 up) ts, length_bytes_of 4 lo, length_bytes_of 4 up)

  abbrev front : ℕ → List ℕ
  front size = 4 ∷ (bytes_of 2 size ++ (m ∷ []) ++ (bytes_of 4 lo ++ bytes_of 4 up))

  front_long : (size : ℕ) → length (front size) ≡ 12
  front_long size =
      omega
      (arith, length-append (bytes_of 2 size ++ (m ∷ [])) (bytes_of 4 lo ++ bytes_of 4 up), length-append (bytes_of 2 size) (m ∷ []), length-append (bytes_of 4 lo) (bytes_of 4 up), length_bytes_of 2 size, length_bytes_of 4 lo, length_bytes_of 4 up)

  joined : (size : ℕ) → size ≡ length body → front size ++ ts ≡ field 4 body
  unfolding field
  joined size e = ap (λ n. front n ++ ts) e ∙ ap (λ l. 4 ∷ l) (shift (bytes_of 2 (length body)) (bytes_of 4 lo) (bytes_of 4 up) ts m)

  pub rule_laid : {t u : List ℕ} {size end : ℕ} → to + 12 ≤ length s → t ≡ put (to + 12) ts s → end ≡ to + 12 + length ts → size ≡ end - to - 3
      → u ≡ put to (4 ∷ (bytes_of 2 size ++ (m ∷ []) ++ (bytes_of 4 lo ++ bytes_of 4 up))) t → Laid s to (field 4 body) u end
  unfolding Laid
  rule_laid {t} {u} {size} {end} h p q r e =
      let n : size ≡ length body = omega (arith, long) in
      let is = joined size n in
      let f = front_long size in
      (put_before s to (front size) ts (omega arith) (omega arith) p e ∙ ap (λ bs. put to bs s) is, omega (arith, ap length is, length-append (front size) ts))

pub rule_laid_as : (s : List ℕ) (to m lo up : ℕ) (ts : List ℕ) {k l u : ℕ} {ts' x y : List ℕ} {size end : ℕ} → m ≡ k → lo ≡ l → up ≡ u → ts ≡ ts'
    → to + 12 ≤ length s → x ≡ put (to + 12) ts s → end ≡ to + 12 + length ts → size ≡ end - to - 3
    → y ≡ put to (4 ∷ (bytes_of 2 size ++ (m ∷ []) ++ (bytes_of 4 lo ++ bytes_of 4 up))) x
    → Laid s to (field 4 (k ∷ (bytes_of 4 l ++ (bytes_of 4 u ++ ts')))) y end
rule_laid_as s to m lo up ts {y = y} {end = end} d a b c h p q r e =
    let is = ap₂ (λ x z. bytes_of 4 x ++ z) a (ap₂ (λ x z. bytes_of 4 x ++ z) b c) in
    subst (λ x. Laid s to (field 4 x) y end) (ap₂ (λ x z. x ∷ z) d is) (rule_laid s to m lo up ts h p q r e)

-- "an absent bound is written 0"
pub bound_written : (o : Option ℤ) → unwrap_or o (pos 0) ≡ bound_number (as_bound o)
unfolding bound_number
bound_written None = refl
bound_written (Some b) = refl

-- What is left of it, by what is left of its bounds.
module _ (f : ℕ → Becomes) (r : Rule) where
  abbrev r' : Rule
  r' = put_in f r

  pub rule_gone : Fated None r' → rules_written f (r ∷ []) ≡ []
  unfolding Fated rules_written rules_left keep concat
  rule_gone e = rw e

  one_left : possible r' ≡ true → rule_field (trimmed r') ≡ rules_written f (r ∷ [])
  unfolding rules_written rules_left keep concat
  one_left h = rw h (sym (append-nil (rule_field (trimmed r'))))

  abbrev as_rule : ℕ → ℤ → ℤ → List ℕ
  as_rule m lo up = field 4 (m ∷ (bytes_of 4 (unsigned lo) ++ (bytes_of 4 (unsigned up) ++ terms_written f r.terms)))

  is_field : as_rule (mode (trimmed r').lower (trimmed r').upper) (bound_number (trimmed r').lower) (bound_number (trimmed r').upper) ≡ rule_field (trimmed r')
  unfolding rule_field terms_written trimmed put_in
  is_field = refl

  pub rule_stays : (b : Bounds) → Fated (Some b) r'
      → field 4
      (mode (as_bound b.lower) (as_bound b.upper)
      ∷ (bytes_of 4 (unsigned (bound_number (as_bound b.lower))) ++ (bytes_of 4 (unsigned (bound_number (as_bound b.upper))) ++ terms_written f r.terms)))
      ≡ rules_written f (r ∷ [])
  unfolding Fated
  rule_stays b e = rw (e.1, e.2) (is_field ∙ one_left e.0)

  pub rule_short : length (rules_written f (r ∷ [])) ≤ 12 + 6 * length r.terms
  unfolding rules_written sum_by
  rule_short = omega (arith, length_rules (rules_left f (r ∷ [])), fewer_rules f (r ∷ []), rules_terms f (r ∷ []))

-- ---- rules one after the other

rules_by : (t : Bool) (r : Rule) (rs : List Rule)
    → concat (map rule_field (map trimmed (cond t (r ∷ rs) rs)))
    ≡ concat (map rule_field (map trimmed (cond t (r ∷ []) []))) ++ concat (map rule_field (map trimmed rs))
unfolding concat
rules_by true r rs = ap (λ l. l ++ concat (map rule_field (map trimmed rs))) (sym (append-nil (rule_field (trimmed r))))
rules_by false r rs = refl

rules_split : (f : ℕ → Becomes) (r : Rule) (rs : List Rule) → rules_written f (r ∷ rs) ≡ rules_written f (r ∷ []) ++ rules_written f rs
unfolding rules_written rules_left keep
rules_split f r rs = rules_by (possible (put_in f r)) (put_in f r) (keep possible (map (put_in f) rs))

-- What is left of a rule is no longer than its field.
rule_within : (f : ℕ → Becomes) (s : List ℕ) (at : ℕ) → RuleFits s at → at + length (rules_written f (rule_at s at ∷ [])) ≤ behind_field s at
unfolding behind_field terms_in rule_at
rule_within f s at r =
    let few = ap length (rule_terms r) ∙ length_terms_at s (terms_in 4 (length_at s at)) (at + 12) in
    omega (arith, rule_short f (rule_at s at), few, r.size)

-- The bytes from a place on are the same: so is what stands there.
pub rest_same : {n : ℕ} {s t : List ℕ} {at : ℕ} {rs : List Rule} {cs : List Clause} → drop at t ≡ drop at s → Rest n s at rs cs → Rest n t at rs cs
rest_same e h = record { high = h.high; bytes = e ∙ h.bytes; rules = h.rules; clauses = h.clauses }

module _ (f : ℕ → Becomes) (s₀ : List ℕ) (from to : ℕ) where
  -- Where rewriting is: the rules left stand as they stood, and what is to be written is what was to be.
  pub record MovingAt (s : List ℕ) (at end n : ℕ) (rs : List Rule) (cs : List Clause) : Type 0 where
    pub left : List Rule
    pub rest : Rest n s at left cs
    pub laying : Laying s₀ to (rules_written f rs) s end (rules_written f left)
    pub behind : end ≤ at

  abbrev pub Moving : List ℕ → ℕ → ℕ → Type 0
  Moving s at end = (from ≤ at) × ((n : ℕ) (rs : List Rule) (cs : List Clause) → Rest n s₀ from rs cs → MovingAt s at end n rs cs)

  module _ (s : List ℕ) (at end : ℕ) where
    one_moved : {t : List ℕ} {next e n : ℕ} {rs : List Rule} {cs : List Clause} → tag_at s at ≡ 4 → next ≡ behind_field s at
        → Laid s end (rules_written f (rule_at s at ∷ [])) t e → MovingAt s at end n rs cs → MovingAt t next e n rs cs
    unfolding Laid
    one_moved {t} {next} {e} {n} {rs} {cs} tag p l m =
        let r = rest_rule m.rest tag in
        let bs = rules_written f (rule_at s at ∷ []) in
        let within = rule_within f s at r.fits in
        let fits : end + length bs ≤ length s = omega (arith, within, m.behind, r.fits.room) in
        let low : end ≤ length s = omega arith in
        let far : end + length bs ≤ behind_field s at = omega (arith, within, m.behind) in
        record {
          left = r.rest;
          rest =
              subst (λ k. Rest n t k r.rest cs) (sym p)
              (rest_same (ap (drop (behind_field s at)) l.0 ∙ drop_put (behind_field s at) end bs s low far) r.behind);
          laying =
              laying_more bs (rules_written f r.rest) m.laying (ap (rules_written f) r.split ∙ rules_split f (rule_at s at) r.rest) fits l.0 l.1;
          behind = omega (arith, far, l.1);
        }

    pub moving_more : {t : List ℕ} {next e : ℕ} → Moving s at end → tag_at s at ≡ 4 → next ≡ behind_field s at
        → Laid s end (rules_written f (rule_at s at ∷ [])) t e → Moving t next e
    unfolding behind_field
    moving_more m tag p l = (omega (arith, m.0, p), λ n rs cs r. one_moved tag p l (m.1 n rs cs r))

    pub moving_end : Moving s at end → (tag_at s at ≡ 4 → ⊥) → RulesMoved f s₀ from to s at end
    unfolding RulesMoved Laid rules_written rules_left keep concat
    moving_end m tag = (
      m.0,
      λ n rs cs r.
          let a = m.1 n rs cs r in
          (laying_done a.laying (ap (rules_written f) (no_rules a.rest tag)), a.behind, rest_none a.rest tag),
    )
