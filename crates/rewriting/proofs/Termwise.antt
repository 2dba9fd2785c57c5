-- Terms rewritten one after the other: what is written does not reach past what was read.
-- Assumes nothing.
use Prim.Native.Nat.{ℕ, suc, ◌+◌, ◌*◌, ◌-◌, ◌≤◌, ◌<◌}
use native.Mathlib.Nat.{add-zero}
use native.Mathlib.Omega.{arith}
use mathlib.Core.Path.{◌≡◌, refl, sym, ap, ◌∙◌}
use mathlib.Core.Bool.{Bool, true}
use mathlib.Core.List.{List, [], ◌∷◌, ◌++◌, map, append-nil}
use lib.IntN.{ℤ}
use lib.ListN.{length, drop, length-append}
use lib.Seq.{drop-drop}
use Rattle.plpb.specs.Lists.{all, concat}
use Rattle.plpb.specs.Plan.{Term}
use Rattle.words.specs.Words.{num_at, bytes_of, signed}
use Rattle.words.specs.Writes.{put}
use Rattle.words.proofs.Words.{length_bytes_of, unsigned_signed}
use Rattle.format.specs.File.{term_at, terms_at}
use Rattle.format.specs.Writer.{term_bytes}
use Rattle.format.proofs.Bools.{and_right}
use Rattle.format.proofs.WrittenRule.{length_terms}
use Rattle.squeezed.specs.Squeezed.{Becomes, locked, renumbered, stays, terms_left}
use Rattle.squeezed.proofs.Lawful.{fewer_terms}
use Rattle.fates.specs.Codes.{decoded}
use Rattle.fates.specs.Sums.{small_terms}
use Rattle.fates.proofs.Parts.{small_at}
use Rattle.rewriting.specs.Written.{terms_written}
use Rattle.fields.proofs.Writing.{put_none}
use Rattle.rewriting.proofs.Putting.{drop_put, same_num, Laying, laying_more, laying_done}

-- ---- one term

module _ (s map : List ℕ) (at : ℕ) where
  abbrev written : List ℕ
  written = terms_written (decoded map) (term_at s at ∷ [])

  abbrev code : Becomes
  code = decoded map (num_at 2 s at)

  none_written : {v : Bool} → code ≡ locked v → written ≡ []
  unfolding terms_written terms_left term_at stays concat
  none_written h = rw h

  one_written : {c w : ℕ} → code ≡ renumbered c → w ≡ num_at 4 s (at + 2) → w < 4_294_967_296 → bytes_of 2 c ++ bytes_of 4 w ≡ written
  unfolding terms_written terms_left term_at stays concat term_bytes
  one_written {c} {w} h d l = rw (h, ← d, unsigned_signed w l) (sym (append-nil (bytes_of 2 c ++ bytes_of 4 w)))

  pub term_dropped : (to : ℕ) {v : Bool} → code ≡ locked v → (s ≡ put to written s) × (to ≡ to + length written)
  term_dropped to h = let n = none_written h in rw n (sym (put_none to s), omega arith)

  pub term_kept : (to : ℕ) {c w : ℕ} {t : List ℕ} → code ≡ renumbered c → w ≡ num_at 4 s (at + 2) → w < 4_294_967_296
      → t ≡ put to (bytes_of 2 c ++ bytes_of 4 w) s → (t ≡ put to written s) × (to + 6 ≡ to + length written)
  term_kept to {c} {w} h d l p =
      let is = one_written h d l in
      let long = length-append (bytes_of 2 c) (bytes_of 4 w) in
      (p ∙ ap (λ bs. put to bs s) is, omega (arith, ap length is, long, length_bytes_of 2 c, length_bytes_of 4 w))

-- ---- one after the other

stays_split : (m : Becomes) (w : ℤ) (ts : List Term)
    → concat (map term_bytes (stays m w ts)) ≡ concat (map term_bytes (stays m w [])) ++ concat (map term_bytes ts)
unfolding stays concat
stays_split (locked v) w ts = refl
stays_split (renumbered k) w ts = let t : Term = record { variable = k; weight = w } in ap (λ l. l ++ concat (map term_bytes ts)) (sym (append-nil (term_bytes t)))

pub terms_split : (f : ℕ → Becomes) (t : Term) (ts : List Term) → terms_written f (t ∷ ts) ≡ terms_written f (t ∷ []) ++ terms_written f ts
unfolding terms_written terms_left
terms_split f t ts = stays_split (f t.variable) t.weight (terms_left f ts)

pub length_written : (f : ℕ → Becomes) (ts : List Term) → length (terms_written f ts) ≤ 6 * length ts
unfolding terms_written
length_written f ts = omega (arith, length_terms (terms_left f ts), fewer_terms f ts)

module _ (s₀ map : List ℕ) (from count to : ℕ) where
  abbrev f : ℕ → Becomes
  f = decoded map

  -- With the terms from a place on still to come: they stand as they stood, and what is to be written is what was to be.
  pub record Keeping (s : List ℕ) (at left end : ℕ) : Type 0 where
    pub place : at + 6 * left ≡ from + 6 * count
    pub behind : end ≤ at
    pub small : small_terms (terms_at s₀ at left) ≡ true
    pub ahead : drop at s ≡ drop at s₀
    pub laying : Laying s₀ to (terms_written f (terms_at s₀ from count)) s end (terms_written f (terms_at s₀ at left))

-- A term is read as it stood.
same_term : (s t : List ℕ) (at : ℕ) → drop at s ≡ drop at t → term_at s at ≡ term_at t at
unfolding term_at
same_term s t at e =
    let p = ap (num_at 2 s) (sym (add-zero at)) ∙ same_num 2 at 0 s t e ∙ ap (num_at 2 t) (add-zero at) in
    let q = ap signed (same_num 4 at 2 s t e) in
    λ i. record { variable = p i; weight = q i }

pub same_variable : (s t : List ℕ) (at : ℕ) → drop at s ≡ drop at t → num_at 2 s at ≡ num_at 2 t at
same_variable s t at e = ap (num_at 2 s) (sym (add-zero at)) ∙ same_num 2 at 0 s t e ∙ ap (num_at 2 t) (add-zero at)

module _ (s₀ map : List ℕ) (from count to : ℕ) (room : from + 6 * count ≤ length s₀) (s : List ℕ) (at left end : ℕ) (some : 0 < left)
    (k : Keeping s₀ map from count to s at left end) where
  pub keeping_room : at + 6 ≤ length s
  keeping_room = omega (arith, k.place, k.laying.same)

  pub keeping_variable : num_at 2 s at ≤ 512
  keeping_variable = rw (same_variable s s₀ at k.ahead) (small_at s₀ at left some k.small).variable

  abbrev first : List ℕ
  first = terms_written (decoded map) (term_at s at ∷ [])

  abbrev rest : List ℕ
  rest = terms_written (decoded map) (terms_at s₀ (at + 6) (left - 1))

  all_written : first ++ rest ≡ terms_written (decoded map) (terms_at s₀ at left)
  unfolding terms_at
  all_written =
      let n : suc (left - 1) ≡ left = omega arith in
      sym (terms_split (decoded map) (term_at s at) (terms_at s₀ (at + 6) (left - 1)))
      ∙ ap (λ t. terms_written (decoded map) (t ∷ terms_at s₀ (at + 6) (left - 1))) (same_term s s₀ at k.ahead)
      ∙ ap (λ m. terms_written (decoded map) (terms_at s₀ at m)) n

  small_rest : small_terms (terms_at s₀ (at + 6) (left - 1)) ≡ true
  unfolding small_terms all terms_at
  small_rest = let n : left ≡ suc (left - 1) = omega arith in and_right _ _ (ap (λ m. small_terms (terms_at s₀ at m)) (sym n) ∙ k.small)

  short : length first ≤ 6
  short = omega (arith, length_written (decoded map) (term_at s at ∷ []))

  pub keeping_more : {at' left' : ℕ} → at' ≡ at + 6 → left' ≡ left - 1 → {t : List ℕ} {to' : ℕ} → t ≡ put end (terms_written (decoded map) (term_at s at ∷ [])) s
      → to' ≡ end + length (terms_written (decoded map) (term_at s at ∷ [])) → Keeping s₀ map from count to t at' left' to'
  keeping_more a n {t} {to'} e l =
      let fits : end + length first ≤ length s = omega (arith, short, k.behind, keeping_room) in
      rw (a, n)
      (record {
        place = omega (arith, k.place);
        behind = omega (arith, short, k.behind);
        small = small_rest;
        ahead =
            ap (drop (at + 6)) e ∙ drop_put (at + 6) end first s (omega arith) (omega (arith, short, k.behind))
            ∙ sym (drop-drop 6 at s) ∙ ap (drop 6) k.ahead ∙ drop-drop 6 at s₀;
        laying = laying_more first rest k.laying (sym all_written) fits e l;
      })

pub keeping_all : (s₀ map : List ℕ) (from count to : ℕ) (s : List ℕ) (at left end : ℕ) → left ≤ 0 → Keeping s₀ map from count to s at left end
    → (s ≡ put to (terms_written (decoded map) (terms_at s₀ from count)) s₀) × (end ≡ to + length (terms_written (decoded map) (terms_at s₀ from count)))
unfolding terms_at terms_written terms_left concat
keeping_all s₀ map from count to s at left end l k =
    let n : left ≡ 0 = omega arith in
    laying_done k.laying (ap (λ m. terms_written (decoded map) (terms_at s₀ at m)) n)
