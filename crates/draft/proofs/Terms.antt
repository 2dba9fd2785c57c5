-- The terms of the sites, one site after another, and what a site weighs.
-- Assumes nothing.
use Prim.Native.Nat.{ℕ, suc, ◌+◌, ◌%◌, ◌≤◌, ◌<◌}
use native.Mathlib.Omega.{arith}
use native.Mathlib.Nat.{mod-eq_of_lt}
use native.Mathlib.Numerals.{add-one}
use mathlib.Core.Path.{◌≡◌, refl, sym, ap, ap₂, ◌∙◌}
use mathlib.Core.Bool.{Bool, true, false, not, cond}
use mathlib.Core.List.{List, [], ◌∷◌, ◌++◌, map, append_assoc, append-nil}
use mathlib.Core.Option.{none}
use Rattle.std.proofs.Common.{Some}
use lib.Dec.{eqb, ltb}
use lib.IntN.{pos}
use lib.ListN.{length, take, length-map}
use lib.Seq.{take-suc, length-take-le}
use borrow.Author.Tests.{ltb-false}
use Rattle.plpb.specs.Lists.{◌or◌, concat}
use Rattle.plpb.specs.Plan.{Term}
use Rattle.words.specs.Words.{bytes_of, unsigned}
use Rattle.format.specs.Writer.{term_bytes}
use Rattle.cells.specs.declared.value.Value.{Value}
use Rattle.cells.specs.Grammar.{column_of}
use Rattle.cells.specs.Values.{gather, same_value}
use Rattle.lists.specs.Lists.{Site, Zone, in_zone, terms_by}
use Rattle.lists.specs.Refusals.{Entry, is_number, number_of, yes_bytes, site_of, zone_of, site_formed, zone_formed, site_fault, zone_fault, entry_at}
use Rattle.lists.proofs.Counts.{or_left_false, or_right_false}
use Rattle.lists.proofs.Values.{number_says, same_alike}
use Rattle.entries.specs.Judging.{OfBytes}
use Rattle.entries.proofs.Tests.{formed_metres, formed_least, formed_most, site_sound, zone_sound, zone_name_short, yes_alike}
use Rattle.draft.specs.Draft.{weigh, terms_of, Named}

-- ---- what a site weighs

metres_number : (x : Entry) → site_fault x ≡ 0 → is_number (column_of 1 x) ≡ true
metres_number x e = formed_metres x (site_sound x e)

metres_most : (x : Entry) → site_fault x ≡ 0 → number_of (column_of 1 x) ≤ 1_000_000
unfolding site_fault
metres_most x e = go (not (site_formed x)) (ltb 1_000_000 (number_of (column_of 1 x))) refl e
  where
    go : (a b : Bool) → ltb 1_000_000 (number_of (column_of 1 x)) ≡ b → ◌≡◌ {A = ℕ} (cond a 51 (cond b 52 0)) 0 → number_of (column_of 1 x) ≤ 1_000_000
    go true b t h = absurd (omega (arith, h))
    go false true t h = absurd (omega (arith, h))
    go false false t h = ltb-false 1_000_000 (number_of (column_of 1 x)) t

module _ (x : Entry) (name : List ℕ) where
  pub weigh_metres : (zoned : Bool) (v : Value) {r : ℕ} → zoned ≡ false → v ≡ gather (column_of 1 x) → site_fault x ≡ 0
      → ((n : ℕ) → v.number ≡ Some n → r ≡ n % 4_294_967_296) → r ≡ weigh zoned name (site_of x)
  unfolding weigh site_of
  weigh_metres zoned v z e f q =
      let n = number_of (column_of 1 x) in
      let l : n ≤ 1_000_000 = metres_most x f in
      rw z
      (q n (ap (λ (u : Value). u.number) e ∙ number_says _ (metres_number x f)) ∙ mod-eq_of_lt {n = n} {m = 4_294_967_296} (omega arith))

  pub weigh_zone :
      (zoned : Bool) (own zone : Value) (t : Bool) → zoned ≡ true → own ≡ gather (column_of 2 x) → OfBytes x → Named zone name → t ≡ same_value own zone
      → cond t 1 0 ≡ weigh zoned name (site_of x)
  unfolding weigh site_of in_zone
  weigh_zone zoned own zone t z e b h q =
      rw z
      (ap (λ (y : Bool). cond y 1 0)
      (q ∙ ap₂ same_value e h.gathered ∙ same_alike (column_of 2 x) name h.short (b 2) h.bytes))

-- ---- term by term

append_terms :
    (w : Site → ℕ) (i : ℕ) (xs : List Site) (s : Site)
    → terms_by w i (xs ++ (s ∷ [])) ≡ terms_by w i xs ++ cond (eqb (w s) 0) [] (record { variable = i + length xs; weight = pos (w s) } ∷ [])
unfolding terms_by
append_terms w i [] s = ap (λ (k : ℕ). cond (eqb (w s) 0) [] (record { variable = k; weight = pos (w s) } ∷ [])) (omega arith)
append_terms w i (x ∷ xs) s = go (eqb (w x) 0) (append_terms w (suc i) xs s)
  where
    last : ℕ → List Term
    last k = cond (eqb (w s) 0) [] (record { variable = k; weight = pos (w s) } ∷ [])

    same : last (suc i + length xs) ≡ last (i + suc (length xs))
    same = ap last (omega arith)

    go : (t : Bool) → terms_by w (suc i) (xs ++ (s ∷ [])) ≡ terms_by w (suc i) xs ++ last (suc i + length xs)
        → cond t (terms_by w (suc i) (xs ++ (s ∷ []))) (record { variable = i; weight = pos (w x) } ∷ terms_by w (suc i) (xs ++ (s ∷ [])))
        ≡ cond t (terms_by w (suc i) xs) (record { variable = i; weight = pos (w x) } ∷ terms_by w (suc i) xs) ++ last (i + suc (length xs))
    go true h = h ∙ ap (λ (l : List Term). terms_by w (suc i) xs ++ l) same
    go false h = ap (λ (l : List Term). record { variable = i; weight = pos (w x) } ∷ l) (h ∙ ap (λ (l : List Term). terms_by w (suc i) xs ++ l) same)

bytes_append : (ts us : List Term) → concat (map term_bytes (ts ++ us)) ≡ concat (map term_bytes ts) ++ concat (map term_bytes us)
unfolding concat
bytes_append [] us = refl
bytes_append (t ∷ ts) us = ap (λ (l : List ℕ). term_bytes t ++ l) (bytes_append ts us) ∙ sym (append_assoc (term_bytes t) (concat (map term_bytes ts)) (concat (map term_bytes us)))

map_snoc : (xs : List Entry) (x : Entry) → map site_of (xs ++ (x ∷ [])) ≡ map site_of xs ++ (site_of x ∷ [])
map_snoc [] x = refl
map_snoc (y ∷ ys) x = ap (λ (l : List Site). site_of y ∷ l) (map_snoc ys x)

one_term : (t : Bool) (v w : ℕ) → concat (map term_bytes (cond t [] (record { variable = v; weight = pos w } ∷ []))) ≡ cond t [] (bytes_of 2 v ++ bytes_of 4 w)
unfolding concat term_bytes unsigned
one_term true v w = refl
one_term false v w = append-nil (bytes_of 2 v ++ bytes_of 4 w)

-- One site more.
pub terms_next :
    (zoned : Bool) (name : List ℕ) (xs : List Entry) (k w : ℕ) → k < length xs → w ≡ weigh zoned name (site_of (entry_at xs k))
    → terms_of zoned name (take (k + 1) xs) ≡ terms_of zoned name (take k xs) ++ cond (eqb w 0) [] (bytes_of 2 (k + 1) ++ bytes_of 4 w)
unfolding terms_of
terms_next zoned name xs k w l e =
    let x = entry_at xs k in
    let f = weigh zoned name in
    let n : 1 + length (map site_of (take k xs)) ≡ k + 1 = omega (arith, length-map (take k xs) site_of, length-take-le k xs (omega arith)) in
    let ts : List Term = terms_by f 1 (map site_of (take k xs)) in
    let last : ℕ → ℕ → List Term = λ (i j : ℕ). cond (eqb j 0) [] (record { variable = i; weight = pos j } ∷ []) in
    ap (λ (l : List Entry). concat (map term_bytes (terms_by f 1 (map site_of l)))) (ap (λ (j : ℕ). take j xs) (add-one k) ∙ take-suc xs k none l)
    ∙ ap (λ (l : List Site). concat (map term_bytes (terms_by f 1 l))) (map_snoc (take k xs) x)
    ∙ ap (λ (l : List Term). concat (map term_bytes l)) (append_terms f 1 (map site_of (take k xs)) (site_of x))
    ∙ bytes_append ts (last (1 + length (map site_of (take k xs))) (f (site_of x)))
    ∙ ap₂ (λ (i j : ℕ). concat (map term_bytes ts) ++ concat (map term_bytes (last i j))) n (sym e)
    ∙ ap (λ (l : List ℕ). concat (map term_bytes ts) ++ l) (one_term (eqb w 0) (k + 1) w)

pub terms_none : (zoned : Bool) (name : List ℕ) (xs : List Entry) → terms_of zoned name (take 0 xs) ≡ []
unfolding terms_of terms_by concat
terms_none zoned name xs = refl

-- ---- what a zone's row says

zone_numbers : (x : Entry) → zone_fault x ≡ 0 → (number_of (column_of 1 x) ≤ 512) × (number_of (column_of 2 x) ≤ 512)
unfolding zone_fault
zone_numbers x e = go (not (zone_formed x)) (ltb 512 (number_of (column_of 1 x)) or ltb 512 (number_of (column_of 2 x))) refl e
  where
    go : (a b : Bool) → (ltb 512 (number_of (column_of 1 x)) or ltb 512 (number_of (column_of 2 x))) ≡ b → ◌≡◌ {A = ℕ} (cond a 51 (cond b 52 0)) 0
        → (number_of (column_of 1 x) ≤ 512) × (number_of (column_of 2 x) ≤ 512)
    go true b t h = absurd (omega (arith, h))
    go false true t h = absurd (omega (arith, h))
    go false false t h = (ltb-false _ _ (or_left_false _ _ t), ltb-false _ _ (or_right_false _ _ t))

small_number : (bytes : List ℕ) (v : Value) (r : ℕ) → v ≡ gather bytes → is_number bytes ≡ true → number_of bytes ≤ 512
    → ((n : ℕ) → v.number ≡ Some n → r ≡ n % 4_294_967_296) → r ≡ number_of bytes
small_number bytes v r e f l q =
    q (number_of bytes) (ap (λ (u : Value). u.number) e ∙ number_says bytes f)
    ∙ mod-eq_of_lt {n = number_of bytes} {m = 4_294_967_296} (omega arith)

pub zone_same :
    (x : Entry) (a b : ℕ) (y : Bool) (u v w : Value) → u ≡ gather (column_of 1 x) → v ≡ gather (column_of 2 x) → w ≡ gather (column_of 3 x) → OfBytes x
    → zone_fault x ≡ 0 → ((n : ℕ) → u.number ≡ Some n → a ≡ n % 4_294_967_296) → ((n : ℕ) → v.number ≡ Some n → b ≡ n % 4_294_967_296)
    → y ≡ same_value w (gather yes_bytes) → ◌≡◌ {A = Zone} (record { name = column_of 0 x; least = a; most = b; may_be_empty = y }) (zone_of x)
unfolding zone_of
zone_same x a b y u v w e f g h z p q t =
    let formed = zone_sound x z in
    let few = zone_numbers x z in
    rw
    (small_number (column_of 1 x) u a e (formed_least x formed) few.0 p, small_number (column_of 2 x) v b f (formed_most x formed) few.1 q, t ∙ yes_alike (column_of 3 x) w g (h 3))

pub zone_named : (x : Entry) (v : Value) → v ≡ gather (column_of 0 x) → OfBytes x → zone_fault x ≡ 0 → Named v (column_of 0 x)
zone_named x v e h z = record { gathered = e; short = zone_name_short x (zone_sound x z); bytes = h 0 }
