-- What holds of two lists that are not turned away: their plan is sound.
-- Assumes nothing.
use Prim.Native.Nat.{ℕ, zero, suc, ◌+◌, ◌≤◌, ◌<◌}
use native.Mathlib.Omega.{arith}
use native.Mathlib.Nat.{le_refl}
use mathlib.Core.Path.{◌≡◌, refl, sym, ap, ◌∙◌}
use mathlib.Core.Bool.{Bool, true, false, not, cond}
use mathlib.Core.List.{List, [], ◌∷◌, map}
use mathlib.Core.Option.{none}
use lib.Dec.{eqb, leb, ltb}
use lib.ListN.{length, get_or, take, length-map}
use lib.Seq.{take-suc, take-length}
use borrow.Author.Tests.{eqb-true, eqb-false, ltb-false, le-leb, le-ltb}
use Rattle.plpb.specs.Lists.{◌and◌, ◌or◌, count, any, all}
use Rattle.plpb.proofs.Lists.{count_nil, count_cons, count_append, count_map, any_map, all_map, none_by_count, count_same}
use Rattle.format.specs.File as File
use Rattle.format.specs.Writer.{write}
use Rattle.format.proofs.Bools.{and_join}
use Rattle.cells.specs.Grammar.{column_of, same_bytes}
use Rattle.lists.specs.Lists.{Site, Zone, in_zone}
use Rattle.lists.specs.Refusals.{Entry, number_of, site_of, zone_of, site_formed, zone_formed, site_fault, zone_fault, entry_at, has, repeated, row_fault, unused, judged, accepted, plan_of, too_large, refusal_of}
use Rattle.lists.proofs.Bytes.{same_eq, same_comm}
use Rattle.lists.proofs.Counts.{or_left_false, or_right_false, Apart, Used, Few, few, size_alone}
use Rattle.lists.proofs.Lawful.{Bounded, Sound, plan_read}
use Rattle.lists.proofs.Judging.{judged_none, list_none}

all_by_index : {A : Type 0} (p : A → Bool) (d : A) (xs : List A) → ((k : ℕ) → k < length xs → p (get_or xs k d) ≡ true) → all p xs ≡ true
unfolding all
all_by_index p d [] h = refl
all_by_index p d (x ∷ xs) h = and_join _ _ (h 0 (omega arith)) (all_by_index p d xs (λ k l. h (suc k) (omega arith)))

-- ---- a row without fault

pub own_none : (own r : ℕ) → cond (eqb own 0) r own ≡ 0 → (own ≡ 0) × (r ≡ 0)
own_none own r e = go (eqb own 0) refl e
  where
    go : (t : Bool) → eqb own 0 ≡ t → cond t r own ≡ 0 → (own ≡ 0) × (r ≡ 0)
    go true z h = (eqb-true own 0 z, h)
    go false z h = absurd (eqb-false own 0 z h)

number_none : (a b : Bool) (k n : ℕ) → cond a (suc k) (cond b (suc n) 0) ≡ 0 → (a ≡ false) × (b ≡ false)
number_none true b k n e = absurd (omega arith)
number_none false true k n e = absurd (omega arith)
number_none false false k n e = (refl, refl)

flag_none : (a : Bool) (k : ℕ) → cond a (suc k) 0 ≡ 0 → a ≡ false
flag_none true k e = absurd (omega arith)
flag_none false k e = refl

flag_some : (a : Bool) (k : ℕ) → cond a 0 (suc k) ≡ 0 → a ≡ true
flag_some true k e = refl
flag_some false k e = absurd (omega arith)

site_metres : (x : Entry) → site_fault x ≡ 0 → leb (site_of x).metres 1_000_000 ≡ true
unfolding site_fault site_of
site_metres x e =
    let n = number_of (column_of 1 x) in
    le-leb n 1_000_000 (ltb-false 1_000_000 n (number_none (not (site_formed x)) (ltb 1_000_000 n) 50 51 e).1)

zone_bounds : (x : Entry) → zone_fault x ≡ 0 → (leb (zone_of x).least 512 and leb (zone_of x).most 512) ≡ true
unfolding zone_fault zone_of
zone_bounds x e =
    let n = number_of (column_of 1 x) in
    let m = number_of (column_of 2 x) in
    let b = (number_none (not (zone_formed x)) (ltb 512 n or ltb 512 m) 50 51 e).1 in
    and_join (leb n 512) (leb m 512) (le-leb n 512 (ltb-false 512 n (or_left_false _ _ b))) (le-leb m 512 (ltb-false 512 m (or_right_false _ _ b)))

row_parts : (zones : Bool) (xs : List Entry) (k : ℕ) → row_fault zones xs k ≡ 0 → (cond zones (zone_fault (entry_at xs k)) (site_fault (entry_at xs k)) ≡ 0) × (repeated xs k ≡ false)
unfolding row_fault
row_parts zones xs k e =
    let own = own_none (cond zones (zone_fault (entry_at xs k)) (site_fault (entry_at xs k))) (cond (repeated xs k) 53 0) e in
    (own.0, flag_none (repeated xs k) 52 own.1)

-- ---- names that are not repeated are apart

none_count : {A : Type 0} (q : A → Bool) (ys : List A) → any q ys ≡ false → count q ys ≡ 0
none_count q ys e = eqb-true (count q ys) 0 (sym (none_by_count q ys) ∙ ap not e)

module _ (xs : List Entry) (h : (k : ℕ) → k < length xs → repeated xs k ≡ false) (v : List ℕ) where
  abbrev p : Entry → Bool
  p = λ x. same_bytes v (column_of 0 x)

  none_before : (k : ℕ) → k < length xs → p (get_or xs k none) ≡ true → count p (take k xs) ≡ 0
  unfolding repeated has
  none_before k l e =
      let x = entry_at xs k in
      let same : (y : Entry) → p y ≡ same_bytes (column_of 0 y) (column_of 0 x) =
      λ y. ap (λ (w : List ℕ). same_bytes w (column_of 0 y)) (same_eq v (column_of 0 x) e) ∙ same_comm (column_of 0 x) (column_of 0 y) in
      count_same p (λ y. same_bytes (column_of 0 y) (column_of 0 x)) (take k xs) same
      ∙ none_count (λ y. same_bytes (column_of 0 y) (column_of 0 x)) (take k xs) (h k l)

  one_more : (k : ℕ) → k < length xs → count p (take k xs) ≤ 1 → count p (take (suc k) xs) ≤ 1
  one_more k l fewer = go (p (entry_at xs k)) refl
    where
      x : Entry
      x = entry_at xs k

      n : count p (take (suc k) xs) ≡ count p (take k xs) + (cond (p x) 1 0 + count p [])
      n =
          ap (count p) (take-suc xs k none l)
          ∙ count_append p (take k xs) (x ∷ [])
          ∙ ap (λ (m : ℕ). count p (take k xs) + m) (count_cons p x [])

      go : (b : Bool) → p x ≡ b → count p (take (suc k) xs) ≤ 1
      go true e =
          let m : ◌≡◌ {A = ℕ} (cond (p x) 1 0) 1 = ap (λ (t : Bool). cond t 1 0) e in
          omega (arith, n, m, none_before k l e, count_nil p)
      go false e =
          let m : ◌≡◌ {A = ℕ} (cond (p x) 1 0) 0 = ap (λ (t : Bool). cond t 1 0) e in
          omega (arith, n, m, fewer, count_nil p)

  few_first : (k : ℕ) → k ≤ length xs → count p (take k xs) ≤ 1
  few_first zero l = omega (arith, count_nil p)
  few_first (suc k) l = one_more k (omega arith) (few_first k (omega arith))

  once : count p xs ≤ 1
  once = rw (take-length xs) at (few_first (length xs) (le_refl (length xs)))

zones_apart : (zones : List Entry) → ((k : ℕ) → k < length zones → repeated zones k ≡ false) → Apart (map zone_of zones)
unfolding zone_of
zones_apart zones h v = rw (count_map (λ z. same_bytes v z.name) zone_of zones) (once zones h v)

-- ---- what no refusal says

module _ (sites zones : List Entry) where
  abbrev ss : List Site
  ss = map site_of sites

  abbrev zs : List Zone
  zs = map zone_of zones

  -- No row is at fault.
  pub record Faultless : Type 0 where
    pub sites_well : (judged (row_fault false sites) sites).fault ≡ 0
    pub zones_well : (judged (row_fault true zones) zones).fault ≡ 0
    pub zones_used : (judged (unused sites zones) zones).fault ≡ 0

  module _ (h : Faultless) where
    sites_light : all (λ s. leb s.metres 1_000_000) ss ≡ true
    sites_light =
        all_map (λ s. leb s.metres 1_000_000) site_of sites
        ∙ all_by_index (λ x. leb (site_of x).metres 1_000_000) none sites
        (λ k l. site_metres (entry_at sites k) (row_parts false sites k (judged_none (row_fault false sites) (length sites) 0 h.sites_well k (omega arith) (omega arith))).0)

    zone_row : (k : ℕ) → k < length zones → row_fault true zones k ≡ 0
    zone_row k l = judged_none (row_fault true zones) (length zones) 0 h.zones_well k (omega arith) (omega arith)

    zones_bounded : Bounded zs
    zones_bounded =
        all_map (λ z. leb z.least 512 and leb z.most 512) zone_of zones
        ∙ all_by_index (λ x. leb (zone_of x).least 512 and leb (zone_of x).most 512) none zones
        (λ k l. zone_bounds (entry_at zones k) (row_parts true zones k (zone_row k l)).0)

    site_of_zone : (k : ℕ) → k < length zones → any (in_zone (zone_of (entry_at zones k)).name) ss ≡ true
    unfolding unused has in_zone site_of zone_of
    site_of_zone k l =
        any_map (in_zone (zone_of (entry_at zones k)).name) site_of sites
        ∙ flag_some (has 2 (column_of 0 (entry_at zones k)) sites) 54 (judged_none (unused sites zones) (length zones) 0 h.zones_used k (omega arith) (omega arith))

    all_used : Used ss zs
    all_used =
        all_map (λ z. any (in_zone z.name) ss) zone_of zones
        ∙ all_by_index (λ x. any (in_zone (zone_of x).name) ss) none zones site_of_zone

    pub faultless_few : Few ss zs
    faultless_few = few ss zs (zones_apart zones (λ k l. (row_parts true zones k (zone_row k l)).1)) all_used

    -- With no other fault, the number of sites alone says whether the plan is too large.
    pub large_by_sites : too_large (plan_of sites zones) ≡ ltb 512 (length sites)
    large_by_sites = size_alone ss zs faultless_few ∙ ap (ltb 512) (length-map sites site_of)

    pub faultless_sound : 1 ≤ length sites → length sites ≤ 512 → Sound ss zs
    faultless_sound a b =
        record {
          some = omega (arith, length-map sites site_of);
          metres = sites_light;
          bounds = zones_bounded;
          used = all_used;
          small = large_by_sites ∙ le-ltb 512 (length sites) b;
        }

  -- Two lists without a refusal are faultless, and have some sites and not too many.
  pub accepted_faultless : (refusal_of sites zones).number ≡ 0 → Faultless
  unfolding refusal_of
  accepted_faultless e =
      let a = list_none 1 _ _ e in
      let b = list_none 2 _ _ a.1 in
      let c = list_none 1 _ _ b.1 in
      let d = list_none 2 _ _ c.1 in
      record { sites_well = a.0; zones_well = b.0; zones_used = d.0 }

  four_none : (b : Bool) → (cond b (record { number = 4; list = 0; row = 0 }) accepted).number ≡ 0 → b ≡ false
  four_none true e = absurd (omega (arith, e))
  four_none false e = refl

  -- They have a site, and no more than 512.
  pub accepted_few : (refusal_of sites zones).number ≡ 0 → (length sites ≡ 0 → ⊥) × (length sites ≤ 512)
  unfolding refusal_of
  accepted_few e =
      let last = (list_none 2 _ _ (list_none 1 _ _ (list_none 2 _ _ (list_none 1 _ _ e).1).1).1).1 in
      let b = four_none (eqb (length sites) 0 or too_large (plan_of sites zones)) last in (
        eqb-false (length sites) 0 (or_left_false _ _ b),
        ltb-false 512 (length sites) (sym (large_by_sites (accepted_faultless e)) ∙ or_right_false _ _ b),
      )

  -- .. and their plan is sound.
  pub accepted_sound : (refusal_of sites zones).number ≡ 0 → Sound ss zs
  accepted_sound e =
      let n = accepted_few e in
      let some = n.0 in
      faultless_sound (accepted_faultless e) (omega arith) n.1

  -- "The plan file": it is accepted by loading, and loading gives the plan back.
  pub accepted_read : (refusal_of sites zones).number ≡ 0 → File.read (write (plan_of sites zones)) ≡ File.accepted (plan_of sites zones)
  accepted_read e = plan_read ss zs (accepted_sound e)
