-- Rules and clauses written one behind the other.
-- Assumes nothing.
use Prim.Native.Nat.{ℕ, ◌+◌, ◌-◌, ◌≤◌, ◌<◌}
use native.Mathlib.Omega.{arith}
use native.Mathlib.Numerals.{add-one}
use mathlib.Core.Path.{◌≡◌, refl, sym, ap, ap₂, ◌∙◌}
use mathlib.Core.Bool.{Bool, true, false}
use mathlib.Core.List.{List, [], ◌∷◌, ◌++◌, map, append_assoc, append-nil}
use mathlib.Core.Option.{none}
use lib.ListN.{length, take, drop, length-append, take-append-drop}
use lib.Seq.{take-suc}
use Rattle.plpb.specs.Lists.{concat}
use Rattle.plpb.specs.Plan.{Clause}
use Rattle.words.specs.Words.{bytes_of, unsigned}
use Rattle.words.specs.Writes.{put}
use Rattle.words.proofs.Words.{length_bytes_of}
use Rattle.format.specs.Writer.{field, mode, bound_number, rule_field, clause_fields}
use Rattle.lists.specs.Lists.{Site, Zone, between, none_at_all, zone_clause}
use Rattle.lists.specs.Refusals.{Entry, site_of, zone_of, entry_at}
use Rattle.draft.specs.Draft.{weigh, terms_of, rule_body, clauses_of, Wrote}
use Rattle.fields.proofs.Writing.{put_before}

pub length_field : (tag : ℕ) (body : List ℕ) → length (field tag body) ≡ 3 + length body
unfolding field
length_field tag body = omega (arith, length-append (tag ∷ bytes_of 2 (length body)) body, length_bytes_of 2 (length body))

length_body : (mode least most : ℕ) (ts : List ℕ) → length (rule_body mode least most ts) ≡ 9 + length ts
unfolding rule_body
length_body mode least most ts =
    omega
    (arith, length-append (bytes_of 4 least) (bytes_of 4 most ++ ts), length-append (bytes_of 4 most) ts, length_bytes_of 4 least, length_bytes_of 4 most)

head_body : (mode least most size : ℕ) (ts : List ℕ) → size ≡ 9 + length ts
    → 4 ∷ bytes_of 2 size ++ (mode ∷ (bytes_of 4 least ++ bytes_of 4 most)) ++ ts ≡ field 4 (rule_body mode least most ts)
unfolding field rule_body
head_body mode least most size ts e =
    let n : size ≡ length (mode ∷ (bytes_of 4 least ++ (bytes_of 4 most ++ ts))) = e ∙ sym (length_body mode least most ts) in
    ap (λ (k : ℕ). 4 ∷ bytes_of 2 k ++ (mode ∷ (bytes_of 4 least ++ bytes_of 4 most)) ++ ts) n
    ∙ append_assoc (4 ∷ bytes_of 2 (length (mode ∷ (bytes_of 4 least ++ (bytes_of 4 most ++ ts))))) (mode ∷ (bytes_of 4 least ++ bytes_of 4 most)) ts
    ∙ ap (λ (l : List ℕ). 4 ∷ bytes_of 2 (length (mode ∷ (bytes_of 4 least ++ (bytes_of 4 most ++ ts)))) ++ (mode ∷ l)) (append_assoc (bytes_of 4 least) (bytes_of 4 most) ts)

length_head : (mode least most size : ℕ) → length (4 ∷ bytes_of 2 size ++ (mode ∷ (bytes_of 4 least ++ bytes_of 4 most))) ≡ 12
length_head mode least most size =
    omega
    (arith, length-append (bytes_of 2 size) (mode ∷ (bytes_of 4 least ++ bytes_of 4 most)), length-append (bytes_of 4 least) (bytes_of 4 most), length_bytes_of 2 size, length_bytes_of 4 least, length_bytes_of 4 most)

-- What stands before the terms, as it is written.
pub bounds_written :
    (at size most : ℕ) {b m k least : ℕ} (t : List ℕ) {u : List ℕ} → b ≡ m → k ≡ least
    → u ≡ put at (4 ∷ bytes_of 2 size ++ (b ∷ []) ++ (bytes_of 4 k ++ bytes_of 4 most)) t
    → u ≡ put at (4 ∷ bytes_of 2 size ++ (m ∷ (bytes_of 4 least ++ bytes_of 4 most))) t
bounds_written at size most {b} {m} {k} {least} t is low e =
    e ∙ ap (λ (l : List ℕ). put at l t) (append_assoc (4 ∷ bytes_of 2 size) (b ∷ []) (bytes_of 4 k ++ bytes_of 4 most))
    ∙ ap₂ (λ (x y : ℕ). put at (4 ∷ bytes_of 2 size ++ (x ∷ (bytes_of 4 y ++ bytes_of 4 most))) t) is low

-- The head is written before the terms that stand behind it.
pub rule_wrote :
    (o : List ℕ) {t u : List ℕ} (at mode least most : ℕ) {end : ℕ} (ts : List ℕ) → at + 12 ≤ length o → Wrote (at + 12) ts o t end
    → u ≡ put at (4 ∷ bytes_of 2 (end - at - 3) ++ (mode ∷ (bytes_of 4 least ++ bytes_of 4 most))) t → Wrote at (field 4 (rule_body mode least most ts)) o u end
rule_wrote o at mode least most {end} ts h w f =
    let size : end - at - 3 ≡ 9 + length ts = omega (arith, w.behind) in
    let n = length_head mode least most (end - at - 3) in
    record {
      written =
          put_before o at (4 ∷ bytes_of 2 (end - at - 3) ++ (mode ∷ (bytes_of 4 least ++ bytes_of 4 most))) ts (omega (arith, n)) (omega (arith, n)) w.written f
          ∙ ap (λ (l : List ℕ). put at l o) (head_body mode least most (end - at - 3) ts size);
      behind = omega (arith, w.behind, length_field 4 (rule_body mode least most ts), length_body mode least most ts);
    }

-- ---- the clause of a zone

module _ (name : List ℕ) (xs : List Entry) (least most : ℕ) where
  abbrev ss : List Site
  ss = map site_of xs

  abbrev zone : Bool → Zone
  zone optional = record { name = name; least = least; most = most; may_be_empty = optional }

  both_rule : (m : Bool) → rule_field (between ss (zone m)) ≡ field 4 (rule_body 3 least most (terms_of true name xs))
  unfolding rule_field between rule_body terms_of weigh mode bound_number unsigned
  both_rule m = refl

  none_rule : (m : Bool) → rule_field (none_at_all ss (zone m)) ≡ field 4 (rule_body 2 0 0 (terms_of true name xs))
  unfolding rule_field none_at_all rule_body terms_of weigh mode bound_number unsigned
  none_rule m = refl

  pub clause_one : clause_fields (zone_clause ss (zone false)) ≡ field 3 [] ++ field 4 (rule_body 3 least most (terms_of true name xs))
  unfolding clause_fields zone_clause concat
  clause_one = ap (λ (l : List ℕ). field 3 [] ++ l) (append-nil _ ∙ both_rule false)

  pub clause_two :
      clause_fields (zone_clause ss (zone true))
      ≡ field 3 [] ++ field 4 (rule_body 3 least most (terms_of true name xs)) ++ field 4 (rule_body 2 0 0 (terms_of true name xs))
  unfolding clause_fields zone_clause concat
  clause_two =
      ap₂ (λ (l m : List ℕ). field 3 [] ++ (l ++ (m ++ []))) (both_rule true) (none_rule true)
      ∙ ap (λ (l : List ℕ). field 3 [] ++ (field 4 (rule_body 3 least most (terms_of true name xs)) ++ l)) (append-nil _)
      ∙ sym (append_assoc (field 3 []) (field 4 (rule_body 3 least most (terms_of true name xs))) (field 4 (rule_body 2 0 0 (terms_of true name xs))))

pub empty_field : (tag : ℕ) → tag ∷ bytes_of 2 0 ≡ field tag []
unfolding field
empty_field tag = sym (append-nil (tag ∷ bytes_of 2 0))

-- ---- clause by clause

map_append : {A B : Type 0} (f : A → B) (xs ys : List A) → map f (xs ++ ys) ≡ map f xs ++ map f ys
map_append f [] ys = refl
map_append f (x ∷ xs) ys = ap (λ l. f x ∷ l) (map_append f xs ys)

fields_append : (cs ds : List Clause) → concat (map clause_fields (cs ++ ds)) ≡ concat (map clause_fields cs) ++ concat (map clause_fields ds)
unfolding concat
fields_append [] ds = refl
fields_append (c ∷ cs) ds =
    ap (λ (l : List ℕ). clause_fields c ++ l) (fields_append cs ds) ∙ sym (append_assoc (clause_fields c) (concat (map clause_fields cs)) (concat (map clause_fields ds)))

clauses_append : (sites xs ys : List Entry) → clauses_of sites (xs ++ ys) ≡ clauses_of sites xs ++ clauses_of sites ys
unfolding clauses_of
clauses_append sites xs ys =
    let f = zone_clause (map site_of sites) in
    ap (λ (l : List Zone). concat (map clause_fields (map f l))) (map_append zone_of xs ys)
    ∙ ap (λ (l : List Clause). concat (map clause_fields l)) (map_append f (map zone_of xs) (map zone_of ys))
    ∙ fields_append (map f (map zone_of xs)) (map f (map zone_of ys))

one_clause : (sites : List Entry) (x : Entry) → clauses_of sites (x ∷ []) ≡ clause_fields (zone_clause (map site_of sites) (zone_of x))
unfolding clauses_of concat
one_clause sites x = append-nil _

pub clauses_next :
    (sites zones : List Entry) (k : ℕ) → k < length zones
    → clauses_of sites (take (k + 1) zones) ≡ clauses_of sites (take k zones) ++ clause_fields (zone_clause (map site_of sites) (zone_of (entry_at zones k)))
clauses_next sites zones k l =
    ap (clauses_of sites) (ap (λ (j : ℕ). take j zones) (add-one k) ∙ take-suc zones k none l)
    ∙ clauses_append sites (take k zones) (entry_at zones k ∷ [])
    ∙ ap (λ (l : List ℕ). clauses_of sites (take k zones) ++ l) (one_clause sites (entry_at zones k))

pub clauses_none : (sites zones : List Entry) → clauses_of sites (take 0 zones) ≡ []
unfolding clauses_of concat
clauses_none sites zones = refl

pub clauses_fewer : (sites zones : List Entry) (k : ℕ) → length (clauses_of sites (take k zones)) ≤ length (clauses_of sites zones)
clauses_fewer sites zones k =
    let e : clauses_of sites zones ≡ clauses_of sites (take k zones) ++ clauses_of sites (drop k zones) =
    ap (clauses_of sites) (sym (take-append-drop k zones)) ∙ clauses_append sites (take k zones) (drop k zones) in
    let n : length (clauses_of sites zones) ≡ length (clauses_of sites (take k zones)) + length (clauses_of sites (drop k zones)) =
    ap length e ∙ length-append (clauses_of sites (take k zones)) (clauses_of sites (drop k zones)) in
    omega arith

-- ---- a clause put together

pub clause_begun : (o : List ℕ) {t : List ℕ} (at : ℕ) → t ≡ put at (3 ∷ bytes_of 2 0) o → Wrote at (field 3 []) o t (at + 3)
clause_begun o at e = record { written = e ∙ ap (λ (l : List ℕ). put at l o) (empty_field 3); behind = omega (arith, length_field 3 []) }

pub clause_as :
    (name : List ℕ) (xs : List Entry) (least most : ℕ) {m n : Bool} {at r : ℕ} {o t : List ℕ} → m ≡ n
    → Wrote at (clause_fields (zone_clause (map site_of xs) (zone name xs least most n))) o t r → Wrote at (clause_fields (zone_clause (map site_of xs) (zone name xs least most m))) o t r
clause_as name xs least most e h = rw e h
