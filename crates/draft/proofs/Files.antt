-- The whole file of two lists: its front, its clauses and its end.
-- Assumes nothing.
use Prim.Native.Nat.{ℕ, suc, ◌+◌, ◌*◌, ◌-◌, ◌≤◌}
use native.Mathlib.Omega.{arith}
use mathlib.Core.Path.{◌≡◌, sym, ap, ap₂, ◌∙◌}
use mathlib.Core.Bool.{false}
use mathlib.Core.List.{List, [], ◌∷◌, ◌++◌, map, append_assoc}
use lib.ListN.{length, length-append, length-map}
use Rattle.plpb.specs.Tallies.{rules_of}
use Rattle.words.specs.Words.{bytes_of}
use Rattle.words.specs.Writes.{put, front}
use Rattle.words.proofs.Words.{length_bytes_of}
use Rattle.format.specs.Limits.{term_count}
use Rattle.format.specs.Writer.{field, lock_field, file_with, write}
use Rattle.format.proofs.Sizes.{length_clauses}
use Rattle.lists.specs.Lists.{plan_for, zone_clause}
use Rattle.lists.specs.Refusals.{Entry, site_of, zone_of, plan_of, refusal_of}
use Rattle.lists.proofs.Counts.{Few}
use Rattle.lists.proofs.Accepted.{faultless_few, accepted_faultless, accepted_few}
use Rattle.draft.specs.Draft.{weigh, terms_of, clauses_of, Wrote}
use Rattle.fields.proofs.Writing.{put_on, put_before}
use Rattle.draft.proofs.Writing.{put_long}
use Rattle.draft.proofs.Rules.{length_field, empty_field}

field_is : (tag size : ℕ) (body : List ℕ) → size ≡ length body → tag ∷ bytes_of 2 size ++ body ≡ field tag body
unfolding field
field_is tag size body e = ap (λ (k : ℕ). tag ∷ bytes_of 2 k ++ body) e

few_bytes : (sites zones : List Entry) → Few (map site_of sites) (map zone_of zones) → length (clauses_of sites zones) ≤ 39 * length sites
unfolding clauses_of plan_for rules_of term_count
few_bytes sites zones f =
    let n = length-map sites site_of in
    let l = length_clauses (map (zone_clause (map site_of sites)) (map zone_of zones)) in
    omega (arith, l, n, f.clauses, f.rules, f.terms)

-- The count, and the objective with its head written behind its terms.
pub front_wrote :
    (o : List ℕ) {s t u v : List ℕ} (n : ℕ) {end : ℕ} (ts : List ℕ) → 8 ≤ length o → s ≡ put 0 (1 ∷ bytes_of 2 2) o → t ≡ put 3 (bytes_of 2 n) s → Wrote 8 ts t u end
    → v ≡ put 5 (2 ∷ bytes_of 2 (end - 8)) u → Wrote 0 (field 1 (bytes_of 2 n) ++ field 2 ts) o v end
front_wrote o {s} {t} n {end} ts h e f w g =
    let one : List ℕ = 1 ∷ bytes_of 2 2 in
    let l1 : length one ≡ 3 = ap suc (length_bytes_of 2 2) in
    let ln = length_bytes_of 2 n in
    let count : t ≡ put 0 (one ++ bytes_of 2 n) o = put_on o 0 one (bytes_of 2 n) (omega (arith, l1)) e (omega (arith, l1)) f in
    let lc : length (one ++ bytes_of 2 n) ≡ 5 = length-append one (bytes_of 2 n) ∙ omega (arith, l1, ln) in
    let lt : length t ≡ length o = put_long o 0 (one ++ bytes_of 2 n) count (omega (arith, lc)) in
    let two : List ℕ = 2 ∷ bytes_of 2 (end - 8) in
    let l2 : length two ≡ 3 = ap suc (length_bytes_of 2 (end - 8)) in
    let goal = put_before t 5 two ts (omega (arith, l2, lt)) (omega (arith, l2)) w.written g in
    let size : end - 8 ≡ length ts = omega (arith, w.behind) in
    let same : two ++ ts ≡ field 2 ts = field_is 2 (end - 8) ts size in
    let first : one ++ bytes_of 2 n ≡ field 1 (bytes_of 2 n) = field_is 1 2 (bytes_of 2 n) (sym ln) in
    record {
      written =
          put_on o 0 (one ++ bytes_of 2 n) (two ++ ts) (omega (arith, lc)) count (omega (arith, lc)) goal
          ∙ ap₂ (λ (x y : List ℕ). put 0 (x ++ y) o) first same;
      behind = omega (arith, w.behind, length-append (field 1 (bytes_of 2 n)) (field 2 ts), length_field 1 (bytes_of 2 n), length_field 2 ts, ln);
    }

-- ---- the plan's file by its parts

module _ (sites zones : List Entry) where
  abbrev head : ℕ → List ℕ
  head n = field 1 (bytes_of 2 n) ++ field 2 (terms_of false [] sites)

  pub file_is : (n : ℕ) → n ≡ length sites → write (plan_of sites zones) ≡ head n ++ clauses_of sites zones ++ field 5 []
  unfolding write file_with lock_field plan_for terms_of clauses_of weigh
  file_is n e =
      let N : length (map site_of sites) ≡ n = length-map sites site_of ∙ sym e in
      ap (λ (k : ℕ). field 1 (bytes_of 2 k) ++ (field 2 (terms_of false [] sites) ++ (clauses_of sites zones ++ field 5 []))) N
      ∙ sym (append_assoc (field 1 (bytes_of 2 n)) (field 2 (terms_of false [] sites)) (clauses_of sites zones ++ field 5 []))
      ∙ sym (append_assoc (head n) (clauses_of sites zones) (field 5 []))

  -- The clauses of an accepted pair of lists take few bytes.
  pub clauses_small : (refusal_of sites zones).number ≡ 0 → length (clauses_of sites zones) ≤ 39 * length sites
  clauses_small e = few_bytes sites zones (faultless_few sites zones (accepted_faultless sites zones e))

  pub sites_few : (refusal_of sites zones).number ≡ 0 → length sites ≤ 512
  sites_few e = (accepted_few sites zones e).1

pub end_wrote : (o : List ℕ) {t : List ℕ} (at : ℕ) → t ≡ put at (5 ∷ bytes_of 2 0) o → Wrote at (field 5 []) o t (at + 3)
end_wrote o at e = record { written = e ∙ ap (λ (l : List ℕ). put at l o) (empty_field 5); behind = omega (arith, length_field 5 []) }

-- What stands at the front of the buffer is the plan's file.
pub file_wrote :
    (sites zones : List Entry) (n : ℕ) {o t : List ℕ} {r : ℕ} → n ≡ length sites → Wrote 0 (head sites zones n ++ clauses_of sites zones ++ field 5 []) o t r
    → (t ≡ front (write (plan_of sites zones)) o) × (r ≡ length (write (plan_of sites zones)))
unfolding put
file_wrote sites zones n {o} e w =
    let is = file_is sites zones n e in
    (w.written ∙ ap (λ (l : List ℕ). front l o) (sym is), w.behind ∙ omega arith ∙ ap length (sym is))
