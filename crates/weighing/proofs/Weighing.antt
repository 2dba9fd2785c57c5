-- The weights that are written: those of the first k entries.
-- Assumes nothing.
use Prim.Native.Nat.{ℕ, ◌+◌, ◌*◌, ◌≤◌, ◌<◌}
use native.Mathlib.Decide.{ℕ_discrete}
use native.Mathlib.Omega.{arith}
use mathlib.Core.Path.{◌≡◌, sym, ap, ap₂, ◌∙◌}
use mathlib.Core.List.{List, [], ◌∷◌}
use lib.IntN.{nat_abs}
use lib.ListN.{length, get_or}
use Rattle.plpb.specs.Plan.{Plan}
use Rattle.plpb.specs.Normal.{size}
use Rattle.words.specs.Words.{signed, word_at}
use Rattle.words.specs.Writes.{put_words}
use Rattle.words.proofs.Writes.{word_wrote}
use Rattle.order.specs.Order.{Place, order, term_at, term_count, word_place}
use Rattle.order.proofs.Mentions.{terms_after_lem}
use Rattle.format.specs.Tables.{plan_of_tables}
use Rattle.format.specs.Layout.{entry_at, rule_first_at, term_room}
use Rattle.format.specs.Good.{term_here}
use Rattle.format.proofs.Placed.{rule_first, rule_size}
use Rattle.format.proofs.Arranged.{Arranged}
use Rattle.format.proofs.ReadBack.{holds_arranged}
use Rattle.recount.specs.Core.{Laid}
use Rattle.recount.proofs.Laid.{parts, sections, rules_word, terms_inside}
use Rattle.columns.specs.Layout.{column_size, weight_at, list_count_at}
use Rattle.columns.specs.Columns.{no_place, Weighed}
use Rattle.columns.specs.Frames.{Only}
use Rattle.columns.proofs.Entries.{entry_place, entry_rule, entry_term, entry_weight}
use Rattle.columns.proofs.Frames.{only_next, wrote_only}

pub arranged : (tables terms : List ℕ) → Laid tables terms → Arranged (plan_of_tables tables terms) (word_at tables)
arranged tables terms l = holds_arranged (plan_of_tables tables terms) (parts tables terms l) tables terms l.holds

pub record WeighedTo (p : Plan) (k : ℕ) (s t : List ℕ) : Type 0 where
  pub each : (j : ℕ) → j < k → word_at t (weight_at j) ≡ size (term_at p (get_or (order p) j no_place))
  pub only : Only (weight_at 0) (list_count_at 0) s t

pub weighed_next : {p : Plan} {k v : ℕ} {s t u : List ℕ} → column_size ≤ length s → k < term_room → v < 4_294_967_296 → v ≡ size (term_at p (get_or (order p) k no_place)) → WeighedTo p k s t → u ≡ put_words (weight_at k) (v ∷ []) t → WeighedTo p (k + 1) s u
weighed_next {p} {k} {v} {s} {t} {u} room few small e w f =
    let wrote = word_wrote (weight_at k) v t u (omega (arith, w.only.size)) small f in
    record {
      each = λ j h. elim (ℕ_discrete j k) [
        | yes same ↦ ap (λ i. word_at u (weight_at i)) same ∙ wrote.here ∙ e ∙ ap (λ i. size (term_at p (get_or (order p) i no_place))) (sym same)
        | no other ↦ wrote.others (weight_at j) (λ o. other (omega (arith, o))) ∙ w.each j (omega (arith, other))
      ];
      only = only_next w.only (wrote_only (omega arith) (omega arith) wrote);
    }

-- ---- one entry

module _ {tables terms : List ℕ} (l : Laid tables terms) {k : ℕ} (h : k < term_count (plan_of_tables tables terms)) where
  abbrev p : Plan
  p = plan_of_tables tables terms

  abbrev q : Place
  q = get_or (order p) k no_place

  pub entries_few : k < term_room
  entries_few = omega (arith, (parts tables terms l).terms)

  module _ {w r : ℕ} (e : w ≡ word_at tables (entry_at k)) (f : r ≡ (word_place w).rule) where
    here : word_place w ≡ q
    here = ap word_place e ∙ entry_place p (parts tables terms l) (word_at tables) (word_at terms) (sections tables terms l) (arranged tables terms l) k h

    rule_here : r ≡ q.rule
    rule_here = f ∙ ap (λ o. o.rule) here

    pub rule_there : r < word_at tables 2
    rule_there = rw rule_here (omega (arith, rules_word tables terms l, entry_rule p (parts tables terms l) (word_at tables) (word_at terms) (sections tables terms l) (arranged tables terms l) k h))

    module _ {first i : ℕ} (g : first ≡ word_at tables (rule_first_at r)) (o : i ≡ (word_place w).term) where
      term_place : first + i ≡ term_here (word_at tables) q
      term_place = ap₂ ◌+◌ (g ∙ ap (λ n. word_at tables (rule_first_at n)) rule_here) (o ∙ ap (λ z. z.term) here)

      pub term_few : first + i < term_room
      term_few =
          let rule = entry_rule p (parts tables terms l) (word_at tables) (word_at terms) (sections tables terms l) (arranged tables terms l) k h in
          let below = entry_term p (parts tables terms l) (word_at tables) (word_at terms) (sections tables terms l) (arranged tables terms l) k h in
          let behind = terms_after_lem p q.rule rule in
          rw term_place (omega (arith, below, behind.0, behind.1, rule_first p (parts tables terms l) (word_at tables) (word_at terms) (sections tables terms l) q.rule rule, rule_size p (parts tables terms l) (word_at tables) (word_at terms) (sections tables terms l) q.rule rule, (parts tables terms l).terms))

      pub term_inside : 8 * (first + i + 1) ≤ length terms
      term_inside =
          let below = entry_term p (parts tables terms l) (word_at tables) (word_at terms) (sections tables terms l) (arranged tables terms l) k h in
          let within = terms_inside tables terms l q.rule (omega (arith, rules_word tables terms l, entry_rule p (parts tables terms l) (word_at tables) (word_at terms) (sections tables terms l) (arranged tables terms l) k h)) in
          rw term_place (omega (arith, below, within))

      pub weight_here : {u n : ℕ} → u ≡ word_at terms (2 * (first + i) + 1) → n ≡ nat_abs (signed u) → n ≡ size (term_at (plan_of_tables tables terms) (get_or (order (plan_of_tables tables terms)) k no_place))
      weight_here {u} {n} a c =
          c
          ∙ ap (λ w. nat_abs (signed w)) (a ∙ ap (λ j. word_at terms (2 * j + 1)) term_place)
          ∙ entry_weight p (parts tables terms l) (word_at tables) (word_at terms) (sections tables terms l) (arranged tables terms l) k h

-- Behind the last.
pub weighed_all : {tables terms s t : List ℕ} {count k : ℕ} → Laid tables terms → column_size ≤ length s → count ≡ word_at tables 3 → count ≤ k → WeighedTo (plan_of_tables tables terms) k s t → Weighed (plan_of_tables tables terms) t × Only (weight_at 0) (list_count_at 0) s t
weighed_all {tables} {terms} l room e left w =
    (record { room = rw w.only.size room; each = λ j h. w.each j (omega (arith, e, left, (sections tables terms l).terms)) }, w.only)
