-- A written rule's field is read as that rule and meets no condition: mode, bounds and terms stand at their places in its body.
use Prim.Native.Nat.{ℕ, ◌+◌, ◌*◌, ◌-◌, ◌%◌, ◌≤◌, ◌<◌}
use mathlib.Core.Path.{◌≡◌, refl, ap₂, ◌∙◌}
use mathlib.Core.Bool.{true, false}
use mathlib.Core.List.{List, [], ◌∷◌, ◌++◌, map, append_assoc}
use native.Mathlib.Nat.{add_assoc}
use native.Mathlib.Omega.{arith}
use lib.IntN.{nat_abs}
use lib.ListN.{length, drop, length-append}
use borrow.Author.Tests.{eq-eqb, le-leb, lt-leb, le-ltb}
use Rattle.plpb.specs.Lists.{◌and◌, ◌or◌, concat}
use Rattle.plpb.specs.Plan.{Term, Rule, rising}
use Rattle.words.specs.Words.{bytes_of, unsigned}
use Rattle.words.proofs.Words.{length_bytes_of}
use Rattle.format.specs.Limits.{max_bound}
use Rattle.format.specs.File.{Stage, after_rule, State, may_stand, tag_at, length_at, length_lawful, terms_in, mode_at, lower_at, upper_at, field_terms, past_limits, wrong_bounds, locks_fault, next, stage_after, bound_of, rule_at}
use Rattle.format.specs.Writer.{field, term_bytes, mode, bound_number, rule_field}
use Rattle.format.proofs.Bounds.{bounds_written, bounds_tested, lower_back_lem, upper_back_lem}
use Rattle.format.proofs.Lawful.{terms_short, terms_whole, LawfulRule}
use Rattle.format.proofs.Fields.{Clean}
use Rattle.format.proofs.Places.{place_behind, place_byte, place_signed, place_terms, place_tag, place_length, place_body, place_rest, placed_clean, length_term_bytes}

pub length_terms : (ts : List Term) → length (concat (map term_bytes ts)) ≡ 6 * length ts
unfolding concat
length_terms [] = refl
length_terms (t ∷ ts) =
    length-append (term_bytes t) (concat (map term_bytes ts)) ∙ ap₂ ◌+◌ (length_term_bytes t) (length_terms ts) ∙ omega arith

unfoldable pub body_of : Rule → List ℕ
body_of r =
    mode r.lower r.upper
    ∷ (bytes_of 4 (unsigned (bound_number r.lower)) ++ (bytes_of 4 (unsigned (bound_number r.upper)) ++ concat (map term_bytes r.terms)))

pub length_body : (r : Rule) → length (body_of r) ≡ 9 + 6 * length r.terms
unfolding body_of
length_body r =
    let lo = bytes_of 4 (unsigned (bound_number r.lower)) in
    let up = bytes_of 4 (unsigned (bound_number r.upper)) in
    let ts = concat (map term_bytes r.terms) in
    let a : length lo ≡ 4 = length_bytes_of 4 (unsigned (bound_number r.lower)) in
    let b : length up ≡ 4 = length_bytes_of 4 (unsigned (bound_number r.upper)) in
    omega (arith, length-append lo (up ++ ts), length-append up ts, a, b, length_terms r.terms)

module _ (s : List ℕ) (n : ℕ) (small : n ≤ 512) (at : ℕ) (r : Rule) (rest : List ℕ) (e : drop at s ≡ rule_field r ++ rest) (l : LawfulRule n r) where
  abbrev lo_bytes : List ℕ
  lo_bytes = bytes_of 4 (unsigned (bound_number r.lower))

  abbrev up_bytes : List ℕ
  up_bytes = bytes_of 4 (unsigned (bound_number r.upper))

  abbrev terms_bytes : List ℕ
  terms_bytes = concat (map term_bytes r.terms)

  here : drop at s ≡ field 4 (body_of r) ++ rest
  unfolding rule_field body_of
  here = e

  few : length r.terms ≤ 512
  unfolding rising
  few = omega (arith, terms_short n 0 r.terms l.terms.rise l.terms.within (omega arith))

  pub rule_tag : tag_at s at ≡ 4
  rule_tag = place_tag s at 4 (body_of r) rest here

  pub rule_size : length_at s at ≡ 9 + 6 * length r.terms
  rule_size = place_length s at 4 (body_of r) rest here (omega (arith, length_body r, few)) ∙ length_body r

  low : nat_abs (bound_number r.lower) ≤ max_bound
  low = (bounds_tested _ _ _ (bounds_written _ _ l.both)).lower

  high : nat_abs (bound_number r.upper) ≤ max_bound
  high = (bounds_tested _ _ _ (bounds_written _ _ l.both)).upper

  at_mode : drop (at + 3) s ≡ mode r.lower r.upper ∷ (lo_bytes ++ (up_bytes ++ (terms_bytes ++ rest)))
  unfolding body_of
  at_mode = simp append_assoc at (place_body s at 4 (body_of r) rest here)

  at_lower : drop (at + 4) s ≡ lo_bytes ++ (up_bytes ++ (terms_bytes ++ rest))
  at_lower = place_behind s (at + 3) (at + 4) (mode r.lower r.upper ∷ []) _ at_mode (add_assoc at 3 1)

  at_upper : drop (at + 8) s ≡ up_bytes ++ (terms_bytes ++ rest)
  at_upper = place_behind s (at + 4) (at + 8) lo_bytes _ at_lower (omega (arith, length_bytes_of 4 (unsigned (bound_number r.lower))))

  at_terms : drop (at + 12) s ≡ terms_bytes ++ rest
  at_terms = place_behind s (at + 8) (at + 12) up_bytes _ at_upper (omega (arith, length_bytes_of 4 (unsigned (bound_number r.upper))))

  mode_read : mode_at s at ≡ mode r.lower r.upper
  unfolding mode_at
  mode_read = place_byte s (at + 3) _ _ at_mode

  lower_read : lower_at s at ≡ bound_number r.lower
  unfolding lower_at
  lower_read = place_signed s (at + 4) (bound_number r.lower) _ at_lower (omega (arith, low))

  upper_read : upper_at s at ≡ bound_number r.upper
  unfolding upper_at
  upper_read = place_signed s (at + 8) (bound_number r.upper) _ at_upper (omega (arith, high))

  counted : terms_in 4 (length_at s at) ≡ length r.terms
  unfolding terms_in
  counted = rw rule_size (omega arith)

  terms_read_lem : field_terms s at ≡ r.terms
  unfolding field_terms
  terms_read_lem = rw (rule_tag, counted) (place_terms s n (at + 12) r.terms rest at_terms (omega arith) l.terms.within)

  pub rule_read : rule_at s at ≡ r
  unfolding rule_at
  rule_read =
      let lo : bound_of 2 (mode_at s at) (lower_at s at) ≡ r.lower = rw (mode_read, lower_read) (lower_back_lem r.lower r.upper l.both) in
      let up : bound_of 1 (mode_at s at) (upper_at s at) ≡ r.upper = rw (mode_read, upper_read) (upper_back_lem r.lower r.upper l.both) in
      λ i. record { lower = lo i; upper = up i; terms = terms_read_lem i }

  pub rule_behind : drop (at + 3 + length_at s at) s ≡ rest
  rule_behind = rw (rule_size, ← length_body r) (place_rest s at 4 (body_of r) rest here)

  size_lawful : length_lawful 4 (length (body_of r)) ≡ true
  unfolding length_lawful ◌and◌
  size_lawful = rw (length_body r, le-leb 15 (9 + 6 * length r.terms) (omega (arith, l.some)), eq-eqb ((9 + 6 * length r.terms - 9) % 6) 0 (omega arith))

  bounds_lawful_lem : wrong_bounds s at ≡ false
  unfolding wrong_bounds ◌and◌
  bounds_lawful_lem = rw (rule_tag, mode_read, lower_read, upper_read, bounds_written r.lower r.upper l.both)

  -- In a state that may take a rule with so many terms.
  module _ (g : Stage) (C R k : ℕ) (may : may_stand g 4 ≡ true) (roomR : R < 1_024) (roomT : k + length r.terms ≤ 6_000) where
    abbrev before : State
    before = record { at = at; stage = g; variables = n; clauses = C; rules = R; terms = k }

    within_limits : past_limits s before ≡ false
    unfolding past_limits ◌or◌
    within_limits = rw (rule_tag, counted, lt-leb 1_024 R roomR, le-ltb 6_000 (k + length r.terms) roomT)

    pub rule_clean : Clean s (record { at = at; stage = g; variables = n; clauses = C; rules = R; terms = k })
    unfolding locks_fault
    rule_clean =
        placed_clean s at 4 (body_of r) rest here g n C R k (omega (arith, length_body r, few)) may size_lawful within_limits bounds_lawful_lem
        (rw terms_read_lem (terms_whole n r.terms l.terms)) (rw rule_tag)

    pub rule_next :
        next s (record { at = at; stage = g; variables = n; clauses = C; rules = R; terms = k })
        ≡ record { at = at + 3 + length_at s at; stage = after_rule; variables = n; clauses = C; rules = R + 1; terms = k + length r.terms }
    unfolding next stage_after
    rule_next = rw (rule_tag, counted)
