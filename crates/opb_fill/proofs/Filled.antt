-- Laws of the sections filled constraint by constraint: the entries passed stand at the front, and with those to come they are the section's words.
-- Assumes nothing.
use Prim.Native.Nat.{ℕ, zero, suc, ◌+◌, ◌*◌, ◌-◌, ◌≤◌, ◌<◌}
use native.Mathlib.Omega.{arith}
use mathlib.Core.Path.{◌≡◌, refl, sym, ap, ap₂, ◌∙◌}
use mathlib.Core.Bool.{Bool, true, false, cond}
use mathlib.Core.List.{List, [], ◌∷◌, ◌++◌, map, append_assoc, append-nil}
use denote.Enum.Bare.{sameb}
use lib.Dec.{eqb}
use lib.IntN.{nat_abs}
use lib.ListN.{length, get_or, replicate, length-append, length-map}
use borrow.Author.Tests.{leb-true, le-leb}
use borrow.Rule.Slice.PartMut.{mid_of, put_mid}
use Rattle.plpb.specs.Lists.{◌and◌, ◌or◌, all, keep, concat, sum_by}
use Rattle.plpb.specs.Plan.{Term, Rule, rising}
use Rattle.plpb.specs.Tallies.{rules_of}
use Rattle.words.specs.Words.{word_bytes, unsigned}
use Rattle.words.specs.Writes.{front}
use Rattle.words.proofs.Words.{length_word_bytes}
use Rattle.words.proofs.Writes.{front_none, length_front, lent_long, clear_same}
use Rattle.format.specs.Limits.{term_count, rule_lawful, is_present, bound_lawful, term_within}
use Rattle.format.specs.Tables.{pad_to, clause_entries, rule_entries, term_entries, all_terms, term_words, coefficient}
use Rattle.format.specs.Writer.{mode, bound_number}
use Rattle.format.proofs.Bools.{and_left, and_right, and_join}
use Rattle.format.proofs.Lawful.{LawfulPlan, terms_short, rule_parts}
use Rattle.format.proofs.Sections.{length_rule_entries, length_term_entries, length_all_terms}
use Rattle.format.specs.Layout.{clause_section_size, clause_word_count, rule_section_size, rule_word_count, term_size, term_word_count, objective_size}
use Rattle.tables.specs.Sections.{objective_words, clause_words, rule_words, placed, in_range}
use Rattle.tables.proofs.Entered.{entries_more, terms_lent, front_long}
use Rattle.tables.proofs.Filled.{words_lent, rest_lent}
use Rattle.tables.proofs.Dense.{dense, lawful_range}
use Rattle.tokens.specs.declared.text.Text.{Text}
use Rattle.tokens.specs.Tokens.{number_at, seen}
use Rattle.tokens.specs.Found.{read, Reads, Behind}
use Rattle.tokens.proofs.Runs.{read_behind}
use Rattle.tokens.proofs.Numbers.{seen_small}
use Rattle.statements.specs.declared.Relation.{Relation}
use Rattle.statements.specs.declared.Kind.{Kind}
use Rattle.statements.specs.contracts.Kind.{the_type}
use Rattle.statements.specs.declared.Kind.TheVariants.{Comment, Objective, Constraint}
use Rattle.statements.specs.Parts.{IsKind, behind_min, RelationAt}
use Rattle.statements.specs.Grammar.{unsigned_from, with_sign, integer_at, is_objective, is_constraint, sum_from, terms_in, sum_at, sum_end, has_terms, is_bounded, is_exact, bound_from, bound_at, rule_at}
use Rattle.statements.proofs.Parts.{size_signed}
use Rattle.statements.proofs.Sums.{sum_none, no_term}
use Rattle.opb_lines.specs.ReadText.{variables_in, objective_of, plan_of_text}
use Rattle.opb_lines.specs.Lines.{next_line, lines_from}
use Rattle.opb_lines.proofs.Lines.{lines_here, lines_none, lines_behind, lines_of, next_on}
use Rattle.opb_fill.specs.Fill.{Says, of_kind, those_from, constraints_from, FirstFrom, Reaches, InRange, ConstraintHere}
use Rattle.opb_fill.proofs.Accepted.{stated, not_objective, constraint_places, rules_are, terms_are, said, lawful_text}

-- ---- from constraint to constraint

module _ (s : List ℕ) (at : ℕ) (l : at < length s) where
  line_split : lines_from s at ≡ at ∷ lines_from s (next_line s at)
  line_split = lines_here s at l ∙ ap (λ ats. at ∷ ats) (lines_behind s at (omega arith))

  pub constraint_first : is_constraint s at ≡ true → constraints_from s at ≡ at ∷ constraints_from s (next_line s at)
  unfolding those_from keep
  constraint_first h = rw (line_split, h)

  pub line_skipped : (such : List ℕ → ℕ → Bool) → such s at ≡ false → those_from such s (next_line s at) ≡ those_from such s at
  unfolding those_from keep
  line_skipped such h = rw (line_split, h)

-- What is known of a line by its kind.
module _ (s : List ℕ) (at : ℕ) where
  -- A line is of a kind where its own is that one.
  pub kind_tells : (k other : Kind) → IsKind s at k → of_kind other s at ≡ sameb the_type k other
  unfolding is_constraint ◌and◌
  kind_tells Comment Comment a = a
  kind_tells Comment Objective a = not_objective s at a
  kind_tells Comment Constraint a = rw a
  kind_tells Objective Comment (a, b) = a
  kind_tells Objective Objective (a, b) = b
  kind_tells Objective Constraint (a, b) = rw (a, b)
  kind_tells Constraint Comment (a, b) = a
  kind_tells Constraint Objective (a, b) = b
  kind_tells Constraint Constraint (a, b) = rw (a, b)

pub constraints_none : (s : List ℕ) (at : ℕ) → length s ≤ at → constraints_from s at ≡ []
unfolding those_from keep
constraints_none s at h = rw (lines_none s at h)

pub all_constraints : (s : List ℕ) → constraint_places s ≡ constraints_from s (next_line s 0)
unfolding those_from
all_constraints s = ap (keep (is_constraint s)) (lines_of s)

-- ---- a constraint's rule

module _ (s : List ℕ) (at n : ℕ) (h : rule_lawful n (rule_at s at) ≡ true) where
  pub bound_small : nat_abs (bound_at s at) ≤ 1_000_000_000
  unfolding rule_lawful rule_at is_present bound_lawful ◌or◌ ◌and◌
  bound_small = leb-true _ _ (and_left _ _ (and_left _ _ (and_left _ _ h)))

wider : (n : ℕ) (ts : List Term) → n ≤ 512 → all (term_within n) ts ≡ true → InRange ts
unfolding all term_within
wider n [] l h = refl
wider n (t ∷ ts) l h =
    let a = and_left _ _ h in
    let b = leb-true t.variable n (and_left _ _ a) in
    and_join _ _ (and_join _ _ (le-leb t.variable 512 (omega arith)) (and_right _ _ a)) (wider n ts l (and_right _ _ h))

-- The word of its bound.
module _ (s : List ℕ) (at : ℕ) {k : Text} (e : Behind sum_end s at k) (r : Relation) (h : Reads RelationAt k r) (small : nat_abs (bound_at s at) ≤ 1_000_000_000) where
  size_is : r.bound.size ≡ number_at s (unsigned_from s (bound_from s (sum_end s at)))
  unfolding bound_at integer_at
  size_is =
      let n = number_at s (unsigned_from s (bound_from s (sum_end s at))) in
      h.bound.size
      ∙ read_behind e (λ s j. seen (number_at s (unsigned_from s (bound_from s j))))
      ∙ seen_small n (omega (arith, small, size_signed (eqb (get_or s (bound_from s (sum_end s at)) 0) 45) n))

  pub bound_word : {d : ℕ} → d ≡ unsigned (with_sign r.bound.negative r.bound.size) → d ≡ unsigned (bound_at s at)
  unfolding bound_at integer_at
  bound_word f = f ∙ ap₂ (λ b n. unsigned (with_sign b n)) (h.bound.negative ∙ read_behind e (λ s j. eqb (get_or s (bound_from s j) 0) 45)) size_is

pub rule_entry_lem :
    (s : List ℕ) (at first : ℕ) (x : Bool) {a b c d f : ℕ} → x ≡ is_exact s (sum_end s at) → a ≡ first → b ≡ length (sum_at s at)
    → c ≡ cond x 3 1 → d ≡ unsigned (bound_at s at) → f ≡ cond x d 0 → a ∷ b ∷ c ∷ d ∷ f ∷ [] ≡ rule_entries first (rule_at s at ∷ [])
unfolding rule_entries rule_at mode bound_number unsigned
rule_entry_lem s at first true e pa pb pc pd pf = rw (sym e) (λ i. pa i ∷ pb i ∷ pc i ∷ pd i ∷ (pf ∙ pd) i ∷ [])
rule_entry_lem s at first false e pa pb pc pd pf = rw (sym e) (λ i. pa i ∷ pb i ∷ pc i ∷ pd i ∷ pf i ∷ [])

-- ---- the constraints left

pub record Going (s : List ℕ) (at : ℕ) : Type 0 where
  pub lawful : LawfulPlan (plan_of_text s)
  pub inside : at ≤ length s
  pub here : (at < length s → is_constraint s at ≡ true)
  pub right : all (λ k. rule_lawful (variables_in s) (rule_at s k)) (constraints_from s at) ≡ true
  pub stated_all : all (stated s) (constraints_from s at) ≡ true

-- What is first from behind a line is first from where the line ends.
pub first_behind :
    {such : List ℕ → ℕ → Bool} {s : List ℕ} {at : ℕ} {u v : Text} → Behind next_line s at u → Reads (FirstFrom such) u v → FirstFrom such s (next_line s at) v
first_behind b r = rw (sym b.at, sym b.bytes) r

-- What is reached from behind the first line of a text of which nothing is read yet.
pub first_reached : {s : List ℕ} (t : Text) {u : Text} → (t.bytes.now ≡ s) × (t.at ≡ 0) → Reaches t.bytes.now (read next_line t) u → Reaches s (next_line s 0) u
first_reached t (e, f) r = rw (sym e, sym f) r

-- What is reached is in the text.
pub reached : {s : List ℕ} {from : ℕ} {u : Text} → Reaches s from u → u.at ≤ length s
reached {s} {from} {u} r = omega (arith, u.within, ap length r.bytes)

pub going_start : (s : List ℕ) {u : Text} → Says s → Reaches s (next_line s 0) u → Going s u.at
going_start s e r =
    record {
      lawful = lawful_text s (plan_of_text s) e;
      inside = reached r;
      here = r.here;
      right = ap (all (λ k. rule_lawful (variables_in s) (rule_at s k))) (r.same ∙ sym (all_constraints s)) ∙ (said s (plan_of_text s) e).1.rules;
      stated_all = ap (all (stated s)) (r.same ∙ sym (all_constraints s)) ∙ (said s (plan_of_text s) e).1.stated_all;
    }

module _ {s : List ℕ} {at : ℕ} (g : Going s at) (l : at < length s) where
  pub going_split : constraints_from s at ≡ at ∷ constraints_from s (next_line s at)
  going_split = constraint_first s at l (g.here l)

  both : (rule_lawful (variables_in s) (rule_at s at) ≡ true) × (all (λ k. rule_lawful (variables_in s) (rule_at s k)) (constraints_from s (next_line s at)) ≡ true)
  unfolding all
  both =
      let q : all (λ k. rule_lawful (variables_in s) (rule_at s k)) (at ∷ constraints_from s (next_line s at)) ≡ true = ap (all (λ k. rule_lawful (variables_in s) (rule_at s k))) (sym going_split) ∙ g.right in
      (and_left _ _ q, and_right _ _ q)

  both_stated : (stated s at ≡ true) × (all (stated s) (constraints_from s (next_line s at)) ≡ true)
  unfolding all
  both_stated =
      let q : all (stated s) (at ∷ constraints_from s (next_line s at)) ≡ true = ap (all (stated s)) (sym going_split) ∙ g.stated_all in
      (and_left _ _ q, and_right _ _ q)

  pub going_here : ConstraintHere s at
  unfolding rule_at rising plan_of_text
  going_here =
      let n = variables_in s in
      let m : n ≤ 512 = g.lawful.high in
      let r = (rule_parts n (rule_at s at) both.0).terms in
      record {
        some = and_left (has_terms s at) (is_bounded s (sum_end s at)) both_stated.0;
        bounded = and_right (has_terms s at) (is_bounded s (sum_end s at)) both_stated.0;
        bound = bound_small s at n both.0;
        few = omega (arith, terms_short n 0 (sum_at s at) r.rise r.within (omega arith), m);
        range = wider n (sum_at s at) m r.within;
      }

  pub going_more : {u : Text} → Reaches s (next_line s at) u → Going s u.at
  going_more h =
      record {
        lawful = g.lawful;
        inside = reached h;
        here = h.here;
        right = ap (all (λ k. rule_lawful (variables_in s) (rule_at s k))) h.same ∙ both.1;
        stated_all = ap (all (stated s)) h.same ∙ both_stated.1;
      }

front_same : (o ws : List ℕ) → 4 * length ws ≤ length o → length (front (word_bytes ws) o) ≡ length o
front_same o ws h = length_front (word_bytes ws) o (omega (arith, length_word_bytes ws))

-- ---- the rules

-- The text is the one that was lent.
pub record RuleFill (lent s o : List ℕ) (at rules first : ℕ) (t : List ℕ) : Type 0 where
  pub bytes : s ≡ lent
  pub going : Going s at
  pub size : length o ≡ rule_section_size
  pub words : List ℕ
  pub filled : t ≡ front (word_bytes words) o
  pub count : length words ≡ 5 * rules
  pub whole : words ++ rule_entries first (map (rule_at s) (constraints_from s at)) ≡ rule_entries 0 (rules_of (plan_of_text s))
  pub sum : first + sum_by (λ k. length (sum_at s k)) (constraints_from s at) ≡ term_count (plan_of_text s)
  pub same : length t ≡ length o

pub rule_start : (s o : List ℕ) {u : Text} → Says s → length o ≡ rule_section_size → Reaches s (next_line s 0) u → RuleFill s s o u.at 0 0 o
unfolding word_bytes
rule_start s o {u} e n r =
    let same : constraints_from s u.at ≡ constraint_places s = r.same ∙ sym (all_constraints s) in
    record {
      bytes = refl;
      going = going_start s e r;
      size = n;
      words = [];
      filled = sym (front_none o);
      count = refl;
      whole = ap (λ ks. rule_entries 0 (map (rule_at s) ks)) same ∙ ap (rule_entries 0) (sym (rules_are s));
      sum = omega (arith, ap (sum_by (λ k. length (sum_at s k))) same, terms_are s);
      same = refl;
    }

module _ {lent s o : List ℕ} {at rules first : ℕ} {t : List ℕ} (h : RuleFill lent s o at rules first t) where
  total : 5 * rules + 5 * length (constraints_from s at) ≡ 5 * length (rules_of (plan_of_text s))
  total =
      omega (
        arith,
        h.count,
        length-append h.words (rule_entries first (map (rule_at s) (constraints_from s at))),
        length_rule_entries first (map (rule_at s) (constraints_from s at)),
        length-map (constraints_from s at) (rule_at s),
        ap length h.whole,
        length_rule_entries 0 (rules_of (plan_of_text s)),
      )

  pub rule_few : rules ≤ 1_024
  rule_few = omega (arith, total, h.going.lawful.rule_count)

  pub rule_space : 20 * rules ≤ length t
  rule_space = omega (arith, rule_few, h.size, h.same)

  pub rule_first : first ≤ 6_000
  rule_first = omega (arith, h.sum, h.going.lawful.terms)

  pub rule_same : (ys : List ℕ) → ys ≡ replicate (length (mid_of (20 * rules) (length t - 20 * rules) t)) 0 → length (put_mid (20 * rules) (length t - 20 * rules) t ys) ≡ length o
  rule_same ys k = clear_same (20 * rules) t ys k ∙ h.same

  module _ (l : at < length s) where
    abbrev behind : List ℕ
    behind = constraints_from s (next_line s at)

    split : constraints_from s at ≡ at ∷ behind
    split = going_split h.going l

    pub rule_more_space : rules < 1_024
    rule_more_space = omega (arith, total, h.going.lawful.rule_count, ap length split)

    pub rule_part : 20 ≤ length (mid_of (20 * rules) (length t - 20 * rules) t)
    rule_part = omega (arith, lent_long (20 * rules) t, rule_more_space, h.size, h.same)

    more_sum : first + length (sum_at s at) + sum_by (λ k. length (sum_at s k)) behind ≡ term_count (plan_of_text s)
    unfolding sum_by
    more_sum = omega (arith, h.sum, ap (sum_by (λ k. length (sum_at s k))) split)

    pub rule_more_terms : first + length (sum_at s at) ≤ 6_000
    rule_more_terms = omega (arith, more_sum, h.going.lawful.terms)

    pub rule_more :
        (on : Text) (count : ℕ) (ys : List ℕ) → Reaches s (next_line s at) on → count ≡ length (sum_at s at)
        → ys ≡ front (word_bytes (rule_entries first (rule_at s at ∷ []))) (mid_of (20 * rules) (length t - 20 * rules) t)
        → RuleFill lent s o on.at (rules + 1) (first + count) (put_mid (20 * rules) (length t - 20 * rules) t ys)
    unfolding rule_at
    rule_more on count ys r q k =
        let us = rule_entries first (rule_at s at ∷ []) in
        let five : length us ≡ 5 = length_rule_entries first (rule_at s at ∷ []) in
        let f = words_lent o t h.words us (20 * rules) ys h.filled (omega (arith, h.count)) rule_space k in
        let m : length (h.words ++ us) ≡ 5 * (rules + 1) = length-append h.words us ∙ omega (arith, five, h.count) in
        record {
          bytes = h.bytes;
          going = going_more h.going l r;
          size = h.size;
          words = h.words ++ us;
          filled = f;
          count = m;
          whole =
              ap₂ (λ x ks. h.words ++ us ++ rule_entries (first + x) (map (rule_at s) ks)) q r.same
              ∙ append_assoc h.words us (rule_entries (first + length (sum_at s at)) (map (rule_at s) behind))
              ∙ ap (λ x. h.words ++ x) (sym (entries_more first (rule_at s at) (map (rule_at s) behind)) ∙ ap (λ ks. rule_entries first (map (rule_at s) ks)) (sym split))
              ∙ h.whole;
          sum = ap₂ (λ x ks. first + x + sum_by (λ k. length (sum_at s k)) ks) q r.same ∙ more_sum;
          same = ap length f ∙ front_same o (h.words ++ us) (omega (arith, m, rule_more_space, h.size));
        }

  module _ (l : length s ≤ at) where
    none : constraints_from s at ≡ []
    none = constraints_none s at l

    all_words : h.words ≡ rule_entries 0 (rules_of (plan_of_text s))
    unfolding rule_entries
    all_words = sym (append-nil h.words) ∙ ap (λ ks. h.words ++ rule_entries first (map (rule_at s) ks)) (sym none) ∙ h.whole

    pub rule_count_lem : rules ≡ length (rules_of (plan_of_text s))
    rule_count_lem = omega (arith, total, ap length none)

    pub rule_terms : first ≡ term_count (plan_of_text s)
    unfolding sum_by
    rule_terms = omega (arith, h.sum, ap (sum_by (λ k. length (sum_at s k))) none)

    pub rule_end :
        (ys : List ℕ) → ys ≡ replicate (length (mid_of (20 * rules) (length t - 20 * rules) t)) 0
        → put_mid (20 * rules) (length t - 20 * rules) t ys ≡ word_bytes (rule_words (plan_of_text s))
    unfolding rule_words
    rule_end ys k =
        rest_lent o t h.words rule_word_count (20 * rules) ys h.filled (omega (arith, h.count)) h.same h.size (omega (arith, h.count, rule_few)) k
        ∙ ap (λ x. word_bytes (pad_to rule_word_count x)) all_words

-- ---- the terms

terms_of_lem : (s : List ℕ) (ks : List ℕ) → map (λ r. r.terms) (map (rule_at s) ks) ≡ map (sum_at s) ks
unfolding rule_at
terms_of_lem s [] = refl
terms_of_lem s (k ∷ ks) = ap (λ ts. sum_at s k ∷ ts) (terms_of_lem s ks)

pub record TermFill (lent s o : List ℕ) (at end : ℕ) (t : List ℕ) : Type 0 where
  pub bytes : s ≡ lent
  pub going : Going s at
  pub size : length o ≡ term_size
  pub done : List Term
  pub filled : t ≡ front (word_bytes (term_entries done)) o
  pub place : end ≡ 8 * length done
  pub whole : done ++ concat (map (sum_at s) (constraints_from s at)) ≡ all_terms (plan_of_text s)
  pub same : length t ≡ length o

pub term_start : (s o : List ℕ) {u : Text} → Says s → length o ≡ term_size → Reaches s (next_line s 0) u → TermFill s s o u.at 0 o
unfolding word_bytes term_entries all_terms
term_start s o e n r =
    record {
      bytes = refl;
      going = going_start s e r;
      size = n;
      done = [];
      filled = sym (front_none o);
      place = refl;
      whole =
          ap (λ ks. concat (map (sum_at s) ks)) (r.same ∙ sym (all_constraints s))
          ∙ ap concat (sym (terms_of_lem s (constraint_places s)))
          ∙ ap (λ rs. concat (map (λ r. r.terms) rs)) (sym (rules_are s));
      same = refl;
    }

module _ {lent s o : List ℕ} {at end : ℕ} {t : List ℕ} (h : TermFill lent s o at end t) where
  term_total : length h.done + length (concat (map (sum_at s) (constraints_from s at))) ≤ 6_000
  term_total =
      omega (
        arith,
        length-append h.done (concat (map (sum_at s) (constraints_from s at))),
        ap length h.whole,
        length_all_terms (plan_of_text s),
        h.going.lawful.terms,
      )

  pub term_space : end ≤ length t
  term_space = omega (arith, term_total, h.place, h.size, h.same)

  pub term_limit : length (mid_of end (length t - end) t) ≤ term_size
  term_limit = omega (arith, lent_long end t, h.size, h.same)

  module _ (l : at < length s) where
    abbrev behind' : List Term
    behind' = concat (map (sum_at s) (constraints_from s (next_line s at)))

    more_terms : (h.done ++ sum_at s at) ++ behind' ≡ all_terms (plan_of_text s)
    unfolding concat
    more_terms =
        append_assoc h.done (sum_at s at) behind'
        ∙ ap (λ ks. h.done ++ concat (map (sum_at s) ks)) (sym (going_split h.going l))
        ∙ h.whole

    term_long : length (h.done ++ sum_at s at) ≤ 6_000
    term_long =
        omega (
          arith,
          length-append (h.done ++ sum_at s at) behind',
          ap length more_terms,
          length_all_terms (plan_of_text s),
          h.going.lawful.terms,
        )

    pub term_more_space : end + 8 * length (sum_at s at) ≤ length t
    term_more_space = omega (arith, term_long, length-append h.done (sum_at s at), h.place, h.size, h.same)

    pub term_part : 8 * length (sum_at s at) ≤ length (mid_of end (length t - end) t)
    term_part = omega (arith, lent_long end t, term_more_space)

    pub term_more :
        (on : Text) (size : ℕ) (ys : List ℕ) → Reaches s (next_line s at) on → size ≡ 8 * length (sum_at s at)
        → ys ≡ front (word_bytes (term_entries (sum_at s at))) (mid_of end (length t - end) t)
        → TermFill lent s o on.at (end + size) (put_mid end (length t - end) t ys)
    term_more on size ys r q k =
        let us = sum_at s at in
        let f = terms_lent o t h.done us end ys h.filled h.place term_space k in
        record {
          bytes = h.bytes;
          going = going_more h.going l r;
          size = h.size;
          done = h.done ++ us;
          filled = f;
          place = omega (arith, length-append h.done us, h.place, q);
          whole = ap (λ ks. (h.done ++ us) ++ concat (map (sum_at s) ks)) r.same ∙ more_terms;
          same = ap length f ∙ front_long o (h.done ++ us) (omega (arith, term_long, h.size));
        }

  module _ (l : length s ≤ at) where
    all_terms_lem : h.done ≡ all_terms (plan_of_text s)
    unfolding concat
    all_terms_lem = sym (append-nil h.done) ∙ ap (λ ks. h.done ++ concat (map (sum_at s) ks)) (sym (constraints_none s at l)) ∙ h.whole

    pub term_end_lem :
        (ys : List ℕ) → ys ≡ replicate (length (mid_of end (length t - end) t)) 0
        → put_mid end (length t - end) t ys ≡ word_bytes (term_words (plan_of_text s))
    unfolding term_words
    term_end_lem ys k =
        let m = length_term_entries h.done in
        rest_lent o t (term_entries h.done) term_word_count end ys h.filled (omega (arith, h.place, m)) h.same h.size (omega (arith, m, term_total)) k
        ∙ ap (λ x. word_bytes (pad_to term_word_count (term_entries x))) all_terms_lem

-- ---- the clauses

-- The entries of so many clauses of one rule each, from a rule on.
unfoldable pub singles : ℕ → ℕ → List ℕ
singles first zero = []
singles first (suc k) = first ∷ 1 ∷ singles (first + 1) k

single_entries : (f : ℕ → Rule) (first : ℕ) (ks : List ℕ) → clause_entries first (map (λ k. f k ∷ []) ks) ≡ singles first (length ks)
unfolding clause_entries singles
single_entries f first [] = refl
single_entries f first (k ∷ ks) = ap (λ ws. first ∷ 1 ∷ ws) (single_entries f (first + 1) ks)

singles_more : (first k : ℕ) → 0 < k → first ∷ 1 ∷ singles (first + 1) (k - 1) ≡ singles first k
unfolding singles
singles_more first zero h = absurd (omega arith)
singles_more first (suc k) h = ap (λ j. first ∷ 1 ∷ singles (first + 1) j) (let e : suc k - 1 ≡ k = omega arith in e)

pub record ClauseFill (clauses : ℕ) (o : List ℕ) (c : ℕ) (t : List ℕ) : Type 0 where
  pub size : length o ≡ clause_section_size
  pub few : clauses ≤ 512
  pub within : c ≤ clauses
  pub words : List ℕ
  pub filled : t ≡ front (word_bytes words) o
  pub count : length words ≡ 2 * c
  pub whole : words ++ singles c (clauses - c) ≡ singles 0 clauses
  pub same : length t ≡ length o

pub clause_start : (clauses : ℕ) (o : List ℕ) → length o ≡ clause_section_size → clauses ≤ 512 → ClauseFill clauses o 0 o
unfolding word_bytes
clause_start clauses o n l =
    record {
      size = n;
      few = l;
      within = omega arith;
      words = [];
      filled = sym (front_none o);
      count = refl;
      whole = ap (singles 0) (let e : clauses - 0 ≡ clauses = omega arith in e);
      same = refl;
    }

module _ {clauses : ℕ} {o : List ℕ} {c : ℕ} {t : List ℕ} (h : ClauseFill clauses o c t) where
  pub clause_space : 8 * c ≤ length t
  clause_space = omega (arith, h.few, h.within, h.size, h.same)

  pub clause_all_space : 8 * clauses ≤ length t
  clause_all_space = omega (arith, h.few, h.size, h.same)

  module _ (l : c < clauses) where
    pub clause_part : 8 ≤ length (mid_of (8 * c) (length t - 8 * c) t)
    clause_part = omega (arith, lent_long (8 * c) t, h.few, h.size, h.same)

    pub clause_more :
        (ys : List ℕ) → ys ≡ front (word_bytes (c ∷ 1 ∷ [])) (mid_of (8 * c) (length t - 8 * c) t)
        → ClauseFill clauses o (c + 1) (put_mid (8 * c) (length t - 8 * c) t ys)
    clause_more ys k =
        let us = c ∷ 1 ∷ [] in
        let f = words_lent o t h.words us (8 * c) ys h.filled (omega (arith, h.count)) clause_space k in
        let m : length (h.words ++ us) ≡ 2 * (c + 1) = length-append h.words us ∙ omega (arith, h.count) in
        record {
          size = h.size;
          few = h.few;
          within = omega arith;
          words = h.words ++ us;
          filled = f;
          count = m;
          whole =
              append_assoc h.words us (singles (c + 1) (clauses - (c + 1)))
              ∙ ap (λ j. h.words ++ (c ∷ 1 ∷ singles (c + 1) j)) (let e : clauses - (c + 1) ≡ clauses - c - 1 = omega arith in e)
              ∙ ap (λ x. h.words ++ x) (singles_more c (clauses - c) (omega arith))
              ∙ h.whole;
          same = ap length f ∙ front_same o (h.words ++ us) (omega (arith, m, h.few, h.size));
        }

  pub clause_end :
      (s : List ℕ) → clauses ≡ length (plan_of_text s).clauses → clauses ≤ c → {e : ℕ} → e ≡ 8 * clauses → (ys : List ℕ)
      → ys ≡ replicate (length (mid_of e (length t - e) t)) 0 → put_mid e (length t - e) t ys ≡ word_bytes (clause_words (plan_of_text s))
  unfolding clause_words plan_of_text singles
  clause_end s q l {e} p ys k =
      let n : c ≡ clauses = omega (arith, h.within) in
      let none : clauses - c ≡ 0 = omega arith in
      let words_are : h.words ≡ singles 0 clauses = sym (append-nil h.words) ∙ ap (λ j. h.words ++ singles c j) (sym none) ∙ h.whole in
      let m = length-map (constraint_places s) (λ at. rule_at s at ∷ []) in
      rest_lent o t h.words clause_word_count e ys h.filled (omega (arith, h.count)) h.same h.size (omega (arith, h.count, h.few)) k
      ∙ ap (λ x. word_bytes (pad_to clause_word_count x)) (words_are ∙ ap (singles 0) (q ∙ m) ∙ sym (single_entries (rule_at s) 0 (constraint_places s)))

-- ---- the objective

-- The terms of the first objective are those of the first among the objectives.
kept_by :
    (s : List ℕ) (t : Bool) (at : ℕ) (ats : List ℕ) → is_objective s at ≡ t → objective_of s ats ≡ objective_of s (keep (is_objective s) ats)
    → cond t (terms_in s at) (objective_of s ats) ≡ objective_of s (cond t (at ∷ keep (is_objective s) ats) (keep (is_objective s) ats))
unfolding objective_of
kept_by s true at ats e h = rw e
kept_by s false at ats e h = h

objective_kept : (s ats : List ℕ) → objective_of s ats ≡ objective_of s (keep (is_objective s) ats)
unfolding objective_of keep
objective_kept s [] = refl
objective_kept s (at ∷ ats) = kept_by s (is_objective s at) at ats refl (objective_kept s ats)

module _ (s : List ℕ) (from : ℕ) {t : Text} (h : FirstFrom is_objective s from t) where
  same_terms : objective_of s (lines_from s t.at) ≡ objective_of s (lines_from s from)
  unfolding those_from
  same_terms = objective_kept s (lines_from s t.at) ∙ ap (objective_of s) h.same ∙ sym (objective_kept s (lines_from s from))

  pub objective_here_lem : {u : Text} → t.at < length t.bytes.now → Reads (Behind behind_min) t u → read sum_at u ≡ objective_of s (lines_from s from)
  unfolding objective_of sum_from
  objective_here_lem {u} l q =
      let k : t.at < length s = omega (arith, l, ap length h.bytes) in
      let is = h.here k in
      let terms : read sum_at u ≡ objective_of s (lines_from s t.at) =
      rw (line_split s t.at k, is) (read_behind q sum_at ∙ ap (λ x. sum_at x (behind_min x t.at)) h.bytes)
      in
      terms ∙ same_terms

  pub objective_none : length t.bytes.now ≤ t.at → read sum_at t ≡ objective_of s (lines_from s from)
  unfolding objective_of
  objective_none k =
      let l : length s ≤ t.at = omega (arith, k, ap length h.bytes) in
      let terms : read sum_at t ≡ objective_of s (lines_from s t.at) =
      ap (λ x. sum_at x t.at) h.bytes ∙ rw (lines_none s t.at l) (sum_none s t.at (no_term s t.at l)).0
      in
      terms ∙ same_terms

module _ (s : List ℕ) (e : Says s) (ts : List Term) (q : ts ≡ objective_of s (lines_from s (next_line s 0))) where
  is_objective_lem : ts ≡ (plan_of_text s).objective
  unfolding plan_of_text
  is_objective_lem = q ∙ ap (objective_of s) (sym (lines_of s))

  pub objective_ranges : InRange ts × (in_range ts ≡ true)
  unfolding rising
  objective_ranges =
      let w = lawful_text s (plan_of_text s) e in
      let p = plan_of_text s in
      rw is_objective_lem (wider p.variables p.objective w.high w.objective.within, lawful_range p.variables 0 p.objective w.high w.objective.rise w.objective.within)

  pub objective_done : (o t u : List ℕ) → length o ≡ objective_size → t ≡ replicate (length o) 0 → u ≡ placed ts t → u ≡ word_bytes (objective_words (plan_of_text s))
  unfolding objective_words
  objective_done o t u n c f =
      let w = lawful_text s (plan_of_text s) e in
      let p = plan_of_text s in
      f
      ∙ ap (λ ts. placed ts t) is_objective_lem
      ∙ ap (placed p.objective) (c ∙ ap (λ m. replicate m 0) n)
      ∙ dense p.variables p.objective (λ x. unsigned (coefficient p.objective x)) w.high w.objective (λ x l. refl)

-- The first constraint behind a line is further on in the text, where the line is there.
pub goes_on : (t r : Text) → Reaches t.bytes.now (next_line t.bytes.now t.at) r → t.at < length t.bytes.now → length r.bytes.now - r.at < length t.bytes.now - t.at
goes_on t r n h = omega (arith, n.behind, ap length n.bytes, r.within, next_on t.bytes.now t.at t.within h)
