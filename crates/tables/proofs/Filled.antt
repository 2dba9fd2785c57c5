-- Laws of the sections filled entry by entry: the entries passed stand at the front, and with those to come they are the section's words.
-- Assumes nothing.
use Prim.Native.Nat.{ℕ, ◌+◌, ◌*◌, ◌-◌, ◌≤◌, ◌<◌}
use native.Mathlib.Omega.{arith}
use mathlib.Core.Path.{◌≡◌, refl, sym, ap, ap₂, ◌∙◌, subst}
use mathlib.Core.List.{List, [], ◌∷◌, ◌++◌, map, append_assoc, append-nil}
use lib.ListN.{length, get_or, replicate, length-append}
use borrow.Rule.Slice.PartMut.{mid_of, put_mid}
use Rattle.plpb.specs.Lists.{concat, sum_by}
use Rattle.plpb.specs.Plan.{Term, Rule, Clause, Plan}
use Rattle.plpb.specs.Tallies.{rules_of}
use Rattle.words.specs.Words.{word_bytes}
use Rattle.words.specs.Writes.{front, put}
use Rattle.words.proofs.Words.{length_word_bytes}
use Rattle.words.proofs.Writes.{front_none, front_put, length_front, lent_tail, lent_clear, lent_long, clear_same, fill_rest, word_bytes_append}
use Rattle.format.specs.Limits.{term_count}
use Rattle.format.specs.File.{read, accepted, tag_at, length_at, terms_in, terms_at, field_terms, rule_at}
use Rattle.format.specs.Tables.{pad_to, pad_with, clause_entries, rule_entries, term_entries, all_terms, term_words}
use Rattle.format.proofs.Lawful.{LawfulPlan, plan_parts}
use Rattle.format.proofs.Accepted.{accepted_lawful}
use Rattle.format.proofs.Sections.{length_clause_entries, length_rule_entries, length_term_entries, length_all_terms}
use Rattle.tables.specs.Places.{Found, Reads, Ran, RuleHere, first_clause, first_rule, next_rule, behind_field}
use Rattle.tables.specs.Sections.{clause_words, rule_words}
use Rattle.bodies.proofs.Tags.{tag_byte}
use Rattle.tables.proofs.Entered.{here_terms, entries_more, terms_lent, front_long}
use Rattle.tables.proofs.Found.{Begun, RulesLeft, rules_start, rules_next, rules_end, rules_here_lem, found_clause, found_room, no_clause_left as none_left}
use Rattle.format.specs.Layout.{clause_section_size, clause_word_count, rule_section_size, rule_word_count, term_size, term_word_count}

-- Words written behind those at the front of a section.
pub words_lent :
    (o t ws us : List ℕ) (at : ℕ) (ys : List ℕ) → t ≡ front (word_bytes ws) o → at ≡ 4 * length ws → at ≤ length t
    → ys ≡ front (word_bytes us) (mid_of at (length t - at) t) → put_mid at (length t - at) t ys ≡ front (word_bytes (ws ++ us)) o
words_lent o t ws us at ys p q l e =
    lent_tail at (word_bytes us) t ys l e
    ∙ ap₂ (λ (k : ℕ) (x : List ℕ). put k (word_bytes us) x) (q ∙ sym (length_word_bytes ws)) p
    ∙ front_put (word_bytes ws) (word_bytes us) o
    ∙ ap (λ (x : List ℕ). front x o) (sym (word_bytes_append ws us))

-- The rest of a section filled with 0.
pub rest_lent :
    (o t ws : List ℕ) (k at : ℕ) (ys : List ℕ) → t ≡ front (word_bytes ws) o → at ≡ 4 * length ws → length t ≡ length o → length o ≡ 4 * k → length ws ≤ k
    → ys ≡ replicate (length (mid_of at (length t - at) t)) 0 → put_mid at (length t - at) t ys ≡ word_bytes (pad_to k ws)
unfolding pad_with
rest_lent o t ws k at ys p q n m l e =
    fill_rest o ws k at p q l m
    (lent_clear at t ys (omega arith) e ∙ ap (λ (j : ℕ). put at (replicate (j - at) 0) t) n)

front_same : (o ws : List ℕ) → 4 * length ws ≤ length o → length (front (word_bytes ws) o) ≡ length o
front_same o ws h = length_front (word_bytes ws) o (omega (arith, length_word_bytes ws))

-- The rules.
pub record RuleFill (s : List ℕ) (p : Plan) (o : List ℕ) (at rules first : ℕ) (t : List ℕ) : Type 0 where
  pub lawful : LawfulPlan p
  pub size : length o ≡ rule_section_size
  pub rest : List Rule
  pub left : RulesLeft s at rest
  pub words : List ℕ
  pub filled : t ≡ front (word_bytes words) o
  pub count : length words ≡ 5 * rules
  pub whole : words ++ rule_entries first rest ≡ rule_entries 0 (rules_of p)
  pub sum : first + sum_by (λ r. length r.terms) rest ≡ term_count p
  pub same : length t ≡ length o

pub rule_start : (s : List ℕ) (p : Plan) (o : List ℕ) (at : ℕ) → LawfulPlan p → length o ≡ rule_section_size → Begun s p → at ≡ first_rule s → RuleFill s p o at 0 0 o
unfolding word_bytes term_count
rule_start s p o at l n b e =
    record {
      lawful = l;
      size = n;
      rest = rules_of p;
      left = subst (λ (n : ℕ). RulesLeft s n (rules_of p)) (sym e) (rules_start s p b);
      words = [];
      filled = sym (front_none o);
      count = refl;
      whole = refl;
      sum = omega arith;
      same = refl;
    }

module _ {s : List ℕ} {p : Plan} {o : List ℕ} {at rules first : ℕ} {t : List ℕ} (h : RuleFill s p o at rules first t) where
  total : 5 * rules + 5 * length h.rest ≡ 5 * length (rules_of p)
  total =
      omega (
        arith,
        h.count,
        length-append h.words (rule_entries first h.rest),
        length_rule_entries first h.rest,
        ap length h.whole,
        length_rule_entries 0 (rules_of p),
      )

  pub rule_few : rules ≤ 1_024
  rule_few = omega (arith, total, h.lawful.rule_count)

  pub rule_space : 20 * rules ≤ length t
  rule_space = omega (arith, rule_few, h.size, h.same)

  pub rule_first : first ≤ 6_000
  rule_first = omega (arith, h.sum, h.lawful.terms)

  pub rule_same : (ys : List ℕ) → ys ≡ replicate (length (mid_of (20 * rules) (length t - 20 * rules) t)) 0 → length (put_mid (20 * rules) (length t - 20 * rules) t ys) ≡ length o
  rule_same ys k = clear_same (20 * rules) t ys k ∙ h.same

  module _ (e : get_or s at 0 ≡ 4) where
    rule_tag : tag_at s at ≡ 4
    rule_tag = sym (tag_byte s at) ∙ e

    pub rule_here : RuleHere s at
    rule_here = rules_here_lem h.left rule_tag

    pub rule_more_space : rules < 1_024
    rule_more_space = let (rest, c, g) = rules_next h.left rule_tag in omega (arith, total, h.lawful.rule_count, ap length c)

    pub rule_part : 20 ≤ length (mid_of (20 * rules) (length t - 20 * rules) t)
    rule_part = omega (arith, lent_long (20 * rules) t, rule_more_space, h.size, h.same)

    more_sum : (rest : List Rule) → h.rest ≡ rule_at s at ∷ rest → first + terms_in 4 (length_at s at) + sum_by (λ r. length r.terms) rest ≡ term_count p
    unfolding sum_by
    more_sum rest c =
        omega (arith, h.sum, ap (λ (x : List Rule). sum_by (λ r. length r.terms) x) c, here_terms s at rule_here)

    pub rule_more_terms : first + terms_in 4 (length_at s at) ≤ 6_000
    rule_more_terms = let (rest, c, g) = rules_next h.left rule_tag in omega (arith, more_sum rest c, h.lawful.terms)

    pub rule_more :
        (on terms : ℕ) (ys : List ℕ) → on ≡ next_rule s at → terms ≡ terms_in 4 (length_at s at)
        → ys ≡ front (word_bytes (rule_entries first (rule_at s at ∷ []))) (mid_of (20 * rules) (length t - 20 * rules) t)
        → RuleFill s p o on (rules + 1) (first + terms) (put_mid (20 * rules) (length t - 20 * rules) t ys)
    rule_more on terms ys e' r k =
        let (rest, c, g) = rules_next h.left rule_tag in
        let us = rule_entries first (rule_at s at ∷ []) in
        let five : length us ≡ 5 = length_rule_entries first (rule_at s at ∷ []) in
        let f = words_lent o t h.words us (20 * rules) ys h.filled (omega (arith, h.count)) rule_space k in
        let m : length (h.words ++ us) ≡ 5 * (rules + 1) = length-append h.words us ∙ omega (arith, five, h.count) in
        let step : first + length (rule_at s at).terms ≡ first + terms = omega (arith, here_terms s at rule_here, r) in
        record {
          lawful = h.lawful;
          size = h.size;
          rest = rest;
          left = subst (λ (x : ℕ). RulesLeft s x rest) (sym e') g;
          words = h.words ++ us;
          filled = f;
          count = m;
          whole =
              ap (λ (x : ℕ). h.words ++ us ++ rule_entries x rest) (sym step)
              ∙ append_assoc h.words us (rule_entries (first + length (rule_at s at).terms) rest)
              ∙ ap (λ (x : List ℕ). h.words ++ x) (sym (entries_more first (rule_at s at) rest) ∙ ap (rule_entries first) (sym c))
              ∙ h.whole;
          sum = ap (λ (x : ℕ). first + x + sum_by (λ r. length r.terms) rest) r ∙ more_sum rest c;
          same = ap length f ∙ front_same o (h.words ++ us) (omega (arith, m, rule_more_space, h.size));
        }

  module _ (e : get_or s at 0 ≡ 4 → ⊥) where
    none : h.rest ≡ []
    none = rules_end h.left (λ t. e (tag_byte s at ∙ t))

    all_words : h.words ≡ rule_entries 0 (rules_of p)
    unfolding rule_entries
    all_words = sym (append-nil h.words) ∙ ap (λ (x : List Rule). h.words ++ rule_entries first x) (sym none) ∙ h.whole

    pub rule_count_lem : rules ≡ length (rules_of p)
    rule_count_lem = omega (arith, total, ap length none)

    pub rule_terms : first ≡ term_count p
    unfolding sum_by
    rule_terms = omega (arith, h.sum, ap (λ (x : List Rule). sum_by (λ r. length r.terms) x) none)

    pub rule_end :
        (ys : List ℕ) → ys ≡ replicate (length (mid_of (20 * rules) (length t - 20 * rules) t)) 0
        → put_mid (20 * rules) (length t - 20 * rules) t ys ≡ word_bytes (rule_words p)
    unfolding rule_words
    rule_end ys k =
        rest_lent o t h.words rule_word_count (20 * rules) ys h.filled (omega (arith, h.count)) h.same h.size (omega (arith, h.count, rule_few)) k
        ∙ ap (λ (x : List ℕ). word_bytes (pad_to rule_word_count x)) all_words

-- The terms.
pub record TermFill (s : List ℕ) (p : Plan) (o : List ℕ) (at end : ℕ) (t : List ℕ) : Type 0 where
  pub lawful : LawfulPlan p
  pub size : length o ≡ term_size
  pub rest : List Rule
  pub left : RulesLeft s at rest
  pub done : List Term
  pub filled : t ≡ front (word_bytes (term_entries done)) o
  pub place : end ≡ 8 * length done
  pub whole : done ++ concat (map (λ r. r.terms) rest) ≡ all_terms p
  pub same : length t ≡ length o

pub term_start : (s : List ℕ) (p : Plan) (o : List ℕ) (at : ℕ) → LawfulPlan p → length o ≡ term_size → Begun s p → at ≡ first_rule s → TermFill s p o at 0 o
unfolding word_bytes term_entries all_terms
term_start s p o at l n b e =
    record {
      lawful = l;
      size = n;
      rest = rules_of p;
      left = subst (λ (n : ℕ). RulesLeft s n (rules_of p)) (sym e) (rules_start s p b);
      done = [];
      filled = sym (front_none o);
      place = refl;
      whole = refl;
      same = refl;
    }

module _ {s : List ℕ} {p : Plan} {o : List ℕ} {at end : ℕ} {t : List ℕ} (h : TermFill s p o at end t) where
  term_total : length h.done + length (concat (map (λ r. r.terms) h.rest)) ≤ 6_000
  term_total =
      omega (
        arith,
        length-append h.done (concat (map (λ r. r.terms) h.rest)),
        ap length h.whole,
        length_all_terms p,
        h.lawful.terms,
      )

  pub term_space : end ≤ length t
  term_space = omega (arith, term_total, h.place, h.size, h.same)

  module _ (e : get_or s at 0 ≡ 4) where
    term_tag : tag_at s at ≡ 4
    term_tag = sym (tag_byte s at) ∙ e

    pub term_here_lem : RuleHere s at
    term_here_lem = rules_here_lem h.left term_tag

    -- The rule's terms, where the code reads them.
    pub term_list : (rule_at s at).terms ≡ terms_at s (at + 12) (terms_in 4 (length_at s at))
    unfolding rule_at field_terms
    term_list = rw term_tag

    pub term_file : at + 12 + 6 * terms_in 4 (length_at s at) ≤ length s
    unfolding behind_field terms_in
    term_file = omega (arith, term_here_lem.room, term_here_lem.size)

    more_terms : (rest : List Rule) → h.rest ≡ rule_at s at ∷ rest → (h.done ++ (rule_at s at).terms) ++ concat (map (λ r. r.terms) rest) ≡ all_terms p
    unfolding concat
    more_terms rest c =
        append_assoc h.done (rule_at s at).terms (concat (map (λ r. r.terms) rest))
        ∙ ap (λ (x : List Rule). h.done ++ concat (map (λ r. r.terms) x)) (sym c)
        ∙ h.whole

    term_long : length (h.done ++ (rule_at s at).terms) ≤ 6_000
    term_long =
        let (rest, c, g) = rules_next h.left term_tag in
        omega (
          arith,
          length-append (h.done ++ (rule_at s at).terms) (concat (map (λ r. r.terms) rest)),
          ap length (more_terms rest c),
          length_all_terms p,
          h.lawful.terms,
        )

    pub term_more_space : end + 8 * terms_in 4 (length_at s at) ≤ length t
    term_more_space =
        omega (arith, term_long, length-append h.done (rule_at s at).terms, here_terms s at term_here_lem, h.place, h.size, h.same)

    pub term_part : 8 * terms_in 4 (length_at s at) ≤ length (mid_of end (length t - end) t)
    term_part = omega (arith, lent_long end t, term_more_space)

    pub term_more :
        (on count : ℕ) (ys : List ℕ) → on ≡ next_rule s at → count ≡ terms_in 4 (length_at s at)
        → ys ≡ front (word_bytes (term_entries (terms_at s (at + 12) count))) (mid_of end (length t - end) t)
        → TermFill s p o on (end + 8 * count) (put_mid end (length t - end) t ys)
    term_more on count ys e' r k =
        let (rest, c, g) = rules_next h.left term_tag in
        let us = (rule_at s at).terms in
        let k' = k ∙ ap (λ (x : List Term). front (word_bytes (term_entries x)) (mid_of end (length t - end) t)) (ap (terms_at s (at + 12)) r ∙ sym term_list) in
        let f = terms_lent o t h.done us end ys h.filled h.place term_space k' in
        let m = length-append h.done us in
        record {
          lawful = h.lawful;
          size = h.size;
          rest = rest;
          left = subst (λ (x : ℕ). RulesLeft s x rest) (sym e') g;
          done = h.done ++ us;
          filled = f;
          place = omega (arith, m, h.place, r, here_terms s at term_here_lem);
          whole = more_terms rest c;
          same = ap length f ∙ front_long o (h.done ++ us) (omega (arith, term_long, h.size));
        }

  module _ (e : get_or s at 0 ≡ 4 → ⊥) where
    all_terms_lem : h.done ≡ all_terms p
    unfolding concat
    all_terms_lem =
        sym (append-nil h.done)
        ∙ ap (λ (x : List Rule). h.done ++ concat (map (λ r. r.terms) x)) (sym (rules_end h.left (λ t. e (tag_byte s at ∙ t))))
        ∙ h.whole

    pub term_end_lem :
        (ys : List ℕ) → ys ≡ replicate (length (mid_of end (length t - end) t)) 0
        → put_mid end (length t - end) t ys ≡ word_bytes (term_words p)
    unfolding term_words
    term_end_lem ys k =
        let m = length_term_entries h.done in
        rest_lent o t (term_entries h.done) term_word_count end ys h.filled (omega (arith, h.place, m)) h.same h.size (omega (arith, m, term_total)) k
        ∙ ap (λ (x : List Term). word_bytes (pad_to term_word_count (term_entries x))) all_terms_lem

-- The clauses.
pub record ClauseFill (s : List ℕ) (p : Plan) (o : List ℕ) (at clauses first : ℕ) (t : List ℕ) : Type 0 where
  pub lawful : LawfulPlan p
  pub size : length o ≡ clause_section_size
  pub rest : List Clause
  pub left : Found s at [] rest
  pub words : List ℕ
  pub filled : t ≡ front (word_bytes words) o
  pub count : length words ≡ 2 * clauses
  pub whole : words ++ clause_entries first rest ≡ clause_entries 0 p.clauses
  pub sum : first + length (concat rest) ≡ length (rules_of p)
  pub same : length t ≡ length o

pub clause_start : (s : List ℕ) (p : Plan) (o : List ℕ) (at : ℕ) → LawfulPlan p → length o ≡ clause_section_size → Begun s p → at ≡ first_clause s → ClauseFill s p o at 0 0 o
unfolding word_bytes rules_of
clause_start s p o at l n b e =
    record {
      lawful = l;
      size = n;
      rest = p.clauses;
      left = subst (λ (n : ℕ). Found s n [] p.clauses) (sym e) b.found;
      words = [];
      filled = sym (front_none o);
      count = refl;
      whole = refl;
      sum = omega arith;
      same = refl;
    }

module _ {s : List ℕ} {p : Plan} {o : List ℕ} {at clauses first : ℕ} {t : List ℕ} (h : ClauseFill s p o at clauses first t) where
  clause_total : 2 * clauses + 2 * length h.rest ≡ 2 * length p.clauses
  clause_total =
      omega (
        arith,
        h.count,
        length-append h.words (clause_entries first h.rest),
        length_clause_entries first h.rest,
        ap length h.whole,
        length_clause_entries 0 p.clauses,
      )

  pub clause_few : clauses ≤ 512
  clause_few = omega (arith, clause_total, h.lawful.clause_count)

  pub clause_space : 8 * clauses ≤ length t
  clause_space = omega (arith, clause_few, h.size, h.same)

  pub clause_room_lem : at + 3 ≤ length s
  clause_room_lem = found_room h.left

  -- Behind a clause's rules lies further on.
  pub clause_on : (count on : ℕ) → Ran s (at + 3) count on → at < on
  unfolding Ran
  clause_on count on r = omega (arith, r.0)

  module _ (e : get_or s at 0 ≡ 3) where
    clause_tag : tag_at s at ≡ 3
    clause_tag = sym (tag_byte s at) ∙ e

    pub clause_reads : Reads s (at + 3)
    clause_reads = let (z, c, rest, k, g, four) = found_clause h.left clause_tag in (c, rest, g)

    pub clause_more_space : clauses < 512
    clause_more_space = let (z, c, rest, k, g, four) = found_clause h.left clause_tag in omega (arith, clause_total, h.lawful.clause_count, ap length k)

    pub clause_part : 8 ≤ length (mid_of (8 * clauses) (length t - 8 * clauses) t)
    clause_part = omega (arith, lent_long (8 * clauses) t, clause_more_space, h.size, h.same)

    more_rules : (c : Clause) (rest : List Clause) → h.rest ≡ c ∷ rest → first + length c + length (concat rest) ≡ length (rules_of p)
    unfolding concat
    more_rules c rest k = omega (arith, h.sum, ap (λ (x : List Clause). length (concat x)) k, length-append c (concat rest))

    pub clause_rules : (count on : ℕ) → Ran s (at + 3) count on → first + count ≤ 1_024
    unfolding Ran
    clause_rules count on r =
        let (z, c, rest, k, g, four) = found_clause h.left clause_tag in
        omega (arith, (r.1 c rest g).0, more_rules c rest k, h.lawful.rule_count)

    pub clause_more :
        (count on : ℕ) (ys : List ℕ) → Ran s (at + 3) count on
        → ys ≡ front (word_bytes (first ∷ count ∷ [])) (mid_of (8 * clauses) (length t - 8 * clauses) t)
        → ClauseFill s p o on (clauses + 1) (first + count) (put_mid (8 * clauses) (length t - 8 * clauses) t ys)
    unfolding Ran clause_entries
    clause_more count on ys r k =
        let (z, c, rest, d, g, four) = found_clause h.left clause_tag in
        let (m, there) = r.1 c rest g in
        let us = first ∷ count ∷ [] in
        let f = words_lent o t h.words us (8 * clauses) ys h.filled (omega (arith, h.count)) clause_space k in
        let l : length (h.words ++ us) ≡ 2 * (clauses + 1) = length-append h.words us ∙ omega (arith, h.count) in
        record {
          lawful = h.lawful;
          size = h.size;
          rest = rest;
          left = there;
          words = h.words ++ us;
          filled = f;
          count = l;
          whole =
              append_assoc h.words us (clause_entries (first + count) rest)
              ∙ ap (λ (x : ℕ). h.words ++ (first ∷ x ∷ clause_entries (first + x) rest)) m
              ∙ ap (λ (x : List Clause). h.words ++ clause_entries first x) (sym d)
              ∙ h.whole;
          sum = omega (arith, more_rules c rest d, m);
          same = ap length f ∙ front_same o (h.words ++ us) (omega (arith, l, clause_more_space, h.size));
        }

  module _ (e : get_or s at 0 ≡ 3 → ⊥) where
    no_clause : h.rest ≡ []
    no_clause = none_left h.left (λ t. e (tag_byte s at ∙ t))

    all_clauses : h.words ≡ clause_entries 0 p.clauses
    unfolding clause_entries
    all_clauses = sym (append-nil h.words) ∙ ap (λ (x : List Clause). h.words ++ clause_entries first x) (sym no_clause) ∙ h.whole

    pub clause_count_lem : clauses ≡ length p.clauses
    clause_count_lem = omega (arith, clause_total, ap length no_clause)

    pub clause_end :
        (ys : List ℕ) → ys ≡ replicate (length (mid_of (8 * clauses) (length t - 8 * clauses) t)) 0
        → put_mid (8 * clauses) (length t - 8 * clauses) t ys ≡ word_bytes (clause_words p)
    unfolding clause_words
    clause_end ys k =
        rest_lent o t h.words clause_word_count (8 * clauses) ys h.filled (omega (arith, h.count)) h.same h.size (omega (arith, h.count, clause_few)) k
        ∙ ap (λ (x : List ℕ). word_bytes (pad_to clause_word_count x)) all_clauses

pub lawful_file : (s : List ℕ) (p : Plan) → read s ≡ accepted p → LawfulPlan p
lawful_file s p a = plan_parts p (accepted_lawful s p a)
