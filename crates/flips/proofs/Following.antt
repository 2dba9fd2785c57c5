-- A flip along the run: what stands in the tallies after each place, and behind the last.
-- Assumes nothing.
use Prim.Native.Nat.{ℕ, zero, suc, ◌+◌, ◌-◌, ◌≤◌, ◌<◌}
use native.Mathlib.Numerals.{add-one}
use native.Mathlib.Decide.{ℕ_discrete}
use native.Mathlib.Omega.{arith}
use mathlib.Core.Path.{◌≡◌, refl, sym, ap, ap₂, ◌∙◌, subst}
use mathlib.Core.List.{List, [], ◌++◌, map}
use lib.Dec.{T, eqb}
use lib.ListN.{length, get_or, take, set, length-map, length-take, length-set, take-append-drop, get_or-map}
use lib.Seq.{take-length, get_or-set_same, get_or-set_other}
use Rattle.plpb.specs.Lists.{count as count_of}
use Rattle.plpb.specs.Plan.{Rule, Plan, Assignment, flip, rule_holds, numbers_rise}
use Rattle.plpb.specs.Normal.{P, literal, literal_true, size}
use Rattle.plpb.specs.Tallies.{Tallies, rules_of, rules_named, fresh_count}
use Rattle.plpb.proofs.Lists.{all_at}
use Rattle.plpb.proofs.Normal.{P_at_most_K}
use Rattle.plpb.proofs.Flip.{flip_twice, length_flip}
use Rattle.words.specs.Words.{word_at}
use Rattle.words.proofs.Words.{Below}
use Rattle.order.specs.Order.{Place, occurrences, run_end, rule_at, term_at, term_count, is_place, names_at, place_word, word_place}
use Rattle.order.specs.Along.{holds_by, moved, exchanged, passed, along}
use Rattle.order.proofs.Occurrences.{occurrences_length}
use Rattle.order.proofs.Runs.{Named, named_of, named_below, first_within, first_next, occurrences_run, occurrences_places}
use Rattle.order.proofs.Tested.{end_next, ends_ordered, last_end}
use Rattle.order.proofs.Along.{holds_by_P, flip_along}
use Rattle.order.proofs.Midway.{Midway, along_next, midway_at}
use Rattle.order.proofs.Words.{Small}
use Rattle.format.specs.Layout.{clause_room, end_at, entry_at, holding_at, rule_room, tally_size, tally_word_count, unsatisfied_at, term_room}
use Rattle.format.specs.Tables.{plan_of_tables, rule_of}
use Rattle.format.proofs.Lawful.{RoomyPlan}
use Rattle.format.proofs.Naming.{numbers_within_lem, place_small}
use Rattle.format.proofs.Spells.{spells_at}
use Rattle.format.proofs.Arranged.{Arranged}
use Rattle.format.proofs.ReadBack.{holds_arranged}
use Rattle.format.proofs.GoodOrder.{run_words, word_back}
use Rattle.format.proofs.Placed.{rule_is}
use Rattle.rules.specs.Terms.{bits_in}
use Rattle.tallies.specs.Layout.{bits_of, tally_words, tally_word, tally_bytes, with_tallies}
use Rattle.tallies.specs.Calls.{turned}
use Rattle.tallies.proofs.Bits.{length_turned, turned_bits}
use Rattle.tallies.proofs.Order.{order_rule, order_clause, order_whole, length_order}
use Rattle.tallies.proofs.Passed.{words_passed, along_rules, along_clauses}
use Rattle.tallies.proofs.Tallied.{fresh_words, words_fresh}
use Rattle.tallies.proofs.TallyBytes.{roomy_fits, length_fresh}
use Rattle.recount.specs.Core.{Laid, Ready, Flippable, recounted}
use Rattle.recount.proofs.Cores.{first_ready, first_bits_of, first_counted}
use Rattle.recount.proofs.Laid.{parts, sections, rises, rules_word, variables_word}
use Rattle.flips.specs.Passing.{Inside, Passable, Passed, Followable}

pub turned_byte : (bytes : List ℕ) (x v : ℕ) → 0 < x → v ≡ 1 - get_or bytes (x - 1) 0 → set bytes (x - 1) v ≡ turned bytes x
unfolding turned
turned_byte bytes zero v h e = absurd (omega arith)
turned_byte bytes (suc i) v h e = let z : suc i - 1 ≡ i = omega arith in ap (set bytes (suc i - 1)) e ∙ rw z refl

-- ---- one place

-- Tallies with a word for each rule and clause, and bytes that tell them.
pub record Tells (s : Tallies) (t : List ℕ) : Type 0 where
  pub rules : length s.true_weights ≤ rule_room
  pub clauses : length s.rules_holding ≤ clause_room
  pub words : (i : ℕ) → i < tally_word_count → word_at t i ≡ get_or (tally_words s) i 0

module _ {s : Tallies} {t : List ℕ} (k : Tells s t) where
  weight_word : (r : ℕ) → r < rule_room → word_at t r ≡ get_or s.true_weights r 0
  unfolding tally_words
  weight_word r h = k.words r (omega arith) ∙ order_rule 0 s.true_weights s.rules_holding s.clauses_unsatisfied k.rules k.clauses r h

  holding_word : (c : ℕ) → c < clause_room → word_at t (holding_at c) ≡ get_or s.rules_holding c 0
  unfolding tally_words
  holding_word c h = k.words (holding_at c) (omega arith) ∙ order_clause 0 s.true_weights s.rules_holding s.clauses_unsatisfied k.rules k.clauses c h

  total_word : word_at t unsatisfied_at ≡ s.clauses_unsatisfied
  unfolding tally_words
  total_word = k.words unsatisfied_at (omega arith) ∙ order_whole 0 s.true_weights s.rules_holding s.clauses_unsatisfied k.rules k.clauses

module _ (p : Plan) (a : Assignment) (x : ℕ) {s : Tallies} {t : List ℕ} (q : Place) (k : Tells s t) (m : Midway p a x s q) (hr : q.rule < length s.true_weights) (hc : q.clause < length s.rules_holding) where
  abbrev rule : Rule
  rule = rule_at p q.rule

  low : q.rule < rule_room
  low = omega (arith, k.rules)

  few : q.clause < clause_room
  few = omega (arith, k.clauses)

  before : word_at t q.rule ≡ P a rule.terms
  before = weight_word k q.rule low ∙ m.before

  held_before : holds_by rule (word_at t q.rule) ≡ rule_holds a rule
  held_before = ap (holds_by rule) before ∙ holds_by_P a rule

  count : word_at t (holding_at q.clause) ≡ get_or s.rules_holding q.clause 0
  count = holding_word k q.clause few

  pub midway_passable : tally_size ≤ length t → length (get_or p.clauses q.clause []) ≤ rule_room → length p.clauses ≤ clause_room → Passable (rule_at p q.rule) q.rule q.clause t
  midway_passable room small most = record {
    weight = rw before (P_at_most_K a rule.terms);
    countable = record {
      room = room;
      clause = few;
      some = rw (held_before, count) m.held;
      few = omega (arith, count, m.room, small);
      total = rw (count, total_word k) m.some;
      most = omega (arith, total_word k, m.most, most);
    };
  }

  module _ {u : List ℕ} (d : Passed (rule_at p q.rule) (flip a x) q.rule q.clause t u) where
    after : get_or (passed p a s q).true_weights q.rule 0 ≡ P (flip a x) rule.terms
    unfolding passed
    after = get_or-set_same s.true_weights q.rule _ 0 hr ∙ m.after

    holding : get_or (passed p a s q).rules_holding q.clause 0 ≡ word_at u (holding_at q.clause)
    unfolding passed
    holding =
        get_or-set_same s.rules_holding q.clause _ 0 hc
        ∙ ap₂ (λ n o. exchanged (holds_by rule n) (holds_by rule o) (get_or s.rules_holding q.clause 0)) (sym (weight_word k q.rule low)) m.after
        ∙ ap₂ (λ b n. exchanged (holds_by rule (word_at t q.rule)) b n) (holds_by_P (flip a x) rule) (sym count)
        ∙ sym d.holding

    total : (passed p a s q).clauses_unsatisfied ≡ word_at u unsatisfied_at
    unfolding passed
    total =
        ap₂ (λ n o. exchanged (eqb n 0) (eqb o 0) s.clauses_unsatisfied) (sym count) (sym (get_or-set_same s.rules_holding q.clause _ 0 hc) ∙ holding)
        ∙ ap (exchanged (eqb (word_at t (holding_at q.clause)) 0) (eqb (word_at u (holding_at q.clause)) 0)) (sym (total_word k))
        ∙ sym d.total

    abbrev W : List ℕ
    W = tally_words s

    long : length W ≡ tally_word_count
    unfolding tally_words
    long = length_order 0 s.true_weights s.rules_holding s.clauses_unsatisfied k.rules k.clauses

    spelt : tally_words (passed p a s q) ≡ set (set (set W q.rule (word_at u q.rule)) (holding_at q.clause) (word_at u (holding_at q.clause))) unsatisfied_at (word_at u unsatisfied_at)
    spelt =
        words_passed p a s q hr hc k.rules k.clauses
        ∙ ap₂ (λ v w. set (set (set W q.rule v) (holding_at q.clause) w) unsatisfied_at (passed p a s q).clauses_unsatisfied) (after ∙ sym d.weight) holding
        ∙ ap (set (set (set W q.rule (word_at u q.rule)) (holding_at q.clause) (word_at u (holding_at q.clause))) unsatisfied_at) total

    told : (i : ℕ) → i < tally_word_count → Dec (i ≡ unsatisfied_at) → Dec (i ≡ holding_at q.clause) → Dec (i ≡ q.rule) → word_at u i ≡ get_or (set (set (set W q.rule (word_at u q.rule)) (holding_at q.clause) (word_at u (holding_at q.clause))) unsatisfied_at (word_at u unsatisfied_at)) i 0
    told i h (yes e) f g =
        ap (word_at u) e
        ∙ sym (get_or-set_same (set (set W q.rule _) (holding_at q.clause) _) unsatisfied_at (word_at u unsatisfied_at) 0 (omega (arith, length-set (set W q.rule (word_at u q.rule)) (holding_at q.clause) (word_at u (holding_at q.clause)), length-set W q.rule (word_at u q.rule), long)))
        ∙ ap (λ j. get_or (set (set (set W q.rule (word_at u q.rule)) (holding_at q.clause) (word_at u (holding_at q.clause))) unsatisfied_at (word_at u unsatisfied_at)) j 0) (sym e)
    told i h (no e) (yes f) g =
        ap (word_at u) f
        ∙ sym (get_or-set_same (set W q.rule (word_at u q.rule)) (holding_at q.clause) (word_at u (holding_at q.clause)) 0 (omega (arith, length-set W q.rule (word_at u q.rule), long, few)))
        ∙ ap (λ j. get_or (set (set W q.rule (word_at u q.rule)) (holding_at q.clause) (word_at u (holding_at q.clause))) j 0) (sym f)
        ∙ sym (get_or-set_other (set (set W q.rule (word_at u q.rule)) (holding_at q.clause) (word_at u (holding_at q.clause))) unsatisfied_at i (word_at u unsatisfied_at) 0 e)
    told i h (no e) (no f) (yes g) =
        ap (word_at u) g
        ∙ sym (get_or-set_same W q.rule (word_at u q.rule) 0 (omega (arith, long, low)))
        ∙ ap (λ j. get_or (set W q.rule (word_at u q.rule)) j 0) (sym g)
        ∙ sym (get_or-set_other (set W q.rule (word_at u q.rule)) (holding_at q.clause) i (word_at u (holding_at q.clause)) 0 f)
        ∙ sym (get_or-set_other (set (set W q.rule (word_at u q.rule)) (holding_at q.clause) (word_at u (holding_at q.clause))) unsatisfied_at i (word_at u unsatisfied_at) 0 e)
    told i h (no e) (no f) (no g) =
        d.others i h g f e
        ∙ k.words i h
        ∙ sym (get_or-set_other W q.rule i (word_at u q.rule) 0 g)
        ∙ sym (get_or-set_other (set W q.rule (word_at u q.rule)) (holding_at q.clause) i (word_at u (holding_at q.clause)) 0 f)
        ∙ sym (get_or-set_other (set (set W q.rule (word_at u q.rule)) (holding_at q.clause) (word_at u (holding_at q.clause))) unsatisfied_at i (word_at u unsatisfied_at) 0 e)

    pub tells_passed : Tells (passed p a s q) u
    tells_passed = record {
      rules = unfold passed in rw (length-set s.true_weights q.rule (moved (literal_true a (literal (term_at p q))) (size (term_at p q)) (get_or s.true_weights q.rule 0))) k.rules;
      clauses = clauses;
      words = λ i h. rw spelt (told i h (ℕ_discrete i unsatisfied_at) (ℕ_discrete i (holding_at q.clause)) (ℕ_discrete i q.rule));
    }
      where
        clauses : length (passed p a s q).rules_holding ≤ clause_room
        clauses = unfold passed in rw (length-set s.rules_holding q.clause _) k.clauses

-- ---- the whole run

-- What stands after i places of the run of x, the bits being those after the flip.
pub record Going (tables terms bits : List ℕ) (x i : ℕ) (t : List ℕ) : Type 0 where
  pub tells : Tells (along (plan_of_tables tables terms) (flip (bits_in bits) x) (fresh_count (plan_of_tables tables terms) (flip (bits_in bits) x)) (take i (occurrences (plan_of_tables tables terms) x))) t

pub going_at : {tables terms bits t : List ℕ} {x i j : ℕ} → i ≡ j → Going tables terms bits x i t → Going tables terms bits x j t
going_at {tables} {terms} {bits} {t} {x} e g = subst (λ k. Going tables terms bits x k t) e g

unfoldable pub nowhere : Place
nowhere = record { clause = 0; rule = 0; term = 0 }

-- What the word w of place i of the run of x says, the bits before the flip being a.
pub record Visit (p : Plan) (a : Assignment) (x i w : ℕ) : Type 0 where
  pub place : word_place w ≡ get_or (occurrences p x) i nowhere
  pub spelt : w ≡ place_word p (word_place w)
  pub small : Small (word_place w)
  pub named : Named p x (word_place w)
  pub midway : Midway p a x (along p a (fresh_count p a) (take i (occurrences p x))) (word_place w)

module _ {tables terms bits t₀ : List ℕ} {x : ℕ} (y : Followable tables terms bits t₀ x) where
  abbrev p : Plan
  p = plan_of_tables tables terms

  -- The bits before the flip.
  abbrev a : Assignment
  a = flip (bits_in bits) x

  abbrev run : List Place
  run = occurrences (plan_of_tables tables terms) x

  laid : Laid tables terms
  laid = y.ready.laid

  l : RoomyPlan p
  l = parts tables terms laid

  arranged : Arranged p (word_at tables)
  arranged = holds_arranged p l tables terms laid.holds

  rise : T (numbers_rise p)
  rise = rises tables terms laid

  pub inside_bits : x ≤ length (flip (bits_in bits) x)
  unfolding bits_in
  inside_bits = rw (length_flip (bits_in bits) x ∙ length-map bits (λ b. eqb b 1)) (omega (arith, y.high, y.ready.bytes))

  pub follow_room : tally_size ≤ length t₀
  follow_room = omega (arith, sym (length-take tally_size t₀) ∙ ap length y.fresh ∙ length_fresh p (roomy_fits p laid.room) a)

  rules_count : length (fresh_count p a).true_weights ≡ length (rules_of p)
  unfolding fresh_count
  rules_count = length-map (rules_of p) (λ r. P a r.terms)

  clauses_count : length (fresh_count p a).rules_holding ≡ length p.clauses
  unfolding fresh_count
  clauses_count = length-map p.clauses (count_of (rule_holds a))

  pub going_start : Going tables terms bits x 0 t₀
  unfolding along
  going_start = record {
    tells = record {
      rules = omega (arith, rules_count, l.rule_count);
      clauses = omega (arith, clauses_count, l.clause_count);
      words = λ i h. unfold tally_word in fresh_words p laid.room a t₀ y.fresh i h;
    };
  }

  -- How long the run is, and where it stands.
  pub run_start : word_at tables (end_at (x - 1)) ≡ run_end (plan_of_tables tables terms) (x - 1)
  run_start = arranged.ends (x - 1) (omega (arith, y.high))

  pub run_size : word_at tables (end_at x) ≡ word_at tables (end_at (x - 1)) + length (occurrences (plan_of_tables tables terms) x)
  run_size = arranged.ends x y.high ∙ end_next p x y.low ∙ ap (λ n. n + length run) (sym run_start)

  pub run_named : length (occurrences (plan_of_tables tables terms) x) ≡ rules_named (plan_of_tables tables terms) x
  run_named = occurrences_length p x rise

  pub run_terms : word_at tables (end_at x) ≤ term_count (plan_of_tables tables terms)
  run_terms = omega (arith, arranged.ends x y.high, ends_ordered p x p.variables y.high, last_end p (numbers_within_lem p l))

  pub run_few : word_at tables (end_at x) ≤ term_room
  run_few = omega (arith, run_terms, l.terms)

  pub places_few : x ≤ 512
  places_few = omega (arith, y.high, l.high)

  module _ {i w : ℕ} (h : i < length (occurrences (plan_of_tables tables terms) x)) (e : w ≡ word_at tables (entry_at (word_at tables (end_at (x - 1)) + i))) where
    q : Place
    q = get_or run i nowhere

    there : T (is_place p q)
    unfolding q
    there = all_at (is_place p) run i nowhere (occurrences_places p x) h

    named : Named p x q
    unfolding q
    named = named_of p x q (all_at (names_at p x) run i nowhere (occurrences_run p x rise).names h)

    small : Small q
    small = place_small p l q there

    word_here : w ≡ place_word p q
    unfolding q
    word_here =
        e ∙ ap (λ n. word_at tables (entry_at (n + i))) run_start
        ∙ ap (word_at tables) assoc
        ∙ spells_at (word_at tables) (entry_at (run_end p (x - 1))) (map (place_word p) run) (run_words p l (word_at tables) arranged x y.low y.high) (place_word p nowhere) i (rw (length-map run (place_word p)) h)
        ∙ get_or-map (place_word p) run i nowhere
      where
        assoc : entry_at (run_end p (x - 1) + i) ≡ entry_at (run_end p (x - 1)) + i
        assoc = omega arith

    place_here : word_place w ≡ q
    place_here = ap word_place word_here ∙ word_back p q small

    midway : Midway p a x (along p a (fresh_count p a) (take i run)) q
    unfolding q
    midway = midway_at p a x rise y.low inside_bits run i nowhere (occurrences_run p x rise) h

    pub visit : Visit (plan_of_tables tables terms) (flip (bits_in bits) x) x i w
    unfolding q
    visit = record {
      place = place_here;
      spelt = rw place_here word_here;
      small = rw place_here small;
      named = rw place_here named;
      midway = rw place_here midway;
    }

    abbrev s : Tallies
    s = along p a (fresh_count p a) (take i run)

    hr : q.rule < length s.true_weights
    hr = rw (along_rules p a (fresh_count p a) (take i run) ∙ rules_count) (named_below p x q named)

    hc : q.clause < length s.rules_holding
    hc = rw (along_clauses p a (fresh_count p a) (take i run) ∙ clauses_count) named.clause_there

    rule_there : q.rule < word_at tables 2
    rule_there = omega (arith, rules_word tables terms laid, named_below p x q named)

    rule_same : rule_of (word_at tables) (word_at terms) q.rule ≡ rule_at p q.rule
    rule_same = sym (rule_is p l (word_at tables) (word_at terms) (sections tables terms laid) q.rule (named_below p x q named))

    clause_few : length (get_or p.clauses q.clause []) ≤ rule_room
    unfolding rules_of
    clause_few = omega (arith, first_next p.clauses q.clause named.clause_there, first_within p.clauses (suc q.clause), l.rule_count)

    module _ {t : List ℕ} (g : Going tables terms bits x i t) where
      -- P of the rule is still that of the bits before.
      pub place_weight : word_at t (word_place w).rule ≡ P (flip (bits_in bits) x) (rule_at (plan_of_tables tables terms) (word_place w).rule).terms
      place_weight = rw place_here (before p a x q g.tells midway hr hc)

      pub place_moved :
          moved (literal_true (flip (bits_in bits) x) (literal (term_at (plan_of_tables tables terms) (word_place w)))) (size (term_at (plan_of_tables tables terms) (word_place w))) (word_at t (word_place w).rule)
          ≡ P (bits_in bits) (rule_at (plan_of_tables tables terms) (word_place w).rule).terms
      place_moved =
          ap (moved (literal_true a (literal (term_at p (word_place w)))) (size (term_at p (word_place w)))) (place_weight ∙ sym visit.midway.before)
          ∙ visit.midway.after
          ∙ ap (λ b. P b (rule_at p (word_place w).rule).terms) (flip_twice (bits_in bits) x)

      pub place_passable : tally_size ≤ length t → Passable (rule_at (plan_of_tables tables terms) (word_place w).rule) (word_place w).rule (word_place w).clause t
      place_passable room = rw place_here (midway_passable p a x q g.tells midway hr hc room clause_few l.clause_count)

      pub pass_ready : tally_size ≤ length t → ((word_place w).rule < word_at tables 2) × Passable (rule_of (word_at tables) (word_at terms) (word_place w).rule) (word_place w).rule (word_place w).clause t
      pass_ready room =
          rw (place_here, rule_same)
          (rule_there, midway_passable p a x q g.tells midway hr hc room clause_few l.clause_count)

      -- Once the place is passed, one more is.
      pub place_step : {u : List ℕ} → Passed (rule_at (plan_of_tables tables terms) (word_place w).rule) (bits_in bits) (word_place w).rule (word_place w).clause t u → Going tables terms bits x (i + 1) u
      unfolding q
      place_step {u} d =
          let d' : Passed (rule_at p q.rule) (flip a x) q.rule q.clause t u = rw (place_here, ← flip_twice (bits_in bits) x) at d in
          record { tells = rw (add-one i, along_next p a (fresh_count p a) run i nowhere h) (tells_passed p a x q g.tells midway hr hc d') }

      pub pass_step : {u : List ℕ} → Passed (rule_of (word_at tables) (word_at terms) (word_place w).rule) (bits_in bits) (word_place w).rule (word_place w).clause t u → Going tables terms bits x (i + 1) u
      pass_step d = place_step (rw (ap (rule_of (word_at tables) (word_at terms)) (ap (λ z. z.rule) place_here) ∙ rule_same ∙ ap (λ z. rule_at p z.rule) (sym place_here)) at d)

  -- Behind the last place they are those of the flipped bits.
  pub going_end : {i : ℕ} {t : List ℕ} → Going tables terms bits x i t → i ≡ length (occurrences (plan_of_tables tables terms) x) → Below 256 t → tally_size ≤ length t → take tally_size t ≡ tally_bytes (fresh_count (plan_of_tables tables terms) (bits_in bits))
  going_end {i} {t} g e b room = words_fresh p laid.room (bits_in bits) t b room words
    where
      last : along p a (fresh_count p a) (take i run) ≡ fresh_count p (bits_in bits)
      last =
          ap (λ n. along p a (fresh_count p a) (take n run)) e
          ∙ ap (along p a (fresh_count p a)) (take-length run)
          ∙ flip_along p a x rise y.low inside_bits
          ∙ ap (fresh_count p) (flip_twice (bits_in bits) x)

      words : (j : ℕ) → j < tally_word_count → word_at t j ≡ tally_word p (bits_in bits) j
      words j h = unfold tally_word in g.tells.words j h ∙ ap (λ z. get_or (tally_words z) j 0) last

  pub going_whole : {i : ℕ} {t : List ℕ} → Going tables terms bits x i t → Inside t₀ t → i ≡ length (occurrences (plan_of_tables tables terms) x) → Below 256 t → t ≡ with_tallies (plan_of_tables tables terms) (bits_in bits) t₀
  going_whole {i} {t} g n e b = sym (take-append-drop tally_size t) ∙ ap₂ ◌++◌ (going_end g e b (rw n.size follow_room)) n.beyond

-- ---- a flip

module _ (tables terms assignment tallies : List ℕ) (x : ℕ) (f : Flippable tables terms assignment tallies x) {w : List ℕ} {n : ℕ} (e : w ≡ turned assignment x) (d : n ≡ word_at tables 0) where
  turned_ready : Ready tables terms w
  turned_ready = record { laid = f.ready.laid; bytes = rw (ap length e ∙ length_turned assignment x) f.ready.bytes }

  -- The first bytes are the flipped bits.
  pub turned_here : bits_in (take n w) ≡ bits_of (plan_of_tables tables terms).variables (turned assignment x)
  turned_here = first_bits_of tables terms w turned_ready n d ∙ ap (bits_of (plan_of_tables tables terms).variables) e

  flipped_bits : bits_in (take n w) ≡ flip (bits_of (plan_of_tables tables terms).variables assignment) x
  flipped_bits =
      turned_here
      ∙ turned_bits _ assignment x f.bits f.ready.bytes f.low f.high

  pub turned_long : n ≤ length w
  turned_long = omega (arith, d, turned_ready.bytes, variables_word tables terms f.ready.laid)

  pub follow_ready : {v : ℕ} → v ≡ x → Followable tables terms (take n w) tallies v
  follow_ready e = rw e (record {
    ready = first_ready tables terms w turned_ready n d;
    low = f.low;
    high = f.high;
    fresh = f.fresh ∙ ap (λ b. tally_bytes (fresh_count (plan_of_tables tables terms) b)) (sym (ap (λ b. flip b x) flipped_bits ∙ flip_twice _ x));
  })

  pub flip_counted : {u : List ℕ} → u ≡ with_tallies (plan_of_tables tables terms) (bits_in (take n w)) tallies → u ≡ recounted tables terms (turned assignment x) tallies
  flip_counted {u} h = first_counted tables terms w turned_ready n d tallies _ u refl h ∙ ap (λ b. recounted tables terms b tallies) e
