-- The walk's columns: of each rule K, A and B and what a flip needs to spoil it, of each entry of the order its weight, of each variable where to look first, of
-- each clause the variables that may be chosen. All but the needs and the hints are worked out from the plan alone.
-- Assumes nothing.
use Rattle.std.specs.Prelude.{ℕ, zero, suc, ◌+◌, ◌*◌, ◌-◌, ◌%◌, ◌≤◌, ◌<◌, ◌≡◌, false, List, [], map, length, get_or}
use Rattle.plpb.specs.Lists.{row}
use Rattle.plpb.specs.Plan.{Bound, absent, present, Rule, Plan}
use Rattle.plpb.specs.Normal.{K, size, size_a, size_b}
use Rattle.plpb.specs.Tallies.{rules_of}
use Rattle.plpb.specs.Choice.{choosable}
use Rattle.words.specs.Words.{word_at}
use Rattle.order.specs.Order.{Place, order, run_end, rule_at, term_at, term_count, first_rule, has_several, place_word}
use Rattle.order.specs.Mentions.{terms_before}
use Rattle.format.specs.Limits.{max_variables}
use Rattle.columns.specs.Layout.{total_at, lower_size_at, upper_size_at, need_at, kept_size, hint_at, side_hints, weight_at, list_count_at, list_at, column_size}

-- The word of what is not there: above every size and every weight.
abbrev pub never : ℕ
never = 4_294_967_295

-- A or B in a word.
unfoldable pub size_word : Bound ℕ → ℕ
size_word absent = never
size_word (present k) = k

-- How much weight must come to m before as many are there as a part of this size takes. A bound that is absent has no part, and an empty part is false before
-- the flip already: no weight spoils it.
unfoldable pub need : Bound ℕ → ℕ → ℕ
need absent m = never
need (present zero) m = never
need (present (suc k)) m = suc k - m

-- K, A and B of a rule, by words f.
pub record SizedRule (q : Rule) (f : ℕ → ℕ) (r : ℕ) : Type 0 where
  pub total : f (total_at r) ≡ K q.terms
  pub lower : f (lower_size_at r) ≡ size_word (size_a q)
  pub upper : f (upper_size_at r) ≡ size_word (size_b q)

pub record Sized (p : Plan) (tallies : List ℕ) : Type 0 where
  pub room : kept_size ≤ length tallies
  pub each : (r : ℕ) → r < length (rules_of p) → SizedRule (rule_at p r) (word_at tallies) r

-- The needs of a rule's sides, told by the P that stands in the tallies: a false literal that is turned over adds its weight to P, a true one to N = K − P.
pub record NeededRule (q : Rule) (f : ℕ → ℕ) (r : ℕ) : Type 0 where
  pub off : f (need_at (2 * r)) ≡ need (size_b q) (f r)
  pub on : f (need_at (2 * r + 1)) ≡ need (size_a q) (K q.terms - f r)

pub record Needed (p : Plan) (tallies : List ℕ) : Type 0 where
  pub each : (r : ℕ) → r < length (rules_of p) → NeededRule (rule_at p r) (word_at tallies) r

-- A place that names nothing.
unfoldable pub no_place : Place
no_place = record { clause = 0; rule = 0; term = 0 }

-- The weight of each entry of the order.
pub record Weighed (p : Plan) (marks : List ℕ) : Type 0 where
  pub room : column_size ≤ length marks
  pub each : (k : ℕ) → k < term_count p → word_at marks (weight_at k) ≡ size (term_at p (get_or (order p) k no_place))

-- A hint that tells a side: the weight of the place's term, with 2 more, so that no place's number is as large, and below it rule and sign, as the order's
-- word has them in its 12 low bits.
unfoldable pub hint_of : Plan → Place → ℕ
hint_of p q = 4_096 * (size (term_at p q) + 2) + place_word p q % 4_096

-- Something holds of a place of the variable's run in a clause of one rule.
pub record AtSingle (p : Plan) (x : ℕ) (P : Place → Type 0) : Type 0 where
  pub at : ℕ
  pub first : run_end p (x - 1) ≤ at
  pub last : at < run_end p x
  pub single : has_several (get_or p.clauses (get_or (order p) at no_place).clause []) ≡ false
  pub told : P (get_or (order p) at no_place)

-- A hint of a variable is that of such a place, if it tells a side.
abbrev pub Tells : Plan → ℕ → ℕ → Type 0
Tells p x w = side_hints ≤ w → AtSingle p x (λ q. w ≡ hint_of p q)

pub record Hinted (p : Plan) (marks : List ℕ) : Type 0 where
  pub each : (x : ℕ) → 1 ≤ x → x ≤ p.variables → Tells p x (word_at marks (hint_at x))

-- No hint tells a side.
pub record Unhinted (marks : List ℕ) : Type 0 where
  pub each : (x : ℕ) → 1 ≤ x → x ≤ max_variables → word_at marks (hint_at x) < side_hints

-- Words in a row.
unfoldable pub words_from : (ℕ → ℕ) → ℕ → ℕ → List ℕ
words_from f i k = map f (row i k)

-- How many terms stand before a clause's.
unfoldable pub terms_ahead : Plan → ℕ → ℕ
terms_ahead p c = terms_before p (first_rule p.clauses c)

-- The variables that may be chosen of each clause.
pub record ListedClause (p : Plan) (f : ℕ → ℕ) (c : ℕ) : Type 0 where
  pub counted : f (list_count_at c) ≡ length (choosable p (get_or p.clauses c []))
  pub listed : words_from f (list_at (terms_ahead p c)) (length (choosable p (get_or p.clauses c []))) ≡ choosable p (get_or p.clauses c [])

pub record Listed (p : Plan) (marks : List ℕ) : Type 0 where
  pub room : column_size ≤ length marks
  pub each : (c : ℕ) → c < length p.clauses → ListedClause p (word_at marks) c
