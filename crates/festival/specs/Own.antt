-- "Each race's answer and assignment equal those of a search of its own with its part, so another race's plan, settings or refusal cannot change it"
-- (02, T-10): races of any number searched one after another with the same work tables, and each by itself.
-- Assumes nothing.
use Rattle.std.specs.Prelude.{ℕ, ◌≡◌, Bool, cond, List, [], ◌∷◌, ◌++◌, map, eqb, pos, length, drop, replicate}
use Rattle.plpb.specs.Lists.{any}
use Rattle.format.specs.Layout.{table_size, term_size}
use Rattle.columns.specs.Layout.{column_size, kept_size}
use Rattle.format.specs.Assignment.{assignment_size}
use Rattle.settings.specs.declared.Settings.{Settings as Asked}
use Rattle.answers.specs.declared.Answer.{Answer as Answered}
use Rattle.lending.specs.Lent.{Lent, lent_all, search_refusal}
use Rattle.search.specs.Calls.{answer, search_assignment, cleared, ending_number, unless}

-- The work tables of a search, which all races share.
pub record Works : Type 0 where
  pub tables : List ℕ
  pub terms : List ℕ
  pub assignment : List ℕ
  pub tallies : List ℕ
  pub marks : List ℕ

abbrev pub works : (tables terms assignment tallies marks : List ℕ) → Works
works tables terms assignment tallies marks =
    record { tables = tables; terms = terms; assignment = assignment; tallies = tallies; marks = marks }

-- What else a race's own search is lent, and how it is set: its plan, its part of the list, its assignment.
pub record Entry : Type 0 where
  pub tables : List ℕ
  pub terms : List ℕ
  pub numbers : List ℕ
  pub assignment : List ℕ
  pub asked : Asked

abbrev pub lent_to : Works → Entry → Lent
lent_to w e =
    lent_all e.tables e.terms e.numbers e.assignment w.tables w.terms w.assignment w.tallies w.marks

-- What a search answers.
unfoldable pub answered : Lent → Asked → Answered
answered l k =
    record {
      refusal = search_refusal l k;
      ending = unless l k 0 (ending_number (answer l k).ending);
      cost = unless l k (pos 0) (answer l k).cost;
      finds = unless l k 0 (answer l k).finds;
      flips = unless l k 0 (answer l k).flips;
      used = unless l k 0 (answer l k).used;
    }

-- What a race comes to.
pub record Raced : Type 0 where
  pub answer : Answered
  pub assignment : List ℕ

-- A search of its own.
unfoldable pub own : Works → Entry → Raced
own w e = record { answer = answered (lent_to w e) e.asked; assignment = search_assignment (lent_to w e) e.asked }

-- The work tables that it leaves.
unfoldable pub leaves : Works → Entry → Works
leaves w e =
    let l = lent_to w e in
    let k = e.asked in
    record {
      tables = cleared l k table_size w.tables;
      terms = cleared l k term_size w.terms;
      assignment = cleared l k assignment_size w.assignment;
      tallies = cleared l k kept_size w.tallies;
      marks = cleared l k column_size w.marks;
    }

-- Races one after another, each lent the work tables that the one before it left; and the work tables in the end.
unfoldable pub in_turn : Works → List Entry → List Raced
in_turn w [] = []
in_turn w (e ∷ es) = own w e ∷ in_turn (leaves w e) es

unfoldable pub left_by : Works → List Entry → Works
left_by w [] = w
left_by w (e ∷ es) = left_by (leaves w e) es

-- Whether a race's search is not refused.
unfoldable pub accepts : Works → Entry → Bool
accepts w e = eqb (search_refusal (lent_to w e) e.asked) 0

-- "The work tables end filled with 0."
unfoldable pub clear : Works → Works
clear w =
    record {
      tables = replicate table_size 0 ++ drop table_size w.tables;
      terms = replicate term_size 0 ++ drop term_size w.terms;
      assignment = replicate assignment_size 0 ++ drop assignment_size w.assignment;
      tallies = replicate kept_size 0 ++ drop kept_size w.tallies;
      marks = replicate column_size 0 ++ drop column_size w.marks;
    }

-- Work tables of the same lengths.
pub record SameRoom (w v : Works) : Type 0 where
  pub tables : length w.tables ≡ length v.tables
  pub terms : length w.terms ≡ length v.terms
  pub assignment : length w.assignment ≡ length v.assignment
  pub tallies : length w.tallies ≡ length v.tallies
  pub marks : length w.marks ≡ length v.marks

-- The claim, for any number of races: nothing that an earlier race left is in a race's answer or assignment, and the work tables are as they were lent
-- where every race is refused, and cleared else.
pub record Apart : Type 0 where
  pub alone : (w v : Works) (e : Entry) → SameRoom w v → own w e ≡ own v e
  pub in_turn : (w : Works) (es : List Entry) → in_turn w es ≡ map (own w) es
  pub left : (w : Works) (es : List Entry) → left_by w es ≡ cond (any (accepts w) es) (clear w) w
