-- A festival: the races' parts, what each race is lent in the buffers that all share, and what the call leaves in them (02, T-10).
-- Assumes nothing.
use Rattle.std.specs.Prelude.{ℕ, suc, ◌+◌, ◌*◌, ◌<◌, ◌≤◌, ◌≡◌, cond, List, [], ◌∷◌, map, ltb, length, get_or, take, drop}
use Rattle.plpb.specs.Lists.{◌or◌, any, concat}
use Rattle.words.specs.Writes.{put, front}
use Rattle.format.specs.Assignment.{assignment_size}
use Rattle.division.specs.declared.Part.{Part}
use Rattle.exchange.specs.Exchange.{settings_size, answer_size, settings_at, answer_bytes}
use Rattle.festival.specs.declared.Given.{Given as Slices}
use Rattle.festival.specs.Own.{Works, Entry, own, leaves, accepts, clear}

-- What is read: the list of numbers, the settings, and the plans' tables and terms in the races' order.
pub record Given : Type 0 where
  pub numbers : List ℕ
  pub settings : List ℕ
  pub tables : List (List ℕ)
  pub terms : List (List ℕ)

abbrev pub given : (numbers settings : List ℕ) (tables terms : List (List ℕ)) → Given
given numbers settings tables terms = record { numbers = numbers; settings = settings; tables = tables; terms = terms }

-- What the slices hold that the code has of it.
abbrev pub given_in : Slices → Given
given_in g =
    given g.numbers.now g.settings.now
    (g.t1.now ∷ g.t2.now ∷ g.t3.now ∷ g.t4.now ∷ g.t5.now ∷ g.t6.now ∷ g.t7.now ∷ g.t8.now ∷ [])
    (g.e1.now ∷ g.e2.now ∷ g.e3.now ∷ g.e4.now ∷ g.e5.now ∷ g.e6.now ∷ g.e7.now ∷ g.e8.now ∷ [])

-- What is written: an assignment and an answer for each race, one behind the other, and the work tables.
pub record Buffers : Type 0 where
  pub assignments : List ℕ
  pub answers : List ℕ
  pub works : Works

abbrev pub buffers : (assignments answers : List ℕ) → Works → Buffers
buffers assignments answers w = record { assignments = assignments; answers = answers; works = w }

-- The place of one race among bytes that have `size` for each.
abbrev pub place : ℕ → ℕ → List ℕ → List ℕ
place size i s = take size (drop (size * i) s)

-- A part's numbers, 4 bytes each.
unfoldable pub part_of : List ℕ → Part → List ℕ
part_of numbers p = take (4 * p.length) (drop (4 * p.first) numbers)

-- Race i, from 0, with its part.
unfoldable pub entry : Given → List ℕ → ℕ → Part → Entry
entry g assignments i p =
    record {
      tables = get_or g.tables i [];
      terms = get_or g.terms i [];
      numbers = part_of g.numbers p;
      assignment = place assignment_size i assignments;
      asked = settings_at g.settings i;
    }

unfoldable pub entries : Given → List ℕ → ℕ → List Part → List Entry
entries g assignments i [] = []
entries g assignments i (p ∷ ps) = entry g assignments i p ∷ entries g assignments (suc i) ps

-- What the races leave: each race's answer and assignment are those of a search of its own with its part.
unfoldable pub raced : Given → List Part → Buffers → Buffers
raced g ps b =
    let w = b.works in
    let es = entries g b.assignments 0 ps in
    let rs = map (own w) es in
    record {
      assignments = front (concat (map (λ r. r.assignment) rs)) b.assignments;
      answers = front (concat (map (λ r. answer_bytes r.answer) rs)) b.answers;
      works = cond (any (accepts w) es) (clear w) w;
    }

-- One race: its search is made with the work tables as they are, and its two places are written.
unfoldable pub race_once : ℕ → Entry → Buffers → Buffers
race_once i e b =
    let r = own b.works e in
    record {
      assignments = put (assignment_size * i) r.assignment b.assignments;
      answers = put (answer_size * i) (answer_bytes r.answer) b.answers;
      works = leaves b.works e;
    }

unfoldable pub race_next : Given → ℕ → Part → Buffers → Buffers
race_next g i p b = race_once i (entry g b.assignments i p) b

-- What a race is lent lies within what the call is lent, by the lengths of the list, the settings, the assignments and the answers.
pub record Fits (i first size numbers settings assignments answers : ℕ) : Type 0 where
  pub race : i < 8
  pub part : 4 * first + 4 * size ≤ numbers
  pub setting : settings_size * i + settings_size ≤ settings
  pub assignment : assignment_size * i + assignment_size ≤ assignments
  pub answer : answer_size * i + answer_size ≤ answers

-- 21: the settings, the assignments and the answers have room for 8 races, by their lengths. What a race's search needs beside is judged by it.
unfoldable pub room_refusal : ℕ → ℕ → ℕ → ℕ
room_refusal settings assignments answers =
    cond (ltb settings (8 * settings_size) or ltb assignments (8 * assignment_size) or ltb answers (8 * answer_size)) 21 0

-- The claim for one race among any number: what the call leaves in its two places is what a search of its own gives, and nothing is written behind the
-- last race.
pub record OwnIn (g : Given) (ps : List Part) (b : Buffers) : Type 0 where
  pub assignment : (i : ℕ) (p : Part) → i < length ps
      → place assignment_size i (raced g ps b).assignments ≡ (own b.works (entry g b.assignments i (get_or ps i p))).assignment
  pub answer : (i : ℕ) (p : Part) → i < length ps
      → place answer_size i (raced g ps b).answers ≡ answer_bytes (own b.works (entry g b.assignments i (get_or ps i p))).answer
  pub assignments_behind : drop (assignment_size * length ps) (raced g ps b).assignments ≡ drop (assignment_size * length ps) b.assignments
  pub answers_behind : drop (answer_size * length ps) (raced g ps b).answers ≡ drop (answer_size * length ps) b.answers

abbrev pub EachOwn : Type 0
EachOwn = (g : Given) (ps : List Part) (b : Buffers) → assignment_size * length ps ≤ length b.assignments
    → answer_size * length ps ≤ length b.answers → OwnIn g ps b
