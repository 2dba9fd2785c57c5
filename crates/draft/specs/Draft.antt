-- The parts of the plan file of two lists, as the code writes them one behind the other.
-- Assumes nothing.
use Rattle.std.specs.Prelude.{ℕ, ◌+◌, ◌≤◌, ◌≡◌, Bool, true, false, cond, List, ◌∷◌, ◌++◌, map, ltb, length, Option, None, Some}
use Rattle.plpb.specs.Lists.{all, concat}
use Rattle.words.specs.Words.{bytes_of}
use Rattle.words.specs.Writes.{put}
use Rattle.format.specs.Writer.{term_bytes, clause_fields}
use Rattle.cells.specs.declared.value.Value.{Value}
use Rattle.cells.specs.Values.{gather}
use Rattle.lists.specs.Lists.{Site, in_zone, terms_by, zone_clause}
use Rattle.lists.specs.Refusals.{Entry, site_of, zone_of}

-- What a site weighs: 1 in the zone and 0 elsewhere, or its metres.
unfoldable pub weigh : Bool → List ℕ → Site → ℕ
weigh true name s = cond (in_zone name s) 1 0
weigh false name s = s.metres

-- The bytes of the sites' terms.
unfoldable pub terms_of : Bool → List ℕ → List Entry → List ℕ
terms_of byZone name xs = concat (map term_bytes (terms_by (weigh byZone name) 1 (map site_of xs)))

-- A value's bytes are a name: at most 16, each a byte.
pub record Named (v : Value) (name : List ℕ) : Type 0 where
  pub gathered : v ≡ gather name
  pub short : length name ≤ 16
  pub bytes : all (λ b. ltb b 256) name ≡ true

-- The mode of a zone's rule: 3 with a lower bound, 2 without one.
abbrev pub mode_of : Option ℕ → ℕ
mode_of None = 2
mode_of (Some lower) = 3

-- The body of a rule's field.
unfoldable pub rule_body : ℕ → ℕ → ℕ → List ℕ → List ℕ
rule_body mode least most terms = mode ∷ (bytes_of 4 least ++ (bytes_of 4 most ++ terms))

-- The bytes of the zones' clauses.
unfoldable pub clauses_of : List Entry → List Entry → List ℕ
clauses_of sites zones = concat (map clause_fields (map (zone_clause (map site_of sites)) (map zone_of zones)))

-- Bytes were written over those of a buffer from a place on, and the answer is the place behind them.
pub record Wrote (at : ℕ) (bs entry exit : List ℕ) (r : ℕ) : Type 0 where
  pub written : exit ≡ put at bs entry
  pub behind : r ≡ at + length bs
