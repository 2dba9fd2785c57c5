-- The sections of the tables of a plan, each as its words.
-- Assumes nothing.
use Rattle.std.specs.Prelude.{ℕ, ◌≡◌, ◌*◌, ◌-◌, Bool, List, [], ◌∷◌, map, leb}
use Rattle.plpb.specs.Lists.{◌and◌, all, row}
use Rattle.plpb.specs.Plan.{Term, Plan, lock_of}
use Rattle.plpb.specs.Tallies.{rules_of}
use Rattle.words.specs.Words.{bytes_of, unsigned}
use Rattle.words.specs.Writes.{put}
use Rattle.format.specs.Tables.{coefficient, pad_to, clause_entries, rule_entries, lock_word}
use Rattle.format.specs.Layout.{clause_word_count, rule_word_count}
use Rattle.tables.specs.declared.sections.Entry.{Entry}

unfoldable pub objective_words : Plan → List ℕ
objective_words p = map (λ x. unsigned (coefficient p.objective x)) (row 1 512)

unfoldable pub clause_words : Plan → List ℕ
clause_words p = pad_to clause_word_count (clause_entries 0 p.clauses)

unfoldable pub rule_words : Plan → List ℕ
rule_words p = pad_to rule_word_count (rule_entries 0 (rules_of p))

unfoldable pub lock_words : Plan → List ℕ
lock_words p = map (λ x. lock_word (lock_of p x)) (row 1 512)

-- Terms written over a table that is dense by variable: each at its variable's place.
unfoldable pub placed : List Term → List ℕ → List ℕ
placed [] t = t
placed (x ∷ ts) t = placed ts (put (4 * (x.variable - 1)) (bytes_of 4 (unsigned x.weight)) t)

-- An entry that is read lays a term there.
abbrev pub Lays : Entry → Term → Type 0
Lays e t = (e.variable ≡ t.variable) × (e.word ≡ unsigned t.weight)

-- Terms whose variables have a place there.
unfoldable pub in_range : List Term → Bool
in_range ts = all (λ t. leb 1 t.variable and leb t.variable 512) ts
