-- `loaded::Counted::chain` meets its contract. The invariant: the chain from here on is good where the whole chain is.
-- Assumes nothing.
use Prim.Native.Nat.{ℕ, ◌+◌, ◌*◌, ◌-◌, ◌≤◌}
use mathlib.Core.Path.{◌≡◌}
use mathlib.Core.List.{List}
use Rattle.words.specs.Words.{word_at}
use Rattle.format.specs.Good.{chain_from}
use Rattle.loaded.proofs.Counted.chain.Given as goal

-- Where the places of entry i begin, and how many they are.
abbrev pub first : ℕ → ℕ → List ℕ → ℕ → ℕ
first at width t i = word_at t (at + width * i)

abbrev pub count : ℕ → ℕ → List ℕ → ℕ → ℕ
count at width t i = word_at t (at + 1 + width * i)

abbrev pub invariant-loop-i : goal.invariant-loop-i
invariant-loop-i g l =
    (l.i ≤ l.entries) × (l.at ≤ l.end)
    × (chain_from (first g.row.FIRST g.row.WIDTH l.self.tables.now) (count g.row.FIRST g.row.WIDTH l.self.tables.now) l.end l.at l.i (l.entries - l.i)
    ≡ chain_from (first g.row.FIRST g.row.WIDTH l.self.tables.now) (count g.row.FIRST g.row.WIDTH l.self.tables.now) l.end 0 0 l.entries)
