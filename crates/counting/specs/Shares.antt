-- The shares of a rule and of a clause, as the code has them: capped, and joined rule by rule.
-- Assumes nothing.
use Rattle.std.specs.Prelude.{◌+◌, ◌*◌, List, [], ◌∷◌}
use Rattle.plpb.specs.Count.{capped}
use Rattle.plpb.specs.Equations.{Shares as SharesOf}
use Rattle.counting.specs.declared.shares.Shares.{Shares}
use Rattle.counting.specs.Count.{number}

-- The three numbers that a Shares of the code says.
abbrev pub shares_in : Shares → SharesOf
shares_in s = record { e = number s.e; f = number s.f; g = number s.g }

-- Each of the three capped.
unfoldable pub capped_shares : SharesOf → SharesOf
capped_shares s = record { e = capped s.e; f = capped s.f; g = capped s.g }

-- Those of a clause before its first rule: its one part is empty, and stays unsatisfied.
unfoldable pub start_shares : SharesOf
start_shares = record { e = 0; f = 0; g = 1 }

-- Those of each part joined with each: spoiled are the spoiled ones joined with what is false after the flip, and those that stay
-- false joined with the spoiled; mended likewise, with what is false before it.
unfoldable pub joined_shares : SharesOf → SharesOf → SharesOf
joined_shares s t =
    record {
      e = s.e * (t.e + t.g) + s.g * t.e;
      f = s.f * (t.f + t.g) + s.g * t.f;
      g = s.g * t.g;
    }

-- Those of a run of rules, joined one after another to what the rules before them gave.
unfoldable pub joined_along : {A : Type 0} → (A → SharesOf) → SharesOf → List A → SharesOf
joined_along f s [] = s
joined_along f s (r ∷ rs) = joined_along f (joined_shares s (f r)) rs
