-- What `?` passes on is the refusal that it found.
-- Assumes nothing.
use mathlib.Core.Path.{◌≡◌, ap}
use Rattle.std.specs.Prelude.{Ok, Err, IsErrAnd}
use Rattle.verdict.specs.declared.Refusal.{Refusal}
use Rattle.verdict.specs.Answers.{Answer}

pub passed_on : (answer : Answer) (refusal : Refusal) → IsErrAnd answer (λ other. other ≡ refusal) → answer ≡ Err refusal
passed_on (Ok u) refusal h = absurd h
passed_on (Err other) refusal h = ap (λ (x : Refusal). Err x) h
