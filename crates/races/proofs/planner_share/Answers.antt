-- `races::planner_share` meets its contract, which is what is told of the split of the stakes that were taken.
-- Assumes nothing.
use mathlib.Core.Path.{sym, ap, ◌∙◌, subst}
use Rattle.std.specs.Prelude.{Result, List}
use Rattle.division.specs.declared.Parts.{Parts}
use Rattle.division.specs.declared.Stakes.{Stakes}
use Rattle.division.specs.declared.Refusal.{Refusal}
use Rattle.division.specs.declared.Part.{Part}
use Rattle.division.specs.Eight.{refusal_in, parts_in, divided}
use Rattle.division.proofs.Plain.{Told, divided_told}
use Rattle.races.specs.Races.{stakes_of, placed}
use Rattle.races.proofs.planner_share.Goals as goal

pub returns-in-Ok : goal.returns-in-Ok
unfolding refusal_in parts_in
returns-in-Ok c =
    let races = c.args.races.now in
    let d = sym (ap (λ (s : Stakes). divided s c.args.numbers) c.stakes_of.ensures) ∙ sym c.divide.ensures ∙ c.in-Ok.is in
    let t = subst (λ (r : Result Parts Refusal). Told 0 (stakes_of races) c.args.numbers r) d (divided_told (stakes_of races) c.args.numbers) in
    (t.refusal, c.put_parts.ensures ∙ ap (λ (ps : List Part). placed ps races) t.parts)

pub returns-in-Err : goal.returns-in-Err
unfolding refusal_in parts_in placed
returns-in-Err c =
    let races = c.args.races.now in
    let d = sym (ap (λ (s : Stakes). divided s c.args.numbers) c.stakes_of.ensures) ∙ sym c.divide.ensures ∙ c.in-Err.is in
    let t = subst (λ (r : Result Parts Refusal). Told 0 (stakes_of races) c.args.numbers r) d (divided_told (stakes_of races) c.args.numbers) in
    (c.from.ensures ∙ t.refusal, ap (λ (ps : List Part). placed ps races) t.parts)
