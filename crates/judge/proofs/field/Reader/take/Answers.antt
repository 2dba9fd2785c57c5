-- `judge::field::take` meets its contract: the faults of the head, then those of the body.
-- Assumes nothing.
use mathlib.Core.Path.{sym, ◌∙◌}
use Rattle.faults.specs.Faults.{state_of}
use Rattle.bodies.proofs.Found.{not_none, found_err}
use Rattle.judge.proofs.Judged.{headed, fault_head, fault_body}
use Rattle.judge.proofs.field.Reader.take.Goals as goal

pub returns-in_err-taken-clause-fault : goal.returns-in_err-taken-clause-fault
unfolding state_of
returns-in_err-taken-clause-fault c =
    let e = c.in_err-taken.ensures.fault in
    found_err _ _ c.from_residual.ensures.1 ∙ e ∙ fault_head _ (state_of c.args.self.st) (λ z. not_none _ (e ∙ z))

pub body_fault-requires : goal.body_fault-requires
body_fault-requires c = headed _ _ _ (sym c.in_ok-taken.ensures.fault)

pub returns-in_err-body_fault-clause-fault : goal.returns-in_err-body_fault-clause-fault
unfolding state_of
returns-in_err-body_fault-clause-fault c =
    found_err _ _ c.from_residual-in_err-body_fault.ensures.1 ∙ c.in_err-body_fault.ensures ∙ fault_body _ (state_of c.args.self.st) c.in_ok-taken.ensures.fault

pub returns-clause-fault : goal.returns-clause-fault
unfolding state_of
returns-clause-fault c = c.in_ok-body_fault.ensures ∙ fault_body _ (state_of c.args.self.st) c.in_ok-taken.ensures.fault
