-- A read that stops stops the operation.
use Rattle.std.proofs.Common.{◌∙◌, sym, ap, Err}
use Rattle.std.proofs.lemmas.Result.{err_from_is_err_and}
use Rattle.p10_core.specs.Types.{plain_type}
use Rattle.p10_interp.specs.private.Views.{target_of}
use Rattle.p10_interp.specs.private.Machines.{state_of}
use Rattle.p10_interp.proofs.Assigned.{read_stops}
use Rattle.p10_interp.proofs.assignments.read.Goals as goal

pub returns-in_err-x-clause-done : goal.returns-in_err-x-clause-done
returns-in_err-x-clause-done c = λ p io f calls e.
    let s = err_from_is_err_and c.from_residual.result c.from_residual.ensures.1 in
    read_stops p c.args.span (plain_type c.args.t.now) c.args.stacks.now.operands f calls (state_of c.args.outside.now io) (state_of c.read_target.new.outside io) (target_of c.in-Some.target) c.from_residual.result _ _ (sym c.in-Some.ensures.found) (s.1 ∙ ap (λ y. Err y) s.2) (c.in_err-x.ensures io f calls e)
