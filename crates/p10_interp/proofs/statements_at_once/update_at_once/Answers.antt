-- The place is a variable.
use Rattle.std.proofs.Common.{sym, ap, subst}
use Rattle.p10_core.specs.Types.{plain_type}
use Rattle.p10_core.specs.Typed.{place, update}
use Rattle.p10_core.specs.Views.{plain_program, plain_value, plain_place_form}
use Rattle.p10_interp.specs.private.OpenCalls.{calls_in}
use Rattle.p10_interp.specs.private.Machines.{state_of}
use Rattle.p10_interp.specs.private.Executing.{Executes}
use Rattle.p10_interp.proofs.statements_at_once.update_at_once.Goals as goal

pub returns-in-Var-clause-done : goal.returns-in-Var-clause-done
returns-in-Var-clause-done c = λ io f around e.
    subst (λ form. Executes (plain_program c.args.p.now) (update c.args.applied.0 c.args.applied.1 (plain_type c.args.applied.2.now) (place c.args.parts.0.now.at (plain_type c.args.parts.0.now.ty) form) (plain_value c.args.parts.1.now)) c.update_variable.result f around (state_of c.args.outside.now io) (calls_in c.update_variable.new.calls) (state_of c.update_variable.new.outside io)) (sym (ap plain_place_form c.in-Var.is))
    (c.update_variable.ensures.done c.args.applied.0 c.args.parts.0.now.at io f around e)
