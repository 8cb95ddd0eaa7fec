-- The place is a variable.
use Rattle.std.proofs.Common.{sym, ap, subst}
use Rattle.p10_core.specs.Types.{plain_type}
use Rattle.p10_core.specs.Typed.{place, set}
use Rattle.p10_core.specs.Views.{plain_program, plain_value, plain_place_form}
use Rattle.p10_interp.specs.private.OpenCalls.{calls_in}
use Rattle.p10_interp.specs.private.Machines.{state_of}
use Rattle.p10_interp.specs.private.Executing.{Executes}
use Rattle.p10_interp.proofs.statements_at_once.set_at_once.Goals as goal

pub returns-then-is_frame_variable-clause-done : goal.returns-then-is_frame_variable-clause-done
returns-then-is_frame_variable-clause-done c = λ io f around e.
    subst (λ form. Executes (plain_program c.args.p.now) (set (place c.args.parts.0.now.at (plain_type c.args.parts.0.now.ty) form) (plain_value c.args.parts.1.now)) c.set_variable_at_once.result f around (state_of c.args.outside.now io) (calls_in c.set_variable_at_once.new.calls) (state_of c.set_variable_at_once.new.outside io)) (sym (ap plain_place_form c.in-Var.is))
    (c.set_variable_at_once.ensures.done c.args.parts.0.now.at (plain_type c.args.parts.0.now.ty) io f around e)
