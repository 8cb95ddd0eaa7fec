-- The value is a call.
use Rattle.std.proofs.Common.{sym, ap, subst, ◌∙◌, List}
use Rattle.p10_core.specs.declared.typed.Value.{Value}
use Rattle.p10_core.specs.Types.{plain_type}
use Rattle.p10_core.specs.Typed.{value, call, place, variable, set}
use Rattle.p10_core.specs.Views.{plain_program, plain_form, plain_values}
use Rattle.p10_core.proofs.Lists.{plain_call}
use Rattle.p10_interp.specs.private.OpenCalls.{calls_in}
use Rattle.p10_interp.specs.private.Machines.{state_of}
use Rattle.p10_interp.specs.private.Executing.{Executes}
use Rattle.p10_interp.proofs.statements_at_once.set_variable_at_once.Goals as goal

pub returns-in-Call-clause-done : goal.returns-in-Call-clause-done
returns-in-Call-clause-done c = λ at t io f around e.
    subst (λ form. Executes (plain_program c.args.p.now) (set (place at t (variable c.args.number)) (value c.args.value.now.at (plain_type c.args.value.now.ty) form)) c.set_by_call.result f around (state_of c.args.outside.now io) (calls_in c.set_by_call.new.calls) (state_of c.set_by_call.new.outside io)) (sym (ap plain_form c.in-Call.is ∙ plain_call _ _ _))
    (subst (λ (vs : List Value). Executes (plain_program c.args.p.now) (set (place at t (variable c.args.number)) (value c.args.value.now.at (plain_type c.args.value.now.ty) (call c.in-Call.field-0 c.in-Call.function (plain_values vs)))) c.set_by_call.result f around (state_of c.args.outside.now io) (calls_in c.set_by_call.new.calls) (state_of c.set_by_call.new.outside io)) c.as_slice.ensures
    (c.set_by_call.ensures.done at c.args.value.now.at t (plain_type c.args.value.now.ty) c.in-Call.field-0 io f around e))
