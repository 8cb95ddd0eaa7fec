-- The value is a call.
use Rattle.std.proofs.Common.{sym, ap, ◌∙◌, List}
use Rattle.p10_core.specs.declared.typed.Value.{Value}
use Rattle.p10_core.specs.Types.{plain_type}
use Rattle.p10_core.specs.Typed.{value, call}
use Rattle.p10_core.specs.Views.{plain_program, plain_value, plain_values, plain_form}
use Rattle.p10_core.proofs.Lists.{plain_call}
use Rattle.p10_interp.specs.private.Tasks.{evaluate_value}
use Rattle.p10_interp.proofs.TurnedAtOnce.{does_as, call_does}
use Rattle.p10_interp.proofs.doing_at_once.evaluate_at_once.Goals as goal

pub returns-in-Call-clause-ok : goal.returns-in-Call-clause-ok
returns-in-Call-clause-ok c =
    does_as (plain_program c.args.p.now) (evaluate_value (plain_value c.args.value.now)) (evaluate_value (value c.args.value.now.at (plain_type c.args.value.now.ty) (call c.in-Call.field-0 c.in-Call.function (plain_values c.as_slice.result.now)))) c.args.stacks.now c.evaluate_call.new.stacks c.args.outside.now c.evaluate_call.new.outside c.evaluate_call.result
    (ap (λ form. evaluate_value (value c.args.value.now.at (plain_type c.args.value.now.ty) form)) (ap plain_form c.in-Call.is ∙ plain_call _ _ _) ∙ ap (λ (vs : List Value). evaluate_value (value c.args.value.now.at (plain_type c.args.value.now.ty) (call c.in-Call.field-0 c.in-Call.function (plain_values vs)))) (sym c.as_slice.ensures))
    (call_does (plain_program c.args.p.now) c.args.value.now.at (plain_type c.args.value.now.ty) c.in-Call.field-0 c.in-Call.function (plain_values c.as_slice.result.now) c.args.stacks.now c.evaluate_call.new.stacks c.args.outside.now c.evaluate_call.new.outside c.evaluate_call.result c.evaluate_call.ensures.ok)
