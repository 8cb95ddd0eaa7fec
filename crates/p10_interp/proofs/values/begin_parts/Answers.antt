-- The parts of each form come next.
use Rattle.std.proofs.Common.{◌∙◌, ap}
use Rattle.p10_core.specs.declared.typed.Value.{Value}
use Rattle.p10_core.specs.Types.{plain_type}
use Rattle.p10_core.specs.Typed.{value}
use Rattle.p10_core.specs.Views.{plain_value, plain_form}
use Rattle.p10_core.proofs.Lists.{plain_call, plain_built_in}
use Rattle.p10_interp.specs.private.Tasks.{evaluate_value, call_function, call_library, operate}
use Rattle.p10_interp.specs.private.Views.{choice_of}
use Rattle.p10_interp.proofs.Begun.{begun_by, two_tasks, arguments_are}
use Rattle.p10_interp.proofs.values.begin_parts.Goals as goal

pub returns-in-Cond : goal.returns-in-Cond
returns-in-Cond c = λ p io f calls e.
    begun_by p c.args.value.now.at (plain_type c.args.value.now.ty) _ _ _ _ _ _ _ _ _ _ (ap plain_form c.in-Cond.is)
    (two_tasks _ _ _ _ _ _ _ _ _ _ _ (ap (λ (v : Value). evaluate_value (plain_value v)) c.deref-in-Cond.ensures)
    (ap (λ g. choice_of (value c.args.value.now.at (plain_type c.args.value.now.ty) g)) (ap plain_form c.in-Cond.is)) (c.go_on_with_two-in-Cond.ensures io f calls e))

pub returns-in-Call : goal.returns-in-Call
returns-in-Call c = λ p io f calls e.
    begun_by p c.args.value.now.at (plain_type c.args.value.now.ty) _ _ _ _ _ _ _ _ _ _ (ap plain_form c.in-Call.is ∙ plain_call _ _ _)
    (arguments_are (λ m. call_function c.in-Call.function m) _ _ _ _ _ _ _ _ _ c.as_slice.ensures (c.begin_call.ensures io f calls e))

pub returns-in-Builtin : goal.returns-in-Builtin
returns-in-Builtin c = λ p io f calls e.
    begun_by p c.args.value.now.at (plain_type c.args.value.now.ty) _ _ _ _ _ _ _ _ _ _ (ap plain_form c.in-Builtin.is ∙ plain_built_in _ _ _)
    (arguments_are (λ m. operate (call_library c.in-Builtin.function c.args.value.now.at.span (plain_type c.args.value.now.ty) m)) _ _ _ _ _ _ _ _ _ c.as_slice-in-Builtin.ensures (c.begin_library.ensures io f calls e))
