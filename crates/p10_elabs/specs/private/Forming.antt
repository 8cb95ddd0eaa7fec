-- What whole expressions become, form by form.
use Rattle.std.specs.Prelude.{zero, Ok}
use Rattle.p10_base.specs.declared.at.At.{At}
use Rattle.p10_syn.specs.declared.sign.Sign.{Sign}
use Rattle.p10_syn.specs.Trees.{Expression, expression, Step, Assign, Call, Comma, Expressions}
use Rattle.p10_core.specs.Typed.{PlainValues, no_values, more_values, PlainStatementForm, asserts}
use Rattle.p10_elabx.specs.First.{Keep, Found, Ruled, nothing_said}
use Rattle.p10_elabx.specs.Scopes.{PlainScope}
use Rattle.p10_elabx.specs.Operands.{as_value}
use Rattle.p10_elabx.specs.Judging.{judge, called_name, by_sign, step_judged, target_judged, assignment_of, step_of, place_of, may_be_place}
use Rattle.p10_elabs.specs.Expressions.{evaluated, assert_called, call_found}

-- `assert` with its arguments, of which there is one
abbrev pub asserted : At → PlainValues → Ruled PlainStatementForm
asserted at (more_values v no_values) = Ok (asserts at v)
asserted at vs = nothing_said

-- a value that isn't used
unfoldable pub value_form : Keep → PlainScope → Expression At → Found PlainStatementForm
value_form h s e = evaluated h s (judge h s e)

-- an assignment
unfoldable pub assigned_form : Keep → PlainScope → At → Sign → Expression At → Expression At → Found PlainStatementForm
assigned_form h s at word a b =
    (by_sign h s.structures at (assignment_of word) (target_judged h s.structures (place_of a) (may_be_place a) (judge h s a)) (as_value s.structures (judge h s b))).found

-- a step
unfoldable pub stepped_form : Keep → PlainScope → At → Sign → Expression At → Found PlainStatementForm
stepped_form h s at word e = (step_judged s.structures at (step_of word) (target_judged h s.structures (place_of e) (may_be_place e) (judge h s e))).found

-- a call, with the whole expression and what is called
unfoldable pub call_form : Keep → PlainScope → At → Expressions At → Expression At → Expression At → Found PlainStatementForm
call_form h s at all e f = call_found h s at all (value_form h s e) (assert_called s (called_name f))

-- an expression by its form
abbrev pub form_by : Keep → PlainScope → Expression At → Found PlainStatementForm
form_by h s (expression at n (Assign word a b)) = assigned_form h s at word a b
form_by h s (expression at n (Step side word e)) = stepped_form h s at word e
form_by h s (expression at n (Call f all)) = call_form h s at all (expression at n (Call f all)) f
form_by h s e = value_form h s e
