use Rattle.std.proofs.Common.{◌≡◌, ◌++◌, ◌∙◌, Bool, ◌||◌, List, IfOk, ap, sym, subst}
use Rattle.p10_core.specs.Typed.{call, built_in}
use Rattle.p10_core.specs.Views.{plain_form, plain_values}
use Rattle.p10_core.proofs.Lists.{plain_call, plain_built_in}
use Rattle.p10_userules.specs.declared.occurrences.Occurrence.{Occurrence}
use Rattle.p10_userules.specs.Occurrences.{occurrences_in_form, occurrences_in_values}
use Rattle.p10_userules.proofs.occurrences.+values.Goals as goal

pub put_value-returns-in-Call : goal.put_value-returns-in-Call
put_value-returns-in-Call t c =
    let is : plain_form c.args.v.now.form ≡ call c.in-Call.field-0 c.in-Call.field-1 (plain_values c.in-Call.arguments) =
    ap plain_form c.in-Call.is ∙ plain_call c.in-Call.field-0 c.in-Call.field-1 c.in-Call.arguments in
    let P : List Occurrence → Type 0 = λ os. IfOk c.put_values.result (λ _. c.put_values.new.out.items ≡ c.args.out.now.items ++ os) in
    subst P (ap (λ vs. occurrences_in_values c.args.checked (plain_values vs)) c.as_slice.ensures ∙ sym (ap (occurrences_in_form c.args.checked) is)) c.put_values.ensures

pub put_value-returns-in-Builtin : goal.put_value-returns-in-Builtin
put_value-returns-in-Builtin t c =
    let is : plain_form c.args.v.now.form ≡ built_in c.in-Builtin.field-0 c.in-Builtin.function (plain_values c.in-Builtin.arguments) =
    ap plain_form c.in-Builtin.is ∙ plain_built_in c.in-Builtin.field-0 c.in-Builtin.function c.in-Builtin.arguments in
    let P : List Occurrence → Type 0 = λ os. IfOk c.put_values-in-Builtin.result (λ _. c.put_values-in-Builtin.new.out.items ≡ c.args.out.now.items ++ os) in
    subst P
    (ap (λ vs. occurrences_in_values (c.args.checked || c.is_assertion.result) (plain_values vs)) c.as_slice-in-Builtin.ensures
    ∙ ap (λ (b : Bool). occurrences_in_values (c.args.checked || b) (plain_values c.in-Builtin.arguments)) c.is_assertion.ensures
    ∙ sym (ap (occurrences_in_form c.args.checked) is))
    c.put_values-in-Builtin.ensures
