use Rattle.std.proofs.Common.{◌≡◌, ◌∙◌, ap, sym}
use Rattle.p10_core.specs.Typed.{built_in}
use Rattle.p10_core.specs.Views.{plain_form, plain_values}
use Rattle.p10_core.proofs.Lists.{plain_built_in}
use Rattle.p10_pass.specs.private.Calling.{has_call_in}
use Rattle.p10_pass.proofs.calling.+calling.Goals as goal

pub has_call-returns-in-Builtin : goal.has_call-returns-in-Builtin
has_call-returns-in-Builtin t c =
    let form : plain_form c.args.v.now.form ≡ built_in c.in-Builtin.field-0 c.in-Builtin.field-1 (plain_values c.as_slice.result.now) =
    ap plain_form c.in-Builtin.is ∙ (plain_built_in c.in-Builtin.field-0 c.in-Builtin.field-1 c.in-Builtin.arguments ∙ ap (λ all. built_in c.in-Builtin.field-0 c.in-Builtin.field-1 (plain_values all)) (sym c.as_slice.ensures)) in
    c.has_call_among.ensures ∙ sym (ap has_call_in form)
