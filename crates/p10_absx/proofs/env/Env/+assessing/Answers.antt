use Rattle.std.proofs.Common.{◌≡◌, ◌∙◌, ap, sym, Some}
use Rattle.std.specs.Option.{option_map, option_copied}
use Rattle.std.proofs.lemmas.Result.{IfOk-weaker}
use Rattle.p10_core.specs.declared.typed.Value.{Value}
use Rattle.p10_core.specs.Typed.{logic, built_in}
use Rattle.p10_core.specs.Views.{plain_form, plain_value, plain_values}
use Rattle.p10_core.proofs.Lists.{plain_built_in}
use Rattle.p10_cert.specs.Claims.{claims_of}
use Rattle.p10_absx.specs.Trails.{Branching}
use Rattle.p10_absx.proofs.Walking.{logic_carried, built_in_carried, only_one}
use Rattle.p10_absx.proofs.env.Env.+assessing.Goals as goal

pub assess-returns-in_ok-first-in-Logic-clause-found : goal.assess-returns-in_ok-first-in-Logic-clause-found
assess-returns-in_ok-first-in-Logic-clause-found t c =
    let form : plain_form c.args.v.now.form ≡ logic c.in-Logic.op (plain_value c.deref-in-Logic.result.now) (plain_value c.deref-in-Logic-2.result.now) =
    ap plain_form c.in-Logic.is ∙ (ap (λ (x : Value). logic c.in-Logic.op (plain_value x) (plain_value c.in-Logic.right.value)) (sym c.deref-in-Logic.ensures) ∙
    ap (λ (y : Value). logic c.in-Logic.op (plain_value c.deref-in-Logic.result.now) (plain_value y)) (sym c.deref-in-Logic-2.ensures)) in
    IfOk-weaker _ _ _ (λ f is. logic_carried (option_map claims_of (option_copied c.args.c)) c.args.v.now c.in-Logic.op (plain_value c.deref-in-Logic.result.now) (plain_value c.deref-in-Logic-2.result.now) c.args.self.now.values
    c.assess-in-Logic.new.self.values c.in_ok-first-in-Logic.first f form (ap (λ (b : Branching). b.values) c.in_ok-first-in-Logic.ensures.same) c.in_ok-first-in-Logic.ensures.found is) c.logic.ensures.found

pub assess-returns-in_ok-only-in-Builtin-clause-found : goal.assess-returns-in_ok-only-in-Builtin-clause-found
assess-returns-in_ok-only-in-Builtin-clause-found t c =
    let form : plain_form c.args.v.now.form ≡ built_in c.in-Builtin.field-0 c.in-Builtin.library (plain_values c.as_slice.result.now) =
    ap plain_form c.in-Builtin.is ∙ (plain_built_in c.in-Builtin.field-0 c.in-Builtin.library c.in-Builtin.arguments ∙ ap (λ all. built_in c.in-Builtin.field-0 c.in-Builtin.library (plain_values all)) (sym c.as_slice.ensures)) in
    IfOk-weaker _ _ _ (λ f is. built_in_carried (option_map claims_of (option_copied c.args.c)) c.args.v.now c.in-Builtin.field-0 c.in-Builtin.library (plain_values c.as_slice.result.now) c.args.self.now.values c.only.new.self.values
    c.in_ok-only-in-Builtin.only f form (ap (λ (b : Branching). b.values) c.in_ok-only-in-Builtin.ensures.same) c.in_ok-only-in-Builtin.ensures.found is) c.library.ensures

pub only-returns-in_ok-assess-in-len1-clause-found : goal.only-returns-in_ok-assess-in-len1-clause-found
only-returns-in_ok-assess-in-len1-clause-found t c =
    ap Some c.in_ok-assess-in-len1.ensures.found ∙
    only_one (option_map claims_of (option_copied c.args.c)) c.args.arguments.now c.argument-item.result c.args.self.now.values c.in-len1.len_at_least c.in-len1.len_below c.argument-item.is
