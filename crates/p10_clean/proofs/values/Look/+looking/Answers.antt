use Rattle.std.proofs.Common.{◌≡◌, ◌∙◌, ap, sym}
use Rattle.std.proofs.lemmas.Result.{on_ok_weaker}
use Rattle.p10_core.specs.Typed.{logic, conditional, call, built_in}
use Rattle.p10_core.specs.Views.{plain_form, plain_value, plain_values}
use Rattle.p10_core.proofs.Lists.{plain_call, plain_built_in}
use Rattle.p10_absx.specs.Trails.{Branching}
use Rattle.p10_pass.specs.Manners.{manner_by}
use Rattle.p10_clean.specs.private.Code.{settings_of}
use Rattle.p10_clean.proofs.Looking.{logic_put, conditional_put, call_put, built_in_put}
use Rattle.p10_clean.proofs.values.Look.+looking.Goals as goal

pub put_parts-returns-in_ok-put_value-in-Logic-clause-flaws : goal.put_parts-returns-in_ok-put_value-in-Logic-clause-flaws
put_parts-returns-in_ok-put_value-in-Logic-clause-flaws t c =
    let form : plain_form c.args.v.now.form ≡ logic c.in-Logic.op (plain_value c.deref-in-Logic.result.now) (plain_value c.deref-in-Logic-2.result.now) =
    ap plain_form c.in-Logic.is ∙ (λ i. logic c.in-Logic.op (plain_value (sym c.deref-in-Logic.ensures i)) (plain_value (sym c.deref-in-Logic-2.ensures i))) in
    on_ok_weaker _ (λ q. logic_put (manner_by c.args.self.now.m.now) (settings_of c.args.self.now.set.now) (plain_form c.args.v.now.form) c.in-Logic.op c.goes_on_where.result (plain_value c.deref-in-Logic.result.now) (plain_value c.deref-in-Logic-3.result.now) (plain_value c.deref-in-Logic-2.result.now)
    c.args.env.now.values c.put_value-in-Logic.new.env.values c.args.flaws.now.items c.put_value-in-Logic.new.flaws.items c.put_where.new.flaws.items form
    (ap plain_value (c.deref-in-Logic-3.ensures ∙ sym c.deref-in-Logic.ensures)) c.goes_on_where.ensures (ap (λ (b : Branching). b.values) c.in_ok-put_value-in-Logic.ensures.same) c.in_ok-put_value-in-Logic.ensures.flaws q) c.put_where.ensures.flaws

pub put_parts-returns-in_ok-put_where-in-Cond-clause-flaws : goal.put_parts-returns-in_ok-put_where-in-Cond-clause-flaws
put_parts-returns-in_ok-put_where-in-Cond-clause-flaws t c =
    let form : plain_form c.args.v.now.form ≡ conditional (plain_value c.deref-in-Cond.result.now) (plain_value c.deref-in-Cond-2.result.now) (plain_value c.deref-in-Cond-4.result.now) =
    ap plain_form c.in-Cond.is ∙ (λ i. conditional (plain_value (sym c.deref-in-Cond.ensures i)) (plain_value (sym c.deref-in-Cond-2.ensures i)) (plain_value (sym c.deref-in-Cond-4.ensures i))) in
    on_ok_weaker _ (λ q. conditional_put (manner_by c.args.self.now.m.now) (settings_of c.args.self.now.set.now) (plain_form c.args.v.now.form) (plain_value c.deref-in-Cond.result.now) (plain_value c.deref-in-Cond-3.result.now) (plain_value c.deref-in-Cond-5.result.now)
    (plain_value c.deref-in-Cond-2.result.now) (plain_value c.deref-in-Cond-4.result.now) c.args.env.now.values c.put_value-in-Cond.new.env.values c.put_where-in-Cond.new.env.values
    c.args.flaws.now.items c.put_value-in-Cond.new.flaws.items c.put_where-in-Cond.new.flaws.items c.put_where-in-Cond-2.new.flaws.items form
    (ap plain_value (c.deref-in-Cond-3.ensures ∙ sym c.deref-in-Cond.ensures)) (ap plain_value (c.deref-in-Cond-5.ensures ∙ sym c.deref-in-Cond.ensures))
    (ap (λ (b : Branching). b.values) c.in_ok-put_value-in-Cond.ensures.same) (ap (λ (b : Branching). b.values) c.in_ok-put_where-in-Cond.ensures.same) c.in_ok-put_value-in-Cond.ensures.flaws c.in_ok-put_where-in-Cond.ensures.flaws q) c.put_where-in-Cond-2.ensures.flaws

pub put_parts-returns-in-Builtin-clause-flaws : goal.put_parts-returns-in-Builtin-clause-flaws
put_parts-returns-in-Builtin-clause-flaws t c =
    let form : plain_form c.args.v.now.form ≡ built_in c.in-Builtin.field-0 c.in-Builtin.field-1 (plain_values c.as_slice-in-Builtin.result.now) =
    ap plain_form c.in-Builtin.is ∙ (plain_built_in c.in-Builtin.field-0 c.in-Builtin.field-1 c.in-Builtin.arguments ∙ ap (λ all. built_in c.in-Builtin.field-0 c.in-Builtin.field-1 (plain_values all)) (sym c.as_slice-in-Builtin.ensures)) in
    on_ok_weaker _ (λ q. built_in_put (manner_by c.args.self.now.m.now) (settings_of c.args.self.now.set.now) (plain_form c.args.v.now.form) c.in-Builtin.field-0 c.in-Builtin.field-1 (plain_values c.as_slice-in-Builtin.result.now) c.args.env.now.values
    c.args.flaws.now.items c.put_values-in-Builtin.new.flaws.items form q) c.put_values-in-Builtin.ensures.flaws

pub put_parts-returns-in-Call-clause-flaws : goal.put_parts-returns-in-Call-clause-flaws
put_parts-returns-in-Call-clause-flaws t c =
    let form : plain_form c.args.v.now.form ≡ call c.in-Call.field-0 c.in-Call.field-1 (plain_values c.as_slice.result.now) =
    ap plain_form c.in-Call.is ∙ (plain_call c.in-Call.field-0 c.in-Call.field-1 c.in-Call.arguments ∙ ap (λ all. call c.in-Call.field-0 c.in-Call.field-1 (plain_values all)) (sym c.as_slice.ensures)) in
    on_ok_weaker _ (λ q. call_put (manner_by c.args.self.now.m.now) (settings_of c.args.self.now.set.now) (plain_form c.args.v.now.form) c.in-Call.field-0 c.in-Call.field-1 (plain_values c.as_slice.result.now) c.args.env.now.values
    c.args.flaws.now.items c.put_values.new.flaws.items form q) c.put_values.ensures.flaws
