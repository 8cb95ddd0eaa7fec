use Rattle.std.proofs.Common.{◌≡◌, ◌∙◌, ap, sym}
use Rattle.std.proofs.lemmas.Result.{on_ok_weaker}
use Rattle.p10_core.specs.Typed.{logic, conditional, call, built_in}
use Rattle.p10_core.specs.Views.{plain_form, plain_value, plain_values}
use Rattle.p10_core.proofs.Lists.{plain_call, plain_built_in}
use Rattle.p10_cert.specs.Claims.{claims_of}
use Rattle.p10_absx.specs.Trails.{Branching}
use Rattle.p10_pass.proofs.Failing.{logic_put, conditional_put, call_put, built_in_put}
use Rattle.p10_pass.proofs.Uncalled.{no_more, no_more_after}
use Rattle.p10_pass.proofs.arguments.Calls.+failing.Goals as goal

pub put_value-returns-in_ok-put_value-in-Logic-clause-names : goal.put_value-returns-in_ok-put_value-in-Logic-clause-names
put_value-returns-in_ok-put_value-in-Logic-clause-names t c =
    let form : plain_form c.args.v.now.form ≡ logic c.in-Logic.op (plain_value c.deref-in-Logic.result.now) (plain_value c.deref-in-Logic-2.result.now) =
    ap plain_form c.in-Logic.is ∙ (λ i. logic c.in-Logic.op (plain_value (sym c.deref-in-Logic.ensures i)) (plain_value (sym c.deref-in-Logic-2.ensures i))) in
    on_ok_weaker _ (λ q. logic_put (claims_of c.args.self.now.cert.now) (plain_form c.args.v.now.form) c.in-Logic.op c.goes_on_where.result (plain_value c.deref-in-Logic.result.now) (plain_value c.deref-in-Logic-3.result.now) (plain_value c.deref-in-Logic-2.result.now)
    c.args.env.now.values c.put_value-in-Logic.new.env.values c.args.names.now.items c.put_value-in-Logic.new.names.items c.put_where.new.names.items form
    (ap plain_value (c.deref-in-Logic-3.ensures ∙ sym c.deref-in-Logic.ensures)) c.goes_on_where.ensures (ap (λ (b : Branching). b.values) c.in_ok-put_value-in-Logic.ensures.same) c.in_ok-put_value-in-Logic.ensures.names q) c.put_where.ensures.names

pub put_value-returns-in_ok-put_where-in-Cond-clause-names : goal.put_value-returns-in_ok-put_where-in-Cond-clause-names
put_value-returns-in_ok-put_where-in-Cond-clause-names t c =
    let form : plain_form c.args.v.now.form ≡ conditional (plain_value c.deref-in-Cond.result.now) (plain_value c.deref-in-Cond-2.result.now) (plain_value c.deref-in-Cond-4.result.now) =
    ap plain_form c.in-Cond.is ∙ (λ i. conditional (plain_value (sym c.deref-in-Cond.ensures i)) (plain_value (sym c.deref-in-Cond-2.ensures i)) (plain_value (sym c.deref-in-Cond-4.ensures i))) in
    on_ok_weaker _ (λ q. conditional_put (claims_of c.args.self.now.cert.now) (plain_form c.args.v.now.form) (plain_value c.deref-in-Cond.result.now) (plain_value c.deref-in-Cond-3.result.now) (plain_value c.deref-in-Cond-5.result.now)
    (plain_value c.deref-in-Cond-2.result.now) (plain_value c.deref-in-Cond-4.result.now) c.args.env.now.values c.put_value-in-Cond.new.env.values c.put_where-in-Cond.new.env.values
    c.args.names.now.items c.put_value-in-Cond.new.names.items c.put_where-in-Cond.new.names.items c.put_where-in-Cond-2.new.names.items form
    (ap plain_value (c.deref-in-Cond-3.ensures ∙ sym c.deref-in-Cond.ensures)) (ap plain_value (c.deref-in-Cond-5.ensures ∙ sym c.deref-in-Cond.ensures))
    (ap (λ (b : Branching). b.values) c.in_ok-put_value-in-Cond.ensures.same) (ap (λ (b : Branching). b.values) c.in_ok-put_where-in-Cond.ensures.same) c.in_ok-put_value-in-Cond.ensures.names c.in_ok-put_where-in-Cond.ensures.names q) c.put_where-in-Cond-2.ensures.names

pub put_value-returns-in-Builtin-clause-names : goal.put_value-returns-in-Builtin-clause-names
put_value-returns-in-Builtin-clause-names t c =
    let form : plain_form c.args.v.now.form ≡ built_in c.in-Builtin.field-0 c.in-Builtin.field-1 (plain_values c.as_slice-in-Builtin.result.now) =
    ap plain_form c.in-Builtin.is ∙ (plain_built_in c.in-Builtin.field-0 c.in-Builtin.field-1 c.in-Builtin.arguments ∙ ap (λ all. built_in c.in-Builtin.field-0 c.in-Builtin.field-1 (plain_values all)) (sym c.as_slice-in-Builtin.ensures)) in
    on_ok_weaker _ (λ q. built_in_put (claims_of c.args.self.now.cert.now) (plain_form c.args.v.now.form) c.in-Builtin.field-0 c.in-Builtin.field-1 (plain_values c.as_slice-in-Builtin.result.now) c.args.env.now.values
    c.args.names.now.items c.put_values-in-Builtin.new.names.items form q) c.put_values-in-Builtin.ensures.names

pub put_value-returns-in_ok-put_call-in-Call-clause-names : goal.put_value-returns-in_ok-put_call-in-Call-clause-names
put_value-returns-in_ok-put_call-in-Call-clause-names t c =
    let form : plain_form c.args.v.now.form ≡ call c.in-Call.name c.in-Call.n (plain_values c.as_slice.result.now) =
    ap plain_form c.in-Call.is ∙ (plain_call c.in-Call.name c.in-Call.n c.in-Call.arguments ∙ ap (λ all. call c.in-Call.name c.in-Call.n (plain_values all)) (sym c.as_slice.ensures)) in
    on_ok_weaker _ (λ q. call_put (claims_of c.args.self.now.cert.now) (plain_form c.args.v.now.form) c.in-Call.name c.in-Call.n (plain_values c.as_slice.result.now) (plain_values c.as_slice-in-Call.result.now) c.args.env.now.values c.put_call.new.env.values
    c.args.names.now.items c.put_call.new.names.items c.put_values.new.names.items form (ap plain_values (c.as_slice-in-Call.ensures ∙ sym c.as_slice.ensures)) (ap (λ (b : Branching). b.values) c.in_ok-put_call-in-Call.ensures.same)
    c.in_ok-put_call-in-Call.ensures.names q) c.put_values.ensures.names

pub put_after-returns-else-has_call-clause-names : goal.put_after-returns-else-has_call-clause-names
put_after-returns-else-has_call-clause-names t c =
    no_more_after (claims_of c.args.self.now.cert.now) (plain_value c.args.second.now) (plain_value c.args.first.now) c.args.env.now.values c.args.names.now.items (sym c.has_call.ensures ∙ c.if-has_call.false)

pub put_where-returns-else-has_call-clause-names : goal.put_where-returns-else-has_call-clause-names
put_where-returns-else-has_call-clause-names t c =
    no_more (claims_of c.args.self.now.cert.now) c.args.truth (plain_value c.args.v.now) (plain_value c.args.test.now) c.args.env.now.values c.args.names.now.items (sym c.has_call.ensures ∙ c.if-has_call.false)
