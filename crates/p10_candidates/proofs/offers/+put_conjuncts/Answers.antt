use Rattle.std.proofs.Common.{◌≡◌, ◌∙◌, ap, sym, map}
use Rattle.p10_core.specs.declared.typed.Value.{Value}
use Rattle.p10_core.specs.declared.typed.LogicOp.TheVariants.{And}
use Rattle.p10_core.specs.Types.{plain_type}
use Rattle.p10_core.specs.Typed.{logic}
use Rattle.p10_core.specs.Views.{plain_form, plain_value}
use Rattle.p10_candidates.specs.Offering.{entry_by}
use Rattle.p10_candidates.specs.Offering.{approach_by}
use Rattle.p10_candidates.proofs.Offering.{both_put}
use Rattle.p10_candidates.proofs.offers.+put_conjuncts.Goals as goal

pub returns-in_ok-put_conjuncts-in-And-clause-put : goal.returns-in_ok-put_conjuncts-in-And-clause-put
returns-in_ok-put_conjuncts-in-And-clause-put t c =
    let form : plain_form c.args.v.now.form ≡ logic And (plain_value c.deref.result.now) (plain_value c.deref-in-And.result.now) =
    ap plain_form c.in-Logic.is ∙ (ap (λ op. logic op (plain_value c.in-Logic.a.value) (plain_value c.in-Logic.b.value)) c.in-And.is ∙
    (ap (λ (x : Value). logic And (plain_value x) (plain_value c.in-Logic.b.value)) (sym c.deref.ensures) ∙
    ap (λ (y : Value). logic And (plain_value c.deref.result.now) (plain_value y)) (sym c.deref-in-And.ensures))) in
    both_put c.put_conjuncts-in-And.result (entry_by c.args.l.now) c.args.v.now.at (plain_type c.args.v.now.ty) (plain_form c.args.v.now.form) (plain_value c.deref.result.now) (plain_value c.deref-in-And.result.now)
    (map approach_by c.args.found.now.items) (map approach_by c.put_conjuncts.new.found.items) (map approach_by c.put_conjuncts-in-And.new.found.items) c.args.head.now c.put_conjuncts.new.head form
    c.in_ok-put_conjuncts-in-And.ensures.same c.in_ok-put_conjuncts-in-And.ensures.put c.put_conjuncts-in-And.ensures.put
