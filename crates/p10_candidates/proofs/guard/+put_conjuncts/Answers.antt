use Rattle.std.proofs.Common.{◌≡◌, ◌∙◌, ap, sym, map}
use Rattle.p10_core.specs.declared.typed.Value.{Value}
use Rattle.p10_core.specs.declared.typed.LogicOp.TheVariants.{And}
use Rattle.p10_core.specs.Types.{plain_type}
use Rattle.p10_core.specs.Typed.{logic}
use Rattle.p10_core.specs.Views.{plain_form, plain_value}
use Rattle.p10_candidates.specs.Offering.{candidate_by, entry_by}
use Rattle.p10_candidates.specs.Candidates.{conjunct_candidates}
use Rattle.p10_candidates.proofs.Filling.{filled_conjuncts}
use Rattle.p10_candidates.proofs.guard.+put_conjuncts.Goals as goal

pub returns-in_ok-put_conjuncts-in-And : goal.returns-in_ok-put_conjuncts-in-And
returns-in_ok-put_conjuncts-in-And t c =
    let form : plain_form c.args.v.now.form ≡ logic And (plain_value c.deref.result.now) (plain_value c.deref-in-And.result.now) =
    ap plain_form c.in-Logic.is ∙ (ap (λ op. logic op (plain_value c.in-Logic.a.value) (plain_value c.in-Logic.b.value)) c.in-And.is ∙
    (ap (λ (x : Value). logic And (plain_value x) (plain_value c.in-Logic.b.value)) (sym c.deref.ensures) ∙
    ap (λ (y : Value). logic And (plain_value c.deref.result.now) (plain_value y)) (sym c.deref-in-And.ensures))) in
    filled_conjuncts c.put_conjuncts-in-And.result (conjunct_candidates (entry_by c.args.l.now)) c.args.v.now.at (plain_type c.args.v.now.ty) (plain_form c.args.v.now.form) (plain_value c.deref.result.now)
    (plain_value c.deref-in-And.result.now) (map candidate_by c.args.found.now.items) (map candidate_by c.put_conjuncts.new.found.items) (map candidate_by c.put_conjuncts-in-And.new.found.items) form
    c.in_ok-put_conjuncts-in-And.ensures c.put_conjuncts-in-And.ensures
