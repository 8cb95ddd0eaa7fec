use Rattle.std.proofs.Common.{◌||◌, option_map, option_copied, sym, ◌∙◌, ap}
use Rattle.p10_linkage.specs.Linkage.{is_refused}
use Rattle.p10_linkage.specs.LinkedViews.{linked_of_name}
use Rattle.p10_linkage.specs.LinkedLists.{linked_in}
use Rattle.p10_elab.proofs.linking.is_refused.Goals as goal

pub returns-in-Some : goal.returns-in-Some
returns-in-Some c = λ s taken.
    ap (λ o. is_refused s (linked_in c.args.linked.now) o (linked_of_name c.args.now.now)) (sym c.last.ensures ∙ ap (λ r. option_map linked_of_name (option_copied r)) c.in-Some.is)
    ∙ sym (λ i. c.differs.ensures i || c.is_defined_twice.ensures i)

pub returns-in-None : goal.returns-in-None
returns-in-None c = λ s taken.
    ap (λ o. is_refused s (linked_in c.args.linked.now) o (linked_of_name c.args.now.now)) (sym c.last.ensures ∙ ap (λ r. option_map linked_of_name (option_copied r)) c.in-None.is)
    ∙ taken
