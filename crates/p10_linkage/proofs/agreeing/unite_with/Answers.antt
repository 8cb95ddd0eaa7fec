use Rattle.std.proofs.Common.{◌∙◌, sym}
use Rattle.p10_core.specs.Views.{plain_types}
use Rattle.p10_core.specs.Representing.{represented}
use Rattle.p10_linkage.specs.LinkedViews.{linked_of_name}
use Rattle.p10_linkage.proofs.ComparedAlike.{united_so}
use Rattle.p10_linkage.proofs.agreeing.unite_with.Goals as goal

pub returns-clause-agreed : goal.returns-clause-agreed
returns-clause-agreed c holds =
    united_so (linked_of_name c.args.before.now) (linked_of_name c.args.now.now) (represented (plain_types c.args.types.now) c.args.stands.now.numbers.items)
    (represented (plain_types c.args.types.now) c.unite_linked.new.stands.numbers.items) c.unite_linked.result
    (sym c.is_other.ensures ∙ c.if-not-is_other.false) (sym c.are_marked_alike.ensures ∙ c.if-not-are_marked_alike.false) c.unite_linked.ensures.united holds
