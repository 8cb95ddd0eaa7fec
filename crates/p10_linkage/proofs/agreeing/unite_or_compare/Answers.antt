use Rattle.std.proofs.Common.{◌∙◌, sym, ap}
use Rattle.p10_core.specs.Views.{plain_types}
use Rattle.p10_core.specs.Representing.{represented}
use Rattle.p10_linkage.specs.LinkedViews.{linked_of_name}
use Rattle.p10_linkage.specs.Between.{linked_united}
use Rattle.p10_linkage.specs.private.Meetings.{given}
use Rattle.p10_linkage.proofs.ComparedAlike.{made_one, compared_so}
use Rattle.p10_linkage.proofs.agreeing.unite_or_compare.Goals as goal

pub returns-clause-agreed : goal.returns-clause-agreed
returns-clause-agreed c =
    let united = represented (plain_types c.args.types.now) c.unite_linked.new.stands.numbers.items in
    compared_so (linked_of_name c.args.before.now) (linked_of_name c.args.now.now) (plain_types c.args.types.now) united c.args.stands.now.numbers.items c.in_ok-alike.alike
    (sym (ap (λ b. given b united) c.if-unite_linked.false) ∙ c.unite_linked.ensures.united
    ∙ ap (λ xs. linked_united (linked_of_name c.args.before.now) (linked_of_name c.args.now.now) (represented (plain_types c.args.types.now) xs)) c.in_ok-joined.ensures)
    c.in_ok-alike.ensures

pub returns-then-unite_linked-clause-agreed : goal.returns-then-unite_linked-clause-agreed
returns-then-unite_linked-clause-agreed c =
    let united = represented (plain_types c.args.types.now) c.unite_linked.new.stands.numbers.items in
    made_one (linked_of_name c.args.before.now) (linked_of_name c.args.now.now) (represented (plain_types c.args.types.now) c.args.stands.now.numbers.items) united
    (sym (ap (λ b. given b united) c.if-unite_linked.true) ∙ c.unite_linked.ensures.united
    ∙ ap (λ xs. linked_united (linked_of_name c.args.before.now) (linked_of_name c.args.now.now) (represented (plain_types c.args.types.now) xs)) c.in_ok-joined.ensures)
