use Rattle.std.proofs.Common.{sym, ◌∙◌, ap}
use Rattle.p10_core.specs.Types.{plain_type}
use Rattle.p10_core.specs.Views.{plain_types}
use Rattle.p10_core.specs.Representing.{represented}
use Rattle.p10_linkage.specs.Uniting.{types_united, united_within}
use Rattle.p10_linkage.proofs.ByNumbers.{as_many_represented}
use Rattle.p10_linkage.proofs.agreeing.unite.Goals as goal

pub returns-clause-united : goal.returns-clause-united
returns-clause-united c =
    c.unite_types.ensures.united
    ∙ ap (λ pairs. types_united (united_within pairs) (plain_type c.args.t.now) (plain_type c.args.u.now) (represented (plain_types c.args.types.now) c.args.stands.now.numbers.items))
    (c.len-pairs.ensures ∙ c.args.stands.now.numbers.ok.0 ∙ c.requires.as_many ∙ sym (as_many_represented (plain_types c.args.types.now) c.args.stands.now.numbers.items))
