use Rattle.std.proofs.Common.{◌∙◌, ap}
use Rattle.p10_syn.specs.Built.{tag_of}
use Rattle.p10_elabd.specs.Standing.{passed}
use Rattle.p10_elabd.specs.Views.{plain_standing}
use Rattle.p10_elabd.proofs.Bodies.{without_constants, with_constants}
use Rattle.p10_elabd.proofs.enumerations.enumeration_passed.Goals as goal

pub returns-then-count-eq0 : goal.returns-then-count-eq0
returns-then-count-eq0 c = c.enumeration_by_name.ensures ∙ without_constants c.args.at (tag_of c.args.tag) _ c.args.all.now c.if-count-eq0.true

pub returns : goal.returns
returns c =
    ap (λ y. passed y (plain_standing c.set_enumeration.new.standing)) c.integer.ensures
    ∙ with_constants c.args.at (tag_of c.args.tag) _ _ _ _ c.args.all.now c.if-count-eq0.false c.in_ok-begin_enumeration.ensures c.in_ok-enumerators_passed.ensures
    c.in_ok-set_enumeration.ensures
