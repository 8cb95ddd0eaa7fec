use Rattle.p10_elabs.proofs.FormParts.{not_inside, inside}
use Rattle.p10_elabs.proofs.clauses.comma_done.Goals as goal

pub returns-then-parens-eq0 : goal.returns-then-parens-eq0
returns-then-parens-eq0 c = not_inside _ _ _ _ c.if-parens-eq0.true c.in_ok-pieces.ensures

pub returns : goal.returns
returns c = inside c.args.e.now.parens _ _ _ c.if-parens-eq0.false c.in_ok-one.ensures
