use Rattle.p10_pexpr.proofs.AllWords.{fits, in_places, not_over}
use Rattle.p10_pexpr.proofs.entire.expr.Goals as goal

pub placed-requires : goal.placed-requires
placed-requires c = fits _ _ _ c.in-Ok.ensures.found

pub returns-in-Ok-clause-found : goal.returns-in-Ok-clause-found
returns-in-Ok-clause-found c =
    (not_over c.in_ok-is_over.is_over _ c.in_ok-is_over.ensures c.if-is_over.false, in_places _ _ _ _ c.in-Ok.ensures.found c.placed.ensures.same c.placed.ensures.placed)
