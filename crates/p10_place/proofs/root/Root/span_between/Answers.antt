use Rattle.p10_place.proofs.Spans.{spans}
use Rattle.p10_place.proofs.root.Root.span_between.Goals as goal

pub returns-else-first-past : goal.returns-else-first-past
returns-else-first-past c = spans _ _ _ _ _ _ c.requires c.if-first-past.false c.word.ensures c.word-else-first-past.ensures c.span_to.ensures
