use Rattle.p10_pexpr.proofs.AllWords.{all_at}
use Rattle.p10_pexpr.proofs.entire.read_all.Goals as goal

pub returns-then-is_at_end-clause-found : goal.returns-then-is_at_end-clause-found
returns-then-is_at_end-clause-found c = all_at _ _ _ _ _ _ c.new-cursor.ensures c.in-Ok.ensures.ok c.if-is_at_end.ensures
