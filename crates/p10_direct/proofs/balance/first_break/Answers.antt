use Rattle.p10_direct.proofs.Breaking.{marks_of, first_of_both}
use Rattle.p10_direct.proofs.balance.first_break.Goals as goal

pub returns : goal.returns
returns c = first_of_both (marks_of c.args.lines.now) _ _ _ c.earlier.ensures c.in_ok-stray.ensures c.first_unclosed.ensures
