use Rattle.p10_words.proofs.Matching.{ok_matches, err_parse}
use Rattle.p10_words.proofs.parse.matches.Goals as goal

pub returns-in-Ok : goal.returns-in-Ok
returns-in-Ok c = λ names i k. ok_matches _ names _ c.in-Ok.found i k (c.in-Ok.ensures.kinds i.free) c.in-Ok.ensures.matches

pub returns-in-Err : goal.returns-in-Err
returns-in-Err c = λ names i k. err_parse _ names _ c.kind.result c.in-Err.error c.usage.result i k c.usage.ensures c.kind.ensures (c.in-Err.ensures.kinds i.free)
