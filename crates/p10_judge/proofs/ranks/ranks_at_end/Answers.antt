use Rattle.p10_judge.proofs.Ranked.{sections_are}
use Rattle.p10_judge.proofs.ranks.ranks_at_end.Goals as goal

pub ranks_among-requires : goal.ranks_among-requires
ranks_among-requires c = sections_are c.args.reader.now c.args.bytes.now c.in_ok-found.found _ _ c.requires c.in_ok-found.ensures c.unwrap-sections.ensures c.as_slice.ensures
