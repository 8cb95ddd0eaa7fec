use Rattle.std.proofs.lemmas.List.Filters.{dedup_is}
use Rattle.p10_front.specs.Answers.{reading_of}
use Rattle.p10_pprules.proofs.Ordered.{same}
use Rattle.p10_check_command.proofs.Found.{are_violations}
use Rattle.p10_check_command.proofs.violations.violations.Goals as goal

pub returns : goal.returns
returns c =
    are_violations c.args.sources.now (reading_of c.args.reading.now) c.in_ok-found.found.items c.sort.new.self.items _ c.in_ok-found.ensures c.in_ok-sort.ensures.sorted c.in_ok-sort.ensures.permutation (dedup_is same _ _ c.dedup.ensures.filtered)
