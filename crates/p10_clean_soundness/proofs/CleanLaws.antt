-- The laws of clean certificates.
use Rattle.p10_check.proofs.Holding.{accepted_hold}
use Rattle.p10_check.specs.Accepting.{Holds}
use Rattle.p10_turns.specs.Evidence.{stands_by_ranges}
use Rattle.p10_clean_soundness.specs.Laws.{CleanCertificatesExcludeUndefined, CleanCertificatesAcceptedByRangesExcludeUndefined}
use Rattle.p10_clean_soundness.proofs.ClaimedResults.{none_fails, results_lie}
use Rattle.p10_clean_soundness.proofs.CleanFunctions.{clean_function}
use Rattle.p10_clean_soundness.proofs.CleanRuns.{run_defined}

pub clean_exclude : CleanCertificatesExcludeUndefined
clean_exclude p whole stands c b verdict clean world is n =
    let holds : Holds stands p c = (accepted_hold stands p c b verdict).1 in
    run_defined p whole c (results_lie p whole c (none_fails stands p c holds)) (none_fails stands p c holds) (clean_function p c clean) world is b.prefix b.turn n

pub clean_by_ranges_exclude : CleanCertificatesAcceptedByRangesExcludeUndefined
clean_by_ranges_exclude p whole c b verdict clean world is n = clean_exclude p whole (stands_by_ranges p) c b verdict clean world is n
