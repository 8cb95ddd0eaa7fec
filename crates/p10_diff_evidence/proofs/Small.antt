-- The lines of two ranks, computed.
use Rattle.std.proofs.Common.{refl}
use Rattle.std.specs.Fmt.{digits}
use Rattle.p10_diff_evidence.specs.Laws.{SmallSection}

pub small_section : SmallSection
unfolding digits
small_section = refl
