use Rattle.p10_core.proofs.ScalarCounts.{scalars_have_bytes, arrays_are_short}
use Rattle.p10_core.proofs.laws.types_have_bytes.Goals as goal

pub returns-clause-bytes : goal.returns-clause-bytes
returns-clause-bytes c = scalars_have_bytes

pub returns-clause-arrays : goal.returns-clause-arrays
returns-clause-arrays c = arrays_are_short
