-- What holds of all readings.
use Rattle.std.specs.Prelude.{◌≡◌, Result}
use Rattle.p10_base.specs.declared.report.Limit.{Limit}
use Rattle.p10_base.specs.Gathered.{Gathered}
use Rattle.p10_front.specs.Readings.{PlainReading, Reads}

-- files are read as one thing at most
abbrev pub ReadsOnce : Type 0
ReadsOnce = (g : Gathered) (this that : Result PlainReading Limit) → Reads g this → Reads g that → this ≡ that
