-- When a program isn't generated.
use Rattle.std.specs.Prelude.{ℕ, ◌≡◌, ◌<◌, length}
use Rattle.p10_base.specs.declared.report.TheConstants.Limit.{FILE_BYTES, MOST_FILE_BYTES}
use Rattle.p10_gen.specs.declared.fault.GenFault.{GenFault}
use Rattle.p10_gen.specs.declared.fault.GenFault.TheVariants.{Over, Memory}
use Rattle.p10_gen.specs.Programs.{generated_text}

-- why the program of n functions isn't generated: its text is longer than a source file may be; memory may be out at any n
abbrev pub IsFault : ℕ → GenFault → Type 0
IsFault n (Over limit) = (limit ≡ FILE_BYTES) × (MOST_FILE_BYTES < length (generated_text n))
IsFault n Memory = Unit {0}
