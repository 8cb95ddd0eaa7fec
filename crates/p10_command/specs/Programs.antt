-- The program of the sources of a command, and the digests of its words.
use Rattle.std.specs.Prelude.{◌≡◌, length}
use Rattle.p10_core.specs.Typed.{PlainProgram}
use Rattle.p10_core.specs.WholePrograms.{IsWholeProgram}
use Rattle.p10_base.specs.Gathered.{Gathered}
use Rattle.p10_expand.specs.Gathering.{Setting, Gathers}
use Rattle.p10_front.specs.Digests.{PlainDigests, reading_digests}
use Rattle.p10_front.specs.Readings.{PlainReading, AreReadAs}

-- the gathered sources are these files, and these are read as a program, which is whole
pub record HasProgram (s : Setting) (g : Gathered) (p : PlainProgram) : Type 0 where
  pub gathers : Gathers s g
  pub reading : PlainReading
  pub read : AreReadAs g reading p
  pub whole : IsWholeProgram p

-- and these are the digests of the words that were read, one for each function
pub record HasProgramWithDigests (s : Setting) (g : Gathered) (p : PlainProgram) (digests : PlainDigests) : Type 0 where
  pub has : HasProgram s g p
  pub are : digests ≡ reading_digests has.reading
  pub each : length digests.funcs ≡ length p.functions
