-- What files have to be, so that words tell what their functions are.
use Rattle.std.specs.Prelude.{◌≡◌, length}
use Rattle.p10_core.specs.Typed.{PlainProgram}
use Rattle.p10_front.specs.Readings.{PlainReading}
use Rattle.p10_front.specs.Digests.{reading_digests}

-- the words that files are read as have one digest for each function of their program: `digests` of the front gives no others
abbrev pub HasDigestEach : PlainReading → PlainProgram → Type 0
HasDigestEach r p = length (reading_digests r).funcs ≡ length p.functions
