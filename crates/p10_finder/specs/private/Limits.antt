-- Which limit a certificate exceeds.
use Rattle.std.specs.Prelude.{◌≡◌, ◌⊎◌, nat_lt, Bool, false, ◌||◌, List, [], ◌∷◌}
use Rattle.p10_base.specs.declared.report.TheConstants.Limit.{SUM, MOST_SUM, CERTIFICATE_BYTES}
use Rattle.p10_core.specs.Typed.{PlainProgram}
use Rattle.p10_cert.specs.Claims.{Loop, Func, Claims}
use Rattle.p10_finder.specs.declared.found.FinderFault.{FinderFault}
use Rattle.p10_finder.specs.declared.found.FinderFault.TheVariants.{Over, Memory}
use Rattle.p10_finder.specs.Answers.{PassesSum, PassesText}

-- whether one of these loops has more turns than are allowed
abbrev pub long_in : List Loop → Bool
long_in [] = false
long_in (l ∷ rest) = nat_lt MOST_SUM l.turns || long_in rest

-- whether one of the loops of these functions has
abbrev pub long_among : List Func → Bool
long_among [] = false
long_among (f ∷ rest) = long_in f.loops || long_among rest

-- the limit is the first that the certificate exceeds, or it is out of memory
abbrev pub IsPassed : PlainProgram → Claims → FinderFault → Type 0
IsPassed p c (Over limit) = ((limit ≡ SUM) × PassesSum p c) ⊎ ((limit ≡ CERTIFICATE_BYTES) × (PassesSum p c → ⊥) × PassesText c)
IsPassed p c Memory = Unit {0}
