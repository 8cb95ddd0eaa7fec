-- What sources are read as, by what the front answers.
use Rattle.std.proofs.Common.{◌≡◌, ◌↔◌, refl, sym, ap, subst, Option, Some, None, Ok, Err, IsSome, IsNone, IsSomeAnd, IfSome, is_some}
use Rattle.p10_base.specs.Codes.{IsCode}
use Rattle.p10_base.specs.declared.report.Limit.{Limit}
use Rattle.p10_base.specs.declared.report.Refusal.{Refusal}
use Rattle.p10_base.specs.Gathered.{Gathered}
use Rattle.p10_core.specs.declared.program.Program.{Program}
use Rattle.p10_core.specs.Typed.{PlainProgram}
use Rattle.p10_core.specs.Views.{plain_program}
use Rattle.p10_core.specs.WholePrograms.{IsWholeProgram}
use Rattle.p10_front.specs.declared.fault.FrontFault.{FrontFault}
use Rattle.p10_front.specs.declared.fault.FrontFault.TheVariants as front
use Rattle.p10_front.specs.declared.reading.Reading.{Reading}
use Rattle.p10_front.specs.Answers.{reading_of, typed_of, CanBePrinted, IsFault}
use Rattle.p10_front.specs.Readings.{Reads, AreReadAs, AreRefused}
use Rattle.p10_command.specs.Reading.{AreProgram}

-- ## A program

by_program : (g : Gathered) (reading : Reading) (program : Option Program) → reading.program ≡ program → IsSome program → Reads g (Ok (reading_of reading)) → reading.refusal ≡ None → IfSome program (λ p. IsWholeProgram (plain_program p)) →
    IsSomeAnd program (λ p. AreReadAs g (reading_of reading) (plain_program p) × IsWholeProgram (plain_program p))
by_program g reading None is some reads none whole = absurd (cc)
by_program g reading (Some p) is some reads none whole = (record { reads = reads; unrefused = none; is = ap typed_of is }, whole)

pub are_program : (g : Gathered) (reading : Reading) → Reads g (Ok (reading_of reading)) → reading.refusal ≡ None → (IsSome reading.program ↔ IsNone reading.refusal) → IfSome reading.program (λ p. IsWholeProgram (plain_program p)) → AreProgram g reading
are_program g reading reads none there whole = by_program g reading reading.program refl (there.1 (ap is_some none)) reads none whole

typed_by : (g : Gathered) (reading : Reading) (program : Option Program) → IsSomeAnd program (λ p. AreReadAs g (reading_of reading) (plain_program p) × IsWholeProgram (plain_program p)) → (p : PlainProgram) × AreReadAs g (reading_of reading) p
typed_by g reading None is = absurd is
typed_by g reading (Some p) is = (plain_program p, is.0)

-- a program is what its sources are read as
pub read_as : (g : Gathered) (reading : Reading) → AreProgram g reading → (p : PlainProgram) × AreReadAs g (reading_of reading) p
read_as g reading is = typed_by g reading reading.program is

-- ## None

pub are_refused : (g : Gathered) (reading : Reading) (refusal : Refusal) → Reads g (Ok (reading_of reading)) → reading.refusal ≡ Some refusal → IfSome reading.refusal CanBePrinted → AreRefused g refusal × IsCode refusal.family refusal.number
are_refused g reading refusal reads refused printed = (record { reading = reading_of reading; reads = reads; refused = refused }, subst (λ (r : Option Refusal). IfSome r CanBePrinted) refused printed)

pub are_over : (g : Gathered) (fault : FrontFault) (limit : Limit) → fault ≡ front.Over limit → IsFault g fault → Reads g (Err limit) × Unit {0}
are_over g fault limit is over = (subst (λ (f : FrontFault). IsFault g f) is over, tt)
