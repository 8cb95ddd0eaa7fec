-- Which answers are right for what trees come to.
use Rattle.std.specs.Prelude.{◌≡◌, Result, Ok, Err}
use Rattle.p10_base.specs.Codes.{subset_number}
use Rattle.p10_base.specs.declared.report.Family.TheVariants.{S}
use Rattle.p10_base.specs.declared.report.Refusal.{Refusal}
use Rattle.p10_base.specs.declared.report.TheConstants.Limit.{OBJECT_BYTES}
use Rattle.p10_core.specs.declared.program.Program.{Program}
use Rattle.p10_core.specs.Views.{plain_program}
use Rattle.p10_elabx.specs.declared.problem.Problem.{Problem}
use Rattle.p10_elab.specs.declared.fault.ElabFault.{ElabFault}
use Rattle.p10_elab.specs.declared.fault.ElabFault.TheVariants.{Refused, Over, Memory}
use Rattle.p10_elab.specs.Programs.{Elaborated, program, refusal, too_large}

-- a row is refused with its number, at its tree
abbrev pub refusal_of : Problem → Refusal
refusal_of r = record { family = S; number = subset_number r.code; span = r.at.span }

-- an answer says what trees come to; whether memory runs out isn't said
abbrev pub IsElaborated : Elaborated → Result Program ElabFault → Type 0
IsElaborated e (Ok p) = e ≡ program (plain_program p)
IsElaborated e (Err (Refused r)) = (problem : Problem) × (e ≡ refusal problem) × (r ≡ refusal_of problem)
IsElaborated e (Err (Over limit)) = (e ≡ too_large) × (limit ≡ OBJECT_BYTES)
IsElaborated e (Err Memory) = Unit {0}
