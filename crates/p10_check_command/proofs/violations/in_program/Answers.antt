use Rattle.std.proofs.Common.{◌↔◌, Option, IfOk, sym, subst}
use Rattle.std.specs.List.{Contains}
use Rattle.p10_base.specs.declared.report.Violation.{Violation}
use Rattle.p10_core.specs.declared.program.Program.{Program}
use Rattle.p10_front.specs.Answers.{typed_of}
use Rattle.p10_check_command.specs.private.Telling.{BreaksRowOfSome}
use Rattle.p10_check_command.proofs.violations.in_program.Goals as goal

pub returns-in-Some : goal.returns-in-Some
returns-in-Some c =
    subst (λ (o : Option Program). IfOk c.of_program.result (λ found. (v : Violation) → Contains found.items v ↔ BreaksRowOfSome (typed_of o) v)) (sym c.in-Some.is) c.of_program.ensures
