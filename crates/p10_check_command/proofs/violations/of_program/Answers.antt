use Rattle.std.proofs.Common.{refl}
use Rattle.std.proofs.lemmas.Slice.{pushed}
use Rattle.p10_core.specs.Views.{plain_program}
use Rattle.p10_check_command.proofs.Found.{joined, program_rows}
use Rattle.p10_check_command.proofs.violations.of_program.Goals as goal

pub returns : goal.returns
returns c =
    program_rows (plain_program c.args.program.now) c.in_ok-found.found.items c.in_ok-uses.uses.items c.in_ok-warned.warned.items _
    (joined _ _ _ _ _ _
    (pushed c.as_slice-2.result.now (pushed c.as_slice.result.now refl c.in_ok-extend_from_slice.was c.extend_from_slice.ensures.items) c.in_ok-extend_from_slice-2.was c.extend_from_slice-2.ensures.items)
    c.as_slice.ensures.value c.as_slice-2.ensures.value) c.same_loops_lack_bounds.ensures c.in_ok-found.ensures c.in_ok-uses.ensures.exact c.in_ok-warned.ensures.exact
