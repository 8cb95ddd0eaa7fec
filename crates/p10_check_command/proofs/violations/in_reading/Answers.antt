use Rattle.std.proofs.Common.{refl}
use Rattle.std.proofs.lemmas.Slice.{pushed}
use Rattle.p10_check_command.proofs.Found.{joined, reading_rows}
use Rattle.p10_check_command.proofs.violations.in_reading.Goals as goal

pub returns : goal.returns
returns c =
    reading_rows c.args.sources.now c.args.reading.now c.in_ok-found.found.items c.in_ok-trees.trees.items c.in_ok-program.program.items _
    (joined _ _ _ _ _ _
    (pushed c.as_slice-2.result.now (pushed c.as_slice.result.now refl c.in_ok-extend_from_slice.was c.extend_from_slice.ensures.items) c.in_ok-extend_from_slice-2.was c.extend_from_slice-2.ensures.items)
    c.as_slice.ensures.value c.as_slice-2.ensures.value) c.in_ok-found.ensures.exact c.in_ok-trees.ensures c.in_ok-program.ensures
