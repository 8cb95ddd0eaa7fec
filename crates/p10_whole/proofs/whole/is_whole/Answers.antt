use Rattle.p10_whole.proofs.Assembling.{program_is}
use Rattle.p10_whole.proofs.whole.is_whole.Goals as goal

pub returns : goal.returns
returns c = program_is c.args.program.now c.as_slice-objects.result.now c.as_slice-literals.result.now c.as_slice.result.now _ _ _ _ _ _ c.as_slice-objects.ensures c.as_slice-literals.ensures c.as_slice.ensures c.are_whole.ensures c.are_few_bytes.ensures c.are_rising.ensures c.are_small_literals.ensures c.has_main.ensures c.are_whole_objects.ensures c.in_ok-functions.ensures
