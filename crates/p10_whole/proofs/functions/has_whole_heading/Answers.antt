use Rattle.std.proofs.Common.{arith, ◌≤◌, length}
use Rattle.p10_whole.proofs.Assembling.{heading_is}
use Rattle.p10_whole.proofs.functions.has_whole_heading.Goals as goal

pub returns : goal.returns
returns c =
    let there : c.args.function.now.params ≤ length c.as_slice-variables.result.now = grind arith in
    heading_is _ c.args.function.now c.first_of.result.now c.as_slice-variables.result.now _ _ _ _ there c.as_slice-variables.ensures c.first_of.ensures c.are_scalar.ensures c.is_result.ensures c.are_whole_variables.ensures c.are_small.ensures
