use Rattle.p10_calls.proofs.Uniqueness.{recursive_calls_are_one_list}
use Rattle.p10_calls.proofs.laws.recursive_calls_are_one_list.Goals as goal

pub returns : goal.returns
returns c = recursive_calls_are_one_list
