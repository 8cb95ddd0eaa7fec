use Rattle.p10_section_rechecks.proofs.Standing.{sections_recheck_as_whole}
use Rattle.p10_section_rechecks.proofs.laws.sections_recheck_as_whole.Goals as goal

pub returns : goal.returns
returns c = sections_recheck_as_whole c.one_list_of_ranks.ensures
