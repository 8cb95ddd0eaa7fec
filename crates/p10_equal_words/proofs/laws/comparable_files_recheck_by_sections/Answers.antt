use Rattle.p10_equal_words.proofs.Rechecking.{comparable_files_recheck_by_sections}
use Rattle.p10_equal_words.proofs.laws.comparable_files_recheck_by_sections.Goals as goal

pub returns : goal.returns
returns c = comparable_files_recheck_by_sections c.sections_recheck_as_whole.ensures
