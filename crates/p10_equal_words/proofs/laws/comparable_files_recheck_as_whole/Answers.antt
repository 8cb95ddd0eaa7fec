use Rattle.p10_equal_words.proofs.Rechecking.{comparable_files_recheck_as_whole}
use Rattle.p10_equal_words.proofs.laws.comparable_files_recheck_as_whole.Goals as goal

pub returns : goal.returns
returns c = comparable_files_recheck_as_whole
