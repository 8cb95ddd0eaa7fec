use Rattle.p10_word_views.proofs.Joining.{files_recheck_as_whole}
use Rattle.p10_word_views.proofs.laws.files_recheck_as_whole.Goals as goal

pub returns : goal.returns
returns c = files_recheck_as_whole
