use Rattle.p10_word_views.proofs.Keeping.{readings_keep_views}
use Rattle.p10_word_views.proofs.laws.readings_keep_views.Goals as goal

pub returns : goal.returns
returns c = readings_keep_views
