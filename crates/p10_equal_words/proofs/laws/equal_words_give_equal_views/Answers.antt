use Rattle.p10_equal_words.proofs.Joining.{equal_words_have_equal_views}
use Rattle.p10_equal_words.proofs.laws.equal_words_give_equal_views.Goals as goal

pub returns : goal.returns
returns c = equal_words_have_equal_views
