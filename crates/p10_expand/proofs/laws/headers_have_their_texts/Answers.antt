use Rattle.p10_expand.proofs.HeaderTexts.{headers_have_their_texts}
use Rattle.p10_expand.proofs.laws.headers_have_their_texts.Goals as goal

pub returns : goal.returns
returns c = headers_have_their_texts
