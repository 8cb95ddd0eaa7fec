use Rattle.std.proofs.lemmas.Result.{IfOk-weaker}
use Rattle.p10_direct.proofs.Definitions.{read_is}
use Rattle.p10_direct.proofs.definition.read_definition.Goals as goal

pub returns : goal.returns
returns c = IfOk-weaker c.read_words.result _ _ (λ found e. read_is _ _ e) c.read_words.ensures
