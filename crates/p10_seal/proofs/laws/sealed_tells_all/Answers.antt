use Rattle.p10_seal.proofs.Entries.{tells_all}
use Rattle.p10_seal.proofs.laws.sealed_tells_all.Goals as goal

pub returns : goal.returns
returns c = tells_all c.a_text_tells_its_statement.ensures
