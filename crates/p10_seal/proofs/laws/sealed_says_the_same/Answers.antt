use Rattle.p10_seal.proofs.Entries.{says_the_same}
use Rattle.p10_seal.proofs.laws.sealed_says_the_same.Goals as goal

pub returns : goal.returns
returns c = says_the_same
