use Rattle.p10_seal.proofs.Coded.{sealed_is}
use Rattle.p10_seal.proofs.sealing.sealed_with.Goals as goal

pub returns-clause-same : goal.returns-clause-same
returns-clause-same c = sealed_is c.args.claims c.args.digests c.args.sections
