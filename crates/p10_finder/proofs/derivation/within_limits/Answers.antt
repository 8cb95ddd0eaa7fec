use Rattle.p10_core.specs.Views.{plain_program}
use Rattle.p10_cert.specs.Claims.{claims_of}
use Rattle.p10_finder.proofs.Derived.{claiming}
use Rattle.p10_approach.specs.Offers.{offers_if}
use Rattle.p10_finder.proofs.derivation.within_limits.Goals as goal

pub limited-requires-clause-claiming : goal.limited-requires-clause-claiming
limited-requires-clause-claiming c = claiming (offers_if c.args.approaching) (plain_program c.args.program.now) (claims_of c.args.results.now) (claims_of c.in-Ok.certificate) c.requires.right c.requires.lawful c.in-Ok.ensures
