use Rattle.std.proofs.Common.{map}
use Rattle.p10_core.specs.Views.{plain_program}
use Rattle.p10_cert.specs.Claims.{claims_of}
use Rattle.p10_diff.specs.Ranked.{rank_by}
use Rattle.p10_approach.specs.Offers.{offers_if}
use Rattle.p10_finder.proofs.Derived.{ranks_found}
use Rattle.p10_finder.proofs.derivation.answer.Goals as goal

pub returns-in-Ok-clause-ranks : goal.returns-in-Ok-clause-ranks
returns-in-Ok-clause-ranks c =
    ranks_found (offers_if c.args.approaching) (plain_program c.args.program.now) (claims_of c.args.judgement.claims) c.in-Ok.found (map rank_by c.args.judgement.bounds.ranks.items) c.requires.right c.in-Ok.ensures.found c.requires.ranks
