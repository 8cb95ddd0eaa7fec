use Rattle.p10_cert.specs.Claims.{claims_of}
use Rattle.p10_core.specs.Views.{plain_program}
use Rattle.p10_front.specs.Digests.{plain_digests}
use Rattle.p10_migrate_command.proofs.Coming.{fit_comes, one_each, unfit_comes}
use Rattle.p10_migrate_command.proofs.decide.migrate_claims.Goals as goal

pub returns-in-Some : goal.returns-in-Some
returns-in-Some c =
    unfit_comes (plain_program c.args.program.now) (plain_digests c.args.found) (claims_of c.args.claims) c.in_ok-number.field-0 c.in-Some.number c.name_at.result c.in_ok-number.ensures c.in-Some.is c.name_at.ensures

pub seal-requires : goal.seal-requires
seal-requires c = one_each c.fit_speaks.ensures (plain_program c.args.program.now) c.args.claims c.args.found c.in_ok-number.field-0 c.requires c.in_ok-number.ensures c.in-None.is

pub returns-in-None : goal.returns-in-None
returns-in-None c = fit_comes (plain_program c.args.program.now) (plain_digests c.args.found) (claims_of c.args.claims) c.in_ok-number.field-0 c.seal.result c.in_ok-number.ensures c.in-None.is c.seal.ensures
