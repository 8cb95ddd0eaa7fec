use Rattle.std.proofs.Common.{List, ap, map, ◌∙◌}
use Rattle.p10_base.specs.declared.digest.Digest.{Digest}
use Rattle.p10_cert.specs.Claims.{claims_of}
use Rattle.p10_cert.specs.Sealed.{bytes_of}
use Rattle.p10_core.specs.Views.{plain_program}
use Rattle.p10_front.specs.Digests.{plain_digests}
use Rattle.p10_judge.specs.Kept.{kept_of, stale_among}
use Rattle.p10_migrate_command.proofs.Coming.{stale_comes, fresh_comes}
use Rattle.p10_migrate_command.proofs.decide.migrate_whole.Goals as goal

pub returns-in-Some : goal.returns-in-Some
returns-in-Some c =
    stale_comes (plain_program c.args.program.now) (plain_digests c.args.found) (claims_of c.args.claims) _ c.first_stale.result c.in-Some.stale c.name_at.result
    (c.first_stale.ensures ∙ ap (λ (ds : List Digest). stale_among 0 (map kept_of c.args.kept.now) (map bytes_of ds)) c.as_slice.ensures) c.in-Some.is c.name_at.ensures

pub returns-in-None : goal.returns-in-None
returns-in-None c =
    fresh_comes (plain_program c.args.program.now) (plain_digests c.args.found) (claims_of c.args.claims) _ c.first_stale.result c.migrate_claims.result
    (c.first_stale.ensures ∙ ap (λ (ds : List Digest). stale_among 0 (map kept_of c.args.kept.now) (map bytes_of ds)) c.as_slice.ensures) c.in-None.is c.migrate_claims.ensures
