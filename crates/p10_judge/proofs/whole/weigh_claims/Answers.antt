use Rattle.std.proofs.Common.{List, ap, map, ◌∙◌}
use Rattle.p10_base.specs.declared.digest.Digest.{Digest}
use Rattle.p10_cert.specs.Sealed.{bytes_of}
use Rattle.p10_check.specs.Texts.{digests_of}
use Rattle.p10_core.specs.Views.{plain_program}
use Rattle.p10_judge.specs.Kept.{kept_of, stale_among}
use Rattle.p10_judge.proofs.Claimed.{claims_weighed, stale_weighed}
use Rattle.p10_judge.proofs.whole.weigh_claims.Goals as goal

pub returns-in-Some : goal.returns-in-Some
returns-in-Some c =
    λ bytes short read.
    stale_weighed (plain_program c.args.program.now) (digests_of c.args.digests.now) bytes short c.args.evidence.now c.args.claims c.args.kept.now c.first_stale.result c.in-Some.stale c.name_at.result read
    (c.first_stale.ensures ∙ ap (λ (ds : List Digest). stale_among 0 (map kept_of c.args.kept.now) (map bytes_of ds)) c.as_slice.ensures) c.in-Some.is c.name_at.ensures

pub returns-in-None : goal.returns-in-None
returns-in-None c =
    claims_weighed (plain_program c.args.program.now) (digests_of c.args.digests.now) c.args.evidence.now c.args.claims c.args.kept.now c.first_stale.result c.try_conditions.result
    (c.first_stale.ensures ∙ ap (λ (ds : List Digest). stale_among 0 (map kept_of c.args.kept.now) (map bytes_of ds)) c.as_slice.ensures) c.in-None.is c.try_conditions.ensures
