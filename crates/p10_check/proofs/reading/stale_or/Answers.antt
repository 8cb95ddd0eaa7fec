use Rattle.std.proofs.Common.{◌∙◌, ap, sym}
use Rattle.std.specs.Prelude.{option_map}
use Rattle.p10_check.specs.private.Readings.{stale_of, stale_at, stale_or}
use Rattle.p10_check.specs.Texts.{digests_of}
use Rattle.p10_check.proofs.reading.stale_or.Goals as goal

pub returns-in-Some : goal.returns-in-Some
returns-in-Some c = λ e sealed good exact. ap (λ o. stale_or (option_map stale_of o) c.args.number e (digests_of c.args.found.now)) (sym c.in-Some.is)

pub returns-in-None : goal.returns-in-None
returns-in-None c =
    λ e sealed good exact. c.stale_at.ensures e sealed good exact ∙ ap (stale_at c.args.number e) c.digest_at.ensures
    ∙ ap (λ o. stale_or (option_map stale_of o) c.args.number e (digests_of c.args.found.now)) (sym c.in-None.is)
