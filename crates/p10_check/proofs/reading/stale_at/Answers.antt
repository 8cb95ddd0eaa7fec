use Rattle.std.proofs.Common.{◌∙◌, ap, sym}
use Rattle.std.specs.Prelude.{option_copied, option_map}
use Rattle.p10_cert.specs.Sealed.{bytes_of}
use Rattle.p10_check.specs.Texts.{differing_digests}
use Rattle.p10_check.specs.private.Readings.{stale_at}
use Rattle.p10_check.proofs.reading.stale_at.Goals as goal

pub returns-in-Some : goal.returns-in-Some
returns-in-Some c =
    λ e sealed good exact.
    c.differing_digests.ensures
    ∙ ap (λ kept. differing_digests c.args.number kept (bytes_of c.in-Some.found.now)) (c.digest.ensures e sealed good exact)
    ∙ ap (λ o. stale_at c.args.number e (option_map bytes_of (option_copied o))) (sym c.in-Some.is)

pub returns-in-None : goal.returns-in-None
returns-in-None c = λ e sealed good exact. ap (λ o. stale_at c.args.number e (option_map bytes_of (option_copied o))) (sym c.in-None.is)
