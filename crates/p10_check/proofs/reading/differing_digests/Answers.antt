use Rattle.std.proofs.Common.{◌∙◌, ap, sym}
use Rattle.std.specs.Prelude.{option_map}
use Rattle.p10_cert.specs.Sealed.{bytes_of}
use Rattle.p10_check.specs.Texts.{differing_digests}
use Rattle.p10_check.proofs.reading.differing_digests.Goals as goal

pub returns-in-Some : goal.returns-in-Some
returns-in-Some c = c.unless_same.ensures ∙ ap (λ o. differing_digests c.args.number (option_map bytes_of o) (bytes_of c.args.found)) (sym c.in-Some.is)

pub returns-in-None : goal.returns-in-None
returns-in-None c = ap (λ o. differing_digests c.args.number (option_map bytes_of o) (bytes_of c.args.found)) (sym c.in-None.is)
