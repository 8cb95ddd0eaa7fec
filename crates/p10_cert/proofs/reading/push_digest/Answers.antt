use Rattle.std.proofs.Common.{◌∙◌, ap, sym, option_map}
use Rattle.p10_cert.specs.Sealed.{bytes_of}
use Rattle.p10_cert.proofs.Seals.{pushed_digest, never_none}
use Rattle.p10_cert.proofs.reading.push_digest.Goals as goal

pub returns-in-Some : goal.returns-in-Some
returns-in-Some c = pushed_digest c.push.result c.args.digests.now c.push.new.self c.in-Some.digest c.args.digest c.in-Some.is c.push.ensures.ok

pub returns-in-None : goal.returns-in-None
returns-in-None c = λ e good told. absurd (never_none e good (ap (option_map bytes_of) (sym c.in-None.is) ∙ told))
