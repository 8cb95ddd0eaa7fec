use Rattle.p10_top.proofs.Agreeing.{accepts_what_is_written}
use Rattle.p10_top.proofs.laws.verify_accepts_what_derive_writes.Goals as goal

pub returns : goal.returns
returns c = accepts_what_is_written c.derived_certificates_are_verified.ensures.texts
