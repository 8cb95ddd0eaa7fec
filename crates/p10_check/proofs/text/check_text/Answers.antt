-- The first line that no certificate has, or the verdict on what was told.
use Rattle.std.proofs.Common.{subst}
use Rattle.p10_core.specs.Views.{plain_program}
use Rattle.p10_check.specs.Texts.{digests_of}
use Rattle.p10_check.specs.private.Readings.{IsReading}
use Rattle.p10_check.proofs.TextVerdicts.{has_verdict}
use Rattle.p10_check.proofs.text.check_text.Goals as goal

pub read_text-requires : goal.read_text-requires
read_text-requires g c = c.nothing_told-told.ensures (plain_program c.args.program.now) (digests_of c.args.found.now)

pub returns-in-Some : goal.returns-in-Some
returns-in-Some g c = subst (IsReading (plain_program c.args.program.now) (digests_of c.args.found.now) c.args.bytes.now c.read_text.new.told) c.in-Some.is c.in_ok-bad.ensures

pub returns : goal.returns
returns g c =
    let p = plain_program c.args.program.now in
    let digests = digests_of c.args.found.now in
    let tells = subst (IsReading p digests c.args.bytes.now c.read_text.new.told) c.in-None.is c.in_ok-bad.ensures in
    has_verdict (g.E.Evidence.standing c.args.evidence.now p) p digests c.args.bytes.now tells.statement c.in_ok-verdict-in-None.verdict tells.good tells.exact
    (c.in_ok-verdict-in-None.ensures digests tells.statement tells.good tells.tells)
