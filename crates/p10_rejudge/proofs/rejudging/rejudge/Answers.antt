use Rattle.p10_core.specs.Views.{plain_program}
use Rattle.p10_cert.specs.Sealed.{bytes_of, statement_of}
use Rattle.p10_check.specs.Texts.{digests_of}
use Rattle.p10_rejudge.proofs.Unread.{unread_told}
use Rattle.p10_rejudge.proofs.rejudging.rejudge.Goals as goal

pub returns-in-Err : goal.returns-in-Err
returns-in-Err g c =
    unread_told (g.E.Evidence.standing c.args.evidence.now (plain_program c.args.program.now)) (plain_program c.args.program.now) (digests_of c.args.found.now) (bytes_of c.args.found.now.outside) (statement_of c.args.new.now) c.args.old.now
    c.read2.result c.in-Err.fault c.unread.result c.read2.ensures c.in-Err.is c.unread.ensures
