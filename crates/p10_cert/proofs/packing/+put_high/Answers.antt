use Rattle.std.proofs.Common.{arith}
use Rattle.p10_cert.proofs.PackingLaws.{put_none, put_zero, put_more}
use Rattle.p10_cert.proofs.packing.+put_high.Goals as goal

pub returns-then-most-eq0 : goal.returns-then-most-eq0
returns-then-most-eq0 t c = put_none c.args.most c.args.number c.args.bytes.now.items c.if-most-eq0.true

pub returns-then-number-eq0 : goal.returns-then-number-eq0
returns-then-number-eq0 t c = put_zero c.args.most c.args.number c.args.bytes.now.items c.if-number-eq0.true

pub returns : goal.returns
returns t c =
    put_more c.args.most c.args.number c.args.bytes.now.items c.put_high.new.bytes.items c.push.new.self.items (omega (arith, c.if-most-eq0.false)) (omega (arith, c.if-number-eq0.false)) c.in_ok-put_high.ensures c.in_ok-push.ensures.items
