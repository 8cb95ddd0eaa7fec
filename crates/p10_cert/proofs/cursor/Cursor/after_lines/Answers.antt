use Rattle.std.proofs.Common.{arith}
use Rattle.p10_cert.specs.private.Found.{place_of}
use Rattle.p10_cert.specs.private.Plain.{plain_line}
use Rattle.p10_cert.proofs.AtEnds.{follows_none, follows_more}
use Rattle.p10_cert.proofs.cursor.Cursor.after_lines.Goals as goal

pub loop-after-init : goal.loop-after-init
loop-after-init c = record { follows = follows_none (place_of c.args.self); few = omega arith }

pub step-requires : goal.step-requires
step-requires c = omega (arith, c.loop-after.invariant.few, c.requires.few)

pub loop-after-preserved : goal.loop-after-preserved
loop-after-preserved c = record {
  follows = follows_more (place_of c.args.self) (place_of c.loop-after.place) (place_of c.in-Some.after) (plain_line c.in-Some.field-0-0) c.loop-after.invariant.follows c.in-Some.ensures.exact c.in-Some.ensures.counted;
  few = omega (arith, c.in-Some.ensures.few, c.loop-after.invariant.few);
}
