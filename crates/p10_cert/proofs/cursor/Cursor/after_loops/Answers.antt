use Rattle.std.proofs.Common.{arith}
use Rattle.p10_cert.specs.private.Found.{place_of}
use Rattle.p10_cert.specs.private.States.{next_of}
use Rattle.p10_cert.proofs.Further.{leads_none, leads_further, goes_shorter, inside_loop}
use Rattle.p10_cert.proofs.cursor.Cursor.after_loops.Goals as goal

pub loop-after-init : goal.loop-after-init
loop-after-init c = record { leads = leads_none (place_of c.args.self); stays = c.requires.begun; few = omega arith }

pub further-requires : goal.further-requires
further-requires c = omega (arith, c.loop-after.invariant.few, c.requires.few)

pub loop-after-smaller : goal.loop-after-smaller
loop-after-smaller c = goes_shorter (next_of c.loop-after.place.next) c.loop-after.place.rest.now (place_of c.loop-after.place) (place_of c.in-Some.after) c.in-Some.ensures.goes

pub loop-after-preserved : goal.loop-after-preserved
loop-after-preserved c =
    let more = leads_further (place_of c.args.self) (place_of c.loop-after.place) (place_of c.in-Some.after) c.loop-after.invariant.leads (inside_loop (next_of c.loop-after.place.next) c.loop-after.invariant.stays) c.in-Some.ensures.goes in
    record { leads = more.0; stays = more.1; few = omega (arith, c.in-Some.ensures.few, c.loop-after.invariant.few) }
