-- All claims fit where none is left after the body.
use Rattle.std.proofs.Common.{ap}
use Rattle.p10_core.specs.Views.{plain_function, plain_statements}
use Rattle.p10_fit.proofs.Scanning.{told_by_place, told_nowhere}
use Rattle.p10_fit.proofs.loops.fits_loops.Goals as goal

pub returns-in-Some : goal.returns-in-Some
returns-in-Some c =
    told_by_place (plain_function c.args.function.now) c.args.task c.declare_first.new.self.numbers.items (plain_statements c.as_slice-2.result.now) c.args.claims.now c.in_ok-after.after c.in-Some.place
    c.in_ok-declare_first.ensures.ok (ap plain_statements c.as_slice-2.ensures) c.in-Some.is c.in_ok-after.ensures.follows

pub returns : goal.returns
returns c =
    told_nowhere (plain_function c.args.function.now) c.args.task c.declare_first.new.self.numbers.items (plain_statements c.as_slice-2.result.now) c.args.claims.now c.in_ok-after.after
    c.in_ok-declare_first.ensures.ok (ap plain_statements c.as_slice-2.ensures) c.in-None.is c.in_ok-after.ensures.follows
