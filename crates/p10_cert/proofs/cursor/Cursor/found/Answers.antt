use Rattle.p10_cert.specs.private.Found.{place_of}
use Rattle.p10_cert.proofs.AtEnds.{total_last, has_total, outside_total, has_outside}
use Rattle.p10_cert.proofs.AtPlaces.{no_other, only_outer}
use Rattle.p10_cert.proofs.cursor.Cursor.found.Goals as goal

pub close-requires-clause-closing : goal.close-requires-clause-closing
close-requires-clause-closing c = total_last (place_of c.args.self) (place_of c.args.after) c.args.line c.in-Total.total c.requires.between.0 c.requires.between.1 c.requires.step c.in-Total.is

pub returns-in-Total : goal.returns-in-Total
returns-in-Total c = has_total (place_of c.args.self) (place_of c.args.after) c.args.line c.in-Total.total c.close.result c.requires.step c.in-Total.is c.requires.number c.close.ensures.end c.close.ensures.wrong

pub bounds-requires-clause-total : goal.bounds-requires-clause-total
bounds-requires-clause-total c = outside_total (place_of c.args.self) (place_of c.args.after) c.args.line c.in-Outside.digest c.requires.step c.in-Outside.is

pub returns-in-Outside : goal.returns-in-Outside
returns-in-Outside c = has_outside (place_of c.args.self) (place_of c.args.after) c.args.line c.in-Outside.digest c.bounds.result c.requires.step c.in-Outside.is c.requires.number c.bounds.ensures.end c.bounds.ensures.wrong

pub returns-in_default : goal.returns-in_default
returns-in_default c =
    absurd (only_outer c.args.line (no_other (place_of c.args.self) (place_of c.args.after) c.args.line c.requires.between.0 c.requires.between.1 c.requires.stops c.requires.step) c.in_default.not-Func c.in_default.not-Total c.in_default.not-Outside)
