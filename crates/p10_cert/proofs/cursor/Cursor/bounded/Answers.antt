use Rattle.p10_cert.specs.private.Found.{place_of}
use Rattle.p10_cert.proofs.AtEnds.{bounds_closing, has_bounds, only_bounds}
use Rattle.p10_cert.proofs.cursor.Cursor.bounded.Goals as goal

pub close-requires-clause-closing : goal.close-requires-clause-closing
close-requires-clause-closing c = bounds_closing (place_of c.args.self) (place_of c.args.after) c.args.line c.in-Total.total c.requires.total c.requires.step c.in-Total.is

pub returns-in-Total : goal.returns-in-Total
returns-in-Total c =
    let found = has_bounds (place_of c.args.self) (place_of c.args.after) c.args.line c.args.outside c.in-Total.total c.close.result c.requires.step c.in-Total.is c.requires.number c.close.ensures.end c.close.ensures.wrong in
    record { end = found.0; wrong = found.1 }

pub returns-in_default : goal.returns-in_default
returns-in_default c = absurd (only_bounds (place_of c.args.self) (place_of c.args.after) c.args.line c.requires.total c.requires.step c.in_default.not-Total)
