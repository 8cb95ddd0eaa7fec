use Rattle.std.proofs.Common.{sym, refl}
use Rattle.p10_cert.specs.private.Found.{place_of}
use Rattle.p10_cert.specs.private.States.{next_of}
use Rattle.p10_cert.proofs.AtPlaces.{not_both, is_nothing, is_something}
use Rattle.p10_cert.proofs.AtEnds.{wrong_end, right_end}
use Rattle.p10_cert.proofs.cursor.Cursor.close.Goals as goal

pub returns-then-not-is_over-clause-wrong : goal.returns-then-not-is_over-clause-wrong
returns-then-not-is_over-clause-wrong c =
    let place = c.after_lines-place.result in
    wrong_end (place_of c.args.self) (place_of place) c.bad.result.line c.requires.closing c.after_lines-place.ensures.follows c.after_lines-place.ensures.stops
    (not_both (next_of place.next) place.rest.now (sym c.if-not-is_over.ensures)) c.bad.ensures

pub returns-then-is_empty-clause-end : goal.returns-then-is_empty-clause-end
returns-then-is_empty-clause-end c =
    let place = c.after_lines-place.result in
    (refl, refl, right_end (place_of c.args.self) (place_of place) c.requires.closing c.after_lines-place.ensures.follows (sym c.if-not-is_over.ensures) (is_nothing place.rest.now (sym c.if-is_empty.ensures)))

pub returns-else-is_empty-clause-wrong : goal.returns-else-is_empty-clause-wrong
returns-else-is_empty-clause-wrong c =
    let place = c.after_lines-place.result in
    wrong_end (place_of c.args.self) (place_of place) c.bad-else-is_empty.result.line c.requires.closing c.after_lines-place.ensures.follows c.after_lines-place.ensures.stops
    (λ over. is_something place.rest.now (sym c.if-is_empty.ensures)) c.bad-else-is_empty.ensures
