use Rattle.p10_cert.specs.private.Found.{place_of}
use Rattle.p10_cert.proofs.AtPlaces.{finds_from}
use Rattle.p10_cert.proofs.cursor.Cursor.find.Goals as goal

pub returns-in-Some : goal.returns-in-Some
returns-in-Some c = finds_from (place_of c.args.self) (place_of c.in_ok-start.start) c.found.result c.in_ok-start.ensures.ok c.found.ensures
