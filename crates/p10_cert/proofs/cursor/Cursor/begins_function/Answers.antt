use Rattle.p10_cert.specs.private.States.{next_of}
use Rattle.p10_cert.proofs.AtPlaces.{function_ends}
use Rattle.p10_cert.proofs.cursor.Cursor.begins_function.Goals as goal

pub returns-in-Some : goal.returns-in-Some
returns-in-Some c = λ begins. function_ends (next_of c.args.self.next) c.args.self.rest.now _ c.in-Some.ensures
