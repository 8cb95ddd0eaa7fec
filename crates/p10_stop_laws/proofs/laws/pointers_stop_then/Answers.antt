use Rattle.p10_stop_laws.proofs.Moves.{moves_stop_then, relations_stop_then}
use Rattle.p10_stop_laws.proofs.Freeing.{frees_stop_then}
use Rattle.p10_stop_laws.proofs.laws.pointers_stop_then.Goals as goal

pub returns-clause-moves : goal.returns-clause-moves
returns-clause-moves c = moves_stop_then

pub returns-clause-relations : goal.returns-clause-relations
returns-clause-relations c = relations_stop_then

pub returns-clause-frees : goal.returns-clause-frees
returns-clause-frees c = frees_stop_then
