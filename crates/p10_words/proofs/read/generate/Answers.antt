use Rattle.p10_words.proofs.Answering.{generate_done, generate_without, generate_lost}
use Rattle.p10_words.proofs.read.generate.Goals as goal

pub returns-in-Some : goal.returns-in-Some
returns-in-Some c = generate_done _ c.in-Ok.found _ c.generate_of.result c.in-Ok.ensures c.in-Some.ensures c.generate_of.ensures

pub returns-in-Ok : goal.returns-in-Ok
returns-in-Ok c = generate_without _ c.in-Ok.found c.in-Ok.ensures c.in-None.ensures

pub returns : goal.returns
returns c = generate_lost _ c.in-Err.fault c.in-Err.ensures
