use Rattle.p10_check_command.proofs.Written.{code_of_some, no_refusal, refusal_stopped, refusal_taken}
use Rattle.p10_check_command.proofs.tell.put_refusal_line.Goals as goal

pub put_refusal-requires : goal.put_refusal-requires
put_refusal-requires g c = code_of_some c.args.refusal c.in-Some.refusal c.in-Some.is c.requires

pub returns-in-Some-clause-ok : goal.returns-in-Some-clause-ok
returns-in-Some-clause-ok g c = refusal_taken c.put_refusal.result c.args.sources.now c.args.refusal c.in-Some.refusal _ _ c.in-Some.is c.put_refusal.ensures.ok

pub returns-in-Some-clause-front : goal.returns-in-Some-clause-front
returns-in-Some-clause-front g c = refusal_stopped c.put_refusal.result c.args.sources.now c.args.refusal c.in-Some.refusal _ _ c.in-Some.is c.put_refusal.ensures.stopped

pub returns-in-None-clause-ok : goal.returns-in-None-clause-ok
returns-in-None-clause-ok g c = no_refusal c.args.sources.now c.args.refusal _ c.in-None.is
