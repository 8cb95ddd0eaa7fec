use Rattle.p10_front.proofs.Elaborating.{typed_program, typed_without, untyped_is_whole, untyped_without}
use Rattle.p10_front.proofs.typing.typed.Goals as goal

pub returns-in-Ok-clause-typed : goal.returns-in-Ok-clause-typed
returns-in-Ok-clause-typed c = typed_program c.args.expanded c.args.units c.as_slice.result.now c.as_slice.ensures c.in-Ok.program c.in-Ok.ensures.elaborated

pub returns-in-Err-clause-typed : goal.returns-in-Err-clause-typed
returns-in-Err-clause-typed c = typed_without c.args.expanded c.args.units c.as_slice.result.now c.as_slice.ensures c.in-Err.fault c.without_program.result c.in-Err.ensures.elaborated c.without_program.ensures

pub returns-in-Err-clause-fault : goal.returns-in-Err-clause-fault
returns-in-Err-clause-fault c = untyped_without c.args.expanded c.args.units c.as_slice.result.now c.as_slice.ensures c.in-Err.fault c.without_program.result c.in-Err.ensures.elaborated c.without_program.ensures

pub returns-in-Err-clause-whole : goal.returns-in-Err-clause-whole
returns-in-Err-clause-whole c = untyped_is_whole c.args.expanded c.args.units c.as_slice.result.now c.as_slice.ensures c.in-Err.fault c.without_program.result c.without_program.ensures
