use Rattle.std.proofs.lemmas.Result.{err_from_is_err_and}
use Rattle.p10_gen.proofs.Lines.{fault_is, text_is}
use Rattle.p10_gen.proofs.generated.Goals as goal

pub returns-in_err-put_program-clause-fault : goal.returns-in_err-put_program-clause-fault
returns-in_err-put_program-clause-fault c =
    let p = err_from_is_err_and c.from_residual.result c.from_residual.ensures.1 in
    rw (p.1, p.2) (fault_is _ _ c.args.functions c.new-text.ensures c.in_err-put_program.ensures.fault)

pub returns-clause-text : goal.returns-clause-text
returns-clause-text c = text_is _ _ _ c.args.functions c.new-text.ensures c.in_ok-put_program.ensures.ok c.into_bytes.ensures.text
