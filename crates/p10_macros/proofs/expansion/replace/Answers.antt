use Rattle.std.proofs.Common.{map}
use Rattle.std.proofs.lemmas.Result.{err_from_is_err_and}
use Rattle.p10_base.specs.Words.{plain_word}
use Rattle.p10_macros.specs.Answers.{table_of}
use Rattle.p10_macros.proofs.Whole.{begun, advanced, failed, ended}
use Rattle.p10_macros.proofs.expansion.replace.Goals as goal

pub loop-next-init : goal.loop-next-init
loop-next-init c = begun (table_of c.args.macros.now) c.args.words.now c.args.left c.in_ok-run.run' c.in_ok-run.ensures

pub returns-in_err-step-clause-refused : goal.returns-in_err-step-clause-refused
returns-in_err-step-clause-refused c =
    let p = err_from_is_err_and c.from_residual-in_err-step.result c.from_residual-in_err-step.ensures.1 in
    rw (p.1, p.2) (failed (table_of c.args.macros.now) (map plain_word c.args.words.now) c.args.left c.loop-next.run c.pop.new.self c.in-Some.next c.in_err-step.field-0.0 c.in-Some.ensures.some c.loop-next.invariant c.in_err-step.ensures.err)

pub returns-clause-replaced : goal.returns-clause-replaced
returns-clause-replaced c = ended (table_of c.args.macros.now) (map plain_word c.args.words.now) c.args.left c.loop-next.run c.in_default.ensures.none c.loop-next.invariant

pub loop-next-preserved : goal.loop-next-preserved
loop-next-preserved c =
    advanced (table_of c.args.macros.now) _ c.loop-next.run c.step.new.run c.pop.new.self c.in-Some.next c.in-Some.ensures.some c.loop-next.invariant c.in_ok-step.ensures.ok
