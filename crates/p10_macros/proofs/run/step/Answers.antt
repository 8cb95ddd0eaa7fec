use Rattle.std.proofs.Common.{refl, sym, ◌∙◌, true, false, arith}
use Rattle.p10_macros.specs.Answers.{table_of}
use Rattle.p10_macros.proofs.Results.{on_ok_so, if_err_so}
use Rattle.p10_macros.proofs.Moves.{at_end}
use Rattle.p10_macros.proofs.run.step.Goals as goal

pub returns-then-is_punctuator-clause-ok : goal.returns-then-is_punctuator-clause-ok
returns-then-is_punctuator-clause-ok c =
    on_ok_so c.end_call.result c.end_call.ensures.ok (λ advances. λ state represents. advances (table_of c.args.macros.now) c.args.next state
    (at_end c.args.run.now c.args.next state true (sym c.is_punctuator.ensures ∙ c.if-is_punctuator.true) (omega (arith, c.count.ensures, c.if-count-run.false)) represents))

pub returns-then-is_punctuator-clause-err : goal.returns-then-is_punctuator-clause-err
returns-then-is_punctuator-clause-err c =
    if_err_so c.end_call.result c.end_call.ensures.err (λ f fails. λ state represents. fails (table_of c.args.macros.now) c.args.next state
    (at_end c.args.run.now c.args.next state true (sym c.is_punctuator.ensures ∙ c.if-is_punctuator.true) (omega (arith, c.count.ensures, c.if-count-run.false)) represents))

pub returns-else-is_punctuator-clause-ok : goal.returns-else-is_punctuator-clause-ok
returns-else-is_punctuator-clause-ok c =
    on_ok_so c.end_argument.result c.end_argument.ensures.ok (λ advances. λ state represents. advances (table_of c.args.macros.now) c.args.next refl state
    (at_end c.args.run.now c.args.next state false (sym c.is_punctuator.ensures ∙ c.if-is_punctuator.false) (omega (arith, c.count.ensures, c.if-count-run.false)) represents))
