-- The variable is there, and its initialiser comes next.
use Rattle.std.proofs.Common.{◌∙◌, ap, Err, option_map}
use Rattle.std.proofs.lemmas.Result.{err_from_is_err_and}
use Rattle.p10_core.specs.Views.{plain_program, plain_variable}
use Rattle.p10_interp.specs.private.OpenCalls.{calls_in}
use Rattle.p10_interp.specs.private.Machines.{state_of}
use Rattle.p10_interp.proofs.Declared.{variable_is, declares_err, declares_ok}
use Rattle.p10_interp.proofs.declaring.declare.Goals as goal

pub returns-in_err-target-in-Some : goal.returns-in_err-target-in-Some
returns-in_err-target-in-Some c = λ io f calls e.
    let p = err_from_is_err_and c.from_residual.result c.from_residual.ensures.1 in
    declares_err c.from_residual.result _ (plain_program c.args.p.now) c.args.number (plain_variable c.in-Some.variable.now) f calls (state_of c.args.outside.now io) (calls_in c.open_variable.new.calls) (state_of c.open_variable.new.outside io) (state_of c.open_variable.new.outside io) _ _ (p.1 ∙ ap (λ y. Err y) p.2) (c.in_err-target-in-Some.ensures io f calls e)

pub returns-in_ok-target-in-Some : goal.returns-in_ok-target-in-Some
returns-in_ok-target-in-Some c = λ io f calls e.
    declares_ok _ _ _ (plain_variable c.in-Some.variable.now) _ _ _ _ _ _ _ _ _ _ _ _ _ (variable_is _ _ _ _ f calls c.variable.ensures (ap (λ o. option_map (λ v. plain_variable v.now) o) c.in-Some.is) e)
    (c.in_ok-target-in-Some.ensures io f calls e) (λ g here. c.initialize.ensures g calls _ here)
