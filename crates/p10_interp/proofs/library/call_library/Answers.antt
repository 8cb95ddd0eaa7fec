-- The arguments are taken, the function is called, and what it gives is put on top.
use Rattle.std.proofs.Common.{◌∙◌, ap, Err}
use Rattle.std.proofs.lemmas.Result.{err_from_is_err_and}
use Rattle.p10_core.specs.Types.{plain_type}
use Rattle.p10_core.specs.Views.{plain_program}
use Rattle.p10_interp.specs.private.OpenCalls.{calls_in}
use Rattle.p10_interp.specs.private.Machines.{state_of}
use Rattle.p10_interp.proofs.Requested.{call_untaken, call_stopped, call_given}
use Rattle.p10_interp.proofs.library.call_library.Goals as goal

pub returns-in_err-take_arguments-clause-done : goal.returns-in_err-take_arguments-clause-done
returns-in_err-take_arguments-clause-done c = λ io.
    let s = err_from_is_err_and c.from_residual.result c.from_residual.ensures.1 in
    call_untaken (Unit {0}) (plain_program c.args.p.now) c.args.called.0 c.args.called.1 (plain_type c.args.called.2.now) c.args.count c.args.stacks.now.operands c.take_arguments.new.operands (calls_in c.args.stacks.now.calls) (state_of c.args.outside.now io) c.take_arguments.new.arguments c.from_residual.result _ _
    (s.1 ∙ ap (λ y. Err y) s.2) c.in_err-take_arguments.ensures

pub returns-in_err-given-clause-done : goal.returns-in_err-given-clause-done
returns-in_err-given-clause-done c = λ io.
    let s = err_from_is_err_and c.from_residual-in_err-given.result c.from_residual-in_err-given.ensures.1 in
    call_stopped (plain_program c.args.p.now) c.args.called.0 c.args.called.1 (plain_type c.args.called.2.now) c.args.count c.args.stacks.now.operands c.take_arguments.new.operands (calls_in c.args.stacks.now.calls) (state_of c.args.outside.now io) (state_of c.library_value.new.outside io) c.take_arguments.new.arguments c.from_residual-in_err-given.result _ _
    c.in_ok-take_arguments.ensures (s.1 ∙ ap (λ y. Err y) s.2) (c.in_err-given.ensures io)

pub returns-clause-done : goal.returns-clause-done
returns-clause-done c = λ io.
    call_given (plain_program c.args.p.now) c.args.called.0 c.args.called.1 (plain_type c.args.called.2.now) c.args.count c.args.stacks.now.operands c.take_arguments.new.operands c.push.new.self (calls_in c.args.stacks.now.calls) (state_of c.args.outside.now io) (state_of c.library_value.new.outside io) c.take_arguments.new.arguments c.in_ok-given.given c.push.result
    c.in_ok-take_arguments.ensures (c.in_ok-given.ensures io) c.push.ensures.ok c.push.ensures.err
