-- The scalar is true, or the run ends.
use Rattle.std.proofs.Common.{◌∙◌, sym, None}
use Rattle.p10_meaning.specs.Values.{asserted}
use Rattle.p10_code.specs.Machine.{on, put, cell_of, turned}
use Rattle.p10_machine.specs.Turns.{given_to}
use Rattle.p10_machine.specs.Views.{config_of}
use Rattle.p10_machine.proofs.Doing.{done_as}
use Rattle.p10_machine.proofs.Served.{assert_holds, assert_fails}
use Rattle.p10_machine.proofs.library.assert_first.Goals as goal

pub returns-then-is_true : goal.returns-then-is_true
returns-then-is_true c =
    done_as c.put_none.result c.put_none.new.self (λ io. on (put c.args.k (cell_of None) (config_of c.args.s c.args.m.now io))) (λ io. turned (asserted c.args.span c.args.x (config_of c.args.s c.args.m.now io).state) (given_to c.args.k (config_of c.args.s c.args.m.now io)))
    (λ io. assert_holds c.args.k c.args.span c.args.x (config_of c.args.s c.args.m.now io) (sym c.is_true.ensures ∙ c.if-is_true.true)) c.put_none.ensures

pub returns-else-is_true : goal.returns-else-is_true
returns-else-is_true c = λ io. assert_fails c.args.k c.args.span c.args.x (config_of c.args.s c.args.m.now io) (sym c.is_true.ensures ∙ c.if-is_true.false)
