use Rattle.std.specs.Option.{option_map}
use Rattle.p10_walk.specs.Leaving.{ends_of, round_by}
use Rattle.p10_pass.proofs.Arms.{is_before}
use Rattle.p10_walk.proofs.Arms.{while_rounded}
use Rattle.p10_walk.proofs.statements.one_round.Goals as goal

pub returns-in_ok-closed-in-While : goal.returns-in_ok-closed-in-While
returns-in_ok-closed-in-While g c =
    while_rounded (g.R.Rules.operations c.args.rules.now) c.args.s.now.at c.args.s.now.form c.in-Loop.loop_head c.in-Loop.field-1 c.in-Loop.test c.in-Loop.third c.in-Loop.body c.as_slice.result.now c.deref-in-While.result.now (g.R.Rules.known c.args.head)
    (option_map g.R.Rules.known c.in_ok-enters-in-While.enters) (option_map g.R.Rules.known c.in_ok-entering-in-While.entering) (option_map g.R.Rules.known c.in_ok-on-in-While.on) (ends_of g.R.Rules.known c.in_ok-ends-in-While.ends) (ends_of g.R.Rules.known c.in_ok-closed-in-While.closed) (round_by g.R.Rules.known c.closed_by.result)
    c.in-Loop.is c.as_slice.ensures c.deref-in-While.ensures (is_before c.in-Loop.loop_head.keyword c.in-While.is) c.in_ok-enters-in-While.ensures c.in_ok-entering-in-While.ensures c.in_ok-ends-in-While.ensures c.in_ok-on-in-While.ensures c.in_ok-closed-in-While.ensures c.closed_by.ensures
