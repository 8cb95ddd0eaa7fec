use Rattle.std.proofs.Common.{◌≡◌, true, rules}
use Rattle.p10_core.specs.Views.{plain_statement}
use Rattle.p10_core.specs.WholePrograms.{is_expression}
use Rattle.p10_whole.proofs.Openings.{all_next, all_end}
use Rattle.p10_whole.proofs.clauses.are_expressions.Goals as goal

pub loop-s-preserved : goal.loop-s-preserved
loop-s-preserved c =
    let passed : is_expression (plain_statement c.s-item.result) ≡ true = search rules in
    all_next is_expression _ c.args.all.now c.loop-s.s-index c.s-item.result c.loop-s-test.true c.s-item.is passed c.loop-s.invariant

pub returns : goal.returns
returns c = record { shows = λ _. c.loop-s.invariant (all_end is_expression c.args.all.now c.loop-s.s-index c.loop-s-test.false) }
