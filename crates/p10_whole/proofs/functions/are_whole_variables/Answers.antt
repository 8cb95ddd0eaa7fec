use Rattle.std.proofs.Common.{◌≡◌, true, rules}
use Rattle.p10_core.specs.Views.{plain_types, plain_variable}
use Rattle.p10_core.specs.WholePrograms.{IsWholeVariable}
use Rattle.p10_whole.proofs.Each.{each_next, each_end}
use Rattle.p10_whole.proofs.functions.are_whole_variables.Goals as goal

pub loop-variable-preserved : goal.loop-variable-preserved
loop-variable-preserved c =
    let passed : c.is_whole_variable.result ≡ true = search rules in
    each_next (IsWholeVariable (plain_types c.args.types.now)) plain_variable _ c.args.variables.now c.loop-variable.variable-index c.variable-item.result c.loop-variable-test.true c.variable-item.is (c.is_whole_variable.ensures.shows passed) c.loop-variable.invariant

pub returns : goal.returns
returns c = record { shows = λ _. c.loop-variable.invariant (each_end (IsWholeVariable (plain_types c.args.types.now)) plain_variable c.args.variables.now c.loop-variable.variable-index c.loop-variable-test.false) }
