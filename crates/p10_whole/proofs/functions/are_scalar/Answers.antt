use Rattle.std.proofs.Common.{◌≡◌, true, rules}
use Rattle.p10_core.specs.Rows.{is_scalar}
use Rattle.p10_core.specs.Types.{plain_type}
use Rattle.p10_core.specs.Views.{plain_variable}
use Rattle.p10_whole.proofs.Each.{each_next, each_end}
use Rattle.p10_whole.proofs.functions.are_scalar.Goals as goal

pub loop-variable-preserved : goal.loop-variable-preserved
loop-variable-preserved c =
    let passed : is_scalar (plain_type c.variable-item.result.ty) ≡ true = search rules in
    each_next (λ v. is_scalar v.type ≡ true) plain_variable _ c.args.variables.now c.loop-variable.variable-index c.variable-item.result c.loop-variable-test.true c.variable-item.is passed c.loop-variable.invariant

pub returns : goal.returns
returns c = record { shows = λ _. c.loop-variable.invariant (each_end (λ v. is_scalar v.type ≡ true) plain_variable c.args.variables.now c.loop-variable.variable-index c.loop-variable-test.false) }
