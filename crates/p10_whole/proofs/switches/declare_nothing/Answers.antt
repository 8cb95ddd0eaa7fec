use Rattle.std.proofs.Common.{◌≡◌, false, rules}
use Rattle.p10_core.specs.Views.{plain_statement}
use Rattle.p10_core.specs.WholePrograms.{is_declaration}
use Rattle.p10_whole.proofs.Each.{each_next, each_end}
use Rattle.p10_whole.proofs.switches.declare_nothing.Goals as goal

pub loop-item-preserved : goal.loop-item-preserved
loop-item-preserved c =
    let passed : is_declaration (plain_statement c.item-item.result) ≡ false = search rules in
    each_next (λ s. is_declaration s ≡ false) plain_statement _ c.args.items.now c.loop-item.item-index c.item-item.result c.loop-item-test.true c.item-item.is passed c.loop-item.invariant

pub returns : goal.returns
returns c = record { shows = λ _. c.loop-item.invariant (each_end (λ s. is_declaration s ≡ false) plain_statement c.args.items.now c.loop-item.item-index c.loop-item-test.false) }
