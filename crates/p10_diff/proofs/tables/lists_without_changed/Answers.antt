use Rattle.std.proofs.Common.{ℕ, Bool, ap, ◌∙◌}
use Rattle.p10_core.specs.Views.{plain_statement}
use Rattle.p10_meaning.specs.Variables.{may_change}
use Rattle.p10_diff.specs.Listed.{without_marked}
use Rattle.p10_diff.proofs.Tabled.{mapped_next, mapped_end}
use Rattle.p10_diff.proofs.tables.lists_without_changed.Goals as goal

pub loop-list-preserved : goal.loop-list-preserved
loop-list-preserved c =
    let changed : ℕ → Bool = λ n. may_change n (plain_statement c.args.c.now.by.now) in
    mapped_next (without_marked changed) c.args.table.now c.loop-list.left.items c.push.new.self.items _ c.loop-list.list-index c.list-item.result c.of.result
    c.loop-list-test.true c.list-item.is (c.of.ensures ∙ c.in_ok-others.ensures ∙ ap (without_marked changed) c.as_slice.ensures) c.loop-list.invariant c.in_ok-push.ensures.items

pub returns : goal.returns
returns c = mapped_end (without_marked (λ n. may_change n (plain_statement c.args.c.now.by.now))) c.args.table.now c.loop-list.left.items _ c.loop-list.list-index c.loop-list-test.false c.loop-list.invariant
