use Rattle.p10_core.specs.Views.{plain_statement}
use Rattle.p10_meaning.specs.Variables.{may_change}
use Rattle.p10_diff.proofs.Lists.{marked_next, marked_end}
use Rattle.p10_diff.proofs.listed.without_changed.Goals as goal

pub loop-x-preserved : goal.loop-x-preserved
loop-x-preserved c =
    marked_next (λ n. may_change n (plain_statement c.args.c.now.by.now)) c.args.bounds.now c.loop-x.left.items c.put_unless.new.left.items _ c.loop-x.x-index _ c.bound_changes.result
    c.loop-x-test.true c.bound_changes.ensures c.loop-x.invariant c.in_ok-put_unless.ensures

pub returns : goal.returns
returns c = marked_end (λ n. may_change n (plain_statement c.args.c.now.by.now)) c.args.bounds.now c.loop-x.left.items _ c.loop-x.x-index c.loop-x-test.false c.loop-x.invariant
