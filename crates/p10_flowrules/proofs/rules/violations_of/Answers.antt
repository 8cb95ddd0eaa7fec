use Rattle.p10_core.specs.Views.{plain_program}
use Rattle.p10_flowrules.proofs.FlowListed.{flow_collected}
use Rattle.p10_flowrules.proofs.rules.violations_of.Goals as goal

pub returns : goal.returns
returns c =
    flow_collected (plain_program c.args.program.now) c.in_ok-recursive.recursive.items c.as_slice.result.now c.in_ok-exits.exits.items c.as_slice-2.result.now c.in_ok-late.late.items c.as_slice-3.result.now
    c.new-violations.result.items c.push_recursive.new.violations.items c.push_exits.new.violations.items c.push_late.new.violations.items
    c.in_ok-recursive.ensures c.in_ok-exits.ensures c.in_ok-late.ensures c.as_slice.ensures.value c.as_slice-2.ensures.value c.as_slice-3.ensures.value
    c.new-violations.ensures.items c.in_ok-push_recursive.ensures c.in_ok-push_exits.ensures c.in_ok-push_late.ensures
