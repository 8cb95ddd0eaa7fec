use Rattle.std.proofs.Common.{◌∙◌}
use Rattle.p10_core.specs.Walks.{left_in}
use Rattle.p10_warn.proofs.Collecting.{collected}
use Rattle.p10_warn.proofs.rules.violations_of.Goals as goal

pub returns : goal.returns
returns c =
    collected c.args.program.now c.as_slice-functions.result.now c.as_slice-objects.result.now c.in_ok-file.file.objects.now c.in_ok-file.file.outside.now (left_in c.in_ok-nodes.nodes) c.in_ok-named.named.list.items c.in_ok-called.called.list.items
    c.new-violations.result.items c.push_by_nodes.new.violations.items c.push_unused_objects.new.violations.items c.push_by_functions.new.violations.items
    c.as_slice-functions.ensures c.as_slice-objects.ensures c.in_ok-file.ensures.objects (c.in_ok-file.ensures.outside ∙ c.as_slice.ensures) c.in_ok-nodes.ensures c.in_ok-named.ensures c.in_ok-called.ensures c.new-violations.ensures.items
    c.in_ok-push_by_nodes.ensures c.in_ok-push_unused_objects.ensures c.in_ok-push_by_functions.ensures
