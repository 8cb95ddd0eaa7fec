use Rattle.std.proofs.lemmas.Result.{IfOk-weaker}
use Rattle.p10_core.specs.Views.{plain_program, plain_statements}
use Rattle.p10_flowrules.proofs.LateCalls.{late_are}
use Rattle.p10_flowrules.proofs.late.late_allocations.Goals as goal

pub returns : goal.returns
returns c = IfOk-weaker c.calls_with_memory.result _ _ (λ calls e.
    late_are (plain_program c.args.program.now) c.in_ok-numbers.numbers.items c.in_ok-numbers.ensures c.as_slice.result.now (plain_statements c.late_items.result.now) calls.items c.as_slice.ensures.value c.late_items.ensures e) c.calls_with_memory.ensures
