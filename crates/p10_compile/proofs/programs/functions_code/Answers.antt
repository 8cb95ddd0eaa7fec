-- One more function is compiled, and its entry stands beside those before it.
use Rattle.std.proofs.Common.{◌≡◌, ◌+◌, length, map, ◌∙◌, ap}
use Rattle.p10_core.specs.Views.{plain_program}
use Rattle.p10_compile.specs.Views.{plain_op}
use Rattle.p10_compile.proofs.Compiled.{functions_next, entries_next, entry_put}
use Rattle.p10_compile.proofs.programs.functions_code.Goals as goal

pub loop-f-preserved : goal.loop-f-preserved
loop-f-preserved c =
    let next : c.in_ok-next.next ≡ c.args.at + length (map plain_op c.loop-f.ops.items) = c.in_ok-next.ensures ∙ ap (λ xs. c.args.at + length (map plain_op xs)) c.as_slice.ensures.value in
    record {
      ops = functions_next (plain_program c.args.program.now) c.args.functions.now c.loop-f.f-index c.args.at c.in_ok-next.next c.f-item.result _ _ _ _ c.loop-f-test.true c.f-item.is next c.in_ok-more.ensures c.in_ok-ops.ensures c.loop-f.invariant.ops;
      entries = entries_next (plain_program c.args.program.now) c.args.functions.now c.loop-f.f-index c.args.at c.in_ok-next.next c.f-item.result _ _ _ _ _ _ c.loop-f-test.true c.f-item.is next c.in_ok-more.ensures c.in_ok-ops.ensures (entry_put _ _ _ _ c.in_ok-push.ensures.items c.in_ok-entry_of.ensures) c.loop-f.invariant.entries;
    }
