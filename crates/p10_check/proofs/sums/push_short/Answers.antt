-- The sums up to the limit decide where claims fall short.
use Rattle.std.proofs.Common.{◌∙◌, ◌++◌, map, ap}
use Rattle.p10_core.specs.Views.{plain_function, plain_program}
use Rattle.p10_cert.specs.Claims.{func_of, claims_of}
use Rattle.p10_check.specs.Sums.{short_turn}
use Rattle.p10_check.specs.Conditions.{failing_at_each}
use Rattle.p10_check.specs.Fails.{failures_of}
use Rattle.p10_check.specs.private.Shortfalls.{short_steps_by, short_depths_by}
use Rattle.p10_check.proofs.Capping.{short_told}
use Rattle.p10_check.proofs.sums.push_short.Goals as goal

pub returns : goal.returns
returns c =
    short_told (plain_program c.args.program.now) (claims_of c.args.certificate.now).funcs c.args.number (plain_function c.args.function.now) c.capped_sum_of-sum.result c.task_head-head.result
    (failures_of c.args.failing.now.items) (failures_of c.push_short_steps.new.failing.items) (failures_of c.push_short_turn.new.failing.items) (failures_of c.push_short_depths.new.failing.items)
    c.capped_sum_of-sum.ensures.steps c.capped_sum_of-sum.ensures.calls c.capped_sum_of-sum.ensures.bytes c.capped_sum_of-sum.ensures.turn c.requires.there c.task_head-head.ensures
    (c.in_ok-push_short_steps.ensures
    ∙ ap (λ cs. failures_of c.args.failing.now.items ++ failing_at_each 11 (short_steps_by (map func_of cs) c.args.number c.args.function.now.span c.capped_sum_of-sum.result)) c.as_slice-claims.ensures)
    (c.in_ok-push_short_turn.ensures
    ∙ ap (λ cs. failures_of c.push_short_steps.new.failing.items ++ failing_at_each 11 (short_turn (map func_of cs) c.args.number c.capped_sum_of-sum.result.turn c.task_head-head.result)) c.as_slice-claims.ensures)
    (c.in_ok-push_short_depths.ensures
    ∙ ap (λ cs. failures_of c.push_short_turn.new.failing.items ++ failing_at_each 12 (short_depths_by (map func_of cs) c.args.number c.args.function.now.span c.capped_sum_of-sum.result)) c.as_slice-claims.ensures)
