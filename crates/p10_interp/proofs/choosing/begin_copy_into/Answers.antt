-- The step pays for the source's place, before which the target and the copy were put down.
use Rattle.std.proofs.Common.{◌∷◌, ◌∙◌, sym, ap}
use Rattle.p10_core.specs.Types.{plain_type}
use Rattle.p10_core.specs.Views.{plain_program, plain_place}
use Rattle.p10_meaning.specs.Statements.{normal}
use Rattle.p10_interp.specs.private.Tasks.{located}
use Rattle.p10_interp.specs.private.Views.{target_of, tasks_in}
use Rattle.p10_interp.specs.private.Machines.{state_of, rig_of}
use Rattle.p10_interp.proofs.Chosen.{copy_sought}
use Rattle.p10_interp.proofs.choosing.begin_copy_into.Goals as goal

pub returns : goal.returns
returns c = λ io f calls e.
    copy_sought (plain_program c.args.p.now) c.args.copy.0 (plain_type c.args.copy.1.now) (plain_place c.args.source.now) (tasks_in c.args.stacks.now.tasks) _ c.args.stacks.now.operands _ f calls (state_of c.args.outside.now io) (state_of c.seek.new.outside io) (target_of c.in-Some.target) c.seek.result (rig_of normal c.seek.new.stacks)
    c.if-outside-eq0.false (sym c.in-Some.ensures.found) (c.in_ok-push.ensures.ok ∙ ap (λ operands. located (target_of c.in-Some.target) ∷ operands) c.in-Some.ensures.rest) c.in_ok-push-2.ensures.ok (c.seek.ensures io f calls e)
