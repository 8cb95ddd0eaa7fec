-- Both places are there, and their scalars are copied.
use Rattle.std.proofs.Common.{◌∙◌, sym, ap}
use Rattle.p10_core.specs.Types.{plain_type}
use Rattle.p10_core.specs.Views.{plain_program}
use Rattle.p10_interp.specs.private.Operations.{first_target, below}
use Rattle.p10_interp.specs.private.OpenCalls.{calls_in}
use Rattle.p10_interp.specs.private.Views.{target_of}
use Rattle.p10_interp.specs.private.Machines.{state_of}
use Rattle.p10_interp.proofs.Assigned.{copied}
use Rattle.p10_interp.proofs.copying.copy.Goals as goal

pub returns-clause-done : goal.returns-clause-done
returns-clause-done c = λ io f calls e.
    copied (plain_program c.args.p.now) c.args.to_span c.args.from_span (plain_type c.args.t.now) c.args.stacks.now.operands c.pop_target-2.new.self f calls (calls_in c.args.stacks.now.calls) (state_of c.args.outside.now io) (state_of c.copy_scalars.new.outside io)
    (target_of c.in-Some.source) (target_of c.in-Some-pop_target.target) c.pointer_to.result c.pointer_to-2.result c.in-Some-width_of.scalars c.copy_scalars.result
    (sym c.in-Some.ensures.found) (ap first_target (sym c.in-Some.ensures.rest) ∙ sym c.in-Some-pop_target.ensures.found) (c.in-Some-pop_target.ensures.rest ∙ ap below c.in-Some.ensures.rest) e
    c.pointer_to.ensures c.pointer_to-2.ensures c.in-Some-width_of.ensures (c.copy_scalars.ensures io f.frame)
