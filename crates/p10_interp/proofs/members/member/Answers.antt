-- The member is found in its structure.
use Rattle.std.proofs.Common.{refl, sym}
use Rattle.p10_core.specs.Types.{plain_type}
use Rattle.p10_core.specs.Views.{plain_program}
use Rattle.p10_interp.specs.private.Views.{target_of}
use Rattle.p10_interp.specs.private.Machines.{state_of}
use Rattle.p10_interp.proofs.Membered.{member_placed}
use Rattle.p10_interp.proofs.members.member.Goals as goal

pub returns : goal.returns
returns c = λ io calls.
    member_placed (plain_program c.args.p.now) c.args.span (plain_type c.args.part.0.now) c.args.part.1 (plain_type c.args.part.2.now) c.args.operands.now c.pop_target.new.self c.push.new.self calls (state_of c.args.outside.now io) (target_of c.in-Some.target) c.pointer_to.result c.in_ok-there.there c.in-Some-scalars_before.before c.in-Some-width_of.scalars c.push.result
    (sym c.in-Some.ensures.found) c.in-Some.ensures.rest c.pointer_to.ensures (c.in-Some-scalars_before.ensures (plain_program c.args.p.now) refl) c.in-Some-width_of.ensures c.in_ok-there.ensures c.push.ensures.ok c.push.ensures.err
