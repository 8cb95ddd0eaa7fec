-- The cell holds what the value comes to.
use Rattle.std.proofs.Common.{refl, arith, subst, to_z, of_z}
use Rattle.std.specs.Int.{w128}
use Rattle.std.proofs.lemmas.Int.{to_z-of_z}
use Rattle.p10_core.specs.Views.{plain_program, plain_place, plain_value}
use Rattle.p10_meaning.specs.declared.pointers.Scalar.TheVariants.{Int}
use Rattle.p10_meaning.specs.Pointers.{holding}
use Rattle.p10_meaning.specs.Objects.{write_at}
use Rattle.p10_interp.specs.private.OpenCalls.{calls_in}
use Rattle.p10_interp.specs.private.Machines.{state_of}
use Rattle.p10_interp.specs.private.Executing.{Writes}
use Rattle.p10_interp.proofs.AtOnce.{paid}
use Rattle.p10_interp.proofs.Executed.{element_executed}
use Rattle.p10_interp.proofs.statements_at_once.set_by_pointer.Goals as goal

pub returns-clause-done : goal.returns-clause-done
returns-clause-done c = λ io f around e.
    let written = subst (λ b. Writes c.args.outside.now.store c.write_number.new.store (write_at c.args.outside.now.store.objects c.place_in_call-pointer.result (holding (Int (to_z w128 (of_z w128 c.number_in_call-x.result))))) b) c.if-not-write_number.false c.write_number.ensures in
    element_executed (plain_program c.args.p.now) (plain_place c.args.place.now) (plain_value c.args.value.now) f around (calls_in c.args.calls.now) (state_of c.args.outside.now io) c.pays.new.left c.place_in_call-pointer.new.left c.number_in_call-x.new.left c.place_in_call-pointer.result c.number_in_call-x.result (to_z w128 (of_z w128 c.number_in_call-x.result)) c.args.outside.now.store c.write_number.new.store
    e (paid _ _ _ c.pays.ensures c.if-not-pays.false) (λ s same. c.place_in_call-pointer.ensures.found s f around same e) (omega arith) (λ s same. c.number_in_call-x.ensures.found s f around same e) (omega arith) (to_z-of_z w128 c.number_in_call-x.result (record { sfits = c.number_in_call-x.type_inv })) refl refl written

pub returns-clause-fewer : goal.returns-clause-fewer
returns-clause-fewer c = λ t. omega (arith, paid _ _ _ c.pays.ensures c.if-not-pays.false, c.place_in_call-pointer.ensures.fewer, c.number_in_call-x.ensures.fewer)
