-- The element holds what the value comes to.
use Rattle.std.proofs.Common.{◌≡◌, Ok, refl, arith, subst, to_z, of_z}
use Rattle.std.specs.Int.{w128}
use Rattle.std.proofs.lemmas.Int.{to_z-of_z}
use Rattle.p10_core.specs.Typed.{place, index}
use Rattle.p10_core.specs.Views.{plain_program, plain_value}
use Rattle.p10_meaning.specs.declared.pointers.Scalar.TheVariants.{Int}
use Rattle.p10_meaning.specs.Pointers.{holding}
use Rattle.p10_meaning.specs.Objects.{shift, write_at}
use Rattle.p10_interp.specs.private.OpenCalls.{calls_in}
use Rattle.p10_interp.specs.private.Machines.{state_of}
use Rattle.p10_interp.specs.private.Executing.{Writes}
use Rattle.p10_interp.proofs.AtOnce.{paid}
use Rattle.p10_interp.proofs.Executed.{element_executed}
use Rattle.p10_interp.proofs.Starts.{index_found, write_reaches}
use Rattle.p10_interp.proofs.statements_at_once.set_from.Goals as goal

pub returns-clause-done : goal.returns-clause-done
returns-clause-done c = λ array at own io f around starts e.
    let written = subst (λ b. Writes c.args.outside.now.store c.write_number.new.store (write_at c.args.outside.now.store.objects c.in-Some.there (holding (Int (to_z w128 (of_z w128 c.number_in_call-x.result))))) b) c.if-not-write_number.false c.write_number.ensures in
    let live = write_reaches c.args.outside.now.store.objects c.in-Some.there (holding (Int (to_z w128 (of_z w128 c.number_in_call-x.result)))) c.write_number.new.store.objects written.0 in
    let moved = subst (λ z. shift c.args.outside.now.store.objects c.args.start z ≡ Ok c.in-Some.there) (to_z-of_z w128 c.number_in_call-by.result (record { sfits = c.number_in_call-by.type_inv })) (c.in-Some.ensures c.args.outside.now.store.objects live.0 live.1) in
    element_executed (plain_program c.args.p.now) (place at own (index array (plain_value c.args.parts.0.now))) (plain_value c.args.parts.1.now) f around (calls_in c.args.calls.now) (state_of c.args.outside.now io) c.pays.new.left c.number_in_call-by.new.left c.number_in_call-x.new.left c.in-Some.there c.number_in_call-x.result (to_z w128 (of_z w128 c.number_in_call-x.result)) c.args.outside.now.store c.write_number.new.store
    e (paid _ _ _ c.pays.ensures c.if-not-pays.false)
    (λ s same.
    index_found s f.frame.held at own array (plain_value c.args.parts.0.now) c.args.outside.now.store.objects c.pays.new.left c.pays-2.new.left c.pays-3.new.left c.number_in_call-by.new.left c.number_in_call-by.new.left c.args.start c.in-Some.there c.number_in_call-by.result
    (paid _ _ _ c.pays-2.ensures c.if-not-pays-2.false) (paid _ _ _ c.pays-3.ensures c.if-not-pays-3.false) (λ w object live. starts s same w object live) (c.number_in_call-by.ensures.found s f around same e) (λ _. (refl, moved)))
    (omega arith) (λ s same. c.number_in_call-x.ensures.found s f around same e) (omega arith) (to_z-of_z w128 c.number_in_call-x.result (record { sfits = c.number_in_call-x.type_inv })) refl refl written

pub returns-clause-fewer : goal.returns-clause-fewer
returns-clause-fewer c = λ t. omega (arith, paid _ _ _ c.pays.ensures c.if-not-pays.false, paid _ _ _ c.pays-2.ensures c.if-not-pays-2.false, paid _ _ _ c.pays-3.ensures c.if-not-pays-3.false, c.number_in_call-by.ensures.fewer, c.number_in_call-x.ensures.fewer)
