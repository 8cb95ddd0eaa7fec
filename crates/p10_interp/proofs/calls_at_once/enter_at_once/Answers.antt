-- The frame is filled, and its body returns.
use Rattle.std.proofs.Common.{ap, subst, List, map}
use Rattle.std.specs.Int.{w128}
use Rattle.std.proofs.lemmas.Int.{to_z-of_z}
use Rattle.p10_core.specs.declared.program.Variable.{Variable}
use Rattle.p10_core.specs.declared.statements.Stmt.{Stmt}
use Rattle.p10_core.specs.Views.{plain_program, plain_function, plain_values, plain_variable, plain_statements}
use Rattle.p10_interp.specs.declared.held.Held.{Held as Standing}
use Rattle.p10_interp.specs.private.CallingAtOnce.{Fills, Returns}
use Rattle.p10_interp.specs.private.Standing.{held_of}
use Rattle.p10_interp.specs.private.OpenCalls.{calls_in, calls_deep}
use Rattle.p10_interp.proofs.AtOnce.{paid}
use Rattle.p10_interp.proofs.CalledAtOnce.{called_by, called_same}
use Rattle.p10_interp.proofs.calls_at_once.enter_at_once.Goals as goal

pub returns : goal.returns
returns c = λ g is.
    called_same (plain_program c.args.caller.now.p.now) g (plain_values c.args.arguments.now) (calls_in c.args.caller.now.calls.now) c.args.caller.now.store.now.objects c.args.left.now c.returned_at_once.new.left (calls_deep c.in-Some.depth) c.returned_at_once.result _ (to_z-of_z w128 c.returned_at_once.result (record { sfits = c.returned_at_once.type_inv }))
    (called_by (plain_program c.args.caller.now.p.now) (map held_of c.standing.result.now) c.args.caller.now.store.now.objects g (plain_function c.args.called.now) (plain_values c.args.arguments.now) (calls_in c.args.caller.now.calls.now) c.args.left.now c.fill_frame.new.left c.pays.new.left c.returned_at_once.new.left (calls_deep c.in-Some.depth) (calls_deep c.depth.result) c.returned_at_once.result (map held_of c.clear.new.self.items) (map held_of c.fill_frame.new.frame.items)
    is c.standing.ensures c.in-Some.ensures c.depth.ensures (ap (map held_of) c.clear.ensures.items)
    (subst (λ (vs : List Variable). Fills (plain_program c.args.caller.now.p.now) (map held_of c.standing.result.now) c.args.caller.now.store.now.objects (map plain_variable vs) (plain_values c.args.arguments.now) c.args.left.now (map held_of c.clear.new.self.items) (map held_of c.fill_frame.new.frame.items) c.fill_frame.new.left) c.as_slice.ensures c.fill_frame.ensures)
    (paid _ _ _ c.pays.ensures c.if-not-pays.false)
    (subst (λ (held : List Standing). Returns (plain_program c.args.caller.now.p.now) (map held_of held) c.args.caller.now.store.now.objects (plain_statements c.args.called.now.body) c.pays.new.left c.returned_at_once.result c.returned_at_once.new.left) c.as_slice-2.ensures.value
    (subst (λ (body : List Stmt). Returns (plain_program c.args.caller.now.p.now) (map held_of c.as_slice-2.result.now) c.args.caller.now.store.now.objects (plain_statements body) c.pays.new.left c.returned_at_once.result c.returned_at_once.new.left) c.as_slice-3.ensures c.returned_at_once.ensures)))
