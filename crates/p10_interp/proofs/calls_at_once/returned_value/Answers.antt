-- The number is that of the value.
use Rattle.std.proofs.Common.{map, sym, subst, option_map, Some, to_z, of_z}
use Rattle.std.specs.Int.{w128}
use Rattle.std.proofs.lemmas.Int.{to_z-of_z}
use Rattle.p10_core.specs.Typed.{more_statements, statement, return}
use Rattle.p10_core.specs.Views.{plain_program, plain_value}
use Rattle.p10_interp.specs.private.Standing.{held_of}
use Rattle.p10_interp.specs.private.CallingAtOnce.{Returns}
use Rattle.p10_interp.proofs.AtOnce.{paid}
use Rattle.p10_interp.proofs.CalledAtOnce.{returned_first, returns_same}
use Rattle.p10_interp.proofs.calls_at_once.returned_value.Goals as goal

pub returns-else-not-pays : goal.returns-else-not-pays
returns-else-not-pays c = λ at keyword rest.
    subst (λ given. Returns (plain_program c.args.inside.now.p.now) (map held_of c.args.inside.now.held.now) c.args.inside.now.store.now.objects (more_statements (statement at (return keyword (option_map plain_value given))) rest) c.args.left.now (to_z w128 (of_z w128 c.number_at_once.result)) c.number_at_once.new.left) (sym c.in-Some.is)
    (returns_same (plain_program c.args.inside.now.p.now) (map held_of c.args.inside.now.held.now) c.args.inside.now.store.now.objects (more_statements (statement at (return keyword (Some (plain_value c.in-Some.value)))) rest) c.args.left.now c.number_at_once.new.left c.number_at_once.result (to_z w128 (of_z w128 c.number_at_once.result)) (to_z-of_z w128 c.number_at_once.result (record { sfits = c.number_at_once.type_inv }))
    (returned_first (plain_program c.args.inside.now.p.now) (map held_of c.args.inside.now.held.now) c.args.inside.now.store.now.objects at keyword (plain_value c.in-Some.value) rest c.args.left.now c.pays.new.left c.number_at_once.new.left c.number_at_once.result (paid _ _ _ c.pays.ensures c.if-not-pays.false) c.number_at_once.ensures))
