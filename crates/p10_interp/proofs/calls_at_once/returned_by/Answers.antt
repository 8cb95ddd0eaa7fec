-- The statement is a `return`.
use Rattle.std.proofs.Common.{sym, ap, subst, map}
use Rattle.std.specs.Int.{w128}
use Rattle.std.proofs.lemmas.Int.{to_z-of_z}
use Rattle.p10_core.specs.Typed.{statement, more_statements}
use Rattle.p10_core.specs.Views.{plain_program, plain_statement, plain_statement_form}
use Rattle.p10_interp.specs.private.Standing.{held_of}
use Rattle.p10_interp.specs.private.CallingAtOnce.{Returns}
use Rattle.p10_interp.proofs.CalledAtOnce.{returns_same}
use Rattle.p10_interp.proofs.calls_at_once.returned_by.Goals as goal

pub returns-in-Return : goal.returns-in-Return
returns-in-Return c = λ rest.
    returns_same (plain_program c.args.inside.now.p.now) (map held_of c.args.inside.now.held.now) c.args.inside.now.store.now.objects (more_statements (plain_statement c.args.statement.now) rest) c.args.left.now c.returned_value.new.left c.returned_value.result _ (to_z-of_z w128 c.returned_value.result (record { sfits = c.returned_value.type_inv }))
    (subst (λ form. Returns (plain_program c.args.inside.now.p.now) (map held_of c.args.inside.now.held.now) c.args.inside.now.store.now.objects (more_statements (statement c.args.statement.now.at form) rest) c.args.left.now c.returned_value.result c.returned_value.new.left) (sym (ap plain_statement_form c.in-Return.is))
    (c.returned_value.ensures c.args.statement.now.at c.in-Return.field-0 rest))
