-- The first argument stands for the first variable.
use Rattle.std.proofs.Common.{◌∙◌, ap, map, arith}
use Rattle.std.specs.Int.{w128}
use Rattle.std.proofs.lemmas.Int.{to_z-of_z}
use Rattle.p10_core.specs.Views.{plain_program, plain_variable}
use Rattle.p10_meaning.specs.declared.pointers.Scalar.TheVariants.{Int}
use Rattle.p10_meaning.specs.Pointers.{holding}
use Rattle.p10_meaning.specs.Values.{holds}
use Rattle.p10_interp.specs.private.Standing.{held_of}
use Rattle.p10_interp.proofs.CalledAtOnce.{filled_without, filled_next}
use Rattle.p10_interp.proofs.calls_at_once.+fill_frame.Goals as goal

pub returns-in-empty : goal.returns-in-empty
returns-in-empty t c = filled_without (plain_program c.args.around.now.p.now) (map held_of c.args.around.now.held.now) c.args.around.now.store.now.objects (map plain_variable c.args.variables.now) c.args.arguments.now c.args.left.now (map held_of c.args.frame.now.items) (map held_of c.leave_absent.new.frame.items) c.leave_absent.new.left c.in-empty.len_below c.leave_absent.ensures

pub returns-else-not-put_held : goal.returns-else-not-put_held
returns-else-not-put_held t c =
    filled_next (plain_program c.args.around.now.p.now) (map held_of c.args.around.now.held.now) c.args.around.now.store.now.objects c.args.variables.now c.args.arguments.now c.variable-item.result c.argument-item.result c.args.left.now c.number_at_once-number.new.left c.fill_frame.new.left c.number_at_once-number.result c.args.frame.now.items c.put_held.new.frame.items (map held_of c.fill_frame.new.frame.items) c.holding_number.result
    c.in-len1-up-variables.len_at_least c.variable-item.is c.in-len1-up.len_at_least c.argument-item.is c.if-not-variable.false (omega arith) c.number_at_once-number.ensures (c.put_held.ensures c.if-not-put_held.false)
    (c.holding_number.ensures ∙ ap (λ z. holds (holding (Int z))) (to_z-of_z w128 c.number_at_once-number.result (record { sfits = c.number_at_once-number.type_inv }))) c.fill_frame.ensures
