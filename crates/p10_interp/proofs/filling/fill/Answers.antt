-- The values are taken, the place is there, and its scalars are written.
use Rattle.std.proofs.Common.{◌∙◌, sym, ap, subst, map, Err}
use Rattle.std.proofs.lemmas.Result.{err_from_is_err_and}
use Rattle.p10_core.specs.Types.{plain_type}
use Rattle.p10_core.specs.Views.{plain_program, plain_item}
use Rattle.p10_interp.specs.private.OpenCalls.{calls_in}
use Rattle.p10_meaning.specs.Values.{scalars}
use Rattle.p10_meaning.specs.Statements.{normal, fill}
use Rattle.p10_interp.specs.private.Views.{Answers, target_of}
use Rattle.p10_interp.specs.private.Machines.{state_of}
use Rattle.p10_interp.proofs.Ordered.{same_scalars}
use Rattle.p10_interp.proofs.Filled.{filled, fill_missing, fill_untaken}
use Rattle.p10_interp.proofs.filling.fill.Goals as goal

pub returns-in_err-take_arguments-clause-done : goal.returns-in_err-take_arguments-clause-done
returns-in_err-take_arguments-clause-done c = λ io f calls e.
    let s = err_from_is_err_and c.from_residual.result c.from_residual.ensures.1 in
    fill_untaken (Unit {0}) (plain_program c.args.p.now) c.args.span (plain_type c.args.t.now) (map plain_item c.args.items.now) c.args.stacks.now.operands c.take_arguments.new.operands f calls (state_of c.args.outside.now io) c.count_of_items-count.result c.take_arguments.new.arguments c.from_residual.result _ _
    c.count_of_items-count.ensures (s.1 ∙ ap (λ y. Err y) s.2) c.in_err-take_arguments.ensures

pub returns-in_default-clause-done : goal.returns-in_default-clause-done
returns-in_default-clause-done c = λ io f calls e.
    fill_missing (plain_program c.args.p.now) c.args.span (plain_type c.args.t.now) (map plain_item c.args.items.now) c.args.stacks.now.operands c.take_arguments.new.operands f calls (state_of c.args.outside.now io) c.count_of_items-count.result c.take_arguments.new.arguments
    c.count_of_items-count.ensures c.in_ok-take_arguments.ensures (sym c.in_default.ensures.found)

pub returns-clause-done : goal.returns-clause-done
returns-clause-done c = λ io f calls e.
    filled (plain_program c.args.p.now) c.args.span (plain_type c.args.t.now) (map plain_item c.args.items.now) c.args.stacks.now.operands c.take_arguments.new.operands c.pop_target.new.self f calls (calls_in c.args.stacks.now.calls) (state_of c.args.outside.now io) (state_of c.fill_scalars.new.outside io) c.count_of_items-count.result c.take_arguments.new.arguments (target_of c.in-Some.target) c.pointer_to.result c.fill_scalars.result
    c.count_of_items-count.ensures c.in_ok-take_arguments.ensures (sym c.in-Some.ensures.found) c.in-Some.ensures.rest e c.pointer_to.ensures (subst (λ xs. Answers (fill c.args.span xs (scalars (plain_program c.args.p.now) (plain_type c.args.t.now)) 0 c.pointer_to.result f.frame (state_of c.args.outside.now io)) c.fill_scalars.result (record { flow = normal; frame = f.frame }) (state_of c.fill_scalars.new.outside io))
    (same_scalars c.list-listed.result.items.now c.args.items.now c.list-listed.result.values.now c.take_arguments.new.arguments c.list-listed.ensures.items c.list-listed.ensures.values) (c.fill_scalars.ensures io f.frame))
