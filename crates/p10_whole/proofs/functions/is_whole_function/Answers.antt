use Rattle.std.proofs.Common.{false, refl}
use Rattle.p10_whole.specs.declared.context.Context.{Context}
use Rattle.p10_whole.proofs.Assembling.{function_is}
use Rattle.p10_whole.proofs.functions.is_whole_function.Goals as goal

pub returns : goal.returns
returns c =
    let here : Context = record { program = c.args.program; number = c.args.number; function = c.args.function; in_loop = false; in_switch = false } in
    function_is here _ _ c.as_slice.result.now _ _ _ _ _ refl refl c.new-scope.ensures.items c.as_slice.ensures c.is_in_order-ordered.ensures c.has_whole_heading-heading.ensures c.in_ok-body.ensures
