use Rattle.std.proofs.Common.{refl}
use Rattle.p10_core.specs.Views.{plain_program}
use Rattle.p10_whole.proofs.Mains.{main_is}
use Rattle.p10_whole.proofs.Numbers.{equal_shown}
use Rattle.p10_whole.proofs.main_function.is_main.Goals as goal

pub returns : goal.returns
returns c = main_is (plain_program c.args.program.now) c.args.function.now c.as_slice-items.result.now _ _ _ _ _ _ _ _ c.as_slice-items.ensures c.is_there-marked.ensures c.is_there-has_task.ensures c.is_integer_of.ensures (equal_shown _ _) refl c.is_in_order-ordered.ensures c.is_maybe_init_done-init_done.ensures c.is_maybe_task.ensures
