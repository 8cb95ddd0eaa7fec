use Rattle.std.proofs.Common.{map, option_map, option_copied}
use Rattle.p10_core.specs.Views.{plain_statement}
use Rattle.p10_whole.proofs.Mains.{init_done_is}
use Rattle.p10_whole.proofs.main_function.is_init_done.Goals as goal

pub returns : goal.returns
returns c = init_done_is (map plain_statement c.args.items.now) c.args.task c.args.n (option_map plain_statement (option_copied c.item_at.result)) _ _ c.item_at.ensures c.is_marked.ensures c.is_before.ensures
