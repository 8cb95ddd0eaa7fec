use Rattle.p10_core.specs.Types.{plain_type}
use Rattle.p10_whole.specs.private.Surroundings.{surroundings_in}
use Rattle.p10_whole.proofs.Naming.{element_shown}
use Rattle.p10_whole.proofs.named.is_element.Goals as goal

pub returns : goal.returns
returns c =
    element_shown (surroundings_in c.args.around.now) (plain_type c.args.pointer.now) (plain_type c.args.by.now) (plain_type c.args.t.now) c.is_pointer_to.result c.is_integer.result c.is_complete.result
    c.is_pointer_to.ensures c.is_integer.ensures c.is_complete.ensures
