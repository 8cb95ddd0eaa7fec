use Rattle.std.proofs.Common.{ap}
use Rattle.p10_core.specs.Types.{plain_type, plain_form_of_type, structure}
use Rattle.p10_whole.specs.private.Surroundings.{surroundings_in}
use Rattle.p10_whole.proofs.Naming.{at_structure}
use Rattle.p10_whole.proofs.named.is_member.Goals as goal

pub returns-in-Struct : goal.returns-in-Struct
returns-in-Struct c =
    at_structure (surroundings_in c.args.around.now) (structure c.args.whole.now.is_const c.in-Struct.number) (plain_type c.args.whole.now) (plain_type c.args.t.now) c.args.place c.has_member.result
    (ap (plain_form_of_type c.args.whole.now.is_const) c.in-Struct.is) c.has_member.ensures
