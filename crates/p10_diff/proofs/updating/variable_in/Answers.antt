use Rattle.std.specs.Option.{option_map}
use Rattle.p10_core.specs.Types.{plain_type}
use Rattle.p10_absx.specs.Abstract.{abstract_of}
use Rattle.p10_diff.specs.Knowing.{pair_by}
use Rattle.p10_diff.proofs.Updates.{variable_told}
use Rattle.p10_diff.proofs.updating.variable_in.Goals as goal

pub returns-in-Var : goal.returns-in-Var
returns-in-Var c =
    variable_told (pair_by c.args.p.now) c.args.ranges.now.values c.args.place.now.at (plain_type c.args.place.now.ty) c.args.place.now.form c.in-Var.n (option_map abstract_of c.get.result) c.variable_if.result c.named_by.result
    c.in-Var.is c.get.ensures c.variable_if.ensures c.named_by.ensures
