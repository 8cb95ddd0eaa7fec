use Rattle.std.specs.Option.{option_map}
use Rattle.p10_range.specs.Ranges.{interval_of}
use Rattle.p10_core.specs.Types.{plain_type}
use Rattle.p10_absx.specs.Abstract.{abstract_of}
use Rattle.p10_diff.proofs.Updates.{range_told}
use Rattle.p10_diff.proofs.updating.range_in.Goals as goal

pub returns-in-Var : goal.returns-in-Var
returns-in-Var c =
    range_told c.args.ranges.now.values c.args.place.now.at (plain_type c.args.place.now.ty) c.args.place.now.form c.in-Var.n (option_map abstract_of c.get.result) (option_map interval_of c.range_or.result) c.in-Var.is c.get.ensures c.range_or.ensures
