use Rattle.std.proofs.Common.{nat_lt, sym, ap}
use Rattle.std.proofs.lemmas.List.{length-map}
use Rattle.p10_core.specs.Types.{plain_member}
use Rattle.p10_core.proofs.members.has_members.Goals as goal

pub returns : goal.returns
returns c = ap (nat_lt 0) (sym (length-map c.args.members.now plain_member))
