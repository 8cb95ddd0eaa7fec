use Rattle.p10_elabx.proofs.Strings.{string_is}
use Rattle.p10_elabx.proofs.literals.string_value.Goals as goal

pub returns : goal.returns
returns c = string_is c.args.text.now _ c.string_bytes.ensures.found c.string_bytes.ensures.none
