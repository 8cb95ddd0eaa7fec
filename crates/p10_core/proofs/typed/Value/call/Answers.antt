use Rattle.std.proofs.Common.{◌∙◌, ap}
use Rattle.p10_core.specs.Types.{plain_type}
use Rattle.p10_core.specs.Typed.{value, call}
use Rattle.p10_core.specs.Views.{plain_values}
use Rattle.p10_core.proofs.Lists.{plain_call}
use Rattle.p10_core.proofs.typed.Value.call.Goals as goal

pub returns : goal.returns
returns c =
    ap (value c.args.at (plain_type c.args.ty)) (plain_call c.args.name c.args.function c.of.result ∙ ap (λ vs. call c.args.name c.args.function (plain_values vs)) c.of.ensures)
