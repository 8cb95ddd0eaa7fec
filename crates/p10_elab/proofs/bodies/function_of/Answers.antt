use Rattle.std.proofs.Common.{◌∷◌, [], map, ap, ◌∙◌}
use Rattle.p10_core.specs.Types.{plain_type}
use Rattle.p10_core.specs.Views.{plain_variable, plain_statements}
use Rattle.p10_elabs.proofs.PieceRows.{listed}
use Rattle.p10_elab.proofs.bodies.function_of.Goals as goal

pub returns : goal.returns
returns c =
    let body = ap plain_statements c.of-2.ensures ∙ listed c.args.items.items in
    λ i. record {
      name = c.args.head.name.text.now;
      span = c.args.head.name.at.span;
      static = c.args.head.internal;
      parameters = c.args.head.parameters;
      result = plain_type c.args.head.result;
      variables = map plain_variable (c.of.ensures i);
      body = body i;
    } ∷ []
