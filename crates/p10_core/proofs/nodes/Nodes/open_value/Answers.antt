use Rattle.std.proofs.Common.{◌≡◌, ◌++◌, IfOk, ◌∙◌, ap, subst, List}
use Rattle.p10_core.specs.Nodes.{PlainNode, nodes_of_values, nodes_in_form}
use Rattle.p10_core.specs.Views.{plain_form, plain_values}
use Rattle.p10_core.specs.Walks.{nodes_ahead}
use Rattle.p10_core.proofs.Walking.{values_in}
use Rattle.p10_core.proofs.nodes.Nodes.open_value.Goals as goal

pub returns-in-Call : goal.returns-in-Call
returns-in-Call c =
    let is : nodes_of_values (plain_values c.as_slice.result.now) ≡ nodes_in_form (plain_form c.args.form.now) =
    ap (λ all. nodes_of_values (plain_values all)) c.as_slice.ensures ∙ values_in c.args.form.now c.in-Call.arguments c.in-Call.is in
    let P : List PlainNode → Type 0 = λ ns. IfOk c.put_values.result (λ _. nodes_ahead c.put_values.new.self.ahead.items ≡ ns ++ nodes_ahead c.args.self.now.ahead.items) in
    subst P is c.put_values.ensures
