use Rattle.std.proofs.Common.{◌∙◌, ℕ, Option, ap, sym}
use Rattle.std.specs.Prelude.{option_copied}
use Rattle.std.proofs.lemmas.Result.{IfOk-weaker}
use Rattle.p10_core.specs.Typed.{statements_list}
use Rattle.p10_core.specs.Views.{plain_statements}
use Rattle.p10_flowrules.specs.TaskExits.{exits_at}
use Rattle.p10_flowrules.proofs.Exiting.{at_place}
use Rattle.p10_flowrules.proofs.exits.exits_at.Goals as goal

pub returns-in-Some : goal.returns-in-Some
returns-in-Some c = IfOk-weaker c.exits_of_loop.result _ _ (λ exits e.
    at_place c.args.items.now c.in-Some.place (option_copied c.item_at.result) exits.items c.item_at.ensures e
    ∙ ap (λ (o : Option ℕ). exits_at o (statements_list (plain_statements c.args.items.now))) (sym c.in-Some.is)) c.exits_of_loop.ensures
