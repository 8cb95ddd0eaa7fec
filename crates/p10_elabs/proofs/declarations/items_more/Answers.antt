use Rattle.std.proofs.Common.{◌∙◌, ap, sym}
use Rattle.p10_elabs.specs.ItemViews.{plain_block}
use Rattle.p10_elabs.specs.LocalViews.{plain_local}
use Rattle.p10_elabs.specs.Statements.{with_items}
use Rattle.p10_elabs.specs.private.Declarators.{items_as}
use Rattle.p10_elabs.proofs.declarations.items_more.Goals as goal

pub returns-in-None : goal.returns-in-None
returns-in-None c = λ l m. ap (λ given. with_items (plain_block c.args.items l) (items_as given m)) (sym c.in-None.is)

pub returns-in_ok-items-in-Some : goal.returns-in_ok-items-in-Some
returns-in_ok-items-in-Some c = λ l m. c.in_ok-items-in-Some.ensures l (plain_local m) ∙ ap (λ given. with_items (plain_block c.args.items l) (items_as given m)) (sym c.in-Some.is)
