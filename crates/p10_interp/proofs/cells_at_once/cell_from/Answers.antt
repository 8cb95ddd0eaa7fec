-- The element's object is live, since it has a cell there.
use Rattle.std.proofs.Common.{subst}
use Rattle.std.specs.Int.{w128}
use Rattle.std.proofs.lemmas.Int.{to_z-of_z}
use Rattle.p10_interp.specs.private.AtOnce.{IsMoved}
use Rattle.p10_interp.proofs.Starts.{element_found}
use Rattle.p10_interp.proofs.cells_at_once.cell_from.Goals as goal

pub returns-in-Some : goal.returns-in-Some
returns-in-Some c =
    element_found (λ x. x.now) c.args.store.now.objects c.args.start c.in-Some.there c.args.by c.cell_in.result (subst (λ z. IsMoved c.args.start z c.in-Some.there) (to_z-of_z w128 c.args.by (record { sfits = c.ranges.by.sfits })) c.in-Some.ensures) c.cell_in.ensures
