use Rattle.std.proofs.Common.{◌≡◌, map, drop}
use Rattle.p10_syn.specs.Trees.{expression_row}
use Rattle.p10_syn.specs.Built.{expression_of}
use Rattle.p10_elabx.specs.First.{only_first}
use Rattle.p10_elabs.specs.Expressions.{pieces_done}
use Rattle.p10_elabs.specs.LocalViews.{plain_local, plain_items, done_as}
use Rattle.p10_elabs.specs.private.Clauses.{no_pieces}
use Rattle.p10_elabs.proofs.clauses.pieces_done.Given as goal

abbrev pub invariant-loop-e : goal.invariant-loop-e
invariant-loop-e l =
    pieces_done only_first (done_as (plain_items l.made) l.local) (expression_row (map expression_of (drop l.e-index l.all)))
    ≡ pieces_done only_first (no_pieces (plain_local l.fn.local)) (expression_row (map expression_of l.all))
