-- In the same words bodies are the same in both programs.
use Rattle.p10_elabs.specs.Statements.{Block', no_items_yet, items_done}
use Rattle.p10_expression_renaming.specs.MappedStatements.{mapped_statements}
use Rattle.p10_expression_renaming.proofs.TypeNames.{left, right}
use Rattle.p10_statement_renaming.specs.Laws.{StatementsRenamed, BodiesRenamed}
use Rattle.p10_statement_renaming.proofs.Made.{body_same}
use Rattle.p10_statement_renaming.proofs.Trees.{statement_both, body_both}
use Rattle.p10_statement_renaming.proofs.Declarations.{blocks_renamed}

pub statements_renamed : StatementsRenamed
statements_renamed R one last h f g same r l k s = statement_both R one last h f g same (blocks_renamed R one last h f g same) r s l k

pub bodies_renamed : BodiesRenamed
bodies_renamed R one last h f g same in_main r l k all start quiet =
    let b : Block' = items_done h f in_main r (no_items_yet l) (mapped_statements left all) in
    let c : Block' = items_done h g in_main r (no_items_yet k) (mapped_statements right all) in
    let x = body_both R one last h f g same (blocks_renamed R one last h f g same) in_main r l k all start quiet in
    (x.0, (body_same R b.made c.made x.1.0, x.1.1))
