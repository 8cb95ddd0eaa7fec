use Rattle.std.proofs.Common.{rules, refl, ap, ◌∙◌, arith}
use Rattle.std.proofs.lemmas.Grind.{common_steps}
use Rattle.p10_syn.specs.declared.statement.Stmt.TheViews.{the_lemmas}
use Rattle.p10_syn.specs.BuiltStatements.{statement_of}
use Rattle.p10_place.specs.Roots.{source_of}
use Rattle.p10_place.proofs.Parts.{goes_on, unvisited_next}
use Rattle.p10_place.proofs.StatementPlacings.{fits_statements, all_statements, past_statements}
use Rattle.p10_place.proofs.Rows.{statements_listed, block_is}
use Rattle.p10_place.proofs.statement.+stating.Goals as goal

pub set_statement-set_parts-placed-requires : goal.set_statement-set_parts-placed-requires
set_statement-set_parts-placed-requires t c = rw (c.replace-taken.ensures.value) (search rules)

pub set_parts-set_block-requires : goal.set_parts-set_block-requires
set_parts-set_block-requires t c = ((first_of (search rules, search (rules, the_lemmas), grind (arith, common_steps))), rw (ap statement_of c.in-Block.is ∙ block_is c.in-Block.field-0 c.in-Block.all) at c.requires)

pub set_parts-returns-in-Block-clause-placed : goal.set_parts-returns-in-Block-clause-placed
set_parts-returns-in-Block-clause-placed t c = rw (ap statement_of c.in-Block.is ∙ block_is c.in-Block.field-0 c.in-Block.all) c.set_block.ensures.placed

pub set_parts-returns-in-Block-clause-past : goal.set_parts-returns-in-Block-clause-past
set_parts-returns-in-Block-clause-past t c = rw (ap statement_of c.in-Block.is ∙ block_is c.in-Block.field-0 c.in-Block.all) c.set_block.ensures.past

pub set_block-returns-clause-placed : goal.set_block-returns-clause-placed
set_block-returns-clause-placed t c = search (rules, the_lemmas, statements_listed)

pub set_statements-loop-i-preserved : goal.set_statements-loop-i-preserved
set_statements-loop-i-preserved t c = record {
  placing = goes_on _ _ _ _ _ _ _ _ _ _ _ _ _ _ c.loop-i.past _ c.index_mut.result.now _ _ (omega arith) (omega (arith, c.loop-i-test.true, c.len-i-end.ensures, c.args.all.now.ok.0)) c.loop-i.invariant.placing c.index_mut.ensures.value refl (omega arith) c.set_statement-past.ensures.placed c.set_statement-past.ensures.past;
  unvisited = unvisited_next _ _ _ _ _ c.loop-i.invariant.unvisited;
}

pub set_statements-set_statement-past-requires : goal.set_statements-set_statement-past-requires
set_statements-set_statement-past-requires t c = ((first_of (search rules, search (rules, the_lemmas), grind (arith, common_steps))), let f = fits_statements (source_of c.args.root.now) c.loop-i.i c.args.first c.args.all.now.items c.loop-i.all.items c.loop-i.past c.index_mut.result.now c.index_mut.result.now (omega (arith, c.loop-i-test.true, c.len-i-end.ensures, c.args.all.now.ok.0)) c.loop-i.invariant.placing c.index_mut.ensures.value in omega (arith, f, c.requires))

pub set_statements-returns-clause-placed : goal.set_statements-returns-clause-placed
set_statements-returns-clause-placed t c = all_statements (source_of c.args.root.now) c.loop-i.i c.args.first c.args.all.now.items c.loop-i.all.items c.loop-i.past (omega (arith, c.loop-i-test.false, c.loop-i.auto.i-end, c.len-i-end.ensures, c.args.all.now.ok.0)) c.loop-i.invariant.placing

pub set_statements-returns-clause-past : goal.set_statements-returns-clause-past
set_statements-returns-clause-past t c = past_statements (source_of c.args.root.now) c.loop-i.i c.args.first c.args.all.now.items c.loop-i.all.items c.loop-i.past (omega (arith, c.loop-i-test.false, c.loop-i.auto.i-end, c.len-i-end.ensures, c.args.all.now.ok.0)) c.loop-i.invariant.placing
