use Rattle.std.proofs.Common.{◌+◌, refl, ap, arith}
use Rattle.p10_place.specs.Roots.{source_of}
use Rattle.p10_place.proofs.Parts.{goes_on}
use Rattle.p10_place.proofs.StatementPlacings.{fits_declarators, starts_declarators, all_declarators, past_declarators}
use Rattle.p10_place.proofs.declaration.set_init_declarators.Goals as goal

pub loop-i-preserved : goal.loop-i-preserved
loop-i-preserved c = goes_on _ _ _ _ _ _ _ _ _ _ _ _ _ _ (c.loop-i.past + c.comma_before.result) _ c.index_mut.result.now _ _ (omega arith) (omega (arith, c.loop-i-test.true, c.len-i-end.ensures, c.args.all.now.ok.0)) c.loop-i.invariant c.index_mut.ensures.value refl (ap (λ x. c.loop-i.past + x) c.comma_before.ensures) c.set_init_declarator-past.ensures.placed c.set_init_declarator-past.ensures.past

pub set_init_declarator-past-requires : goal.set_init_declarator-past-requires
set_init_declarator-past-requires c = let f = fits_declarators (source_of c.args.root.now) c.loop-i.i c.args.first c.args.all.now.items c.loop-i.all.items c.loop-i.past c.index_mut.result.now c.index_mut.result.now (omega (arith, c.loop-i-test.true, c.len-i-end.ensures, c.args.all.now.ok.0)) c.loop-i.invariant c.index_mut.ensures.value in omega (arith, f, c.requires, c.comma_before.ensures)

pub overflow_add-past : goal.overflow_add-past
overflow_add-past c = let f = starts_declarators (source_of c.args.root.now) c.loop-i.i c.args.first c.args.all.now.items c.loop-i.all.items c.loop-i.past (omega (arith, c.loop-i-test.true, c.len-i-end.ensures, c.args.all.now.ok.0)) c.loop-i.invariant in omega (arith, f, c.requires, c.comma_before.ensures)

pub overflow_add-result : goal.overflow_add-result
overflow_add-result c = let p = past_declarators (source_of c.args.root.now) c.loop-i.i c.args.first c.args.all.now.items c.loop-i.all.items c.loop-i.past (omega (arith, c.loop-i-test.false, c.loop-i.auto.i-end, c.len-i-end.ensures, c.args.all.now.ok.0)) c.loop-i.invariant in omega (arith, p, c.requires)

pub returns-clause-placed : goal.returns-clause-placed
returns-clause-placed c = all_declarators (source_of c.args.root.now) c.loop-i.i c.args.first c.args.all.now.items c.loop-i.all.items c.loop-i.past (omega (arith, c.loop-i-test.false, c.loop-i.auto.i-end, c.len-i-end.ensures, c.args.all.now.ok.0)) c.loop-i.invariant

pub returns-clause-past : goal.returns-clause-past
returns-clause-past c = past_declarators (source_of c.args.root.now) c.loop-i.i c.args.first c.args.all.now.items c.loop-i.all.items c.loop-i.past (omega (arith, c.loop-i-test.false, c.loop-i.auto.i-end, c.len-i-end.ensures, c.args.all.now.ok.0)) c.loop-i.invariant
