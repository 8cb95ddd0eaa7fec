use Rattle.std.proofs.Common.{refl, arith}
use Rattle.p10_place.specs.Roots.{source_of}
use Rattle.p10_place.proofs.Parts.{goes_on}
use Rattle.p10_place.proofs.StatementPlacings.{fits_units, all_units, past_units}
use Rattle.p10_place.proofs.external.set_units.Goals as goal

pub loop-i-preserved : goal.loop-i-preserved
loop-i-preserved c = goes_on _ _ _ _ _ _ _ _ _ _ _ _ _ _ c.loop-i.past _ c.index_mut.result.now _ _ (omega arith) (omega (arith, c.loop-i-test.true, c.len-i-end.ensures, c.args.units.now.ok.0)) c.loop-i.invariant c.index_mut.ensures.value refl (omega arith) c.set_unit-past.ensures.placed c.set_unit-past.ensures.past

pub set_unit-past-requires : goal.set_unit-past-requires
set_unit-past-requires c = let f = fits_units (source_of c.args.root.now) c.loop-i.i c.args.first c.args.units.now.items c.loop-i.units.items c.loop-i.past c.index_mut.result.now c.index_mut.result.now (omega (arith, c.loop-i-test.true, c.len-i-end.ensures, c.args.units.now.ok.0)) c.loop-i.invariant c.index_mut.ensures.value in omega (arith, f, c.requires)

pub returns-clause-placed : goal.returns-clause-placed
returns-clause-placed c = all_units (source_of c.args.root.now) c.loop-i.i c.args.first c.args.units.now.items c.loop-i.units.items c.loop-i.past (omega (arith, c.loop-i-test.false, c.loop-i.auto.i-end, c.len-i-end.ensures, c.args.units.now.ok.0)) c.loop-i.invariant

pub returns-clause-past : goal.returns-clause-past
returns-clause-past c = past_units (source_of c.args.root.now) c.loop-i.i c.args.first c.args.units.now.items c.loop-i.units.items c.loop-i.past (omega (arith, c.loop-i-test.false, c.loop-i.auto.i-end, c.len-i-end.ensures, c.args.units.now.ok.0)) c.loop-i.invariant
