use Rattle.std.proofs.Common.{refl, arith}
use Rattle.p10_place.specs.Roots.{source_of}
use Rattle.p10_place.proofs.Parts.{goes_on}
use Rattle.p10_place.proofs.Placings.{fits_qualifiers, all_qualifiers, past_qualifiers}
use Rattle.p10_place.proofs.declarator.set_qualifiers.Goals as goal

pub loop-i-preserved : goal.loop-i-preserved
loop-i-preserved c = goes_on _ _ _ _ _ _ _ _ _ _ _ _ _ _ c.loop-i.past _ c.index_mut.result.now _ _ (omega arith) (omega (arith, c.loop-i-test.true, c.len-i-end.ensures, c.args.qualifiers.now.ok.0)) c.loop-i.invariant c.index_mut.ensures.value refl (omega arith) c.set_qualifier-past.ensures.placed c.set_qualifier-past.ensures.past

pub set_qualifier-past-requires : goal.set_qualifier-past-requires
set_qualifier-past-requires c = let f = fits_qualifiers (source_of c.args.root.now) c.loop-i.i c.args.first c.args.qualifiers.now.items c.loop-i.qualifiers.items c.loop-i.past c.index_mut.result.now (omega (arith, c.loop-i-test.true, c.len-i-end.ensures, c.args.qualifiers.now.ok.0)) c.loop-i.invariant in omega (arith, f, c.requires)

pub returns-clause-placed : goal.returns-clause-placed
returns-clause-placed c = all_qualifiers (source_of c.args.root.now) c.loop-i.i c.args.first c.args.qualifiers.now.items c.loop-i.qualifiers.items c.loop-i.past (omega (arith, c.loop-i-test.false, c.loop-i.auto.i-end, c.len-i-end.ensures, c.args.qualifiers.now.ok.0)) c.loop-i.invariant

pub returns-clause-past : goal.returns-clause-past
returns-clause-past c = past_qualifiers (source_of c.args.root.now) c.loop-i.i c.args.first c.args.qualifiers.now.items c.loop-i.qualifiers.items c.loop-i.past (omega (arith, c.loop-i-test.false, c.loop-i.auto.i-end, c.len-i-end.ensures, c.args.qualifiers.now.ok.0)) c.loop-i.invariant
