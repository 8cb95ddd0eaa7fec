use Rattle.std.proofs.Common.{map}
use Rattle.p10_base.specs.Words.{plain_words}
use Rattle.p10_digests.proofs.Steps.{unit_digest, unit_body}
use Rattle.p10_digests.proofs.whole.push_units.Goals as goal

pub loop-units-preserved : goal.loop-units-preserved
loop-units-preserved c = record {
  digests = unit_digest (map (λ words. plain_words words.items) c.args.roots.now) _ c.unit-item.result c.loop-units.units.now (map (λ d. d.0) c.loop-units.funcs) (map (λ d. d.0) c.push_unit.new.funcs) _
      c.in-len1-up.len_at_least c.unit-item.is c.in_ok-push_unit.ensures.funcs c.loop-units.invariant.digests;
  bodies = unit_body _ c.unit-item.result c.loop-units.units.now c.loop-units.bodies.items c.push_unit.new.bodies.items _ c.in-len1-up.len_at_least c.unit-item.is c.in_ok-push_unit.ensures.bodies c.loop-units.invariant.bodies;
}
