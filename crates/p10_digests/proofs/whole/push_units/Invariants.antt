use Rattle.std.proofs.Common.{◌≡◌, ◌++◌, length, map}
use Rattle.p10_base.specs.Words.{plain_words}
use Rattle.p10_syn.specs.BuiltStatements.{external_of}
use Rattle.p10_digests.specs.Digests.{body_places, function_digests}
use Rattle.p10_digests.proofs.whole.push_units.Given as goal

abbrev pub invariant-loop-units : goal.invariant-loop-units
invariant-loop-units l = record {
  digests : map (λ d. d.0) l.funcs ++ function_digests (map (λ words. plain_words words.items) l.roots) (map external_of l.units)
      ≡ map (λ d. d.0) l.fn.funcs ++ function_digests (map (λ words. plain_words words.items) l.roots) (map external_of l.initial.units);
  bodies : l.bodies.items ++ body_places (map external_of l.units) ≡ l.fn.bodies.items ++ body_places (map external_of l.initial.units);
}

abbrev pub decreases-loop-units : goal.decreases-loop-units
decreases-loop-units l = length l.units
