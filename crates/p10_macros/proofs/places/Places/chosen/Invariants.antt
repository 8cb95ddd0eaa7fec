use Rattle.p10_macros.specs.private.Places.{places_that}
use Rattle.p10_macros.proofs.Chosen.{AreAsOften, is_among}
use Rattle.p10_macros.specs.private.Traces.{lists_of}
use Rattle.p10_macros.proofs.places.Places.chosen.Given as goal

-- the places of the words that name none of the parameters from one of them on were put, in some order
abbrev pub invariant-loop-parameter : goal.invariant-loop-parameter
invariant-loop-parameter l = AreAsOften l.places.items (places_that (is_among (lists_of l.values) l.parameter) 0 l.self.all.items)
