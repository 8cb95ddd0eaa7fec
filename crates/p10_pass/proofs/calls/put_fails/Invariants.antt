use Rattle.std.proofs.Common.{◌≡◌, ◌++◌, map, drop}
use Rattle.p10_pass.specs.Leaving.{failing_of}
use Rattle.p10_pass.specs.private.Telling.{failing_with}
use Rattle.p10_pass.proofs.calls.put_fails.Given as goal

-- what is put and what is left are what the whole gives
abbrev pub invariant-loop-at : goal.invariant-loop-at
invariant-loop-at l = map failing_of l.fails.items ++ map (failing_with l.k) (drop l.at-index l.places) ≡ map failing_of l.initial.fails.items ++ map (failing_with l.k) l.places
