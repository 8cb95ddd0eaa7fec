use Rattle.std.proofs.Common.{◌≡◌, map, take}
use Rattle.p10_warn.proofs.jumps.labelled_places.Given as goal

-- the places of the labels so far
abbrev pub invariant-loop-label : goal.invariant-loop-label
invariant-loop-label l = l.places.items ≡ map (λ label. label.place) (take l.label-index l.label-items)
