use Rattle.std.proofs.Common.{◌≡◌, drop}
use Rattle.p10_pprules.specs.private.Listing.{has_number}
use Rattle.p10_pprules.proofs.recursion.one_has.Given as goal

-- a place has the number where one of those that are left has it
abbrev pub invariant-loop-place : goal.invariant-loop-place
invariant-loop-place l = has_number l.numbers l.number l.places ≡ has_number l.numbers l.number (drop l.place-index l.places)
