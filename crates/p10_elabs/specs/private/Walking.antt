-- The walk of the code over a function as the definitions see it.
use Rattle.p10_bindings.specs.Bound.{bound_in}
use Rattle.p10_elabs.specs.Addresses.{Walk as PlainWalk}
use Rattle.p10_elabs.specs.declared.walk.Walk.{Walk}

-- what a walk knows
abbrev pub plain_walk : Walk → PlainWalk
plain_walk w = record { names = bound_in w.names; variables = w.variables; taken = w.taken.items }
