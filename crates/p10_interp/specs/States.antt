-- What contracts see of the state before `main` is entered.
use Rattle.p10_meaning.specs.States.{State as Meant}
use Rattle.p10_interp.specs.declared.states.State.{State}
use Rattle.p10_interp.specs.private.Constants.{nothing_around}
use Rattle.p10_interp.specs.private.Machines.{state_of}

-- the state of the meaning that it is: its input and its output are its own, since no source and no sink stand round it
abbrev pub state_at_start : State → Meant
state_at_start s = state_of s.outside nothing_around
