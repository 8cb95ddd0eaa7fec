-- The answers of a machine's calls, after what waits was put.
use Rattle.std.specs.Prelude.{◌≡◌, [], Result, Ok, Err}
use Rattle.p10_meaning.specs.States.{State, Progress}
use Rattle.p10_meaning.specs.Statements.{Frame}
use Rattle.p10_interp.specs.Stages.{Stage}
use Rattle.p10_interp.specs.declared.broken.Broken.{Broken}
use Rattle.p10_interp.specs.declared.broken.Broken.TheVariants.{Failed, Undefined as Stopped, Spent, Read as Unread, Write as Unwritten, Memory as WantsMemory}
use Rattle.p10_interp.specs.declared.ended.Ended.{Ended}
use Rattle.p10_interp.specs.declared.ended.Ended.TheVariants.{AssertionFailed, Undefined, StepsSpent}
use Rattle.p10_interp.specs.declared.ended.RunFault.{RunFault}
use Rattle.p10_interp.specs.declared.ended.RunFault.TheVariants.{Read, Write, Memory}
use Rattle.p10_interp.specs.private.Serving.{Moment, Serves, Loses}
use Rattle.p10_interp.specs.private.Parts.{stage_of}

-- the answer where a part of a run broke off
abbrev pub answered_by : Broken → Result Ended RunFault
answered_by (Failed span) = Ok (AssertionFailed span)
answered_by (Stopped stop span) = Ok (Undefined stop span)
answered_by Spent = Ok StepsSpent
answered_by Unread = Err Read
answered_by Unwritten = Err Write
answered_by WantsMemory = Err Memory

-- the answer where a part of a run came to this
abbrev pub settled : Result Ended Broken → Result Ended RunFault
settled (Ok ended) = Ok ended
settled (Err broken) = answered_by broken

-- the part has come to its answer, and nothing waits
pub record EndsWith (from : State → Progress Stage) (old : Moment) (ended : Ended) (frame : Frame) (new : Moment) : Type 0 where
  pub serves : Serves from old (stage_of ended frame) new
  pub empty : new.outside.waiting.items ≡ []

-- the part has come to its answer, or the call was given up
abbrev pub Settles : (State → Progress Stage) → Moment → Result Ended RunFault → Frame → Moment → Type 0
Settles from old (Ok ended) frame new = EndsWith from old ended frame new
Settles from old (Err fault) frame new = Loses from old new.left new.taken
