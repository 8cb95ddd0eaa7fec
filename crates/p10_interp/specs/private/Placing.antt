-- Where a machine stands between its calls.
use Rattle.std.specs.Prelude.{◌≡◌, List}
use Rattle.p10_meaning.specs.Statements.{Frame}
use Rattle.p10_interp.specs.Resting.{Position, fresh, paused, finished}
use Rattle.p10_interp.specs.declared.place.Place.{Place}
use Rattle.p10_interp.specs.declared.place.Place.TheVariants.{Fresh, AtLoop as Waiting, Finished}
use Rattle.p10_interp.specs.private.Tasks.{Open}
use Rattle.p10_interp.specs.private.Parts.{frame_in}
use Rattle.p10_interp.specs.declared.ended.Ended.{Ended}
use Rattle.p10_interp.specs.declared.ended.Ended.TheVariants.{AtLoop, TurnDone, Returned, AssertionFailed, Undefined, StepsSpent}

-- where a machine stands, with these open calls
abbrev pub position_of : Place → List Open → Position
position_of Fresh calls = fresh
position_of Waiting calls = paused (frame_in calls)
position_of Finished calls = finished

-- where a machine stands after an answer, with this frame of `main`
abbrev pub stands_after : Ended → Frame → Position
stands_after AtLoop frame = paused frame
stands_after TurnDone frame = paused frame
stands_after (Returned z) frame = finished
stands_after (AssertionFailed span) frame = finished
stands_after (Undefined stop span) frame = finished
stands_after StepsSpent frame = finished

-- where another turn may come, this is the answer
abbrev pub IsAnswer : Ended → Ended → Type 0
IsAnswer loop AtLoop = AtLoop ≡ loop
IsAnswer loop TurnDone = TurnDone ≡ loop
IsAnswer loop (Returned z) = Unit {0}
IsAnswer loop (AssertionFailed span) = Unit {0}
IsAnswer loop (Undefined stop span) = Unit {0}
IsAnswer loop StepsSpent = Unit {0}
