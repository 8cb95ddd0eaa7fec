-- Why functions have no ranks.
use Rattle.std.specs.Prelude.{◌≡◌, List, [], map}
use Rattle.p10_core.specs.Typed.{PlainProgram}
use Rattle.p10_calls.specs.declared.sites.CallSite.{CallSite}
use Rattle.p10_calls.specs.declared.answer.CallFault.{CallFault}
use Rattle.p10_calls.specs.declared.answer.CallFault.TheVariants.{Cycle, Memory}
use Rattle.p10_calls.specs.Recursion.{AreRecursiveCalls}

-- some calls are recursive, and the fault has the names of all of them, in the order of the functions and of the text; or it is
-- out of memory
abbrev pub IsRightFault : PlainProgram → CallFault → Type 0
IsRightFault p (Cycle names) = (calls : List CallSite) × AreRecursiveCalls p calls × (calls ≡ [] → ⊥) × (names ≡ map (λ s. s.call.name) calls)
IsRightFault p Memory = Unit {0}
