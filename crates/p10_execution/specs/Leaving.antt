-- What a pass says of what a statement leaves: for each way in which it ends, an environment that describes the frame.
use Rattle.std.specs.Prelude.{◌≡◌, List, [], ℤ, Option, Some, None, IsSomeAnd}
use Rattle.p10_range.specs.Ranges.{Interval, IsMember}
use Rattle.p10_core.specs.Typed.{PlainVariable}
use Rattle.p10_cert.specs.Claims.{Value, Number, Loop}
use Rattle.p10_meaning.specs.declared.pointers.Scalar.{Scalar}
use Rattle.p10_meaning.specs.declared.pointers.Scalar.TheVariants.{Int}
use Rattle.p10_meaning.specs.States.{State}
use Rattle.p10_meaning.specs.Values.{Held}
use Rattle.p10_meaning.specs.Statements.{Flow, normal, broken, continued, returned, Done}
use Rattle.p10_absx.specs.Describing.{MaybeDescribes}
use Rattle.p10_pass.specs.Passing.{Left, Manner}

-- none of K3, K5, K6 and K7 fails in a pass
pub record NoneFails (a : Left) : Type 0 where
  pub arguments : a.arguments ≡ []
  pub results : a.results ≡ []
  pub entries : a.entries ≡ []
  pub backs : a.backs ≡ []

-- a returned number lies in what is claimed of the result, if that is a range
abbrev pub LiesInClaim : Option Value → ℤ → Type 0
LiesInClaim (Some (Number r)) z = IsMember r z
LiesInClaim claim z = Unit {0}

-- a returned number lies in the returned ranges, and in what is claimed of the result
pub record IsReturned (returned : Option Interval) (claim : Option Value) (z : ℤ) : Type 0 where
  pub member : IsSomeAnd returned (λ r. IsMember r z)
  pub claimed : LiesInClaim claim z

-- the same for what is returned, if it is a number
abbrev pub ReturnsIn : Option Interval → Option Value → Option Scalar → Type 0
ReturnsIn range claim (Some (Int z)) = IsReturned range claim z
ReturnsIn range claim x = Unit {0}

-- what is returned, where loops are claimed; a trial pass takes no notice of a `return` in an inner loop, so it says nothing
abbrev pub ReturnsAs : List PlainVariable → Manner → Left → List Held → List Held → Option Scalar → Option (List Loop) → Type 0
ReturnsAs variables m a head held x None = Unit {0}
ReturnsAs variables m a head held x (Some loops) = MaybeDescribes variables a.returns head held × ReturnsIn a.returned m.result x

-- the frame after a statement, by how execution goes on: the environment of that end describes it
abbrev pub LeavesAs : List PlainVariable → Manner → Left → List Held → Flow → List Held → Type 0
LeavesAs variables m a head normal held = MaybeDescribes variables a.normal head held
LeavesAs variables m a head broken held = MaybeDescribes variables a.breaks head held
LeavesAs variables m a head continued held = MaybeDescribes variables a.continues head held
LeavesAs variables m a head (returned x) held = ReturnsAs variables m a head held x m.loops

-- what a statement gives is as a pass says
pub record Leaves (variables : List PlainVariable) (m : Manner) (a : Left) (head : List Held) (done : Done) (w : State) : Type 0 where
  pub as_said : LeavesAs variables m a head done.flow done.frame.held
