-- What is left by parts in order, by one of two parts, and by blocks.
use Rattle.std.proofs.Common.{◌≡◌, List, [], ◌∷◌, ◌++◌, refl, Option, Some, None, ℤ, arith}
use Rattle.std.specs.Prelude.{IsSomeAnd}
use Rattle.std.specs.Option.{option_map}
use Rattle.std.proofs.lemmas.Int.{ints, clamps}
use Rattle.p10_base.specs.declared.span.Span.{Span}
use Rattle.p10_range.specs.Ranges.{Interval, IsMember, hull_of}
use Rattle.p10_core.specs.Typed.{PlainStatements, PlainVariable}
use Rattle.p10_cert.specs.Claims.{Value, Loop}
use Rattle.p10_meaning.specs.declared.pointers.Scalar.{Scalar}
use Rattle.p10_meaning.specs.declared.pointers.Scalar.TheVariants.{Int, Pointer}
use Rattle.p10_meaning.specs.Values.{Held}
use Rattle.p10_meaning.specs.Statements.{Flow, normal, broken, continued, returned}
use Rattle.p10_absx.specs.Environments.{Environment}
use Rattle.p10_absx.specs.Describing.{Describes, MaybeDescribes}
use Rattle.p10_pass.specs.Scopes.{left_scope}
use Rattle.p10_pass.specs.Passing.{Left, Manner, reached, hull_range, followed, beside, with_calls, as_block}
use Rattle.p10_evaluation.proofs.Hulls.{reached_left, reached_right}
use Rattle.p10_execution.specs.Leaving.{NoneFails, ReturnsIn, ReturnsAs, LeavesAs}
use Rattle.p10_execution.proofs.TopDeclarations.{left_known}

-- ## Failing conditions

pub nothing_left : {A : Type 0} (xs ys : List A) → xs ++ ys ≡ [] → xs ≡ []
nothing_left [] ys e = refl
nothing_left (x ∷ xs) ys e = absurd cc

pub nothing_right : {A : Type 0} (xs ys : List A) → xs ++ ys ≡ [] → ys ≡ []
nothing_right [] ys e = e
nothing_right (x ∷ xs) ys e = absurd cc

pub followed_none_left : (a b : Left) → NoneFails (followed a b) → NoneFails a
followed_none_left a b h = record {
  arguments = nothing_left a.arguments b.arguments h.arguments;
  results = nothing_left a.results b.results h.results;
  entries = nothing_left a.entries b.entries h.entries;
  backs = nothing_left a.backs b.backs h.backs;
}

pub followed_none_right : (a b : Left) → NoneFails (followed a b) → NoneFails b
followed_none_right a b h = record {
  arguments = nothing_right a.arguments b.arguments h.arguments;
  results = nothing_right a.results b.results h.results;
  entries = nothing_right a.entries b.entries h.entries;
  backs = nothing_right a.backs b.backs h.backs;
}

pub beside_none : (a b : Left) → NoneFails (beside a b) → NoneFails (followed a b)
beside_none a b h = record { arguments = h.arguments; results = h.results; entries = h.entries; backs = h.backs }

pub calls_none : (names : List Span) (a : Left) → NoneFails (with_calls names a) → names ≡ []
calls_none names a h = nothing_left names a.arguments h.arguments

pub calls_rest : (names : List Span) (a : Left) → NoneFails (with_calls names a) → NoneFails a
calls_rest names a h = record { arguments = nothing_right names a.arguments h.arguments; results = h.results; entries = h.entries; backs = h.backs }

pub block_none : (xs : PlainStatements) (a : Left) → NoneFails (as_block xs a) → NoneFails a
block_none xs a h = record { arguments = h.arguments; results = h.results; entries = h.entries; backs = h.backs }

-- ## Returned ranges

in_left : (r s : Interval) (z : ℤ) → IsMember r z → IsMember (hull_of r s) z
in_left r s z m = record { above = omega (arith, ints, clamps, m.above); below = omega (arith, ints, clamps, m.below) }

in_right : (r s : Interval) (z : ℤ) → IsMember s z → IsMember (hull_of r s) z
in_right r s z m = record { above = omega (arith, ints, clamps, m.above); below = omega (arith, ints, clamps, m.below) }

range_left : (a b : Option Interval) (z : ℤ) → IsSomeAnd a (λ r. IsMember r z) → IsSomeAnd (hull_range a b) (λ r. IsMember r z)
range_left None b z h = absurd h
range_left (Some r) None z h = h
range_left (Some r) (Some s) z h = in_left r s z h

range_right : (a b : Option Interval) (z : ℤ) → IsSomeAnd b (λ r. IsMember r z) → IsSomeAnd (hull_range a b) (λ r. IsMember r z)
range_right None b z h = h
range_right (Some r) None z h = absurd h
range_right (Some r) (Some s) z h = in_right r s z h

returns_left : (a b : Option Interval) (claim : Option Value) (x : Option Scalar) → ReturnsIn a claim x → ReturnsIn (hull_range a b) claim x
returns_left a b claim None h = tt
returns_left a b claim (Some (Pointer q)) h = tt
returns_left a b claim (Some (Int z)) h = record { member = range_left a b z h.member; claimed = h.claimed }

returns_right : (a b : Option Interval) (claim : Option Value) (x : Option Scalar) → ReturnsIn b claim x → ReturnsIn (hull_range a b) claim x
returns_right a b claim None h = tt
returns_right a b claim (Some (Pointer q)) h = tt
returns_right a b claim (Some (Int z)) h = record { member = range_right a b z h.member; claimed = h.claimed }

-- ## Ends of parts

-- execution doesn't go on with the next statement
abbrev pub IsJump : Flow → Type 0
IsJump normal = ⊥
IsJump flow = Unit {0}

-- execution goes on, and an environment describes the frame
abbrev pub GoesAs : List PlainVariable → List Held → List Held → Option Environment → Flow → Type 0
GoesAs variables head held o normal = MaybeDescribes variables o head held
GoesAs variables head held o flow = ⊥

module _ (variables : List PlainVariable) (m : Manner) (head held : List Held) where
  abbrev pub As : Left → Flow → Type 0
  As a flow = LeavesAs variables m a head flow held

  followed_returns_left : (a b : Left) (x : Option Scalar) (o : Option (List Loop)) → ReturnsAs variables m a head held x o → ReturnsAs variables m (followed a b) head held x o
  followed_returns_left a b x None h = tt
  followed_returns_left a b x (Some loops) h = (reached_left variables a.returns b.returns head held h.0, returns_left a.returned b.returned m.result x h.1)

  followed_returns_right : (a b : Left) (x : Option Scalar) (o : Option (List Loop)) → ReturnsAs variables m b head held x o → ReturnsAs variables m (followed a b) head held x o
  followed_returns_right a b x None h = tt
  followed_returns_right a b x (Some loops) h = (reached_right variables a.returns b.returns head held h.0, returns_right a.returned b.returned m.result x h.1)

  -- a jump out of the first part
  pub followed_left : (a b : Left) (flow : Flow) → IsJump flow → As a flow → As (followed a b) flow
  followed_left a b normal j h = absurd j
  followed_left a b broken j h = reached_left variables a.breaks b.breaks head held h
  followed_left a b continued j h = reached_left variables a.continues b.continues head held h
  followed_left a b (returned x) j h = followed_returns_left a b x m.loops h

  -- each end of the second part
  pub followed_right : (a b : Left) (flow : Flow) → As b flow → As (followed a b) flow
  followed_right a b normal h = h
  followed_right a b broken h = reached_right variables a.breaks b.breaks head held h
  followed_right a b continued h = reached_right variables a.continues b.continues head held h
  followed_right a b (returned x) h = followed_returns_right a b x m.loops h

  beside_returns : (a b : Left) (x : Option Scalar) (o : Option (List Loop)) → ReturnsAs variables m (followed a b) head held x o → ReturnsAs variables m (beside a b) head held x o
  beside_returns a b x None h = tt
  beside_returns a b x (Some loops) h = h

  -- each end of one of two parts
  pub beside_left : (a b : Left) (flow : Flow) → As a flow → As (beside a b) flow
  beside_left a b normal h = reached_left variables a.normal b.normal head held h
  beside_left a b broken h = reached_left variables a.breaks b.breaks head held h
  beside_left a b continued h = reached_left variables a.continues b.continues head held h
  beside_left a b (returned x) h = beside_returns a b x m.loops (followed_returns_left a b x m.loops h)

  pub beside_right : (a b : Left) (flow : Flow) → As b flow → As (beside a b) flow
  beside_right a b normal h = reached_right variables a.normal b.normal head held h
  beside_right a b broken h = reached_right variables a.breaks b.breaks head held h
  beside_right a b continued h = reached_right variables a.continues b.continues head held h
  beside_right a b (returned x) h = beside_returns a b x m.loops (followed_returns_right a b x m.loops h)

  calls_returns : (names : List Span) (a : Left) (x : Option Scalar) (o : Option (List Loop)) → ReturnsAs variables m a head held x o → ReturnsAs variables m (with_calls names a) head held x o
  calls_returns names a x None h = tt
  calls_returns names a x (Some loops) h = h

  pub with_calls_as : (names : List Span) (a : Left) (flow : Flow) → As a flow → As (with_calls names a) flow
  with_calls_as names a normal h = h
  with_calls_as names a broken h = h
  with_calls_as names a continued h = h
  with_calls_as names a (returned x) h = calls_returns names a x m.loops h

  -- ## Blocks

  pub left_describes : (xs : PlainStatements) (env : Environment) → Describes variables env head held → Describes variables (left_scope xs env) head held
  left_describes xs env d = record { each = λ n a e. d.each n a (left_known xs env n a e).1 }

  left_maybe : (xs : PlainStatements) (o : Option Environment) → MaybeDescribes variables o head held → MaybeDescribes variables (option_map (left_scope xs) o) head held
  left_maybe xs None h = absurd h
  left_maybe xs (Some env) h = left_describes xs env h

  block_returns : (xs : PlainStatements) (a : Left) (x : Option Scalar) (o : Option (List Loop)) → ReturnsAs variables m a head held x o → ReturnsAs variables m (as_block xs a) head held x o
  block_returns xs a x None h = tt
  block_returns xs a x (Some loops) h = (left_maybe xs a.returns h.0, h.1)

  pub block_as : (xs : PlainStatements) (a : Left) (flow : Flow) → As a flow → As (as_block xs a) flow
  block_as xs a normal h = left_maybe xs a.normal h
  block_as xs a broken h = left_maybe xs a.breaks h
  block_as xs a continued h = left_maybe xs a.continues h
  block_as xs a (returned x) h = block_returns xs a x m.loops h

  -- ## Parts that have a normal end alone

  pub reached_as : (o : Option Environment) (flow : Flow) → GoesAs variables head held o flow → As (reached o) flow
  reached_as o normal h = h
  reached_as o broken h = absurd h
  reached_as o continued h = absurd h
  reached_as o (returned x) h = absurd h
