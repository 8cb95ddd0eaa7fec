-- The first failing condition, of parts that are tried one after the other.
use Rattle.std.specs.Prelude.{◌≡◌, ℕ, ◌+◌, nat_lt, if◌then◌else◌, List, [], ◌∷◌, Option, Some, None}
use Rattle.p10_core.specs.Typed.{PlainFunction, PlainProgram}
use Rattle.p10_cert.specs.Claims.{Claims}
use Rattle.p10_flowrules.specs.declared.calls.AnyCall.{AnyCall}
use Rattle.p10_flowrules.specs.Allocating.{AreLateAllocations}
use Rattle.p10_pass.specs.Passing.{Failing}
use Rattle.p10_check.specs.Places.{name_at}
use Rattle.p10_check.specs.Passes.{Standing}
use Rattle.p10_check.specs.Conditions.{first_failing, shape_failures, function_failures}

-- what are the failing K2, K4, K13 and K14
pub record AreAfterFitting (p : PlainProgram) (c : Claims) (fails : List Failing) : Type 0 where
  pub late : List AnyCall
  pub late_are : AreLateAllocations p late
  pub are : fails ≡ shape_failures p c late

-- the first of two failing conditions that may be lacking: the second only where its number is lower
abbrev pub earlier : Option Failing → Option Failing → Option Failing
earlier None b = b
earlier (Some a) None = Some a
earlier (Some a) (Some b) = if nat_lt b.k a.k then Some b else Some a

-- the first of one and of those that fail in functions, of which the first one has this number
abbrev pub earliest_from : Standing → PlainProgram → Claims → Option Failing → ℕ → List PlainFunction → Option Failing
earliest_from stands p c first n [] = first
earliest_from stands p c first n (f ∷ functions) = earliest_from stands p c (earlier first (first_failing (function_failures stands p c n f))) (n + 1) functions

-- K1 at the function at which the certificate doesn't speak of the program, or else the first of what follows
abbrev pub first_after : PlainProgram → Option ℕ → Option Failing → Option Failing
first_after p (Some n) first = Some (record { k = 1; at = name_at p n })
first_after p None first = first
