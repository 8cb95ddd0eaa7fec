-- Where conditions of a certificate fail.
use Rattle.std.specs.Prelude.{ℕ, ◌+◌, Bool, if◌then◌else◌, List, [], ◌∷◌, ◌++◌, Option, Some, None, slice_get}
use Rattle.p10_base.specs.declared.span.Span.{Span}
use Rattle.p10_core.specs.Typed.{PlainFunction, PlainProgram}

-- the first of some places
abbrev pub first_place : List Span → Option Span
first_place [] = None
first_place (at ∷ rest) = Some at

-- a place, if something holds
abbrev pub place_if : Bool → Span → List Span
place_if holds at = if holds then at ∷ [] else []

-- the places in functions, of which the first one has this number, one function after the other
abbrev pub places_from : (ℕ → PlainFunction → List Span) → ℕ → List PlainFunction → List Span
places_from places n [] = []
places_from places n (f ∷ functions) = places n f ++ places_from places (n + 1) functions

-- the places in all functions of a program, in program order
abbrev pub all_places : PlainProgram → (ℕ → PlainFunction → List Span) → List Span
all_places p places = places_from places 0 p.functions

-- the name of a function that may be lacking; without one this is no place, which never comes in a whole program
abbrev pub name_of : Option PlainFunction → Span
name_of None = record { file = 0; start = 0; end = 0 }
name_of (Some f) = f.span

-- the name of the function with a number
abbrev pub name_at : PlainProgram → ℕ → Span
name_at p n = name_of (slice_get p.functions n)
