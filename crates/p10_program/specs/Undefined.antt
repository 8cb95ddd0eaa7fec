-- Names that are used and that nothing defines.
use Rattle.std.specs.Prelude.{ℕ, ◌+◌, nat_lt, if◌then◌else◌, List, [], ◌∷◌, ◌++◌}
use Rattle.p10_base.specs.declared.at.At.{At}
use Rattle.p10_base.specs.declared.span.Span.{Span}
use Rattle.p10_base.specs.declared.codes.SubsetCode.TheVariants as subset
use Rattle.p10_core.specs.Typed.{value, call, sense, place, global}
use Rattle.p10_core.specs.Nodes.{PlainNode, a_value, a_place}
use Rattle.p10_elabx.specs.declared.problem.Problem.{Problem}

-- the place of a call's name: it begins where the call does
abbrev pub name_of_call : At → Span → At
name_of_call at span = record { first = at.first; past = at.first + 1; span = span }

-- the uses among nodes of what isn't defined: its number is past those that are
abbrev pub undefined_among : ℕ → ℕ → List PlainNode → List Problem
undefined_among functions objects [] = []
undefined_among functions objects (a_value (value at t (call span n arguments)) ∷ rest) =
    (if nat_lt n functions then [] else record { code = subset.NotDefined; at = name_of_call at span } ∷ []) ++ undefined_among functions objects rest
undefined_among functions objects (a_value (value at t (sense n)) ∷ rest) =
    (if nat_lt n objects then [] else record { code = subset.NotDefined; at = at } ∷ []) ++ undefined_among functions objects rest
undefined_among functions objects (a_place (place at t (global n)) ∷ rest) =
    (if nat_lt n objects then [] else record { code = subset.NotDefined; at = at } ∷ []) ++ undefined_among functions objects rest
undefined_among functions objects (node ∷ rest) = undefined_among functions objects rest
