-- What holds of uses that nothing defines.
use Rattle.std.specs.Prelude.{◌≡◌, ℕ, ◌≤◌, List, ◌++◌}
use Rattle.std.specs.List.{Contains}
use Rattle.p10_base.specs.declared.at.At.{At}
use Rattle.p10_base.specs.declared.span.Span.{Span}
use Rattle.p10_base.specs.declared.codes.SubsetCode.TheVariants as subset
use Rattle.p10_core.specs.Types.{PlainType}
use Rattle.p10_core.specs.Typed.{value, call, place, global, PlainValues}
use Rattle.p10_core.specs.Nodes.{PlainNode, a_value, a_place}
use Rattle.p10_program.specs.Undefined.{name_of_call, undefined_among}

-- no use among nodes is left out: what holds of two lists holds of both together; an object and a called function whose numbers are past
-- those that are defined are told
pub record EachUseIsTold : Type 0 where
  pub together : (functions objects : ℕ) (ns ms : List PlainNode) → undefined_among functions objects (ns ++ ms) ≡ undefined_among functions objects ns ++ undefined_among functions objects ms
  pub object : (functions objects n : ℕ) (at : At) (t : PlainType) (ns : List PlainNode) → objects ≤ n → Contains ns (a_place (place at t (global n)))
      → Contains (undefined_among functions objects ns) (record { code = subset.NotDefined; at = at })
  pub function : (functions objects n : ℕ) (at : At) (t : PlainType) (span : Span) (vs : PlainValues) (ns : List PlainNode) → functions ≤ n → Contains ns (a_value (value at t (call span n vs)))
      → Contains (undefined_among functions objects ns) (record { code = subset.NotDefined; at = name_of_call at span })
