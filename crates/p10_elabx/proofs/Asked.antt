-- What is asked of arguments.
use Rattle.std.specs.Prelude.{◌≡◌, ℕ, Option, option_map, List, map, slice_get}
use Rattle.std.proofs.Common.{ap, sym, ◌∙◌}
use Rattle.std.proofs.lemmas.Option.{slice_get-map}
use Rattle.p10_core.specs.declared.c_type.CType.{CType}
use Rattle.p10_core.specs.Types.{PlainType, plain_type}
use Rattle.p10_elabx.specs.Calls.{of_type}

-- the type at a place of the list
pub type_at_is : (types : List CType) (i : ℕ) → option_map plain_type (slice_get types i) ≡ slice_get (map plain_type types) i
type_at_is types i = sym (slice_get-map plain_type types i)

-- that an argument fits the type at a place
pub asked_type : (types : List PlainType) (i : ℕ) (t : Option PlainType) → t ≡ slice_get types i → option_map of_type t ≡ slice_get (map of_type types) i
asked_type types i t e = ap (option_map of_type) e ∙ sym (slice_get-map of_type types i)
