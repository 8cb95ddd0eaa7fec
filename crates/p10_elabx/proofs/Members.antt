-- Members by their places.
use Rattle.std.specs.Prelude.{◌≡◌, ℕ, Bool, List, map, option_map, slice_get, refl}
use Rattle.std.proofs.lemmas.Option.{slice_get-map}
use Rattle.p10_core.specs.declared.c_type.TypeForm.{TypeForm}
use Rattle.p10_core.specs.declared.c_type.TypeForm.TheVariants.{Void, Int, Pointer', Array', Struct}
use Rattle.p10_core.specs.declared.structures.Member.{Member}
use Rattle.p10_core.specs.Types.{plain_form_of_type, plain_member}
use Rattle.p10_core.specs.Rows.{mark_of}

-- the mark of a type of the code
pub mark_of_plain : (c : Bool) (f : TypeForm) → mark_of (plain_form_of_type c f) ≡ c
mark_of_plain c Void = refl
mark_of_plain c (Int i) = refl
mark_of_plain c (Pointer' p d f) = refl
mark_of_plain c (Array' p d f n) = refl
mark_of_plain c (Struct n) = refl

-- the member at a place
pub member_at : (members : List Member) (i : ℕ) → slice_get (map plain_member members) i ≡ option_map plain_member (slice_get members i)
member_at members i = slice_get-map plain_member members i
