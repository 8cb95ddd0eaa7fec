-- What holds of types of the code as plain ones.
use Rattle.std.proofs.Common.{◌≡◌, Bool, refl}
use Rattle.p10_core.specs.declared.c_type.TypeForm.{TypeForm}
use Rattle.p10_core.specs.declared.c_type.TypeForm.TheVariants.{Void, Int, Pointer', Array', Struct}
use Rattle.p10_core.specs.Types.{plain_form_of_type}
use Rattle.p10_core.specs.Rows.{mark_of}

pub mark_of_plain : (c : Bool) (f : TypeForm) → mark_of (plain_form_of_type c f) ≡ c
mark_of_plain c Void = refl
mark_of_plain c (Int i) = refl
mark_of_plain c (Pointer' p d f) = refl
mark_of_plain c (Array' p d f n) = refl
mark_of_plain c (Struct n) = refl
