-- Types that are whole by their tests.
use Rattle.std.proofs.Common.{◌≡◌, Bool, List, sym, ◌∙◌}
use Rattle.p10_core.specs.Types.{PlainType, PlainStructure}
use Rattle.p10_core.specs.Completing.{is_whole_type, is_object_type}
use Rattle.p10_core.specs.WholePrograms.{IsWholeType, IsObjectType}
use Rattle.p10_core.proofs.MemberLayouts.{whole_by_test, object_by_test}
use Rattle.p10_whole.specs.private.Shows.{Shows}

pub whole_type_shown : (b : Bool) (ss : List PlainStructure) (t : PlainType) → b ≡ is_whole_type ss t → Shows b (IsWholeType ss t)
whole_type_shown b ss t e = record { shows = λ h. whole_by_test ss t (sym e ∙ h) }

pub object_type_shown : (b : Bool) (ss : List PlainStructure) (t : PlainType) → b ≡ is_object_type ss t → Shows b (IsObjectType ss t)
object_type_shown b ss t e = record { shows = λ h. object_by_test ss t (sym e ∙ h) }
