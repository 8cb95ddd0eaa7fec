-- The types of objects outside of functions, where they are no arrays without lengths.
use Rattle.std.specs.Prelude.{◌≡◌, Bool, true, false, not, ◌||◌, if◌then◌else◌, Option, Some, None, refl}
use Rattle.std.proofs.Common.{ap, sym, ◌∙◌}
use Rattle.p10_base.specs.declared.at.At.{At}
use Rattle.p10_base.specs.declared.codes.SubsetCode.TheVariants as subset
use Rattle.p10_syn.specs.Trees.{Identifier, Initializer}
use Rattle.p10_core.specs.Types.{PlainType}
use Rattle.p10_core.specs.Rows.{is_complete, is_void}
use Rattle.p10_elabx.specs.First.{only_first}
use Rattle.p10_elabd.specs.Standing.{PlainStanding, Passed, refusing}
use Rattle.p10_elabd.specs.Shapes.{of_type}
use Rattle.p10_elabd.specs.declared.site.Storage.{Storage}
use Rattle.p10_elabd.specs.declared.site.Storage.TheVariants as storage_is
use Rattle.p10_heads.specs.Heads.{is_static as heads_static}
use Rattle.p10_linkage.specs.Linkage.{is_static, Linked}
use Rattle.p10_elabs.specs.Locals.{is_written}
use Rattle.p10_elab.specs.Outer.{outer_type}

-- a type by whether it is kept
abbrev type_where : Identifier At → PlainType → PlainStanding → Bool → Passed PlainType
type_where name t s kept = if kept then record { made = Some t; after = s } else record { made = None; after = refusing only_first true subset.IncompleteType name.place s }

-- it has a size, or may get one
pub type_kept : (name : Identifier At) (brackets : At) (storage : Storage) (i : Option (Initializer At)) (before : Option Linked) (t : PlainType) (s : PlainStanding) →
    (is_complete s.scope.structures t || not (is_written i || (is_static storage || is_void t))) ≡ true → ◌≡◌ {A = Passed PlainType} (record { made = Some t; after = s }) (outer_type only_first name brackets storage i before (of_type t) s)
type_kept name brackets storage i before t s is = sym (ap (type_where name t s) is)

-- it has none, and gets none
pub type_refused : (name : Identifier At) (brackets : At) (storage : Storage) (i : Option (Initializer At)) (before : Option Linked) (t : PlainType) (s after : PlainStanding) →
    (is_complete s.scope.structures t || not (is_written i || (is_static storage || is_void t))) ≡ false → after ≡ refusing only_first true subset.IncompleteType name.place s →
    ◌≡◌ {A = Passed PlainType} (record { made = None; after = after }) (outer_type only_first name brackets storage i before (of_type t) s)
type_refused name brackets storage i before t s after is refused = (λ i. record { made = None; after = refused i }) ∙ sym (ap (type_where name t s) is)

-- `static` is the same word for what roots define and for linkage
pub static_is : (s : Storage) → heads_static s ≡ is_static s
static_is storage_is.Typedef = refl
static_is storage_is.Extern = refl
static_is storage_is.Static = refl
static_is storage_is.Unnamed = refl
