-- The functions at which objects of file scope are in scope, by the names of the objects.
use Rattle.std.specs.Prelude.{ℕ, Bool, ◌&&◌, ◌||◌, if◌then◌else◌, List, [], ◌∷◌, ◌++◌, Option, Some, None, map, slice_get, bytes_eq}
use Rattle.std.specs.List.{list_any}
use Rattle.p10_base.specs.Words.{Text}
use Rattle.p10_base.specs.Names.{place_in}
use Rattle.p10_core.specs.declared.program.Extent.{Extent}
use Rattle.p10_core.specs.Typed.{PlainObject, PlainSeen}
use Rattle.p10_warn.specs.declared.named_extents.NamedExtents.{NamedExtents}
use Rattle.p10_warn.specs.Scopes.{covers, is_in_scope_at, FileNames}

-- the extents of a group, if there is one
abbrev pub extents_in : Option (List Extent) → List Extent
extents_in None = []
extents_in (Some group) = group

-- the extents that are noted at a place of names
abbrev pub extents_at : List (List Extent) → Option ℕ → List Extent
extents_at groups None = []
extents_at groups (Some n) = extents_in (slice_get groups n)

-- the extents that are noted for a name
abbrev pub noted_for : NamedExtents → Text → List Extent
noted_for e name = extents_at (map (λ group. group.items) e.groups.items) (place_in e.names name)

-- the extents of the objects with a name
abbrev pub extents_named : List PlainObject → Text → List Extent
extents_named [] name = []
extents_named (o ∷ rest) name = (if bytes_eq o.name name then o.visible else []) ++ extents_named rest name

-- the extents of the names that are declared and not defined
abbrev pub extents_outside : List PlainSeen → Text → List Extent
extents_outside [] name = []
extents_outside (o ∷ rest) name = (if bytes_eq o.name name then o.visible ∷ [] else []) ++ extents_outside rest name

-- whether an object with a name is in scope at the function with a number
abbrev pub is_name_in_scope : FileNames → ℕ → Text → Bool
is_name_in_scope file n name =
    list_any (λ o. bytes_eq o.name name && is_in_scope_at n o) file.objects
    || list_any (λ (o : PlainSeen). bytes_eq o.name name && covers n o.visible) file.outside
