-- Places in a list, by the names of what stands there.
use Rattle.std.specs.Prelude.{ℕ, ◌+◌, Bool, ◌&&◌, if◌then◌else◌, List, [], ◌∷◌, ◌++◌, Option, Some, None, map, slice_get, bytes_eq}
use Rattle.p10_base.specs.Words.{Text}
use Rattle.p10_base.specs.Names.{place_in}
use Rattle.p10_linkage.specs.declared.groups.Groups.{Groups}

-- the places of a group, if there is one
abbrev pub places_in : Option (List ℕ) → List ℕ
places_in None = []
places_in (Some group) = group

-- the places that are noted at a place of names
abbrev pub group_at : List (List ℕ) → Option ℕ → List ℕ
group_at places None = []
group_at places (Some n) = places_in (slice_get places n)

-- the places that are noted for a name
abbrev pub group_of : Groups → Text → List ℕ
group_of g name = group_at (map (λ group. group.items) g.places.items) (place_in g.names name)

-- something more before a list, if there is something
abbrev pub with_row : {A : Type 0} → Option A → List A → List A
with_row None rest = rest
with_row (Some a) rest = a ∷ rest

-- what stands at places of a list
abbrev pub rows_at : {A : Type 0} → List ℕ → List A → List A
rows_at [] all = []
rows_at (n ∷ places) all = with_row (slice_get all n) (rows_at places all)

-- the elements of a list that have a name
abbrev pub named : {A : Type 0} → (A → Text) → Text → List A → List A
named of name [] = []
named of name (a ∷ rest) = if bytes_eq (of a) name then a ∷ named of name rest else named of name rest

-- the places of the elements of a list that have a name and pass a test, where the first one has a number
abbrev pub places_named : {A : Type 0} → (A → Text) → (A → Bool) → Text → ℕ → List A → List ℕ
places_named of test name n [] = []
places_named of test name n (a ∷ rest) =
    if bytes_eq (of a) name && test a then n ∷ places_named of test name (n + 1) rest else places_named of test name (n + 1) rest

-- the places of a name after one that another name has, where that is noted
abbrev pub grouped_after : Bool → Text → ℕ → Text → List ℕ → List ℕ
grouped_after noted other place name group = if bytes_eq other name && noted then group ++ place ∷ [] else group
