-- Where names of a root are defined, as the code keeps it.
use Rattle.std.specs.Prelude.{ℕ, Bool, false, not, ◌&&◌, if◌then◌else◌, Option, is_some, List, [], ◌∷◌, ◌++◌}
use Rattle.p10_base.specs.Words.{Text}
use Rattle.p10_base.specs.declared.at.At.{At}
use Rattle.p10_bindings.specs.Bound.{bound_in}
use Rattle.p10_bindings.specs.Lookup.{last_bound}
use Rattle.p10_heads.specs.declared.sites.Asked.{Asked}
use Rattle.p10_heads.specs.declared.sites.Asked.TheVariants.{Full, Tentative, Internal}
use Rattle.p10_heads.specs.declared.sites.Sites.{Sites}
use Rattle.p10_syn.specs.Trees.{External, Outer, Defines}
use Rattle.p10_heads.specs.Heads.{Outline, is_fully, is_tentative, at_or, begins_at, outlines_in, Head, heads_in_all}
use Rattle.p10_heads.specs.private.Firsts.{firsts}

-- whether that holds for an outline
abbrev pub passes : Asked → Outline → Bool
passes Full o = is_fully o
passes Tentative o = is_tentative o
passes Internal o = o.static

-- the name of an outline that passes, with its place
abbrev pub site_among : (Outline → Bool) → Outline → List (Text × At)
site_among test o = if test o then (o.name, o.at) ∷ [] else []

-- the names of outlines that pass
abbrev pub sites_among : (Outline → Bool) → List Outline → List (Text × At)
sites_among test [] = []
sites_among test (o ∷ rest) = site_among test o ++ sites_among test rest

-- the first places of names at outlines that pass
abbrev pub first_sites : Asked → List Outline → List (Text × At)
first_sites asked all = firsts [] (sites_among (passes asked) all)

-- where names are defined
pub record PlainSites : Type 0 where
  pub full : List (Text × At)
  pub tentative : List (Text × At)
  pub internal : List (Text × At)

-- where the code keeps names to be defined
abbrev pub plain_sites : Sites → PlainSites
plain_sites s = record { full = bound_in s.full; tentative = bound_in s.tentative; internal = bound_in s.internal }

-- where the names with these outlines are defined
abbrev pub sites_of : List Outline → PlainSites
sites_of all = record { full = first_sites Full all; tentative = first_sites Tentative all; internal = first_sites Internal all }

-- where a name is defined
abbrev pub site_in : PlainSites → Text → Option At
site_in s name = at_or (last_bound name s.full) (last_bound name s.tentative)

-- whether a name is internal to its root
abbrev pub internal_in : PlainSites → Text → Bool
internal_in s name = is_some (last_bound name s.internal)

-- the head of an outline that is where its name is defined, of functions or of objects
abbrev pub head_among : Bool → ℕ → PlainSites → Outline → List Head
head_among functions root s o =
    if begins_at o.at (site_in s o.name) && (if functions then o.function else not o.function)
    then record { root = root; name = o.name; at = o.at; internal = internal_in s o.name; in_block = false } ∷ [] else []

-- the heads of outlines
abbrev pub heads_among : Bool → ℕ → PlainSites → List Outline → List Head
heads_among functions root s [] = []
heads_among functions root s (o ∷ rest) = head_among functions root s o ++ heads_among functions root s rest

-- the heads of objects of a declaration or function
abbrev pub objects_in : ℕ → PlainSites → External At → List Head
objects_in root s (Outer p d) = heads_among false root s (outlines_in (Outer p d))
objects_in root s (Defines d) = heads_in_all root d.body

-- the heads of objects of a root
abbrev pub objects_among : ℕ → PlainSites → List (External At) → List Head
objects_among root s [] = []
objects_among root s (e ∷ rest) = objects_in root s e ++ objects_among root s rest
