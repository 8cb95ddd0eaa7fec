-- The roots, one after the other (C99 6.9), and what holds where each ends (6.9.2).
use Rattle.std.specs.Prelude.{ℕ, ◌+◌, Bool, true, false, not, ◌||◌, List, [], ◌∷◌, ◌++◌, length, slice_get, Option, Some, None}
use Rattle.p10_base.specs.Words.{Text}
use Rattle.p10_base.specs.declared.at.At.{At}
use Rattle.p10_base.specs.declared.codes.SubsetCode.TheVariants as subset
use Rattle.p10_core.specs.declared.program.Extent.{Extent}
use Rattle.p10_elab.specs.declared.outer_object.Sighting.{Sighting}
use Rattle.p10_syn.specs.Trees.{External, Outer, Defines}
use Rattle.p10_core.specs.Types.{PlainType, structure, PlainStructure}
use Rattle.p10_core.specs.Rows.{is_complete}
use Rattle.p10_core.specs.Typed.{PlainSeen}
use Rattle.p10_elabx.specs.First.{Keep}
use Rattle.p10_elabx.specs.Scopes.{Meaning, unknown_tag, tagged, PlainScope, without_names}
use Rattle.p10_elabd.specs.Standing.{PlainStanding, refusing}
use Rattle.p10_heads.specs.Heads.{Heads}
use Rattle.p10_elab.specs.Knowledge.{Known, Tentative}
use Rattle.p10_elab.specs.Outer.{declared_outside, defined_outside}

-- a declaration or function after those before it
abbrev pub known_after : Keep → Heads → Known → External At → Known
known_after h heads k (Outer p d) = declared_outside h heads k d
known_after h heads k (Defines d) = defined_outside h heads k d

-- the declarations and functions of a root, one after the other
abbrev pub known_after_all : Keep → Heads → Known → List (External At) → Known
known_after_all h heads k [] = k
known_after_all h heads k (e ∷ rest) = known_after_all h heads (known_after h heads k e) rest

-- a root begins with no names
abbrev pub root_begun : Known → Known
root_begun k = record k {
  standing = record k.standing { scope = without_names k.standing.scope };
  sightings = [];
  tentative = [];
  undefined = [];
}

-- whether a tag was found that stands for a structure that is refused
abbrev pub is_unknown_tag : Option Meaning → Bool
is_unknown_tag (Some unknown_tag) = true
is_unknown_tag what = false

-- whether a tag stands for a structure that is refused
abbrev pub is_refused_tag : PlainScope → Option Text → Bool
is_refused_tag s None = false
is_refused_tag s (Some tag) = is_unknown_tag (tagged s tag)

-- the tag of a structure, if it is there and has one
abbrev pub tag_in : Option PlainStructure → Option Text
tag_in None = None
tag_in (Some x) = x.tag

-- whether a type is a structure that is refused: that was told where it is declared
abbrev pub is_refused_structure : PlainScope → PlainType → Bool
is_refused_structure s (structure c n) = is_refused_tag s (tag_in (slice_get s.structures n))
is_refused_structure s t = false

-- whether a type has no size at the end of its root
abbrev pub lacks_size_at_end : PlainScope → PlainType → Bool
lacks_size_at_end s t = not (is_complete s.structures t || is_refused_structure s t)

-- each tentative definition of a root has a size at its end (C99 6.9.2p5)
abbrev pub sizes_noted : Keep → List Tentative → PlainStanding → PlainStanding
sizes_noted h [] s = s
sizes_noted h (d ∷ rest) s =
    sizes_noted h rest (refusing h (lacks_size_at_end s.scope d.type) subset.IncompleteType d.name.place s)

-- the functions at which the objects of a root are in scope there
abbrev pub extents_of : ℕ → List Sighting → List (ℕ × Extent)
extents_of to [] = []
extents_of to (s ∷ rest) = (s.number, record { from = s.from; to = to }) ∷ extents_of to rest

-- the names of the objects of a root that no root defines, with the functions at which they are in scope there
abbrev pub outside_of : ℕ → List (Text × ℕ) → List PlainSeen
outside_of to [] = []
outside_of to ((name, from) ∷ rest) = record { name = name; visible = record { from = from; to = to } } ∷ outside_of to rest

-- a root ends
abbrev pub root_ended : Keep → Known → Known
root_ended h k = record k {
  standing = sizes_noted h k.tentative k.standing;
  root = k.root + 1;
  visible = k.visible ++ extents_of (length k.functions) k.sightings;
  outside = k.outside ++ outside_of (length k.functions) k.undefined;
}

-- a root
abbrev pub root_passed : Keep → Heads → Known → List (External At) → Known
root_passed h heads k root = root_ended h (known_after_all h heads (root_begun k) root)

-- the roots, one after the other
abbrev pub roots_passed : Keep → Heads → Known → List (List (External At)) → Known
roots_passed h heads k [] = k
roots_passed h heads k (root ∷ rest) = roots_passed h heads (root_passed h heads k root) rest

-- before the first root
abbrev pub nothing_known : Known
nothing_known = record {
  standing = record { scope = record { structures = []; names = []; tags = []; floors = []; evaluated = true }; open_structures = []; problems = [] };
  root = 0;
  linked = [];
  functions = [];
  block_objects = [];
  objects = [];
  sightings = [];
  visible = [];
  mains = [];
  tentative = [];
  undefined = [];
  outside = [];
}
