-- Objects that are defined outside of functions, one by one.
use Rattle.std.specs.Prelude.{ℕ, nat_eq, Bool, false, not, ◌&&◌, if◌then◌else◌, List, [], ◌∷◌, ◌++◌, Option, Some, None}
use Rattle.p10_base.specs.declared.at.At.{At}
use Rattle.p10_syn.specs.Trees.{Identifier}
use Rattle.p10_core.specs.Types.{PlainType}
use Rattle.p10_core.specs.Typed.{PlainInitializer}
use Rattle.p10_heads.specs.Heads.{Heads, Head}
use Rattle.p10_elab.specs.Knowledge.{Defined}
use Rattle.p10_elab.specs.Outer.{is_site}

-- objects with one more, if there is one and it is defined where its name stands
abbrev pub defined_after : Heads → Option Defined → List Defined → List Defined
defined_after heads None all = all
defined_after heads (Some d) all = if is_site heads d.name then all ++ d ∷ [] else all

-- whether there is an object that stands outside of functions, at a word
abbrev pub is_there : ℕ → Option Head → Bool
is_there first None = false
is_there first (Some h) = nat_eq h.at.first first && not h.in_block

-- an object by its number, name, type and mark, with an initialiser
abbrev pub object_with : ℕ → Identifier At → PlainType → Bool → PlainInitializer → Defined
object_with n name t sensor i = record { number = n; name = name; type = t; initializer = i; sensor = sensor }
