-- Names of the code as the definitions speak of them.
use Rattle.std.specs.Prelude.{List, map}
use Rattle.p10_base.specs.Words.{Text}
use Rattle.p10_core.specs.Types.{plain_type}
use Rattle.p10_elabx.specs.declared.named.Named.{Named}
use Rattle.p10_elabx.specs.declared.named.Named.TheVariants.{Var, Global, Function, Constant, Typedef, Tag, Unknown, UnknownTag}
use Rattle.p10_elabx.specs.Scopes.{Meaning, local, object, callable, number, named_type, tagged_type, unknown_name, unknown_tag, Binding}

-- what a name of the code stands for
abbrev pub meaning_of : Named → Meaning
meaning_of (Var n t frame) = local n (plain_type t) frame
meaning_of (Global n t sensor) = object n (plain_type t) sensor
meaning_of (Function n parameters result) = callable n (map plain_type parameters) (plain_type result)
meaning_of (Constant z) = number z
meaning_of (Typedef t) = named_type (plain_type t)
meaning_of (Tag t) = tagged_type (plain_type t)
meaning_of Unknown = unknown_name
meaning_of UnknownTag = unknown_tag

-- what a declared name of the code is
abbrev pub binding_of : Text × Named → Binding
binding_of b = record { name = b.0; what = meaning_of b.1 }

-- what declared names of the code are
abbrev pub bindings_of : List (Text × Named) → List Binding
bindings_of bindings = map binding_of bindings
