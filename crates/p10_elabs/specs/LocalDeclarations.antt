-- Declarations in blocks (C99 6.7, 6.8.2).
use Rattle.std.specs.Prelude.{ℕ, ◌+◌, Bool, true, false, not, ◌&&◌, if◌then◌else◌, List, [], ◌∷◌, ◌++◌, Option, Some, None}
use Rattle.p10_base.specs.declared.at.At.{At}
use Rattle.p10_base.specs.declared.codes.SubsetCode.TheVariants as subset
use Rattle.p10_syn.specs.Trees.{Identifier, Declarator, Initializer, InitDeclarator, Declaration}
use Rattle.p10_core.specs.Types.{PlainType}
use Rattle.p10_core.specs.Sizes.{size_of}
use Rattle.p10_core.specs.Rows.{is_scalar}
use Rattle.p10_core.specs.Typed.{PlainStatement, statement, declare, declare_static, PlainInitializer, PlainVariable, PlainObject}
use Rattle.p10_core.specs.WholePrograms.{is_among}
use Rattle.p10_elabx.specs.First.{Keep}
use Rattle.p10_elabx.specs.Scopes.{local, object}
use Rattle.p10_elabx.specs.TypeNames.{declarator_place}
use Rattle.p10_elabd.specs.Standing.{PlainStanding, Passed, refusing}
use Rattle.p10_elabd.specs.Words.{storage_of}
use Rattle.p10_elabd.specs.declared.site.Site.{Site}
use Rattle.p10_elabd.specs.declared.site.Storage.{Storage}
use Rattle.p10_elabd.specs.declared.site.Storage.TheVariants as storage_is
use Rattle.p10_elabd.specs.Blocks.{declaring}
use Rattle.p10_elabd.specs.Shapes.{DeclaredType, name_in, declares_function}
use Rattle.p10_elabd.specs.Declaring.{declarator_passed, based}
use Rattle.p10_elabd.specs.declared.lifetime.Lifetime.TheVariants as life_is
use Rattle.p10_heads.specs.Heads.{number_at}
use Rattle.p10_elabs.specs.Locals.{Frame, Local, with_standing, specified_in, makes_sensors, no_initializer, unknown_in, typedef_passed, open_noted, object_type, brackets_of, initialized_by}

-- the items that a declaration becomes, in order: none where it was refused
abbrev pub Items : Type 0
Items = List (Option PlainStatement)

-- items, and what the body has then
pub record Declaring : Type 0 where
  pub items : Items
  pub after : Local

-- ## Automatic variables

-- whether a variable is a frame variable: a scalar whose address isn't taken
abbrev pub is_frame_variable : Frame → ℕ → PlainType → Bool
is_frame_variable f n t = is_scalar t && not (is_among n f.taken)

-- one variable more
abbrev pub one_more : Local → Local
one_more l = record l { count = l.count + 1 }

-- a variable is put down
abbrev pub with_listed : PlainVariable → Local → Local
with_listed v l = record l { variables = l.variables ++ v ∷ [] }

-- a variable that is declared
abbrev pub with_variable : Keep → Frame → Identifier At → PlainType → Local → Local
with_variable h f name t l =
    with_standing (with_listed (record {
      name = name.name;
      type = t;
      bytes = size_of l.standing.scope.structures t;
      frame = is_frame_variable f l.count t;
      span = name.place.span;
    }) (one_more l)) (declaring h name (local l.count t (is_frame_variable f l.count t)) l.standing)

-- the item of a variable with its initialiser
abbrev pub variable_item : At → ℕ → Option PlainInitializer → Option PlainStatement
variable_item at n None = None
variable_item at n (Some i) = Some (statement at (declare n i))

-- a variable of a type, in scope in its own initialiser (C99 6.2.1p7)
abbrev pub variable_of_type : Keep → Frame → At → Identifier At → PlainType → Option (Initializer At) → Local → Declaring
variable_of_type h f at name t i l =
    let m : Local = with_variable h f name t l in
    let p : Passed PlainInitializer = initialized_by h life_is.Automatic t i m.standing in
    record { items = variable_item at l.count p.made ∷ []; after = with_standing m p.after }

-- a variable whose type is refused has a number all the same
abbrev pub refused_variable : Keep → Identifier At → Local → Declaring
refused_variable h name l = record { items = None ∷ []; after = with_standing (one_more l) (unknown_in h name l.standing) }

-- a variable, where its type isn't refused
abbrev pub variable_where : Keep → Frame → At → Identifier At → Option (Initializer At) → Option PlainType → Local → Declaring
variable_where h f at name i None l = refused_variable h name l
variable_where h f at name i (Some t) l = variable_of_type h f at name t i l

-- a variable whose type may be refused
abbrev pub variable_passed : Keep → Frame → At → Identifier At → Option (Initializer At) → Local → Passed PlainType → Declaring
variable_passed h f at name i l t = variable_where h f at name i t.made (with_standing l t.after)

-- ## Objects of static lifetime

-- an object is put down with its number
abbrev pub with_numbered : ℕ → PlainObject → Local → Local
with_numbered n o l = record l { objects = l.objects ++ (n, o) ∷ [] }

-- an object that is declared, with its initialiser
abbrev pub with_object : Frame → ℕ → Identifier At → PlainType → Bool → Option PlainInitializer → Local → Local
with_object f n name t sensor None l = l
with_object f n name t sensor (Some i) l = with_numbered n (record {
  name = name.name;
  type = t;
  bytes = size_of l.standing.scope.structures t;
  span = name.place.span;
  initializer = i;
  owner = Some f.number;
  sensor = sensor;
  visible = [];
}) l

-- the item of an object
abbrev pub object_item : At → ℕ → Option PlainInitializer → Option PlainStatement
object_item at n None = None
object_item at n (Some i) = Some (statement at (declare_static n))

-- an object of a type, in scope in its own initialiser
abbrev pub object_of_type : Keep → Frame → At → Identifier At → PlainType → Bool → Option (Initializer At) → Local → Declaring
object_of_type h f at name t sensor i l =
    let n : ℕ = number_at f.heads.objects name.place in
    let m : Local = with_standing l (declaring h name (object n t sensor) l.standing) in
    let p : Passed PlainInitializer = initialized_by h life_is.Static t i m.standing in
    record { items = object_item at n p.made ∷ []; after = with_object f n name t sensor p.made (with_standing m p.after) }

-- an object, where its type isn't refused
abbrev pub object_where : Keep → Frame → At → Identifier At → Bool → Option (Initializer At) → Option PlainType → Local → Declaring
object_where h f at name sensor i None l = record { items = None ∷ []; after = with_standing l (unknown_in h name l.standing) }
object_where h f at name sensor i (Some t) l = object_of_type h f at name t sensor i l

-- an object whose type may be refused
abbrev pub object_passed : Keep → Frame → At → Identifier At → Bool → Option (Initializer At) → Local → Passed PlainType → Declaring
object_passed h f at name sensor i l t = object_where h f at name sensor i t.made (with_standing l t.after)

-- ## Declarators

-- no item
abbrev pub no_items : Local → Declaring
no_items l = record { items = []; after = l }

-- the type of an object that may be refused
abbrev pub declared_object : Keep → Identifier At → At → Option DeclaredType → Option (Initializer At) → PlainStanding → Passed PlainType
declared_object h name brackets None i s = record { made = None; after = s }
declared_object h name brackets (Some d) i s = object_type h name brackets d i s

-- the same, where rows on the form of its declarator may hold
abbrev pub object_in_block : Keep → Identifier At → InitDeclarator At → Option DeclaredType → PlainStanding → Passed PlainType
object_in_block h name d j s =
    declared_object h name (brackets_of d.declarator) j d.initial (open_noted h name.place d.declarator d.initial s)

-- a prototype stands in no block
abbrev pub prototype_passed : Keep → Identifier At → InitDeclarator At → Local → Declaring
prototype_passed h name d l =
    no_items (with_standing l (no_initializer h d.initial (unknown_in h name (refusing h true subset.BadSpecifier (declarator_place d.declarator) l.standing))))

-- a typedef in a block
abbrev pub typedef_done : Keep → Identifier At → InitDeclarator At → Option DeclaredType → Local → Local
typedef_done h name d j l = with_standing l (no_initializer h d.initial (typedef_passed h name d.declarator j l.standing))

-- a declarator in a block by its storage: a typedef, a static object, a variable; what `extern` declares is refused with that word
abbrev pub by_storage : Keep → Frame → At → Storage → Bool → Identifier At → InitDeclarator At → Local → Option DeclaredType → Declaring
by_storage h f at storage_is.Typedef sensor name d l j = no_items (typedef_done h name d j l)
by_storage h f at storage_is.Static sensor name d l j =
    object_passed h f at name sensor d.initial l (object_in_block h name d j l.standing)
by_storage h f at storage_is.Unnamed sensor name d l j =
    variable_passed h f at name d.initial l (object_in_block h name d j l.standing)
by_storage h f at storage_is.Extern sensor name d l j = no_items (with_standing l (unknown_in h name l.standing))

-- whether storage is that of a typedef
abbrev pub is_typedef : Storage → Bool
is_typedef storage_is.Typedef = true
is_typedef s = false

-- whether a declarator is that of a prototype
abbrev pub is_prototype : Storage → Declarator At → Bool
is_prototype s d = declares_function d && not (is_typedef s)

-- a declarator in a block with its name
abbrev pub local_named : Keep → Frame → At → Storage → Bool → Option PlainType → Local → InitDeclarator At → Option (Identifier At) → Declaring
local_named h f at s sensor t l d None = no_items l
local_named h f at s sensor t l d (Some name) =
    let j : Passed DeclaredType = declarator_passed h name.place (based t l.standing) d.declarator in
    if is_prototype s d.declarator then prototype_passed h name d (with_standing l j.after) else by_storage h f at s sensor name d (with_standing l j.after) j.made

-- declarators in a block, one after the other
abbrev pub local_declarators : Keep → Frame → At → Storage → Bool → Option PlainType → Declaring → List (InitDeclarator At) → Declaring
local_declarators h f at s sensor t p [] = p
local_declarators h f at s sensor t p (d ∷ rest) =
    let q : Declaring = local_named h f at s sensor t p.after d (name_in d.declarator) in
    local_declarators h f at s sensor t (record { items = p.items ++ q.items; after = q.after }) rest

-- a declaration in a block or in the first clause of a `for`
unfoldable pub declared_locally : Keep → Frame → Site → Local → Declaration At → Declaring
declared_locally h f site l d =
    let t : Passed PlainType = specified_in h false site l.standing d in
    local_declarators h f d.place (storage_of d.specifiers) (makes_sensors d) t.made (no_items (with_standing l t.after)) d.declarators
