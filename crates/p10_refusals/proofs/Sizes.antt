-- An object outside of functions that has no size is told.
use Rattle.std.specs.Prelude.{◌≡◌, ◌⊎◌, refl, Bool, true, false, not, ◌&&◌, ◌||◌, if◌then◌else◌, List, [], ◌∷◌, ◌++◌, Option, Some, None, is_some}
use Rattle.std.proofs.Common.{inl, inr, sym, subst, ap, ◌∙◌}
use Rattle.p10_base.specs.declared.at.At.{At}
use Rattle.p10_base.specs.declared.codes.SubsetCode.{SubsetCode}
use Rattle.p10_base.specs.declared.codes.SubsetCode.TheVariants as subset
use Rattle.p10_syn.specs.Trees.{Identifier, Initializer, InitDeclarator, Declaration, Definition, External, Outer, Defines}
use Rattle.p10_core.specs.Types.{PlainType, void, integer, pointer, array, structure}
use Rattle.p10_core.specs.Typed.{not_initialized, PlainInitializer}
use Rattle.p10_core.specs.Rows.{is_complete, is_void}
use Rattle.p10_elabx.specs.Scopes.{PlainScope}
use Rattle.p10_elabx.specs.First.{Among, every}
use Rattle.p10_elabd.specs.Laws.{incomplete_at, FormRowsAreTold}
use Rattle.p10_elabd.specs.Standing.{PlainStanding, Passed, refusing}
use Rattle.p10_elabd.specs.Words.{storage_of}
use Rattle.p10_elabd.specs.declared.site.Site.TheVariants as site_is
use Rattle.p10_elabd.specs.declared.site.Storage.{Storage}
use Rattle.p10_elabd.specs.declared.site.Storage.TheVariants as storage_is
use Rattle.p10_elabd.specs.declared.lifetime.Lifetime.TheVariants as life_is
use Rattle.p10_elabd.specs.Shapes.{DeclaredType, of_type, of_open_array, of_function, of_part_function, name_in, declares_open_array}
use Rattle.p10_elabd.specs.Declaring.{specified, declarator_passed, based}
use Rattle.p10_heads.specs.Heads.{Heads, heads_of_roots}
use Rattle.p10_elabs.specs.Addresses.{constants_of}
use Rattle.p10_elabs.specs.Locals.{is_written, open_noted, brackets_of, makes_sensors, initialized_by}
use Rattle.p10_elabs.specs.LocalDeclarations.{is_typedef}
use Rattle.p10_linkage.specs.Linkage.{LinkedType, a_function, an_object, a_part_function, unknown_object, Linked, is_static}
use Rattle.p10_elab.specs.Knowledge.{Known, Tentative, linked_of, with_linked, with_standing}
use Rattle.p10_elab.specs.Outer.{is_site, with_defined, is_extern, with_tentative, object_declared, before_in, composite_of, is_array_object, is_array_before, gets_length, open_outside, outer_type, object_outside, object_by_type, object_by_form, by_type_outside, outer_named, outer_declarators, main_constants, declared_outside, function_by_type, allowed_at_definition, function_named, defined_outside}
use Rattle.p10_elab.specs.RootEnds.{nothing_known, known_after, known_after_all, root_begun, lacks_size_at_end, sizes_noted, root_ended, root_passed, roots_passed}
use Rattle.p10_refusals.specs.Forms.{reached_outside, DeclaredAfter}
use Rattle.p10_refusals.specs.Sizes.{known_outside, declared_by, needs_size, may_define, IsTentative, scope_at_end, SizesAreTold}
use Rattle.p10_refusals.proofs.Growing.{Grows, refusing_told, grown, grown_outside}
use Rattle.p10_refusals.proofs.FormsOutside.{told_where_false, at_declarators, specified_type_of, named_outside}
use Rattle.p10_refusals.proofs.InRoots.{root_told}
use Rattle.p10_refusals.proofs.NoFunctions.{IsNoFunction, open_made}
use Rattle.p10_refusals.proofs.Tests.{neither}
use Rattle.p10_root_steps.proofs.Parts.{over_linked, over_by_type, over_sizes}
use Rattle.p10_root_steps.proofs.Passing.{over_outer_declarators, over_all}

-- ## Tentative definitions stay known

-- a tentative definition is one of some
abbrev IsListed : Tentative → List Tentative → Type 0
IsListed one [] = ⊥
IsListed one (d ∷ rest) = (one ≡ d) ⊎ IsListed one rest

-- some tentative definitions are among others
record StayListed (few all : List Tentative) : Type 0 where
  listed : (one : Tentative) → IsListed one few → IsListed one all

as_listed : (all : List Tentative) → StayListed all all
as_listed all = record { listed = λ one h. h }

stay_on : {few all more : List Tentative} → StayListed few all → StayListed all more → StayListed few more
stay_on a b = record { listed = λ one h. b.listed one (a.listed one h) }

listed_first : (few more : List Tentative) (one : Tentative) → IsListed one few → IsListed one (few ++ more)
listed_first [] more one h = absurd h
listed_first (d ∷ few) more one (inl e) = inl e
listed_first (d ∷ few) more one (inr h) = inr (listed_first few more one h)

listed_last : (all : List Tentative) (one : Tentative) → IsListed one (all ++ one ∷ [])
listed_last [] one = inl refl
listed_last (d ∷ all) one = inr (listed_last all one)

either_listed : {few : List Tentative} (b : Bool) (k j : Known) → StayListed few k.tentative → StayListed few j.tentative → StayListed few (if b then k else j).tentative
either_listed true k j g h = g
either_listed false k j g h = h

tentative_listed : (name : Identifier At) (t : PlainType) (s : Storage) (i : Option (Initializer At)) (k : Known) → StayListed k.tentative (with_tentative name t s i k).tentative
tentative_listed name t s i k = either_listed (is_written i || is_extern s) _ _ (as_listed k.tentative) (record { listed = listed_first k.tentative (record { name = name; type = t } ∷ []) })

defined_listed : (heads : Heads) (l : Linked) (name : Identifier At) (t : PlainType) (o : Option PlainInitializer) (k : Known) → StayListed k.tentative (with_defined heads l name t o k).tentative
defined_listed heads l name t None k = as_listed k.tentative
defined_listed heads l name t (Some i) k = either_listed (is_site heads name) _ _ (as_listed k.tentative) (as_listed k.tentative)

object_listed : (heads : Heads) (name : Identifier At) (t : PlainType) (s : Storage) (sensor : Bool) (i : Option (Initializer At)) (k : Known) →
    StayListed k.tentative (object_declared every heads name t s sensor i k).tentative
object_listed heads name t s sensor i k =
    let l : Linked = linked_of k name (an_object t) s (is_written i) sensor in
    let m : Known = with_tentative name t s i (with_linked every heads l k) in
    let p : Passed PlainInitializer = initialized_by every life_is.Static t i m.standing in
    stay_on (tentative_listed name t s i (with_linked every heads l k)) (defined_listed heads l name t p.made (with_standing m p.after))

object_outside_listed : (heads : Heads) (name : Identifier At) (s : Storage) (sensor : Bool) (i : Option (Initializer At)) (k : Known) (o : Option PlainType) (z : PlainStanding) →
    StayListed k.tentative (object_outside every heads name s sensor i k (record { made = o; after = z })).tentative
object_outside_listed heads name s sensor i k None z = as_listed k.tentative
object_outside_listed heads name s sensor i k (Some t) z = object_listed heads name t s sensor i (with_standing k z)

by_type_listed : (heads : Heads) (s : Storage) (sensor : Bool) (name : Identifier At) (d : InitDeclarator At) (k : Known) (o : Option DeclaredType) →
    StayListed k.tentative (object_by_type every heads s sensor name d k o).tentative
by_type_listed heads s sensor name d k None = as_listed k.tentative
by_type_listed heads s sensor name d k (Some t) =
    let p : Passed PlainType = outer_type every name (brackets_of d.declarator) s d.initial (before_in k name) t k.standing in
    object_outside_listed heads name s sensor d.initial k p.made p.after

by_form_listed : (heads : Heads) (s : Storage) (sensor : Bool) (name : Identifier At) (d : InitDeclarator At) (k : Known) (o : Option DeclaredType) →
    StayListed k.tentative (object_by_form every heads s sensor name d k o).tentative
by_form_listed heads s sensor name d k o = by_type_listed heads s sensor name d (with_standing k (open_outside every name d (before_in k name) o k.standing)) o

outside_listed : (heads : Heads) (s : Storage) (sensor : Bool) (name : Identifier At) (d : InitDeclarator At) (k : Known) (o : Option DeclaredType) →
    StayListed k.tentative (by_type_outside every heads s sensor name d k o).tentative
outside_listed heads s sensor name d k None = by_form_listed heads s sensor name d k None
outside_listed heads s sensor name d k (Some (of_function f)) = as_listed k.tentative
outside_listed heads s sensor name d k (Some (of_part_function f)) = as_listed k.tentative
outside_listed heads s sensor name d k (Some (of_type t)) = by_form_listed heads s sensor name d k (Some (of_type t))
outside_listed heads s sensor name d k (Some (of_open_array t)) = by_form_listed heads s sensor name d k (Some (of_open_array t))

named_listed : (heads : Heads) (s : Storage) (sensor : Bool) (t : Option PlainType) (k : Known) (d : InitDeclarator At) (o : Option (Identifier At)) →
    StayListed k.tentative (outer_named every heads s sensor t k d o).tentative
named_listed heads s sensor t k d None = as_listed k.tentative
named_listed heads s sensor t k d (Some name) =
    let j : Passed DeclaredType = declarator_passed every name.place (based t k.standing) d.declarator in
    either_listed (is_typedef s) _ _ (as_listed k.tentative) (outside_listed heads s sensor name d (with_standing k j.after) j.made)

declarators_listed : (heads : Heads) (s : Storage) (sensor : Bool) (t : Option PlainType) (k : Known) (all : List (InitDeclarator At)) →
    StayListed k.tentative (outer_declarators every heads s sensor t k all).tentative
declarators_listed heads s sensor t k [] = as_listed k.tentative
declarators_listed heads s sensor t k (d ∷ rest) =
    stay_on (named_listed heads s sensor t k d (name_in d.declarator)) (declarators_listed heads s sensor t (outer_named every heads s sensor t k d (name_in d.declarator)) rest)

declaration_listed : (heads : Heads) (k : Known) (d : Declaration At) → StayListed k.tentative (declared_outside every heads k d).tentative
unfolding declared_outside
declaration_listed heads k d = record { listed = (declarators_listed heads (storage_of d.specifiers) (makes_sensors d) (specified_type_of k d) (at_declarators k d) d.declarators).listed }

function_listed : (heads : Heads) (s : Storage) (d : Definition At) (name : Identifier At) (k : Known) (o : Option DeclaredType) → StayListed k.tentative (function_by_type every heads s d name k o).tentative
function_listed heads s d name k (Some (of_function f)) = as_listed k.tentative
function_listed heads s d name k (Some (of_part_function f)) = as_listed k.tentative
function_listed heads s d name k (Some (of_type t)) = as_listed k.tentative
function_listed heads s d name k (Some (of_open_array t)) = as_listed k.tentative
function_listed heads s d name k None = as_listed k.tentative

named_function_listed : (heads : Heads) (d : Definition At) (k : Known) (t : Option PlainType) (o : Option (Identifier At)) → StayListed k.tentative (function_named every heads d k t o).tentative
named_function_listed heads d k t None = as_listed k.tentative
named_function_listed heads d k t (Some name) =
    let j : Passed DeclaredType = declarator_passed every name.place (based t k.standing) d.declarator in
    function_listed heads (storage_of d.specifiers) d name (with_standing k j.after) j.made

definition_listed : (heads : Heads) (k : Known) (d : Definition At) → StayListed k.tentative (defined_outside every heads k d).tentative
unfolding defined_outside
definition_listed heads k d =
    let t : Passed PlainType = specified every site_is.OfDefinition (allowed_at_definition d) false k.standing d.specifiers in
    let j : Known = record k { standing = t.after; mains = k.mains ++ main_constants (constants_of d.specifiers) } in
    record { listed = (named_function_listed heads d j t.made (name_in d.declarator)).listed }

external_listed : (heads : Heads) (k : Known) (e : External At) → StayListed k.tentative (known_after every heads k e).tentative
external_listed heads k (Outer p d) = declaration_listed heads k d
external_listed heads k (Defines d) = definition_listed heads k d

externals_listed : (heads : Heads) (k : Known) (all : List (External At)) → StayListed k.tentative (known_after_all every heads k all).tentative
externals_listed heads k [] = as_listed k.tentative
externals_listed heads k (e ∷ rest) = stay_on (external_listed heads k e) (externals_listed heads (known_after every heads k e) rest)

-- ## A tentative definition is told at once, or stays known

abbrev ToldOrListed : Identifier At → PlainType → Known → Type 0
ToldOrListed name t k = Among (incomplete_at name.place) k.standing.problems ⊎ IsListed (record { name = name; type = t }) k.tentative

carried : (name : Identifier At) (t : PlainType) (k j : Known) → Grows k.standing j.standing → StayListed k.tentative j.tentative → ToldOrListed name t k → ToldOrListed name t j
carried name t k j g l (inl h) = inl (g.among (incomplete_at name.place) h)
carried name t k j g l (inr h) = inr (l.listed (record { name = name; type = t }) h)

tentative_there : (name : Identifier At) (t : PlainType) (s : Storage) (k : Known) → may_define s ≡ true → IsListed (record { name = name; type = t }) (with_tentative name t s None k).tentative
tentative_there name t storage_is.Unnamed k h = listed_last k.tentative (record { name = name; type = t })
tentative_there name t storage_is.Static k h = listed_last k.tentative (record { name = name; type = t })
tentative_there name t storage_is.Extern k h = absurd cc
tentative_there name t storage_is.Typedef k h = absurd cc

-- an object that has a size where that is asked for, or none
abbrev sized_or_told : Bool → Identifier At → PlainType → PlainStanding → Passed PlainType
sized_or_told b name t s = if b then record { made = Some t; after = s } else record { made = None; after = refusing every true subset.IncompleteType name.place s }

-- one that has none is told
object_told : (heads : Heads) (name : Identifier At) (s : Storage) (sensor : Bool) (i : Option (Initializer At)) (k : Known) (t : PlainType) (z : PlainStanding) (b : Bool) → b ≡ false →
    Among (incomplete_at name.place) (object_outside every heads name s sensor i k (sized_or_told b name t z)).standing.problems
object_told heads name s sensor i k t z true h = absurd cc
object_told heads name s sensor i k t z false h =
    let j : Known = with_standing k (refusing every true subset.IncompleteType name.place z) in
    (grown (over_linked every heads (linked_of j name unknown_object s (is_written i) sensor) j)).among (incomplete_at name.place) (refusing_told true subset.IncompleteType name.place z refl)

object_there : (heads : Heads) (name : Identifier At) (s : Storage) (sensor : Bool) (k : Known) (t : PlainType) (z : PlainStanding) (b : Bool) → may_define s ≡ true →
    ToldOrListed name t (object_outside every heads name s sensor None k (sized_or_told b name t z))
object_there heads name s sensor k t z true h =
    let j : Known = with_standing k z in
    let l : Linked = linked_of j name (an_object t) s false sensor in
    let m : Known = with_tentative name t s None (with_linked every heads l j) in
    inr ((defined_listed heads l name t (Some not_initialized) m).listed (record { name = name; type = t }) (tentative_there name t s (with_linked every heads l j) h))
object_there heads name s sensor k t z false h = inl (object_told heads name s sensor None k t z false refl)

form_there : (heads : Heads) (s : Storage) (sensor : Bool) (name : Identifier At) (d : InitDeclarator At) (k : Known) (t : PlainType) → may_define s ≡ true → d.initial ≡ None →
    ToldOrListed name t (object_by_form every heads s sensor name d k (Some (of_type t)))
form_there heads s sensor name d k t may bare =
    let j : Known = with_standing k (open_outside every name d (before_in k name) (Some (of_type t)) k.standing) in
    subst (λ i. ToldOrListed name t (object_outside every heads name s sensor i j (outer_type every name (brackets_of d.declarator) s i (before_in j name) (of_type t) j.standing))) (sym bare)
    (object_there heads name s sensor j t j.standing (is_complete j.standing.scope.structures t || not (false || (is_static s || is_void t))) may)

outside_there : (heads : Heads) (s : Storage) (sensor : Bool) (name : Identifier At) (d : InitDeclarator At) (k : Known) (t : PlainType) (o : Option DeclaredType) →
    may_define s ≡ true → d.initial ≡ None → o ≡ Some (of_type t) → ToldOrListed name t (by_type_outside every heads s sensor name d k o)
outside_there heads s sensor name d k t o may bare e =
    subst (λ x. ToldOrListed name t (by_type_outside every heads s sensor name d k x)) (sym e) (form_there heads s sensor name d k t may bare)

named_there : (heads : Heads) (s : Storage) (sensor : Bool) (base : Option PlainType) (k : Known) (d : InitDeclarator At) (name : Identifier At) (t : PlainType) →
    may_define s ≡ true → d.initial ≡ None → (declarator_passed every name.place (based base k.standing) d.declarator).made ≡ Some (of_type t) →
    ToldOrListed name t (outer_named every heads s sensor base k d (Some name))
named_there heads storage_is.Unnamed sensor base k d name t may bare e =
    let j : Passed DeclaredType = declarator_passed every name.place (based base k.standing) d.declarator in
    outside_there heads storage_is.Unnamed sensor name d (with_standing k j.after) t j.made may bare e
named_there heads storage_is.Static sensor base k d name t may bare e =
    let j : Passed DeclaredType = declarator_passed every name.place (based base k.standing) d.declarator in
    outside_there heads storage_is.Static sensor name d (with_standing k j.after) t j.made may bare e
named_there heads storage_is.Extern sensor base k d name t may bare e = absurd cc
named_there heads storage_is.Typedef sensor base k d name t may bare e = absurd cc

declarators_there : (heads : Heads) (s : Storage) (sensor : Bool) (base : Option PlainType) (k : Known) (before : List (InitDeclarator At)) (one : InitDeclarator At)
    (after : List (InitDeclarator At)) (name : Identifier At) (t : PlainType) → name_in one.declarator ≡ Some name →
    ToldOrListed name t (outer_named every heads s sensor base (outer_declarators every heads s sensor base k before) one (Some name)) →
    ToldOrListed name t (outer_declarators every heads s sensor base k (before ++ one ∷ after))
declarators_there heads s sensor base k [] one after name t e h =
    let j : Known = outer_named every heads s sensor base k one (name_in one.declarator) in
    carried name t j (outer_declarators every heads s sensor base j after) (grown_outside (over_outer_declarators every heads s sensor base j after)) (declarators_listed heads s sensor base j after)
    (subst (λ o. ToldOrListed name t (outer_named every heads s sensor base k one o)) (sym e) h)
declarators_there heads s sensor base k (d ∷ before) one after name t e h =
    declarators_there heads s sensor base (outer_named every heads s sensor base k d (name_in d.declarator)) before one after name t e h

declaration_there : (heads : Heads) (k : Known) (d : Declaration At) (before : List (InitDeclarator At)) (one : InitDeclarator At) (name : Identifier At) (t : PlainType) →
    IsTentative heads k d before one name t → ToldOrListed name t (declared_outside every heads k d)
unfolding declared_outside
declaration_there heads k d before one name t is =
    let s : Storage = storage_of d.specifiers in
    let base : Option PlainType = specified_type_of k d in
    let j : Known = at_declarators k d in
    subst (λ ds. ToldOrListed name t (outer_declarators every heads s (makes_sensors d) base j ds)) (sym is.declared.declarators)
    (declarators_there heads s (makes_sensors d) base j before one is.declared.after name t is.declared.named
    (named_there heads s (makes_sensors d) base (outer_declarators every heads s (makes_sensors d) base j before) one name t is.storage is.bare is.type))

externals_there : (heads : Heads) (k : Known) (earlier later : List (External At)) (p : At) (d : Declaration At) (name : Identifier At) (t : PlainType) →
    ToldOrListed name t (declared_outside every heads (known_after_all every heads k earlier) d) → ToldOrListed name t (known_after_all every heads k (earlier ++ Outer p d ∷ later))
externals_there heads k [] later p d name t h =
    let j : Known = declared_outside every heads k d in
    carried name t j (known_after_all every heads j later) (grown_outside (over_all every heads j later)) (externals_listed heads j later) h
externals_there heads k (e ∷ earlier) later p d name t h = externals_there heads (known_after every heads k e) earlier later p d name t h

-- ## The end of a root

refusing_scope : (b : Bool) (code : SubsetCode) (at : At) (s : PlainStanding) → (refusing every b code at s).scope ≡ s.scope
refusing_scope true code at s = refl
refusing_scope false code at s = refl

size_told : (all : List Tentative) (s : PlainStanding) (one : Tentative) → IsListed one all → lacks_size_at_end s.scope one.type ≡ true → Among (incomplete_at one.name.place) (sizes_noted every all s).problems
size_told [] s one l h = absurd l
size_told (d ∷ rest) s one (inl e) h =
    let b : Bool = lacks_size_at_end s.scope d.type in
    (grown (over_sizes every rest (refusing every b subset.IncompleteType d.name.place s))).among (incomplete_at one.name.place)
    (subst (λ (x : Tentative). Among (incomplete_at x.name.place) (refusing every b subset.IncompleteType d.name.place s).problems) (sym e)
    (refusing_told b subset.IncompleteType d.name.place s (subst (λ (x : Tentative). lacks_size_at_end s.scope x.type ≡ true) e h)))
size_told (d ∷ rest) s one (inr l) h =
    let b : Bool = lacks_size_at_end s.scope d.type in
    size_told rest (refusing every b subset.IncompleteType d.name.place s) one l
    (ap (λ c. lacks_size_at_end c one.type) (refusing_scope b subset.IncompleteType d.name.place s) ∙ h)

end_told : (k : Known) (name : Identifier At) (t : PlainType) → ToldOrListed name t k → lacks_size_at_end k.standing.scope t ≡ true → Among (incomplete_at name.place) (root_ended every k).standing.problems
end_told k name t (inl h) lacking = (grown (over_sizes every k.tentative k.standing)).among (incomplete_at name.place) h
end_told k name t (inr h) lacking = size_told k.tentative k.standing (record { name = name; type = t }) h lacking

at_end : (heads : Heads) (k : Known) (earlier later : List (External At)) (p : At) (d : Declaration At) (before : List (InitDeclarator At)) (one : InitDeclarator At) (name : Identifier At) (t : PlainType) →
    IsTentative heads (known_after_all every heads (root_begun k) earlier) d before one name t → lacks_size_at_end (scope_at_end heads k (earlier ++ Outer p d ∷ later)) t ≡ true →
    Among (incomplete_at name.place) (root_passed every heads k (earlier ++ Outer p d ∷ later)).standing.problems
at_end heads k earlier later p d before one name t is lacking =
    end_told (known_after_all every heads (root_begun k) (earlier ++ Outer p d ∷ later)) name t
    (externals_there heads (root_begun k) earlier later p d name t (declaration_there heads (known_after_all every heads (root_begun k) earlier) d before one name t is)) lacking

-- ## At the declaration

either_scope : (b : Bool) (s t : PlainStanding) → t.scope ≡ s.scope → (if b then s else t).scope ≡ s.scope
either_scope true s t e = refl
either_scope false s t e = e

open_scope : (name : Identifier At) (d : InitDeclarator At) (before : Option Linked) (o : Option DeclaredType) (s : PlainStanding) → (open_outside every name d before o s).scope ≡ s.scope
open_scope name d before o s = either_scope (gets_length before o) s _ (refusing_scope (declares_open_array d.declarator && not (is_written d.initial)) subset.IncompleteType name.place s)

form_told : (heads : Heads) (s : Storage) (sensor : Bool) (name : Identifier At) (d : InitDeclarator At) (k : Known) (t : PlainType) → needs_size s d t ≡ true →
    is_complete k.standing.scope.structures t ≡ false → Among (incomplete_at name.place) (object_by_form every heads s sensor name d k (Some (of_type t))).standing.problems
form_told heads s sensor name d k t needs lacking =
    let z : PlainStanding = open_outside every name d (before_in k name) (Some (of_type t)) k.standing in
    object_told heads name s sensor d.initial (with_standing k z) t z (is_complete z.scope.structures t || not (needs_size s d t))
    (neither (is_complete z.scope.structures t) (needs_size s d t)
    (ap (λ (c : PlainScope). is_complete c.structures t) (open_scope name d (before_in k name) (Some (of_type t)) k.standing) ∙ lacking) needs)

named_told : (heads : Heads) (s : Storage) (sensor : Bool) (base : Option PlainType) (k : Known) (d : InitDeclarator At) (name : Identifier At) (t : PlainType) → is_typedef s ≡ false →
    (declarator_passed every name.place (based base k.standing) d.declarator).made ≡ Some (of_type t) → needs_size s d t ≡ true →
    is_complete (declarator_passed every name.place (based base k.standing) d.declarator).after.scope.structures t ≡ false →
    Among (incomplete_at name.place) (outer_named every heads s sensor base k d (Some name)).standing.problems
named_told heads s sensor base k d name t plain e needs lacking =
    let j : Passed DeclaredType = declarator_passed every name.place (based base k.standing) d.declarator in
    told_where_false (is_typedef s) _ _ (incomplete_at name.place) plain
    (subst (λ o. Among (incomplete_at name.place) (by_type_outside every heads s sensor name d (with_standing k j.after) o).standing.problems) (sym e)
    (form_told heads s sensor name d (with_standing k j.after) t needs lacking))

at_once : (heads : Heads) (k : Known) (d : Declaration At) (before : List (InitDeclarator At)) (one : InitDeclarator At) (name : Identifier At) (t : PlainType) → DeclaredAfter d before one name →
    is_typedef (storage_of d.specifiers) ≡ false → (declared_by heads k d before one name).made ≡ Some (of_type t) → needs_size (storage_of d.specifiers) one t ≡ true →
    is_complete (declared_by heads k d before one name).after.scope.structures t ≡ false → Among (incomplete_at name.place) (declared_outside every heads k d).standing.problems
at_once heads k d before one name t is plain e needs lacking =
    let s : Storage = storage_of d.specifiers in
    let base : Option PlainType = specified_type_of k d in
    named_outside heads k d before one name (incomplete_at name.place) is
    (named_told heads s (makes_sensors d) base (outer_declarators every heads s (makes_sensors d) base (at_declarators k d) before) one name t plain e needs lacking)

-- ## Arrays without a length

no_length : (t : PlainType) (u : LinkedType) → is_array_object u ≡ false → is_some (composite_of t u) ≡ false
no_length t (a_function ts r) h = refl
no_length t (a_part_function p) h = refl
no_length t unknown_object h = refl
no_length t (an_object (void c)) h = refl
no_length t (an_object (integer c i)) h = refl
no_length t (an_object (pointer c u)) h = refl
no_length t (an_object (structure c n)) h = refl
no_length t (an_object (array c u n)) h = absurd cc

gets_none : (before : Option Linked) (o : Option DeclaredType) → is_array_before before ≡ false → gets_length before o ≡ false
gets_none None (Some (of_open_array t)) h = refl
gets_none (Some l) (Some (of_open_array t)) h = no_length t l.type h
gets_none before (Some (of_type t)) h = h
gets_none before (Some (of_function f)) h = h
gets_none before (Some (of_part_function f)) h = h
gets_none before None h = h

open_noted_there : (b : Bool) (d : InitDeclarator At) (name : Identifier At) (s : PlainStanding) → b ≡ false → declares_open_array d.declarator ≡ true → d.initial ≡ None →
    Among (incomplete_at name.place) (if b then s else open_noted every name.place d.declarator d.initial s).problems
open_noted_there true d name s e h bare = absurd cc
open_noted_there false d name s e h bare =
    refusing_told (declares_open_array d.declarator && not (is_written d.initial)) subset.IncompleteType name.place s
    (ap (λ b. b && not (is_written d.initial)) h ∙ ap (λ i. not (is_written i)) bare)

open_form_told : (heads : Heads) (s : Storage) (sensor : Bool) (name : Identifier At) (d : InitDeclarator At) (k : Known) (o : Option DeclaredType) → declares_open_array d.declarator ≡ true → d.initial ≡ None →
    is_array_before (before_in k name) ≡ false → Among (incomplete_at name.place) (object_by_form every heads s sensor name d k o).standing.problems
open_form_told heads s sensor name d k o h bare none =
    (grown (over_by_type every heads s sensor name d (with_standing k (open_outside every name d (before_in k name) o k.standing)) o)).among (incomplete_at name.place)
    (open_noted_there (gets_length (before_in k name) o) d name k.standing (gets_none (before_in k name) o none) h bare)

open_outside_told : (heads : Heads) (s : Storage) (sensor : Bool) (name : Identifier At) (d : InitDeclarator At) (k : Known) (o : Option DeclaredType) → IsNoFunction o → declares_open_array d.declarator ≡ true →
    d.initial ≡ None → is_array_before (before_in k name) ≡ false → Among (incomplete_at name.place) (by_type_outside every heads s sensor name d k o).standing.problems
open_outside_told heads s sensor name d k (Some (of_function f)) n h bare none = absurd n
open_outside_told heads s sensor name d k (Some (of_part_function f)) n h bare none = absurd n
open_outside_told heads s sensor name d k (Some (of_type t)) n h bare none = open_form_told heads s sensor name d k (Some (of_type t)) h bare none
open_outside_told heads s sensor name d k (Some (of_open_array t)) n h bare none = open_form_told heads s sensor name d k (Some (of_open_array t)) h bare none
open_outside_told heads s sensor name d k None n h bare none = open_form_told heads s sensor name d k None h bare none

open_told : (heads : Heads) (k : Known) (d : Declaration At) (before : List (InitDeclarator At)) (one : InitDeclarator At) (name : Identifier At) → DeclaredAfter d before one name →
    is_typedef (storage_of d.specifiers) ≡ false → declares_open_array one.declarator ≡ true → one.initial ≡ None → is_array_before (before_in (known_outside heads k d before) name) ≡ false →
    Among (incomplete_at name.place) (declared_outside every heads k d).standing.problems
open_told heads k d before one name is plain h bare none =
    let s : Storage = storage_of d.specifiers in
    let p : Passed DeclaredType = declared_by heads k d before one name in
    named_outside heads k d before one name (incomplete_at name.place) is
    (told_where_false (is_typedef s) _ _ (incomplete_at name.place) plain
    (open_outside_told heads s (makes_sensors d) name one (with_standing (known_outside heads k d before) p.after) p.made
    (open_made name.place (reached_outside heads k d before) one.declarator h) h bare none))

pub sizes_told : FormRowsAreTold → SizesAreTold
sizes_told law = record {
  at_once = at_once;
  without_length = open_told;
  at_end = at_end;
  in_roots = λ roots others after earlier later p d before one name t parts is lacking.
      root_told roots others (earlier ++ Outer p d ∷ later) after (incomplete_at name.place) parts
      (at_end (heads_of_roots 0 roots) (roots_passed every (heads_of_roots 0 roots) nothing_known others) earlier later p d before one name t is lacking);
}
