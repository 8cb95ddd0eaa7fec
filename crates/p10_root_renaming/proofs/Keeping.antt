-- A declaration outside of functions adds no function.
use Rattle.std.proofs.Common.{◌≡◌, ◌∙◌, Bool, true, false, ◌||◌, List, [], ◌∷◌, ◌++◌, Option, Some, None, refl}
use Rattle.std.specs.Prelude.{if◌then◌else◌}
use Rattle.p10_syn.specs.Trees.{Identifier, Initializer, InitDeclarator, Declaration}
use Rattle.p10_base.specs.declared.at.At.{At}
use Rattle.p10_core.specs.Types.{PlainType}
use Rattle.p10_core.specs.Typed.{PlainInitializer, PlainFunction}
use Rattle.p10_elabx.specs.First.{Keep}
use Rattle.p10_elabd.specs.Standing.{PlainStanding, Passed}
use Rattle.p10_elabd.specs.Words.{storage_of}
use Rattle.p10_elabd.specs.declared.site.Site.TheVariants as site_is
use Rattle.p10_elabd.specs.declared.site.Storage.{Storage}
use Rattle.p10_elabd.specs.Shapes.{DeclaredType, of_type, of_open_array, of_function, of_part_function, name_in}
use Rattle.p10_elabd.specs.Declaring.{declarator_passed, based}
use Rattle.p10_elabd.specs.declared.lifetime.Lifetime.TheVariants as life_is
use Rattle.p10_heads.specs.Heads.{Heads, number_in}
use Rattle.p10_linkage.specs.Linkage.{an_object, Linked}
use Rattle.p10_elabs.specs.Addresses.{constants_of}
use Rattle.p10_elabs.specs.Locals.{specified_in, makes_sensors, no_initializer, typedef_passed, is_written, brackets_of, initialized_by}
use Rattle.p10_elabs.specs.LocalDeclarations.{is_typedef}
use Rattle.p10_elab.specs.Knowledge.{Known, linked_of, with_linked, with_standing, without_linkage}
use Rattle.p10_elab.specs.Outer.{is_site, with_defined, is_extern, with_tentative, object_declared, before_in, open_outside, outer_type, object_outside, object_by_type, object_by_form, by_type_outside, outer_named, outer_declarators, main_constants, declared_outside}

either_kept : (fs : List PlainFunction) (b : Bool) (k j : Known) → k.functions ≡ fs → j.functions ≡ fs → (if b then k else j).functions ≡ fs
either_kept fs true k j e d = e
either_kept fs false k j e d = d

defined_keeps : (heads : Heads) (l : Linked) (name : Identifier At) (t : PlainType) (o : Option PlainInitializer) (k : Known) → (with_defined heads l name t o k).functions ≡ k.functions
defined_keeps heads l name t None k = refl
defined_keeps heads l name t (Some i) k =
    either_kept k.functions (is_site heads name) (record k { objects = k.objects ++ record { number = number_in heads.objects l.root l.internal l.name; name = name; type = t; initializer = i; sensor = l.sensor } ∷ [] }) k refl refl

object_keeps : (h : Keep) (heads : Heads) (name : Identifier At) (t : PlainType) (s : Storage) (sensor : Bool) (i : Option (Initializer At)) (k : Known) → (object_declared h heads name t s sensor i k).functions ≡ k.functions
object_keeps h heads name t s sensor i k =
    let l : Linked = linked_of k name (an_object t) s (is_written i) sensor in
    let n : Known = with_linked h heads l k in
    let m : Known = with_tentative name t s i n in
    let p : Passed PlainInitializer = initialized_by h life_is.Static t i m.standing in
    defined_keeps heads l name t p.made (with_standing m p.after)
    ∙ either_kept k.functions (is_written i || is_extern s) n (record n { tentative = n.tentative ++ record { name = name; type = t } ∷ [] }) refl refl

outside_keeps : (h : Keep) (heads : Heads) (name : Identifier At) (s : Storage) (sensor : Bool) (i : Option (Initializer At)) (k : Known) (o : Option PlainType) (v : PlainStanding)
    → (object_outside h heads name s sensor i k (record { made = o; after = v })).functions ≡ k.functions
outside_keeps h heads name s sensor i k None v = refl
outside_keeps h heads name s sensor i k (Some t) v = object_keeps h heads name t s sensor i (with_standing k v)

by_type_keeps : (h : Keep) (heads : Heads) (s : Storage) (sensor : Bool) (name : Identifier At) (d : InitDeclarator At) (k : Known) (o : Option DeclaredType) → (object_by_type h heads s sensor name d k o).functions ≡ k.functions
by_type_keeps h heads s sensor name d k None = refl
by_type_keeps h heads s sensor name d k (Some t) =
    let p : Passed PlainType = outer_type h name (brackets_of d.declarator) s d.initial (before_in k name) t k.standing in
    outside_keeps h heads name s sensor d.initial k p.made p.after

by_form_keeps : (h : Keep) (heads : Heads) (s : Storage) (sensor : Bool) (name : Identifier At) (d : InitDeclarator At) (k : Known) (o : Option DeclaredType) → (object_by_form h heads s sensor name d k o).functions ≡ k.functions
by_form_keeps h heads s sensor name d k o = by_type_keeps h heads s sensor name d (with_standing k (open_outside h name d (before_in k name) o k.standing)) o

declared_keeps : (h : Keep) (heads : Heads) (s : Storage) (sensor : Bool) (name : Identifier At) (d : InitDeclarator At) (k : Known) (o : Option DeclaredType) → (by_type_outside h heads s sensor name d k o).functions ≡ k.functions
declared_keeps h heads s sensor name d k (Some (of_function f)) = refl
declared_keeps h heads s sensor name d k (Some (of_part_function f)) = refl
declared_keeps h heads s sensor name d k (Some (of_type t)) = by_form_keeps h heads s sensor name d k (Some (of_type t))
declared_keeps h heads s sensor name d k (Some (of_open_array t)) = by_form_keeps h heads s sensor name d k (Some (of_open_array t))
declared_keeps h heads s sensor name d k None = by_form_keeps h heads s sensor name d k None

named_keeps : (h : Keep) (heads : Heads) (s : Storage) (sensor : Bool) (t : Option PlainType) (k : Known) (d : InitDeclarator At) (o : Option (Identifier At)) → (outer_named h heads s sensor t k d o).functions ≡ k.functions
named_keeps h heads s sensor t k d None = refl
named_keeps h heads s sensor t k d (Some name) =
    let j : Passed DeclaredType = declarator_passed h name.place (based t k.standing) d.declarator in
    either_kept k.functions (is_typedef s) (without_linkage name (no_initializer h d.initial (typedef_passed h name d.declarator j.made j.after)) k) (by_type_outside h heads s sensor name d (with_standing k j.after) j.made) refl
    (declared_keeps h heads s sensor name d (with_standing k j.after) j.made)

declarators_keep : (h : Keep) (heads : Heads) (s : Storage) (sensor : Bool) (t : Option PlainType) (k : Known) (ds : List (InitDeclarator At)) → (outer_declarators h heads s sensor t k ds).functions ≡ k.functions
declarators_keep h heads s sensor t k [] = refl
declarators_keep h heads s sensor t k (d ∷ rest) =
    declarators_keep h heads s sensor t (outer_named h heads s sensor t k d (name_in d.declarator)) rest ∙ named_keeps h heads s sensor t k d (name_in d.declarator)

pub declaration_keeps : (h : Keep) (heads : Heads) (k : Known) (d : Declaration At) → (declared_outside h heads k d).functions ≡ k.functions
unfolding declared_outside
declaration_keeps h heads k d =
    let t : Passed PlainType = specified_in h true site_is.Outside k.standing d in
    declarators_keep h heads (storage_of d.specifiers) (makes_sensors d) t.made (record k { standing = t.after; mains = k.mains ++ main_constants (constants_of d.specifiers) }) d.declarators
