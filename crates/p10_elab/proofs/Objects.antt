-- Objects that are declared outside of functions, by what is known on the way.
use Rattle.std.specs.Prelude.{◌≡◌, ℕ, Bool, true, false, if◌then◌else◌, List, [], ◌∷◌, ◌++◌, Option, Some, None, option_map}
use Rattle.std.proofs.Common.{ap, sym, ◌∙◌}
use Rattle.p10_base.specs.declared.at.At.{At}
use Rattle.p10_syn.specs.Trees.{Identifier, Initializer}
use Rattle.p10_core.specs.Types.{PlainType}
use Rattle.p10_core.specs.Typed.{PlainInitializer}
use Rattle.p10_elabx.specs.First.{only_first}
use Rattle.p10_elabd.specs.Standing.{PlainStanding, Passed}
use Rattle.p10_elabd.specs.declared.site.Storage.{Storage}
use Rattle.p10_elabd.specs.declared.lifetime.Lifetime.TheVariants as life_is
use Rattle.p10_heads.specs.Heads.{Heads, number_in}
use Rattle.p10_linkage.specs.Linkage.{Linked, an_object, unknown_object}
use Rattle.p10_elabs.specs.Locals.{initialized_by, is_written}
use Rattle.p10_elab.specs.Knowledge.{Defined, Tentative, Known, with_standing, with_linked, linked_of}
use Rattle.p10_elab.specs.Outer.{with_tentative, with_defined, object_declared, object_outside}
use Rattle.p10_elab.specs.private.Defining.{defined_after, object_with}
use Rattle.p10_elab.proofs.DefinedSites.{defined_is}

-- an object with its initialiser, where its declaration with linkage is known and what is known then
abbrev initialized_after : Heads → Identifier At → PlainType → Option (Initializer At) → Linked → Known → Known
initialized_after heads name t i l m =
    let p : Passed PlainInitializer = initialized_by only_first life_is.Static t i m.standing in
    with_defined heads l name t p.made (with_standing m p.after)

-- a tentative definition more, unless the declaration is settled
pub tentative_where : (name : Identifier At) (t : PlainType) (settled : Bool) (k : Known) (all : List Tentative) → all ≡ (if settled then k.tentative else k.tentative ++ record { name = name; type = t } ∷ []) →
    ◌≡◌ {A = Known} (record k { tentative = all }) (if settled then k else record k { tentative = k.tentative ++ record { name = name; type = t } ∷ [] })
tentative_where name t true k all is = ap (λ (ts : List Tentative). record k { tentative = ts }) is
tentative_where name t false k all is = ap (λ (ts : List Tentative). record k { tentative = ts }) is

-- an object of a type
pub declared_object : (heads : Heads) (name : Identifier At) (t : PlainType) (s : Storage) (sensor : Bool) (i : Option (Initializer At)) (k m : Known) (l : Linked) (n : ℕ)
    (made : Option PlainInitializer) (after : PlainStanding) (objects : List Defined) →
    l ≡ linked_of k name (an_object t) s (is_written i) sensor →
    n ≡ number_in heads.objects l.root l.internal l.name →
    m ≡ with_tentative name t s i (with_linked only_first heads l k) →
    ◌≡◌ {A = Passed PlainInitializer} (record { made = made; after = after }) (initialized_by only_first life_is.Static t i m.standing) →
    objects ≡ defined_after heads (option_map (object_with n name t sensor) made) m.objects →
    ◌≡◌ {A = Known} (record m { standing = after; objects = objects }) (object_declared only_first heads name t s sensor i k)
declared_object heads name t s sensor i k m l n made after objects l_is n_is m_is init objects_are =
    ap (λ (os : List Defined). record m { standing = after; objects = os }) objects_are
    ∙ ap (λ (x : ℕ). record m { standing = after; objects = defined_after heads (option_map (object_with x name t sensor) made) m.objects }) n_is
    ∙ ap (λ (x : Bool). record m { standing = after; objects = defined_after heads (option_map (object_with (number_in heads.objects l.root l.internal l.name) name t x) made) m.objects }) (sym (ap (λ (x : Linked). x.sensor) l_is))
    ∙ defined_is heads l name t made (with_standing m after)
    ∙ ap (λ (p : Passed PlainInitializer). with_defined heads l name t p.made (with_standing m p.after)) init
    ∙ ap (initialized_after heads name t i l) m_is
    ∙ ap (λ (x : Linked). initialized_after heads name t i x (with_tentative name t s i (with_linked only_first heads x k))) l_is

-- an object whose type is refused
pub refused_object : (heads : Heads) (name : Identifier At) (s : Storage) (sensor : Bool) (i : Option (Initializer At)) (k m : Known) (p : Passed PlainType) (after : PlainStanding) →
    ◌≡◌ {A = Passed PlainType} (record { made = None; after = after }) p → m ≡ with_linked only_first heads (linked_of (with_standing k after) name unknown_object s (is_written i) sensor) (with_standing k after) →
    m ≡ object_outside only_first heads name s sensor i k p
refused_object heads name s sensor i k m p after is m_is = m_is ∙ ap (object_outside only_first heads name s sensor i k) is

-- an object whose type isn't refused
pub typed_object : (heads : Heads) (name : Identifier At) (s : Storage) (sensor : Bool) (i : Option (Initializer At)) (k m : Known) (p : Passed PlainType) (t : PlainType) (after : PlainStanding) →
    ◌≡◌ {A = Passed PlainType} (record { made = Some t; after = after }) p → m ≡ object_declared only_first heads name t s sensor i (with_standing k after) → m ≡ object_outside only_first heads name s sensor i k p
typed_object heads name s sensor i k m p t after is m_is = m_is ∙ ap (object_outside only_first heads name s sensor i k) is
