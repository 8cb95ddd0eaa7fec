-- What is told of declarators outside of functions is told of the declarations in which they stand.
use Rattle.std.specs.Prelude.{◌≡◌, Bool, true, false, if◌then◌else◌, List, [], ◌∷◌, ◌++◌, Option, Some}
use Rattle.std.proofs.Common.{sym, subst}
use Rattle.p10_base.specs.declared.at.At.{At}
use Rattle.p10_syn.specs.Trees.{Identifier, InitDeclarator, Declaration}
use Rattle.p10_core.specs.Types.{PlainType}
use Rattle.p10_elabx.specs.declared.problem.Problem.{Problem}
use Rattle.p10_elabx.specs.First.{Among, every}
use Rattle.p10_elabd.specs.Standing.{Passed}
use Rattle.p10_elabd.specs.Words.{storage_of}
use Rattle.p10_elabd.specs.declared.site.Site.TheVariants as site_is
use Rattle.p10_elabd.specs.declared.site.Storage.{Storage}
use Rattle.p10_elabd.specs.Shapes.{DeclaredType, name_in}
use Rattle.p10_elabd.specs.Declaring.{declarator_passed, based}
use Rattle.p10_heads.specs.Heads.{Heads}
use Rattle.p10_elabs.specs.Addresses.{constants_of}
use Rattle.p10_elabs.specs.Locals.{specified_in, makes_sensors}
use Rattle.p10_elabs.specs.LocalDeclarations.{is_typedef}
use Rattle.p10_elab.specs.Knowledge.{Known}
use Rattle.p10_elab.specs.Outer.{outer_named, outer_declarators, main_constants, declared_outside}
use Rattle.p10_refusals.specs.Forms.{DeclaredAfter, reached_outside}
use Rattle.p10_refusals.proofs.Growing.{Grows, grown_outside}
use Rattle.p10_root_steps.proofs.Passing.{over_after_type, over_outer_declarators}

-- ## Objects

-- what is told on either side of a test that is known
pub told_where_true : (b : Bool) (k j : Known) (r : Problem) → b ≡ true → Among r k.standing.problems → Among r (if b then k else j).standing.problems
told_where_true true k j r e h = h
told_where_true false k j r e h = absurd cc

pub told_where_false : (b : Bool) (k j : Known) (r : Problem) → b ≡ false → Among r j.standing.problems → Among r (if b then k else j).standing.problems
told_where_false true k j r e h = absurd cc
told_where_false false k j r e h = h

-- ## Declarators

-- what stands after a declarator with a name grows from what stands after its type
grows_declared : (heads : Heads) (s : Storage) (sensor : Bool) (t : Option PlainType) (k : Known) (d : InitDeclarator At) (name : Identifier At) →
    Grows (declarator_passed every name.place (based t k.standing) d.declarator).after (outer_named every heads s sensor t k d (Some name)).standing
grows_declared heads s sensor t k d name =
    let j : Passed DeclaredType = declarator_passed every name.place (based t k.standing) d.declarator in
    grown_outside (over_after_type every heads s sensor name d k j.after j.made (is_typedef s))

-- what is told of a declarator with its name, where the walk comes to it, is told of them all
named_where : (heads : Heads) (s : Storage) (sensor : Bool) (t : Option PlainType) (k : Known) (before : List (InitDeclarator At)) (one : InitDeclarator At)
    (after : List (InitDeclarator At)) (name : Identifier At) (r : Problem) → name_in one.declarator ≡ Some name →
    Among r (outer_named every heads s sensor t (outer_declarators every heads s sensor t k before) one (Some name)).standing.problems →
    Among r (outer_declarators every heads s sensor t k (before ++ one ∷ after)).standing.problems
named_where heads s sensor t k [] one after name r e h =
    (grown_outside (over_outer_declarators every heads s sensor t (outer_named every heads s sensor t k one (name_in one.declarator)) after)).among r
    (subst (λ o. Among r (outer_named every heads s sensor t k one o).standing.problems) (sym e) h)
named_where heads s sensor t k (d ∷ before) one after name r e h =
    named_where heads s sensor t (outer_named every heads s sensor t k d (name_in d.declarator)) before one after name r e h

-- where a declaration comes to its declarators
abbrev pub at_declarators : Known → Declaration At → Known
at_declarators k d = record k { standing = (specified_in every true site_is.Outside k.standing d).after; mains = k.mains ++ main_constants (constants_of d.specifiers) }

-- the type that its specifiers name
abbrev pub specified_type_of : Known → Declaration At → Option PlainType
specified_type_of k d = (specified_in every true site_is.Outside k.standing d).made

-- what is known after a declarator of a declaration, after those before it
abbrev pub after_declarator : Heads → Known → Declaration At → List (InitDeclarator At) → InitDeclarator At → Identifier At → Known
after_declarator heads k d before one name =
    let t : Option PlainType = specified_type_of k d in
    outer_named every heads (storage_of d.specifiers) (makes_sensors d) t (outer_declarators every heads (storage_of d.specifiers) (makes_sensors d) t (at_declarators k d) before) one (Some name)

pub named_outside : (heads : Heads) (k : Known) (d : Declaration At) (before : List (InitDeclarator At)) (one : InitDeclarator At) (name : Identifier At) (r : Problem) →
    DeclaredAfter d before one name → Among r (after_declarator heads k d before one name).standing.problems → Among r (declared_outside every heads k d).standing.problems
unfolding declared_outside
named_outside heads k d before one name r is h =
    let t : Option PlainType = specified_type_of k d in
    subst (λ ds. Among r (outer_declarators every heads (storage_of d.specifiers) (makes_sensors d) t (at_declarators k d) ds).standing.problems) (sym is.declarators)
    (named_where heads (storage_of d.specifiers) (makes_sensors d) t (at_declarators k d) before one is.after name r is.named h)

pub told_outside : (heads : Heads) (k : Known) (d : Declaration At) (before : List (InitDeclarator At)) (one : InitDeclarator At) (name : Identifier At) (r : Problem) →
    DeclaredAfter d before one name →
    Among r (declarator_passed every name.place (reached_outside heads k d before) one.declarator).after.problems → Among r (declared_outside every heads k d).standing.problems
told_outside heads k d before one name r is h =
    let t : Option PlainType = specified_type_of k d in
    named_outside heads k d before one name r is
    ((grows_declared heads (storage_of d.specifiers) (makes_sensors d) t (outer_declarators every heads (storage_of d.specifiers) (makes_sensors d) t (at_declarators k d) before) one name).among r h)
