-- What is told of declarators in blocks is told of the declarations in which they stand.
use Rattle.std.specs.Prelude.{◌≡◌, Bool, false, List, [], ◌∷◌, ◌++◌, Option, Some}
use Rattle.std.proofs.Common.{sym, subst}
use Rattle.p10_base.specs.declared.at.At.{At}
use Rattle.p10_syn.specs.Trees.{Identifier, InitDeclarator, Declaration}
use Rattle.p10_core.specs.Types.{PlainType}
use Rattle.p10_elabx.specs.declared.problem.Problem.{Problem}
use Rattle.p10_elabx.specs.First.{Among, every}
use Rattle.p10_elabd.specs.Standing.{Passed}
use Rattle.p10_elabd.specs.Words.{storage_of}
use Rattle.p10_elabd.specs.declared.site.Site.{Site}
use Rattle.p10_elabd.specs.declared.site.Storage.{Storage}
use Rattle.p10_elabd.specs.Shapes.{DeclaredType, name_in}
use Rattle.p10_elabd.specs.Declaring.{declarator_passed, based}
use Rattle.p10_elabs.specs.Locals.{Frame, Local, with_standing, specified_in, makes_sensors}
use Rattle.p10_elabs.specs.LocalDeclarations.{Declaring, no_items, is_prototype, local_named, local_declarators, declared_locally}
use Rattle.p10_refusals.specs.Forms.{DeclaredAfter, reached_in_function}
use Rattle.p10_refusals.proofs.Growing.{Grows, grown_in_block}
use Rattle.p10_statement_steps.proofs.Declaring.{over_after_declarator, over_declarators}

-- ## Declarators

-- what stands after a declarator with a name grows from what stands after its type
grows_declared : (f : Frame) (at : At) (s : Storage) (sensor : Bool) (t : Option PlainType) (l : Local) (d : InitDeclarator At) (name : Identifier At) →
    Grows (declarator_passed every name.place (based t l.standing) d.declarator).after (local_named every f at s sensor t l d (Some name)).after.standing
grows_declared f at s sensor t l d name =
    let j : Passed DeclaredType = declarator_passed every name.place (based t l.standing) d.declarator in
    grown_in_block (over_after_declarator every f at s sensor name d (with_standing l j.after) j.made (is_prototype s d.declarator))

-- one declarator after others
abbrev with_declarator : Frame → At → Storage → Bool → Option PlainType → Declaring → InitDeclarator At → Declaring
with_declarator f at s sensor t p d = record {
  items = p.items ++ (local_named every f at s sensor t p.after d (name_in d.declarator)).items;
  after = (local_named every f at s sensor t p.after d (name_in d.declarator)).after;
}

-- what is told of a declarator with its name, where the walk comes to it, is told of them all
named_where : (f : Frame) (at : At) (s : Storage) (sensor : Bool) (t : Option PlainType) (p : Declaring) (before : List (InitDeclarator At)) (one : InitDeclarator At)
    (after : List (InitDeclarator At)) (name : Identifier At) (r : Problem) → name_in one.declarator ≡ Some name →
    Among r (local_named every f at s sensor t (local_declarators every f at s sensor t p before).after one (Some name)).after.standing.problems →
    Among r (local_declarators every f at s sensor t p (before ++ one ∷ after)).after.standing.problems
named_where f at s sensor t p [] one after name r e h =
    (grown_in_block (over_declarators every f at s sensor t (with_declarator f at s sensor t p one) after)).among r
    (subst (λ o. Among r (local_named every f at s sensor t p.after one o).after.standing.problems) (sym e) h)
named_where f at s sensor t p (d ∷ before) one after name r e h =
    named_where f at s sensor t (with_declarator f at s sensor t p d) before one after name r e h

-- what the body has where a declaration comes to a declarator after those before it
abbrev pub at_declarator : Frame → Site → Local → Declaration At → List (InitDeclarator At) → Local
at_declarator f site l d before =
    let t : Passed PlainType = specified_in every false site l.standing d in
    (local_declarators every f d.place (storage_of d.specifiers) (makes_sensors d) t.made (no_items (with_standing l t.after)) before).after

-- and after it
abbrev pub after_declarator : Frame → Site → Local → Declaration At → List (InitDeclarator At) → InitDeclarator At → Identifier At → Declaring
after_declarator f site l d before one name =
    local_named every f d.place (storage_of d.specifiers) (makes_sensors d) (specified_in every false site l.standing d).made (at_declarator f site l d before) one (Some name)

pub named_in_function : (f : Frame) (site : Site) (l : Local) (d : Declaration At) (before : List (InitDeclarator At)) (one : InitDeclarator At) (name : Identifier At)
    (r : Problem) → DeclaredAfter d before one name → Among r (after_declarator f site l d before one name).after.standing.problems → Among r (declared_locally every f site l d).after.standing.problems
unfolding declared_locally
named_in_function f site l d before one name r is h =
    let t : Passed PlainType = specified_in every false site l.standing d in
    subst (λ ds. Among r (local_declarators every f d.place (storage_of d.specifiers) (makes_sensors d) t.made (no_items (with_standing l t.after)) ds).after.standing.problems) (sym is.declarators)
    (named_where f d.place (storage_of d.specifiers) (makes_sensors d) t.made (no_items (with_standing l t.after)) before one is.after name r is.named h)

pub told_in_function : (f : Frame) (site : Site) (l : Local) (d : Declaration At) (before : List (InitDeclarator At)) (one : InitDeclarator At) (name : Identifier At)
    (r : Problem) → DeclaredAfter d before one name →
    Among r (declarator_passed every name.place (reached_in_function f site l d before) one.declarator).after.problems → Among r (declared_locally every f site l d).after.standing.problems
told_in_function f site l d before one name r is h =
    let t : Option PlainType = (specified_in every false site l.standing d).made in
    named_in_function f site l d before one name r is
    ((grows_declared f d.place (storage_of d.specifiers) (makes_sensors d) t (at_declarator f site l d before) one name).among r h)
