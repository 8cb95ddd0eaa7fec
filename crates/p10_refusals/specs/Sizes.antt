-- An object outside of functions has a size: where it has an initialiser or is `static` at its declaration, else at the end of its root (C99
-- 6.7p7, 6.9.2p2, p3). What has none is told, whatever else is declared by its name.
use Rattle.std.specs.Prelude.{◌≡◌, Bool, true, false, ◌||◌, List, ◌∷◌, ◌++◌, Some, None}
use Rattle.p10_base.specs.declared.at.At.{At}
use Rattle.p10_syn.specs.Trees.{Identifier, InitDeclarator, Declaration, External, Outer}
use Rattle.p10_core.specs.Types.{PlainType}
use Rattle.p10_core.specs.Rows.{is_complete, is_void}
use Rattle.p10_elabx.specs.First.{Among, every}
use Rattle.p10_elabx.specs.Scopes.{PlainScope}
use Rattle.p10_elabd.specs.Laws.{incomplete_at}
use Rattle.p10_elabd.specs.Standing.{Passed}
use Rattle.p10_elabd.specs.Words.{storage_of}
use Rattle.p10_elabd.specs.declared.site.Site.TheVariants as site_is
use Rattle.p10_elabd.specs.declared.site.Storage.{Storage}
use Rattle.p10_elabd.specs.declared.site.Storage.TheVariants as storage_is
use Rattle.p10_elabd.specs.Shapes.{DeclaredType, of_type, declares_open_array}
use Rattle.p10_elabd.specs.Declaring.{declarator_passed}
use Rattle.p10_heads.specs.Heads.{Heads, heads_of_roots}
use Rattle.p10_elabs.specs.Addresses.{constants_of}
use Rattle.p10_elabs.specs.Locals.{is_written, specified_in, makes_sensors}
use Rattle.p10_elabs.specs.LocalDeclarations.{is_typedef}
use Rattle.p10_linkage.specs.Linkage.{is_static}
use Rattle.p10_elab.specs.Knowledge.{Known}
use Rattle.p10_elab.specs.Outer.{before_in, is_array_before, outer_declarators, main_constants, declared_outside}
use Rattle.p10_elab.specs.RootEnds.{nothing_known, known_after_all, root_begun, root_passed, roots_passed, lacks_size_at_end}
use Rattle.p10_elab.specs.Programs.{standing_of}
use Rattle.p10_refusals.specs.Forms.{reached_outside, DeclaredAfter}
use Rattle.p10_refusals.specs.InRoots.{reached_in_roots}

-- what is known where a declaration outside of functions comes to the declarator after those before it
abbrev pub known_outside : Heads → Known → Declaration At → List (InitDeclarator At) → Known
known_outside heads k d before =
    let t : Passed PlainType = specified_in every true site_is.Outside k.standing d in
    outer_declarators every heads (storage_of d.specifiers) (makes_sensors d) t.made (record k { standing = t.after; mains = k.mains ++ main_constants (constants_of d.specifiers) }) before

-- where a declaration outside of functions has come to the end of a declarator after those before it, with the type that it declares
abbrev pub declared_by : Heads → Known → Declaration At → List (InitDeclarator At) → InitDeclarator At → Identifier At → Passed DeclaredType
declared_by heads k d before one name = declarator_passed every name.place (reached_outside heads k d before) one.declarator

-- ## At the declaration

-- whether an object has to have a size at its declaration: with an initialiser, where `static` stands, and where it is `void`, which never
-- has one
abbrev pub needs_size : Storage → InitDeclarator At → PlainType → Bool
needs_size s one t = is_written one.initial || (is_static s || is_void t)

-- ## At the end of a root

-- whether a declaration without an initialiser defines its object unless another one does (C99 6.9.2p2)
abbrev pub may_define : Storage → Bool
may_define storage_is.Unnamed = true
may_define storage_is.Static = true
may_define storage_is.Extern = false
may_define storage_is.Typedef = false

-- a tentative definition of an object of a type, by a declarator after those before it
pub record IsTentative (heads : Heads) (k : Known) (d : Declaration At) (before : List (InitDeclarator At)) (one : InitDeclarator At) (name : Identifier At) (t : PlainType) : Type 0 where
  pub declared : DeclaredAfter d before one name
  pub storage : may_define (storage_of d.specifiers) ≡ true
  pub bare : one.initial ≡ None
  pub type : (declared_by heads k d before one name).made ≡ Some (of_type t)

-- the scope where a root ends, after other roots
abbrev pub scope_at_end : Heads → Known → List (External At) → PlainScope
scope_at_end heads k root = (known_after_all every heads (root_begun k) root).standing.scope

-- an object without a size is told at its name: at its declaration where it has to have one there, and where it is an array that gets a
-- length neither from an initialiser nor from a declaration before, whatever its elements are; and at each of its tentative definitions,
-- so at the first of them, where it has none at the end of its root, whatever the other declarations of that name are
pub record SizesAreTold : Type 0 where
  pub at_once : (heads : Heads) (k : Known) (d : Declaration At) (before : List (InitDeclarator At)) (one : InitDeclarator At) (name : Identifier At) (t : PlainType) → DeclaredAfter d before one name →
      is_typedef (storage_of d.specifiers) ≡ false → (declared_by heads k d before one name).made ≡ Some (of_type t) → needs_size (storage_of d.specifiers) one t ≡ true →
      is_complete (declared_by heads k d before one name).after.scope.structures t ≡ false → Among (incomplete_at name.place) (declared_outside every heads k d).standing.problems
  pub without_length : (heads : Heads) (k : Known) (d : Declaration At) (before : List (InitDeclarator At)) (one : InitDeclarator At) (name : Identifier At) → DeclaredAfter d before one name →
      is_typedef (storage_of d.specifiers) ≡ false → declares_open_array one.declarator ≡ true → one.initial ≡ None →
      is_array_before (before_in (known_outside heads k d before) name) ≡ false → Among (incomplete_at name.place) (declared_outside every heads k d).standing.problems
  pub at_end : (heads : Heads) (k : Known) (earlier later : List (External At)) (p : At) (d : Declaration At) (before : List (InitDeclarator At)) (one : InitDeclarator At) (name : Identifier At) (t : PlainType) →
      IsTentative heads (known_after_all every heads (root_begun k) earlier) d before one name t → lacks_size_at_end (scope_at_end heads k (earlier ++ Outer p d ∷ later)) t ≡ true →
      Among (incomplete_at name.place) (root_passed every heads k (earlier ++ Outer p d ∷ later)).standing.problems
  pub in_roots : (roots others after : List (List (External At))) (earlier later : List (External At)) (p : At) (d : Declaration At) (before : List (InitDeclarator At)) (one : InitDeclarator At) (name : Identifier At) (t : PlainType) →
      roots ≡ others ++ (earlier ++ Outer p d ∷ later) ∷ after →
      IsTentative (heads_of_roots 0 roots) (reached_in_roots (heads_of_roots 0 roots) others earlier) d before one name t →
      lacks_size_at_end (scope_at_end (heads_of_roots 0 roots) (roots_passed every (heads_of_roots 0 roots) nothing_known others) (earlier ++ Outer p d ∷ later)) t ≡ true →
      Among (incomplete_at name.place) (standing_of every roots).problems
