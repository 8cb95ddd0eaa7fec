-- Rows on the form of a declared name are told of its declaration (C99 6.7p7, and what the subset leaves out).
use Rattle.std.specs.Prelude.{◌≡◌, Bool, true, false, List, None}
use Rattle.p10_base.specs.declared.at.At.{At}
use Rattle.p10_base.specs.declared.codes.SubsetCode.TheVariants as subset
use Rattle.p10_syn.specs.Trees.{Identifier, Declarator, InitDeclarator, Declaration}
use Rattle.p10_elabx.specs.declared.problem.Problem.{Problem}
use Rattle.p10_elabx.specs.First.{Among, every}
use Rattle.p10_elabx.specs.TypeNames.{declarator_place}
use Rattle.p10_elabd.specs.Laws.{incomplete_at}
use Rattle.p10_elabd.specs.Words.{storage_of}
use Rattle.p10_elabd.specs.declared.site.Site.{Site}
use Rattle.p10_elabd.specs.declared.site.Storage.{Storage}
use Rattle.p10_elabd.specs.declared.site.Storage.TheVariants as storage_is
use Rattle.p10_elabd.specs.Shapes.{declares_function, declares_open_array}
use Rattle.p10_heads.specs.Heads.{Heads}
use Rattle.p10_elabs.specs.Locals.{Frame, Local}
use Rattle.p10_elabs.specs.LocalDeclarations.{is_typedef, declared_locally}
use Rattle.p10_elab.specs.Knowledge.{Known}
use Rattle.p10_elab.specs.Outer.{declared_outside}
use Rattle.p10_refusals.specs.Forms.{DeclaredAfter}

-- a function that is a typedef, or a prototype in a block
abbrev pub function_at : Declarator At → Problem
function_at d = record { code = subset.BadSpecifier; at = declarator_place d }

-- whether an object is declared in a block: without a storage word, or with `static`
abbrev pub declares_object : Storage → Bool
declares_object storage_is.Unnamed = true
declares_object storage_is.Static = true
declares_object storage_is.Extern = false
declares_object storage_is.Typedef = false

-- told are a typedef of a function, one of an array without a length, a function that is declared in a block, and an array there that has
-- neither a length nor an initialiser, whatever is refused in their types, their lengths and their parameters
pub record NameFormsAreTold : Type 0 where
  pub typedef_of_function : (heads : Heads) (k : Known) (d : Declaration At) (before : List (InitDeclarator At)) (one : InitDeclarator At) (name : Identifier At) → DeclaredAfter d before one name →
      is_typedef (storage_of d.specifiers) ≡ true → declares_function one.declarator ≡ true → Among (function_at one.declarator) (declared_outside every heads k d).standing.problems
  pub typedef_of_open : (heads : Heads) (k : Known) (d : Declaration At) (before : List (InitDeclarator At)) (one : InitDeclarator At) (name : Identifier At) → DeclaredAfter d before one name →
      is_typedef (storage_of d.specifiers) ≡ true → declares_open_array one.declarator ≡ true → Among (incomplete_at name.place) (declared_outside every heads k d).standing.problems
  pub local_function : (f : Frame) (site : Site) (l : Local) (d : Declaration At) (before : List (InitDeclarator At)) (one : InitDeclarator At) (name : Identifier At) → DeclaredAfter d before one name →
      declares_function one.declarator ≡ true → Among (function_at one.declarator) (declared_locally every f site l d).after.standing.problems
  pub local_typedef_of_open : (f : Frame) (site : Site) (l : Local) (d : Declaration At) (before : List (InitDeclarator At)) (one : InitDeclarator At) (name : Identifier At) → DeclaredAfter d before one name →
      is_typedef (storage_of d.specifiers) ≡ true → declares_open_array one.declarator ≡ true → Among (incomplete_at name.place) (declared_locally every f site l d).after.standing.problems
  pub local_open : (f : Frame) (site : Site) (l : Local) (d : Declaration At) (before : List (InitDeclarator At)) (one : InitDeclarator At) (name : Identifier At) → DeclaredAfter d before one name →
      declares_object (storage_of d.specifiers) ≡ true → declares_open_array one.declarator ≡ true → one.initial ≡ None →
      Among (incomplete_at name.place) (declared_locally every f site l d).after.standing.problems
