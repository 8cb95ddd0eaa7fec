-- Rows on the form of a declared name are told.
use Rattle.std.specs.Prelude.{◌≡◌, refl, Bool, true, false, not, ◌&&◌, if◌then◌else◌, List, Option, Some, None}
use Rattle.std.proofs.Common.{ap, ◌∙◌}
use Rattle.p10_base.specs.declared.at.At.{At}
use Rattle.p10_base.specs.declared.codes.SubsetCode.TheVariants as subset
use Rattle.p10_syn.specs.Trees.{Identifier, Absent, Present, Declarator, Named, Unnamed, Pointer, Parenthesised, Array, Function, InitDeclarator, Declaration}
use Rattle.p10_core.specs.Types.{PlainType}
use Rattle.p10_elabx.specs.declared.problem.Problem.{Problem}
use Rattle.p10_elabx.specs.declared.shape.Made.{Made}
use Rattle.p10_elabx.specs.declared.shape.Made.TheVariants as around
use Rattle.p10_elabx.specs.First.{Among, every}
use Rattle.p10_elabx.specs.TypeNames.{declarator_place, is_of_open_array, made_by}
use Rattle.p10_elabd.specs.Laws.{incomplete_at, FormRowsAreTold}
use Rattle.p10_elabd.specs.Standing.{PlainStanding, Passed, refusing}
use Rattle.p10_elabd.specs.Words.{storage_of}
use Rattle.p10_elabd.specs.declared.site.Site.{Site}
use Rattle.p10_elabd.specs.declared.site.Storage.{Storage}
use Rattle.p10_elabd.specs.declared.site.Storage.TheVariants as storage_is
use Rattle.p10_elabd.specs.Shapes.{DeclaredType, function_from, declares_function, declares_open_array}
use Rattle.p10_elabd.specs.Declaring.{declarator_passed, based}
use Rattle.p10_heads.specs.Heads.{Heads}
use Rattle.p10_elabs.specs.Locals.{Frame, Local, with_standing, unknown_in, typedef_passed, is_written, open_noted, brackets_of, makes_sensors}
use Rattle.p10_elabs.specs.LocalDeclarations.{Declaring, is_typedef, is_prototype, object_in_block, prototype_passed, by_storage, declared_locally}
use Rattle.p10_elab.specs.Knowledge.{Known}
use Rattle.p10_elab.specs.Outer.{declared_outside}
use Rattle.p10_refusals.specs.Forms.{reached_in_function, DeclaredAfter}
use Rattle.p10_refusals.specs.NameForms.{function_at, declares_object, NameFormsAreTold}
use Rattle.p10_refusals.specs.Sizes.{known_outside}
use Rattle.p10_refusals.proofs.Growing.{grows_refusing, refusing_told, grown, grown_in_block}
use Rattle.p10_refusals.proofs.FormsInFunctions.{at_declarator, named_in_function}
use Rattle.p10_refusals.proofs.FormsOutside.{told_where_true, specified_type_of, named_outside}
use Rattle.p10_refusals.proofs.Tests.{second_false}
use Rattle.p10_statement_steps.proofs.Typing.{over_no_initializer, over_unknown, over_object_type}
use Rattle.p10_statement_steps.proofs.Declaring.{over_typedef_of, over_variable_where, over_object_where}

-- ## Typedefs

typedef_function : (name : Identifier At) (d : Declarator At) (o : Option DeclaredType) (s : PlainStanding) → declares_function d ≡ true → Among (function_at d) (typedef_passed every name d o s).problems
typedef_function name d o s h =
    let t : PlainStanding = refusing every (declares_function d) subset.BadSpecifier (declarator_place d) s in
    (grown_in_block (over_typedef_of every name o (refusing every (declares_open_array d) subset.IncompleteType name.place t))).among (function_at d)
    ((grows_refusing (declares_open_array d) subset.IncompleteType name.place t).among (function_at d) (refusing_told (declares_function d) subset.BadSpecifier (declarator_place d) s h))

typedef_open : (name : Identifier At) (d : Declarator At) (o : Option DeclaredType) (s : PlainStanding) → declares_open_array d ≡ true → Among (incomplete_at name.place) (typedef_passed every name d o s).problems
typedef_open name d o s h =
    let t : PlainStanding = refusing every (declares_function d) subset.BadSpecifier (declarator_place d) s in
    (grown_in_block (over_typedef_of every name o (refusing every (declares_open_array d) subset.IncompleteType name.place t))).among (incomplete_at name.place)
    (refusing_told (declares_open_array d) subset.IncompleteType name.place t h)

-- what is told of a typedef outside of functions
typedef_told : (heads : Heads) (k : Known) (d : Declaration At) (before : List (InitDeclarator At)) (one : InitDeclarator At) (name : Identifier At) (r : Problem) → DeclaredAfter d before one name →
    is_typedef (storage_of d.specifiers) ≡ true → ((o : Option DeclaredType) (s : PlainStanding) → Among r (typedef_passed every name one.declarator o s).problems) →
    Among r (declared_outside every heads k d).standing.problems
typedef_told heads k d before one name r is e told =
    let j : Passed DeclaredType = declarator_passed every name.place (based (specified_type_of k d) (known_outside heads k d before).standing) one.declarator in
    named_outside heads k d before one name r is
    (told_where_true (is_typedef (storage_of d.specifiers)) _ _ r e
    ((grown (over_no_initializer every one.initial (typedef_passed every name one.declarator j.made j.after))).among r (told j.made j.after)))

-- ## Blocks

unless_prototype : (b : Bool) (p q : Declaring) (r : Problem) → b ≡ false → Among r q.after.standing.problems → Among r (if b then p else q).after.standing.problems
unless_prototype true p q r e h = absurd cc
unless_prototype false p q r e h = h

prototype_told : (name : Identifier At) (d : InitDeclarator At) (l : Local) → Among (function_at d.declarator) (prototype_passed every name d l).after.standing.problems
prototype_told name d l =
    let t : PlainStanding = refusing every true subset.BadSpecifier (declarator_place d.declarator) l.standing in
    (grown (over_no_initializer every d.initial (unknown_in every name t))).among (function_at d.declarator)
    ((grown (over_unknown every name t)).among (function_at d.declarator) (refusing_told true subset.BadSpecifier (declarator_place d.declarator) l.standing refl))

never : (x : Bool) → x ≡ true → (x && true) ≡ false → ⊥
never true h e = absurd cc
never false h e = absurd cc

-- a function that is no prototype is a typedef
stored_function : (f : Frame) (at : At) (s : Storage) (sensor : Bool) (name : Identifier At) (d : InitDeclarator At) (l : Local) (o : Option DeclaredType) → declares_function d.declarator ≡ true →
    is_prototype s d.declarator ≡ false → Among (function_at d.declarator) (by_storage every f at s sensor name d l o).after.standing.problems
stored_function f at storage_is.Typedef sensor name d l o h e =
    (grown (over_no_initializer every d.initial (typedef_passed every name d.declarator o l.standing))).among (function_at d.declarator) (typedef_function name d.declarator o l.standing h)
stored_function f at storage_is.Static sensor name d l o h e = absurd (never (declares_function d.declarator) h e)
stored_function f at storage_is.Unnamed sensor name d l o h e = absurd (never (declares_function d.declarator) h e)
stored_function f at storage_is.Extern sensor name d l o h e = absurd (never (declares_function d.declarator) h e)

function_by : (f : Frame) (at : At) (s : Storage) (sensor : Bool) (name : Identifier At) (d : InitDeclarator At) (l : Local) (o : Option DeclaredType) (b : Bool) → declares_function d.declarator ≡ true →
    is_prototype s d.declarator ≡ b → Among (function_at d.declarator) (if b then prototype_passed every name d l else by_storage every f at s sensor name d l o).after.standing.problems
function_by f at s sensor name d l o true h e = prototype_told name d l
function_by f at s sensor name d l o false h e = stored_function f at s sensor name d l o h e

open_typedef : (f : Frame) (at : At) (s : Storage) (sensor : Bool) (name : Identifier At) (d : InitDeclarator At) (l : Local) (o : Option DeclaredType) → is_typedef s ≡ true → declares_open_array d.declarator ≡ true →
    Among (incomplete_at name.place) (if is_prototype s d.declarator then prototype_passed every name d l else by_storage every f at s sensor name d l o).after.standing.problems
open_typedef f at storage_is.Typedef sensor name d l o e h =
    unless_prototype (is_prototype storage_is.Typedef d.declarator) _ _ (incomplete_at name.place) (second_false (declares_function d.declarator) false refl)
    ((grown (over_no_initializer every d.initial (typedef_passed every name d.declarator o l.standing))).among (incomplete_at name.place) (typedef_open name d.declarator o l.standing h))
open_typedef f at storage_is.Static sensor name d l o e h = absurd cc
open_typedef f at storage_is.Unnamed sensor name d l o e h = absurd cc
open_typedef f at storage_is.Extern sensor name d l o e h = absurd cc

-- an array without a length is no function
open_no_function : (found : Bool) (m : Made) (d : Declarator At) → is_of_open_array (made_by m d) ≡ true → (is_of_open_array m ≡ true → found ≡ false) → function_from found d ≡ false
open_no_function found m (Named name) h n = n h
open_no_function found m (Unnamed at) h n = n h
open_no_function found m (Pointer at qualifiers d) h n = open_no_function false around.Pointer d h (λ e. refl)
open_no_function found m (Parenthesised at d) h n = open_no_function found m d h n
open_no_function found m (Array at d brackets Absent) h n = open_no_function false around.OpenArray d h (λ e. refl)
open_no_function found m (Array at d brackets (Present x)) h n = open_no_function false around.Array d h (λ e. refl)
open_no_function found m (Function at d parentheses all more) h n = open_no_function true around.Function d h (λ e. absurd cc)

open_there : (name : Identifier At) (d : InitDeclarator At) (s : PlainStanding) → declares_open_array d.declarator ≡ true → d.initial ≡ None →
    Among (incomplete_at name.place) (open_noted every name.place d.declarator d.initial s).problems
open_there name d s h bare =
    refusing_told (declares_open_array d.declarator && not (is_written d.initial)) subset.IncompleteType name.place s
    (ap (λ b. b && not (is_written d.initial)) h ∙ ap (λ i. not (is_written i)) bare)

open_in_block : (name : Identifier At) (d : InitDeclarator At) (o : Option DeclaredType) (s : PlainStanding) → declares_open_array d.declarator ≡ true → d.initial ≡ None →
    Among (incomplete_at name.place) (object_in_block every name d o s).after.problems
open_in_block name d None s h bare = open_there name d s h bare
open_in_block name d (Some t) s h bare =
    (grown (over_object_type every name (brackets_of d.declarator) t d.initial (open_noted every name.place d.declarator d.initial s))).among (incomplete_at name.place) (open_there name d s h bare)

open_object : (f : Frame) (at : At) (s : Storage) (sensor : Bool) (name : Identifier At) (d : InitDeclarator At) (l : Local) (o : Option DeclaredType) → declares_object s ≡ true → declares_open_array d.declarator ≡ true →
    d.initial ≡ None → Among (incomplete_at name.place) (by_storage every f at s sensor name d l o).after.standing.problems
open_object f at storage_is.Static sensor name d l o e h bare =
    let p : Passed PlainType = object_in_block every name d o l.standing in
    (grown (over_object_where every f at name sensor d.initial p.made (with_standing l p.after))).among (incomplete_at name.place) (open_in_block name d o l.standing h bare)
open_object f at storage_is.Unnamed sensor name d l o e h bare =
    let p : Passed PlainType = object_in_block every name d o l.standing in
    (grown (over_variable_where every f at name d.initial p.made (with_standing l p.after))).among (incomplete_at name.place) (open_in_block name d o l.standing h bare)
open_object f at storage_is.Extern sensor name d l o e h bare = absurd cc
open_object f at storage_is.Typedef sensor name d l o e h bare = absurd cc

-- ## Declarations in blocks

local_function : (f : Frame) (site : Site) (l : Local) (d : Declaration At) (before : List (InitDeclarator At)) (one : InitDeclarator At) (name : Identifier At) → DeclaredAfter d before one name →
    declares_function one.declarator ≡ true → Among (function_at one.declarator) (declared_locally every f site l d).after.standing.problems
local_function f site l d before one name is h =
    let s : Storage = storage_of d.specifiers in
    let j : Passed DeclaredType = declarator_passed every name.place (reached_in_function f site l d before) one.declarator in
    named_in_function f site l d before one name (function_at one.declarator) is
    (function_by f d.place s (makes_sensors d) name one (with_standing (at_declarator f site l d before) j.after) j.made (is_prototype s one.declarator) h refl)

local_typedef : (f : Frame) (site : Site) (l : Local) (d : Declaration At) (before : List (InitDeclarator At)) (one : InitDeclarator At) (name : Identifier At) → DeclaredAfter d before one name →
    is_typedef (storage_of d.specifiers) ≡ true → declares_open_array one.declarator ≡ true → Among (incomplete_at name.place) (declared_locally every f site l d).after.standing.problems
local_typedef f site l d before one name is e h =
    let j : Passed DeclaredType = declarator_passed every name.place (reached_in_function f site l d before) one.declarator in
    named_in_function f site l d before one name (incomplete_at name.place) is
    (open_typedef f d.place (storage_of d.specifiers) (makes_sensors d) name one (with_standing (at_declarator f site l d before) j.after) j.made e h)

local_open : (f : Frame) (site : Site) (l : Local) (d : Declaration At) (before : List (InitDeclarator At)) (one : InitDeclarator At) (name : Identifier At) → DeclaredAfter d before one name →
    declares_object (storage_of d.specifiers) ≡ true → declares_open_array one.declarator ≡ true → one.initial ≡ None →
    Among (incomplete_at name.place) (declared_locally every f site l d).after.standing.problems
local_open f site l d before one name is e h bare =
    let s : Storage = storage_of d.specifiers in
    let j : Passed DeclaredType = declarator_passed every name.place (reached_in_function f site l d before) one.declarator in
    named_in_function f site l d before one name (incomplete_at name.place) is
    (unless_prototype (is_prototype s one.declarator) _ _ (incomplete_at name.place)
    (ap (λ b. b && not (is_typedef s)) (open_no_function false around.Nothing one.declarator h (λ x. refl)))
    (open_object f d.place s (makes_sensors d) name one (with_standing (at_declarator f site l d before) j.after) j.made e h bare))

pub name_forms_told : FormRowsAreTold → NameFormsAreTold
name_forms_told law = record {
  typedef_of_function = λ heads k d before one name is e h. typedef_told heads k d before one name (function_at one.declarator) is e (λ o s. typedef_function name one.declarator o s h);
  typedef_of_open = λ heads k d before one name is e h. typedef_told heads k d before one name (incomplete_at name.place) is e (λ o s. typedef_open name one.declarator o s h);
  local_function = local_function;
  local_typedef_of_open = local_typedef;
  local_open = local_open;
}
