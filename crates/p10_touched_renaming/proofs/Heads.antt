-- What the head of a function declares from its parameters on stands among these alone.
use Rattle.std.proofs.Common.{◌≡◌, ◌∙◌, ℕ, ◌<◌, ◌≤◌, Bool, true, false, List, [], length, drop, le_refl, append-nil, Option, Some, None, option_map, Ok, refl, sym, ap, subst}
use Rattle.std.specs.Prelude.{if◌then◌else◌, slice_get}
use Rattle.p10_base.specs.declared.at.At.{At}
use Rattle.p10_base.specs.declared.codes.SubsetCode.{SubsetCode}
use Rattle.p10_base.specs.declared.codes.SubsetCode.TheVariants as subset
use Rattle.p10_syn.specs.Trees.{Qualifier, Absent, Present, Declarator, Named, Unnamed, Pointer, Parenthesised, Array, Function, Parameters}
use Rattle.p10_core.specs.Types.{PlainType, void, integer, pointer, array, structure}
use Rattle.p10_core.specs.Rows.{is_void}
use Rattle.p10_elabx.specs.First.{Keep, ruled, refused, lift}
use Rattle.p10_elabx.specs.Operators.{has_size}
use Rattle.p10_elabx.specs.Scopes.{Binding, PlainScope, last_floor, left}
use Rattle.p10_elabx.specs.declared.shape.Length.{Length}
use Rattle.p10_elabx.specs.TypeNames.{length_found}
use Rattle.p10_elabd.specs.Standing.{PlainStanding, Passed, passed, nothing_made, refusing, noted}
use Rattle.p10_elabd.specs.declared.declaration.ParameterList.{ParameterList}
use Rattle.p10_elabd.specs.declared.declaration.ParameterList.TheVariants as list_is
use Rattle.p10_elabd.specs.Expressions.{value_by}
use Rattle.p10_elabd.specs.Shapes.{PlainParameter, FunctionType, ListedParameter, DeclaredType, of_type, of_open_array, of_function, of_part_function, pointer_declared, element_declared, array_with, array_declared, open_declared, array_inside, function_inside, result_declared, among_parameters, list_of, known_parameters, function_of, function_declared}
use Rattle.p10_elabd.specs.Declaring.{Listing, declarator_passed, all_parameters_passed}
use Rattle.p10_declaration_steps.proofs.Each.{each}
use Rattle.p10_declaration_steps.proofs.Declaring.{over_all_parameters}
use Rattle.p10_block_scopes.specs.Laws.{IsAgain}
use Rattle.p10_block_scopes.proofs.Extending.{last_floor_is, left_again}
use Rattle.p10_block_structures.specs.Laws.{AreNewTags, IsInside}
use Rattle.p10_block_structures.proofs.Inside.{fresh_past}
use Rattle.p10_block_structures.proofs.Keeping.{Leaves, leaving}
use Rattle.p10_touched_renaming.specs.Touched.{up_to_parameters}

-- ## What is no type

-- what is made is no type: it is a function, or nothing
abbrev MakesNoType : Option DeclaredType → Type 0
MakesNoType (Some (of_type t)) = ⊥
MakesNoType (Some (of_open_array t)) = ⊥
MakesNoType o = Unit {0}

differ : {C : Type 0} (o : Option DeclaredType) (d : DeclaredType) → o ≡ None → o ≡ Some d → C
differ o d none some = absurd cc

pointer_none : (h : Keep) (at name_at : At) (qualifiers : List (Qualifier At)) (o : Option DeclaredType) (s : PlainStanding) → MakesNoType o → (pointer_declared h at name_at qualifiers o s).made ≡ None
pointer_none h at name_at qualifiers None s k = refl
pointer_none h at name_at qualifiers (Some (of_function f)) s k = refl
pointer_none h at name_at qualifiers (Some (of_part_function f)) s k = refl
pointer_none h at name_at qualifiers (Some (of_type t)) s k = absurd k
pointer_none h at name_at qualifiers (Some (of_open_array t)) s k = absurd k

element_none : (h : Keep) (name_at : At) (o : Option DeclaredType) (s : PlainStanding) → MakesNoType o → (element_declared h name_at o s).made ≡ None
element_none h name_at None s k = refl
element_none h name_at (Some (of_function f)) s k = refl
element_none h name_at (Some (of_part_function f)) s k = refl
element_none h name_at (Some (of_type t)) s k = absurd k
element_none h name_at (Some (of_open_array t)) s k = absurd k

result_none : (h : Keep) (at name_at : At) (o : Option DeclaredType) (s : PlainStanding) → MakesNoType o → (result_declared h at name_at o s).made ≡ None
result_none h at name_at None s k = refl
result_none h at name_at (Some (of_function f)) s k = refl
result_none h at name_at (Some (of_part_function f)) s k = refl
result_none h at name_at (Some (of_type t)) s k = absurd k
result_none h at name_at (Some (of_open_array t)) s k = absurd k

function_makes : (list : ParameterList) (o : Option PlainType) (listed : List ListedParameter) (known : Option (List PlainParameter)) (s : PlainScope) → MakesNoType (Some (function_of list o listed known s))
function_makes list_is.Fixed (Some u) listed (Some ps) s = tt
function_makes list_is.Fixed (Some u) listed None s = tt
function_makes list_is.Fixed None listed known s = tt
function_makes list_is.Variadic o listed known s = tt
function_makes list_is.Empty o listed known s = tt

-- a function without a result isn't known whole
part_only : {C : Type 0} (list : ParameterList) (listed : List ListedParameter) (known : Option (List PlainParameter)) (s : PlainScope) (f : FunctionType) → Some (function_of list None listed known s) ≡ Some (of_function f) → C
part_only list_is.Fixed listed known s f e = absurd cc
part_only list_is.Variadic listed known s f e = absurd cc
part_only list_is.Empty listed known s f e = absurd cc

-- ## After the parameters

-- nothing is made of a function: what is one at the end was so
only_function : (h : Keep) (name_at : At) (p : Passed DeclaredType) (d : Declarator At) (f : FunctionType) → MakesNoType p.made → (declarator_passed h name_at p d).made ≡ Some (of_function f)
    → (p.made ≡ Some (of_function f)) × ((declarator_passed h name_at p d).after.scope ≡ p.after.scope)
only_function h name_at p (Named name) f k e = (e, refl)
only_function h name_at p (Unnamed at) f k e = (e, refl)
only_function h name_at p (Parenthesised at d) f k e = only_function h name_at p d f k e
only_function h name_at p (Pointer at qualifiers d) f k e =
    let q : Passed DeclaredType = pointer_declared h at name_at qualifiers p.made p.after in
    let none : q.made ≡ None = pointer_none h at name_at qualifiers p.made p.after k in
    differ q.made (of_function f) none (only_function h name_at q d f (subst MakesNoType (sym none) tt) e).0
only_function h name_at p (Array at d brackets Absent) f k e =
    let u : Passed PlainType = element_declared h name_at p.made (array_inside h name_at true d p.after) in
    let q : Passed DeclaredType = open_declared u in
    let none : q.made ≡ None = ap (λ o. option_map of_open_array o) (element_none h name_at p.made (array_inside h name_at true d p.after) k) in
    differ q.made (of_function f) none (only_function h name_at q d f (subst MakesNoType (sym none) tt) e).0
only_function h name_at p (Array at d brackets (Present size)) f k e =
    let u : Passed PlainType = element_declared h name_at p.made (array_inside h name_at false d p.after) in
    let n : Passed Length = value_by h u.after size length_found in
    let q : Passed DeclaredType = array_declared h size u in
    let none : q.made ≡ None = ap (λ o. (array_with h o n.made n.after).made) (element_none h name_at p.made (array_inside h name_at false d p.after) k) in
    differ q.made (of_function f) none (only_function h name_at q d f (subst MakesNoType (sym none) tt) e).0
only_function h name_at p (Function at d parentheses all more) f k e =
    let r : Passed PlainType = result_declared h at name_at p.made p.after in
    let s : PlainStanding = function_inside h name_at d (refusing h more subset.NoPrototype parentheses r.after) in
    let q : Listing = all_parameters_passed h (among_parameters s) parentheses all in
    let v : Passed DeclaredType = function_declared (list_of all more) r.made q.parameters q.after in
    let none : r.made ≡ None = result_none h at name_at p.made p.after k in
    part_only (list_of all more) q.parameters (known_parameters q.parameters) q.after.scope f
    (ap (λ o. Some (function_of (list_of all more) o q.parameters (known_parameters q.parameters) q.after.scope)) (sym none)
    ∙ (only_function h name_at v d f (function_makes (list_of all more) r.made q.parameters (known_parameters q.parameters) q.after.scope) e).0)

-- ## Before the parameters

-- what is made is no function
abbrev pub NoFunction : Option DeclaredType → Type 0
NoFunction o = (f : FunctionType) → o ≡ Some (of_function f) → ⊥

either_type : (b : Bool) (s t : PlainStanding) (u : PlainType) (f : FunctionType) → (if b then nothing_made s else passed (of_type u) t).made ≡ Some (of_function f) → ⊥
either_type true s t u f e = cc
either_type false s t u f e = cc

pointer_no_function : (h : Keep) (at name_at : At) (qualifiers : List (Qualifier At)) (o : Option DeclaredType) (s : PlainStanding) → NoFunction (pointer_declared h at name_at qualifiers o s).made
pointer_no_function h at name_at qualifiers None s f e = cc
pointer_no_function h at name_at qualifiers (Some (of_type t)) s f e = either_type (is_void t) _ _ _ f e
pointer_no_function h at name_at qualifiers (Some (of_open_array t)) s f e = cc
pointer_no_function h at name_at qualifiers (Some (of_function g)) s f e = cc
pointer_no_function h at name_at qualifiers (Some (of_part_function g)) s f e = cc

open_no_function : (o : Option PlainType) → NoFunction (option_map of_open_array o)
open_no_function None f e = cc
open_no_function (Some t) f e = cc

array_no_function : (h : Keep) (o : Option PlainType) (n : Option Length) (s : PlainStanding) → NoFunction (array_with h o n s).made
array_no_function h (Some t) (Some n) s f e = by_size (has_size s.scope.structures (array false t n.count)) e
  where
    by_size : (b : Bool) → (noted h (lift (ruled (if b then Ok (array false t n.count) else refused subset.BadLength n.at) (λ u. Ok (of_type u)))) s).made ≡ Some (of_function f) → ⊥
    by_size true e = cc
    by_size false e = cc
array_no_function h (Some t) None s f e = cc
array_no_function h None n s f e = cc

pub based_no_function : (t : Option PlainType) → NoFunction (option_map of_type t)
based_no_function None f e = cc
based_no_function (Some t) f e = cc

-- ## The function

function_is : (f g : FunctionType) → Some (of_function f) ≡ Some (of_function g) → f ≡ g
function_is f g e = ap out e
  where
    out : Option DeclaredType → FunctionType
    out (Some (of_function x)) = x
    out o = f

-- what it is made of
function_parts : (list : ParameterList) (o : Option PlainType) (listed : List ListedParameter) (known : Option (List PlainParameter)) (s : PlainScope) (f : FunctionType) → Some (function_of list o listed known s) ≡ Some (of_function f)
    → (o ≡ Some f.result) × (drop (last_floor s.floors).1 s.tags ≡ f.tags)
function_parts list_is.Fixed (Some u) listed (Some ps) s f e =
    let made : FunctionType = record { parameters = ps; result = u; names = drop (last_floor s.floors).0 s.names; tags = drop (last_floor s.floors).1 s.tags } in
    let same : made ≡ f = function_is made f e in
    (ap (λ (g : FunctionType). Some g.result) same, ap (λ (g : FunctionType). g.tags) same)
function_parts list_is.Fixed (Some u) listed None s f e = absurd cc
function_parts list_is.Fixed None listed known s f e = absurd cc
function_parts list_is.Variadic o listed known s f e = absurd cc
function_parts list_is.Empty o listed known s f e = absurd cc

-- its result is the type from before its parameters
result_is : (h : Keep) (at name_at : At) (o : Option DeclaredType) (s : PlainStanding) (u : PlainType) → (result_declared h at name_at o s).made ≡ Some u → o ≡ Some (of_type u)
result_is h at name_at None s u e = absurd cc
result_is h at name_at (Some (of_type (void c))) s u e = ap (λ o. option_map of_type o) e
result_is h at name_at (Some (of_type (integer c kind))) s u e = ap (λ o. option_map of_type o) e
result_is h at name_at (Some (of_type (pointer c t))) s u e = ap (λ o. option_map of_type o) e
result_is h at name_at (Some (of_type (array c t n))) s u e = absurd cc
result_is h at name_at (Some (of_type (structure c n))) s u e = absurd cc
result_is h at name_at (Some (of_open_array t)) s u e = absurd cc
result_is h at name_at (Some (of_function f)) s u e = absurd cc
result_is h at name_at (Some (of_part_function f)) s u e = absurd cc

-- ## What stands after it

pub refusing_keeps : (h : Keep) (b : Bool) (code : SubsetCode) (at : At) (s : PlainStanding) → (refusing h b code at s).scope ≡ s.scope
refusing_keeps h true code at s = refl
refusing_keeps h false code at s = refl

result_keeps : (h : Keep) (at name_at : At) (o : Option DeclaredType) (s : PlainStanding) → (result_declared h at name_at o s).after.scope ≡ s.scope
result_keeps h at name_at None s = refl
result_keeps h at name_at (Some (of_type (void c))) s = refl
result_keeps h at name_at (Some (of_type (integer c kind))) s = refl
result_keeps h at name_at (Some (of_type (pointer c t))) s = refl
result_keeps h at name_at (Some (of_type (array c t n))) s = refl
result_keeps h at name_at (Some (of_type (structure c n))) s = refl
result_keeps h at name_at (Some (of_open_array t)) s = refl
result_keeps h at name_at (Some (of_function f)) s = refl
result_keeps h at name_at (Some (of_part_function f)) s = refl

inside_keeps : (h : Keep) (name_at : At) (d : Declarator At) (s : PlainStanding) → (function_inside h name_at d s).scope ≡ s.scope
inside_keeps h name_at (Named name) s = refl
inside_keeps h name_at (Unnamed at) s = refl
inside_keeps h name_at (Pointer at qualifiers d) s = refl
inside_keeps h name_at (Parenthesised at d) s = inside_keeps h name_at d s
inside_keeps h name_at (Array at d brackets length) s = refl
inside_keeps h name_at (Function at d parentheses all more) s = refl

-- the names and blocks are those from before, and so are the first structures
pub record Kept (start : ℕ) (s t : PlainScope) : Type 0 where
  pub again : IsAgain s t
  pub structures : (n : ℕ) → n < start → slice_get t.structures n ≡ slice_get s.structures n

-- the tags of the innermost block
abbrev inner_tags : PlainScope → List Binding
inner_tags s = drop (last_floor s.floors).1 s.tags

-- tags among its parameters stand for structures that are new
record ParametersEnd (s t : PlainScope) (tags : List Binding) : Type 0 where
  kept : Kept (length s.structures) s t
  more : length s.structures ≤ length t.structures
  fresh : AreNewTags (length s.structures) tags

pub record HeadEnds (p : Passed DeclaredType) (f : FunctionType) (after : PlainStanding) : Type 0 where
  pub result : p.made ≡ Some (of_type f.result)
  pub kept : Kept (length p.after.scope.structures) p.after.scope after.scope
  pub more : length p.after.scope.structures ≤ length after.scope.structures
  pub fresh : AreNewTags (length p.after.scope.structures) f.tags

parameters_end : (h : Keep) (s : PlainStanding) (parentheses : At) (all : Parameters At)
    → ParametersEnd s.scope (left (all_parameters_passed h (among_parameters s) parentheses all).after.scope) (inner_tags (all_parameters_passed h (among_parameters s) parentheses all).after.scope)
parameters_end h s parentheses all =
    let q : Listing = all_parameters_passed h (among_parameters s) parentheses all in
    let start : ℕ = length s.scope.structures in
    let old : List Binding = s.scope.tags in
    let leaves : Leaves (among_parameters s) q.after = each (leaving h).parts (over_all_parameters h (among_parameters s) parentheses all) in
    let inside : IsInside old start s.scope.structures q.after.scope = leaves.structures old start s.scope.structures (record {
      new = [];
      tags = sym (append-nil old);
      fresh = tt;
      innermost = subst (λ (x : ℕ × ℕ). length old ≤ x.1) (sym (last_floor_is s.scope.floors (length s.scope.names, length old))) (le_refl (length old));
      enough = le_refl start;
      kept = λ n low. refl;
    }) in
    let floor : ℕ = (last_floor q.after.scope.floors).1 in
    record {
      kept = record { again = left_again s.scope q.after.scope leaves.scopes; structures = inside.kept };
      more = inside.enough;
      fresh = subst (λ tags. AreNewTags start (drop floor tags)) (sym inside.tags) (fresh_past start floor old inside.new inside.innermost inside.fresh);
    }

function_ends : (h : Keep) (name_at : At) (p : Passed DeclaredType) (at : At) (d : Declarator At) (parentheses : At) (all : Parameters At) (more : Bool) (f : FunctionType)
    → (declarator_passed h name_at p (Function at d parentheses all more)).made ≡ Some (of_function f) → HeadEnds p f (declarator_passed h name_at p (Function at d parentheses all more)).after
function_ends h name_at p at d parentheses all more f e =
    let r : Passed PlainType = result_declared h at name_at p.made p.after in
    let t : PlainStanding = refusing h more subset.NoPrototype parentheses r.after in
    let s : PlainStanding = function_inside h name_at d t in
    let q : Listing = all_parameters_passed h (among_parameters s) parentheses all in
    let v : Passed DeclaredType = function_declared (list_of all more) r.made q.parameters q.after in
    let last = only_function h name_at v d f (function_makes (list_of all more) r.made q.parameters (known_parameters q.parameters) q.after.scope) e in
    let parts = function_parts (list_of all more) r.made q.parameters (known_parameters q.parameters) q.after.scope f last.0 in
    let scope : s.scope ≡ p.after.scope = inside_keeps h name_at d t ∙ (refusing_keeps h more subset.NoPrototype parentheses r.after ∙ result_keeps h at name_at p.made p.after) in
    let ends : ParametersEnd p.after.scope (declarator_passed h name_at v d).after.scope f.tags =
    subst (λ x. ParametersEnd x (declarator_passed h name_at v d).after.scope f.tags) scope
    (subst (λ x. ParametersEnd s.scope x f.tags) (sym last.1) (subst (λ tags. ParametersEnd s.scope (left q.after.scope) tags) parts.1 (parameters_end h s parentheses all))) in
    record { result = result_is h at name_at p.made p.after f.result parts.0; kept = ends.kept; more = ends.more; fresh = ends.fresh }

-- a declarator that makes a function of a type
pub declarator_ends : (h : Keep) (name_at : At) (p : Passed DeclaredType) (d : Declarator At) (f : FunctionType) → NoFunction p.made → (declarator_passed h name_at p d).made ≡ Some (of_function f)
    → HeadEnds (up_to_parameters h name_at p d) f (declarator_passed h name_at p d).after
declarator_ends h name_at p (Named name) f never e = absurd (never f e)
declarator_ends h name_at p (Unnamed at) f never e = absurd (never f e)
declarator_ends h name_at p (Pointer at qualifiers d) f never e =
    declarator_ends h name_at (pointer_declared h at name_at qualifiers p.made p.after) d f (pointer_no_function h at name_at qualifiers p.made p.after) e
declarator_ends h name_at p (Parenthesised at d) f never e = declarator_ends h name_at p d f never e
declarator_ends h name_at p (Array at d brackets Absent) f never e =
    let u : Passed PlainType = element_declared h name_at p.made (array_inside h name_at true d p.after) in
    declarator_ends h name_at (open_declared u) d f (open_no_function u.made) e
declarator_ends h name_at p (Array at d brackets (Present size)) f never e =
    let u : Passed PlainType = element_declared h name_at p.made (array_inside h name_at false d p.after) in
    let n : Passed Length = value_by h u.after size length_found in
    declarator_ends h name_at (array_declared h size u) d f (array_no_function h u.made n.made n.after) e
declarator_ends h name_at p (Function at d parentheses all more) f never e = function_ends h name_at p at d parentheses all more f e
