-- The parts of nodes with lists are put down.
use Rattle.std.proofs.Common.{◌≡◌, List, ◌++◌, map, refl, sym, ap, ◌∙◌, Bool, ◌||◌, Vec, Box, [], ◌∷◌, length, None, Option, ℕ, true}
use Rattle.std.specs.declared.alloc.Global.{Global}
use Rattle.p10_base.specs.declared.at.At.{At}
use Rattle.p10_syn.specs.declared.tree.Form as forms
use Rattle.p10_syn.specs.declared.tree.Form.TheVariants as form
use Rattle.p10_syn.specs.declared.tree.Declarator.TheVariants as declarator
use Rattle.p10_syn.specs.declared.statement.Init.TheVariants as init
use Rattle.p10_syn.specs.declared.statement.Stmt.TheVariants as stmt
use Rattle.p10_syn.specs.declared.tree.Expr.{Expr}
use Rattle.p10_syn.specs.declared.tree.TypeName.{TypeName}
use Rattle.p10_syn.specs.declared.tree.Spec.{Spec}
use Rattle.p10_syn.specs.declared.tree.Structure.{Structure, out-Structure}
use Rattle.p10_syn.specs.declared.tree.Enumeration.{Enumeration, out-Enumeration}
use Rattle.p10_syn.specs.declared.tree.Enumerator.{Enumerator}
use Rattle.p10_syn.specs.declared.tree.Member.{Member, out-Member}
use Rattle.p10_syn.specs.declared.tree.Field.{Field}
use Rattle.p10_syn.specs.declared.tree.Declarator.{Declarator}
use Rattle.p10_syn.specs.declared.tree.Parameter.{Parameter}
use Rattle.p10_syn.specs.declared.statement.Init.{Init}
use Rattle.p10_syn.specs.declared.statement.Stmt.{Stmt}
use Rattle.p10_syn.specs.Trees.{Expression, expression, Expressions, Call, Specifier, Keyword, Typedef, Structure as Structured, Enumeration as Enumerated, expression_row, specifier_row, member_row, field_row, enumerator_row, initializer_row, statement_row, parameter_row}
use Rattle.p10_syn.specs.Bare.{bare_specifier}
use Rattle.p10_syn.specs.Declaring.{is_typedef, makes_types}
use Rattle.p10_syn.specs.Built.{form_of, kind_of, tag_of, specifier_of, structure_of, enumeration_of, expression_of, member_of, field_of, enumerator_of, parameter_of, declarator_of, bare_specifier_of}
use Rattle.p10_syn.specs.BuiltStatements.{initializer_of, statement_of}
use Rattle.p10_synrules.specs.Parts.{Part, tag_parts, expression_parts, form_parts, list_parts, type_parts, specifiers_parts, specifier_parts, members_parts, member_parts, fields_parts, enumerators_parts, declarator_parts, parameters_parts, initializer_parts, initializers_parts, statement_parts, statements_parts}
use Rattle.p10_synrules.specs.Assertions.{only_one, is_assert_name, stated_by, stated_if}
use Rattle.p10_synrules.proofs.Lists.{both_put}
use Rattle.p10_synrules.proofs.Nodes.{braced_is, block_is, call_is, comma_is, cast_is, sizeof_is, function_is, structure_is, enumeration_is, member_is}

-- ## Typedefs

same_typedef : (s : Specifier At) → is_typedef (bare_specifier s) ≡ is_typedef s
same_typedef (Keyword p word) = refl
same_typedef (Typedef x) = refl
same_typedef (Structured p word tag ms) = refl
same_typedef (Enumerated p tag es comma) = refl

pub same_types : (specs : List Spec) → makes_types (specifier_row (map bare_specifier_of specs)) ≡ makes_types (specifier_row (map specifier_of specs))
unfolding bare_specifier_of
same_types [] = refl
same_types (s ∷ rest) = ap (λ b. b || makes_types (specifier_row (map bare_specifier_of rest))) (same_typedef (specifier_of s)) ∙ ap (λ b. is_typedef (specifier_of s) || b) (same_types rest)

-- ## Forms

pub call_put : (within : Bool) (all : forms.Form) (f : Box Expr Global) (arguments : Vec Expr Global) (called : Expr) (items : List Expr) (first second third : List Part) →
    all ≡ form.Call f arguments → called ≡ f.value → items ≡ arguments.items →
    second ≡ first ++ expression_parts within (expression_of called) → third ≡ second ++ list_parts within (expression_row (map expression_of items)) →
    third ≡ first ++ form_parts within (form_of all)
call_put within all f arguments called items first second third is same listed one more =
    both_put first (expression_parts within (expression_of called)) (list_parts within (expression_row (map expression_of items))) second third one more
    ∙ ap (λ x. first ++ (expression_parts within (expression_of x) ++ list_parts within (expression_row (map expression_of items)))) same
    ∙ ap (λ xs. first ++ (expression_parts within (expression_of f.value) ++ list_parts within (expression_row (map expression_of xs)))) listed
    ∙ ap (λ x. first ++ form_parts within x) (sym (ap form_of is ∙ call_is f arguments))

pub comma_put : (within : Bool) (all : forms.Form) (operands : Vec Expr Global) (items : List Expr) (first second : List Part) →
    all ≡ form.Comma operands → items ≡ operands.items → second ≡ first ++ list_parts within (expression_row (map expression_of items)) →
    second ≡ first ++ form_parts within (form_of all)
comma_put within all operands items first second is listed one =
    one ∙ ap (λ xs. first ++ list_parts within (expression_row (map expression_of xs))) listed
    ∙ ap (λ x. first ++ form_parts within x) (sym (ap form_of is ∙ comma_is operands))

pub cast_put : (within : Bool) (all : forms.Form) (k : Box TypeName Global) (e : Box Expr Global) (kind : TypeName) (operand : Expr) (first second third : List Part) →
    all ≡ form.Cast k e → kind ≡ k.value → operand ≡ e.value →
    second ≡ first ++ type_parts within (kind_of kind) → third ≡ second ++ expression_parts within (expression_of operand) →
    third ≡ first ++ form_parts within (form_of all)
cast_put within all k e kind operand first second third is same given one more =
    both_put first (type_parts within (kind_of kind)) (expression_parts within (expression_of operand)) second third one more
    ∙ ap (λ x. first ++ (type_parts within (kind_of x) ++ expression_parts within (expression_of operand))) same
    ∙ ap (λ x. first ++ (type_parts within (kind_of k.value) ++ expression_parts within (expression_of x))) given
    ∙ ap (λ x. first ++ form_parts within x) (sym (ap form_of is ∙ cast_is k e))

pub sizeof_put : (within : Bool) (all : forms.Form) (k : Box TypeName Global) (kind : TypeName) (first second : List Part) →
    all ≡ form.SizeofType k → kind ≡ k.value → second ≡ first ++ type_parts within (kind_of kind) → second ≡ first ++ form_parts within (form_of all)
sizeof_put within all k kind first second is same one =
    one ∙ ap (λ x. first ++ type_parts within (kind_of x)) same ∙ ap (λ x. first ++ form_parts within x) (sym (ap form_of is ∙ sizeof_is k))

-- ## Declarators and specifiers

pub function_put : (within : Bool) (all : Declarator) (at : At) (d : Box Declarator Global) (b : At) (parameters : Vec Parameter Global) (ellipsis : Bool) (inner : Declarator) (items : List Parameter) (first second third : List Part) →
    all ≡ declarator.Function at d b parameters ellipsis → inner ≡ d.value → items ≡ parameters.items →
    second ≡ first ++ declarator_parts within (declarator_of inner) → third ≡ second ++ parameters_parts within (parameter_row (map parameter_of items)) →
    third ≡ first ++ declarator_parts within (declarator_of all)
function_put within all at d b parameters ellipsis inner items first second third is same listed one more =
    both_put first (declarator_parts within (declarator_of inner)) (parameters_parts within (parameter_row (map parameter_of items))) second third one more
    ∙ ap (λ x. first ++ (declarator_parts within (declarator_of x) ++ parameters_parts within (parameter_row (map parameter_of items)))) same
    ∙ ap (λ xs. first ++ (declarator_parts within (declarator_of d.value) ++ parameters_parts within (parameter_row (map parameter_of xs)))) listed
    ∙ ap (λ x. first ++ declarator_parts within x) (sym (ap declarator_of is ∙ function_is at d b parameters ellipsis))

pub structure_put : (within : Bool) (x : Structure) (items : List Member) (first second third : List Part) → items ≡ (out-Structure x).members.items →
    second ≡ first ++ tag_parts (tag_of (out-Structure x).tag) → third ≡ second ++ members_parts within (member_row (map member_of items)) →
    third ≡ first ++ specifier_parts within (structure_of x)
structure_put within x items first second third listed one more =
    both_put first (tag_parts (tag_of (out-Structure x).tag)) (members_parts within (member_row (map member_of items))) second third one more
    ∙ ap (λ xs. first ++ (tag_parts (tag_of (out-Structure x).tag) ++ members_parts within (member_row (map member_of xs)))) listed
    ∙ ap (λ s. first ++ specifier_parts within s) (sym (structure_is x))

pub enumeration_put : (within : Bool) (x : Enumeration) (items : List Enumerator) (first second third : List Part) → items ≡ (out-Enumeration x).enumerators.items →
    second ≡ first ++ tag_parts (tag_of (out-Enumeration x).tag) → third ≡ second ++ enumerators_parts within (enumerator_row (map enumerator_of items)) →
    third ≡ first ++ specifier_parts within (enumeration_of x)
enumeration_put within x items first second third listed one more =
    both_put first (tag_parts (tag_of (out-Enumeration x).tag)) (enumerators_parts within (enumerator_row (map enumerator_of items))) second third one more
    ∙ ap (λ xs. first ++ (tag_parts (tag_of (out-Enumeration x).tag) ++ enumerators_parts within (enumerator_row (map enumerator_of xs)))) listed
    ∙ ap (λ s. first ++ specifier_parts within s) (sym (enumeration_is x))

pub member_put : (within : Bool) (x : Member) (specs : List Spec) (items : List Field) (first second third : List Part) → specs ≡ (out-Member x).specs.items → items ≡ (out-Member x).fields.items →
    second ≡ first ++ specifiers_parts within (specifier_row (map specifier_of specs)) → third ≡ second ++ fields_parts within (field_row (map field_of items)) →
    third ≡ first ++ member_parts within (member_of x)
member_put within x specs items first second third said listed one more =
    both_put first (specifiers_parts within (specifier_row (map specifier_of specs))) (fields_parts within (field_row (map field_of items))) second third one more
    ∙ ap (λ xs. first ++ (specifiers_parts within (specifier_row (map specifier_of xs)) ++ fields_parts within (field_row (map field_of items)))) said
    ∙ ap (λ xs. first ++ (specifiers_parts within (specifier_row (map specifier_of (out-Member x).specs.items)) ++ fields_parts within (field_row (map field_of xs)))) listed
    ∙ ap (λ m. first ++ member_parts within m) (sym (member_is x))

-- ## Initialisers and blocks

pub braced_put : (i : Init) (at : At) (all : Vec Init Global) (comma : Bool) (items : List Init) (first second : List Part) →
    i ≡ init.Braced at all comma → items ≡ all.items → second ≡ first ++ initializers_parts (initializer_row (map initializer_of items)) →
    second ≡ first ++ initializer_parts (initializer_of i)
braced_put i at all comma items first second is listed one =
    one ∙ ap (λ xs. first ++ initializers_parts (initializer_row (map initializer_of xs))) listed
    ∙ ap (λ x. first ++ initializer_parts x) (sym (ap initializer_of is ∙ braced_is at all comma))

pub block_put : (s : Stmt) (at : At) (all : Vec Stmt Global) (items : List Stmt) (first second : List Part) →
    s ≡ stmt.Block at all → items ≡ all.items → second ≡ first ++ statements_parts (statement_row (map statement_of items)) →
    second ≡ first ++ statement_parts (statement_of s)
block_put s at all items first second is listed one =
    one ∙ ap (λ xs. first ++ statements_parts (statement_row (map statement_of xs))) listed
    ∙ ap (λ x. first ++ statement_parts x) (sym (ap statement_of is ∙ block_is at all))

-- ## Arguments

-- none is the only one where there isn't exactly one
pub not_one : (all : List Expr) → (length all ≡ 1 → ⊥) → None ≡ only_one (expression_row (map expression_of all))
not_one [] other = refl
not_one (t ∷ []) other = absurd (other refl)
not_one (t ∷ u ∷ rest) other = refl

stated_named : (p : At) (n : ℕ) (f : Expression At) (ts : Expressions At) → is_assert_name f ≡ true → stated_by (expression p n (Call f ts)) ≡ only_one ts
stated_named p n f ts e = ap (λ b. stated_if b ts) e

-- what an assertion states is its only argument
pub stated_put : (e : Expr) (f : Box Expr Global) (arguments : Vec Expr Global) (called : Expr) (items : List Expr) (is_named : Bool) (found : Option (Expression At)) →
    e.form ≡ form.Call f arguments → called ≡ f.value → items ≡ arguments.items → is_named ≡ is_assert_name (expression_of called) → is_named ≡ true →
    found ≡ only_one (expression_row (map expression_of items)) → found ≡ stated_by (expression_of e)
stated_put e f arguments called items is_named found is same listed named holds one =
    let true_of : is_assert_name (expression_of f.value) ≡ true = ap (λ x. is_assert_name (expression_of x)) (sym same) ∙ sym named ∙ holds in
    one ∙ ap (λ xs. only_one (expression_row (map expression_of xs))) listed
    ∙ sym (ap (λ x. stated_by (expression e.at e.parens x)) (ap form_of is ∙ call_is f arguments)
    ∙ stated_named e.at e.parens (expression_of f.value) (expression_row (map expression_of arguments.items)) true_of)
