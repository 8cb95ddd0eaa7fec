-- What is found in calls, casts and rows of expressions, by what the walk finds in their parts.
use Rattle.std.specs.Prelude.{◌≡◌, Option, Some, None, List, [], map, Vec, refl}
use Rattle.std.specs.declared.alloc.Global.{Global}
use Rattle.std.proofs.Common.{ap, sym, ◌∙◌, Box}
use Rattle.p10_base.specs.declared.at.At.{At}
use Rattle.p10_syn.specs.declared.tree.Form.TheVariants as form
use Rattle.p10_syn.specs.declared.tree.Expr.{Expr}
use Rattle.p10_syn.specs.declared.tree.TypeName.{TypeName}
use Rattle.p10_syn.specs.Trees.{Identifier, Expression, Expressions, expression_row}
use Rattle.p10_syn.specs.Built.{expression_of, kind_of}
use Rattle.p10_core.specs.declared.typed.Library.{Library}
use Rattle.p10_elabx.specs.First.{Judged, only_first}
use Rattle.p10_elabx.specs.Scopes.{PlainScope, evaluating, named}
use Rattle.p10_elabx.specs.Operands.{PlainOperand}
use Rattle.p10_elabx.specs.Calls.{Callee, Listed, of_library, callee_of, library_wants, wants_of, wanted_of, no_arguments, call_judged, operand_call, other_call}
use Rattle.p10_elabx.specs.TypeNames.{Shape}
use Rattle.p10_elabx.specs.Judging.{count_of, called_name, for_name, memory_called, for_memory, cast_judged, type_size_judged, comma_judged, judge, judge_arguments, judge_type, judge_cast, judge_allocation, judge_size}
use Rattle.p10_elabx.specs.private.Walking.{named_call, allocation_call}
use Rattle.p10_elabx.proofs.TreeNodes.{call_tree, comma_tree, cast_tree, sizeof_tree}

-- what is found in a row of expressions of which nothing is asked
abbrev pub row_judged : PlainScope → List Expr → Listed
row_judged s items = judge_arguments only_first s [] 0 no_arguments (expression_row (map expression_of items))

-- ## Calls

-- what is done with a called name
abbrev with_name : PlainScope → At → Expressions At → Identifier At → Judged PlainOperand
with_name s at all f =
    let callee : Callee = callee_of (named s f.name) f.name in
    operand_call only_first at callee (call_judged only_first at f.place callee (count_of all) (judge_arguments only_first s (wanted_of (wants_of callee) (count_of all)) 0 no_arguments all))

-- what is found in a call by the name that is called, if it is one
abbrev called_by : PlainScope → At → Expression At → Expressions At → Option (Identifier At) → Judged PlainOperand
called_by s at f all name = for_name name (with_name s at all) (other_call only_first at (judge only_first s f) (judge_arguments only_first s [] 0 no_arguments all))

called_is : (s : PlainScope) (e : Expr) (f : Box Expr Global) (all : Vec Expr Global) (items : List Expr) (name : Option (Identifier At)) →
    e.form ≡ form.Call f all → items ≡ all.items → name ≡ called_name (expression_of f.value) →
    called_by s e.at (expression_of f.value) (expression_row (map expression_of items)) name ≡ judge only_first s (expression_of e)
called_is s e f all items name is same known =
    ap (called_by s e.at (expression_of f.value) (expression_row (map expression_of items))) known
    ∙ ap (λ xs. called_by s e.at (expression_of f.value) (expression_row (map expression_of xs)) (called_name (expression_of f.value))) same
    ∙ ap (judge only_first s) (sym (call_tree e f all is))

pub call_named : (s : PlainScope) (e : Expr) (f : Box Expr Global) (all : Vec Expr Global) (items : List Expr) (name : Identifier At) (j : Judged PlainOperand) →
    e.form ≡ form.Call f all → items ≡ all.items → Some name ≡ called_name (expression_of f.value) →
    j ≡ named_call only_first s e.at name (expression_row (map expression_of items)) → j ≡ judge only_first s (expression_of e)
call_named s e f all items name j is same known ej = ej ∙ called_is s e f all items (Some name) is same known

pub call_other : (s : PlainScope) (e : Expr) (f : Box Expr Global) (all : Vec Expr Global) (items : List Expr) (i : Judged PlainOperand) (k : Listed) (j : Judged PlainOperand) →
    e.form ≡ form.Call f all → items ≡ all.items → None ≡ called_name (expression_of f.value) →
    i ≡ judge only_first s (expression_of f.value) → k ≡ row_judged s items → j ≡ other_call only_first e.at i k → j ≡ judge only_first s (expression_of e)
call_other s e f all items i k j is same known ei ek ej =
    ej ∙ ap (λ x. other_call only_first e.at x k) ei ∙ ap (other_call only_first e.at (judge only_first s (expression_of f.value))) ek
    ∙ called_is s e f all items None is same known

pub comma_row : (s : PlainScope) (e : Expr) (all : Vec Expr Global) (items : List Expr) (k : Listed) (j : Judged PlainOperand) →
    e.form ≡ form.Comma all → items ≡ all.items → k ≡ row_judged s items → j ≡ comma_judged only_first e.at k → j ≡ judge only_first s (expression_of e)
comma_row s e all items k j is same ek ej =
    ej ∙ ap (comma_judged only_first e.at) (ek ∙ ap (row_judged s) same) ∙ ap (judge only_first s) (sym (comma_tree e all is))

-- ## Type names

pub cast_to : (s : PlainScope) (e : Expr) (k : Box TypeName Global) (a : Box Expr Global) (t : Judged Shape) (j : Judged PlainOperand) →
    e.form ≡ form.Cast k a → t ≡ judge_type only_first (evaluating s) (kind_of k.value) →
    j ≡ judge_cast only_first s e.at t (judge only_first s (expression_of a.value)) (expression_of a.value) → j ≡ judge only_first s (expression_of e)
cast_to s e k a t j is et ej =
    ej ∙ ap (λ x. judge_cast only_first s e.at x (judge only_first s (expression_of a.value)) (expression_of a.value)) et
    ∙ ap (judge only_first s) (sym (cast_tree e k a is))

pub size_of_type : (s : PlainScope) (e : Expr) (k : Box TypeName Global) (t : Judged Shape) (j : Judged PlainOperand) →
    e.form ≡ form.SizeofType k → t ≡ judge_type only_first (evaluating s) (kind_of k.value) → j ≡ type_size_judged s.structures e.at t → j ≡ judge only_first s (expression_of e)
size_of_type s e k t j is et ej = ej ∙ ap (type_size_judged s.structures e.at) et ∙ ap (judge only_first s) (sym (sizeof_tree e k is))

-- ## Casts

-- what is done with an allocator
abbrev with_memory : PlainScope → At → At → Judged Shape → Expressions At → Library → At → Judged PlainOperand
with_memory s at call_at t all f name_at =
    judge_allocation only_first s (record { cast_at = at; call_at = call_at; name_at = name_at }) t f
    (call_judged only_first call_at name_at (of_library f) (count_of all) (judge_arguments only_first s (wanted_of (Some (library_wants f)) (count_of all)) 0 no_arguments all)) all

-- what is found in a cast of a call by the allocator that is called, if it is one
abbrev cast_by : PlainScope → At → At → Judged Shape → Judged PlainOperand → Expressions At → Option (Library × At) → Judged PlainOperand
cast_by s at call_at t i all memory = for_memory memory (with_memory s at call_at t all) (cast_judged only_first s.structures at t i)

cast_is : (s : PlainScope) (at : At) (t : Judged Shape) (i : Judged PlainOperand) (e : Expr) (f : Box Expr Global) (all : Vec Expr Global) (items : List Expr) (memory : Option (Library × At)) →
    e.form ≡ form.Call f all → items ≡ all.items → memory ≡ memory_called s (called_name (expression_of f.value)) →
    cast_by s at e.at t i (expression_row (map expression_of items)) memory ≡ judge_cast only_first s at t i (expression_of e)
cast_is s at t i e f all items memory is same known =
    ap (cast_by s at e.at t i (expression_row (map expression_of items))) known
    ∙ ap (λ xs. cast_by s at e.at t i (expression_row (map expression_of xs)) (memory_called s (called_name (expression_of f.value)))) same
    ∙ ap (judge_cast only_first s at t i) (sym (call_tree e f all is))

pub cast_memory : (s : PlainScope) (at : At) (t : Judged Shape) (i : Judged PlainOperand) (e : Expr) (f : Box Expr Global) (all : Vec Expr Global) (items : List Expr) (l : Library) (name_at : At) (j : Judged PlainOperand) →
    e.form ≡ form.Call f all → items ≡ all.items → Some (l, name_at) ≡ memory_called s (called_name (expression_of f.value)) →
    j ≡ allocation_call only_first s (record { cast_at = at; call_at = e.at; name_at = name_at }) t l (expression_row (map expression_of items)) →
    j ≡ judge_cast only_first s at t i (expression_of e)
cast_memory s at t i e f all items l name_at j is same known ej = ej ∙ cast_is s at t i e f all items (Some (l, name_at)) is same known

pub cast_plain : (s : PlainScope) (at : At) (t : Judged Shape) (i : Judged PlainOperand) (e : Expr) (f : Box Expr Global) (all : Vec Expr Global) (j : Judged PlainOperand) →
    e.form ≡ form.Call f all → None ≡ memory_called s (called_name (expression_of f.value)) →
    j ≡ cast_judged only_first s.structures at t i → j ≡ judge_cast only_first s at t i (expression_of e)
cast_plain s at t i e f all j is known ej = ej ∙ cast_is s at t i e f all all.items None is refl known

-- ## Sizes

pub size_type : (s : PlainScope) (e : Expr) (k : Box TypeName Global) (t : Judged Shape) → e.form ≡ form.SizeofType k → t ≡ judge_type only_first s (kind_of k.value) →
    Some t ≡ judge_size only_first s (expression_of e)
size_type s e k t is et = ap (λ x. let o : Option (Judged Shape) = Some x in o) et ∙ ap (judge_size only_first s) (sym (sizeof_tree e k is))
