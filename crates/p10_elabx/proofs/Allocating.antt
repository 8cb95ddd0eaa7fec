-- What is found in allocations under casts, by the form of their arguments.
use Rattle.std.specs.Prelude.{◌≡◌, Bool, true, false, Option, Some, None, List, [], ◌∷◌, map, length, refl}
use Rattle.std.specs.declared.alloc.Global.{Global}
use Rattle.std.proofs.Common.{ap, sym, ◌∙◌, get_or, arith, Box}
use Rattle.p10_base.specs.declared.at.At.{At}
use Rattle.p10_base.specs.declared.codes.SubsetCode.TheVariants as subset
use Rattle.p10_syn.specs.declared.sign.Sign.{Sign}
use Rattle.p10_syn.specs.declared.tree.Form.TheVariants as form
use Rattle.p10_syn.specs.declared.tree.Expr.{Expr}
use Rattle.p10_syn.specs.declared.tree.TypeName.{TypeName}
use Rattle.p10_syn.specs.Trees.{Expression, expression, Binary, SizeofType, Expressions, NoExpressions, MoreExpressions, expression_row}
use Rattle.p10_syn.specs.Built.{expression_of, kind_of}
use Rattle.p10_core.specs.declared.typed.Library.{Library}
use Rattle.p10_core.specs.declared.typed.Library.TheVariants.{Malloc, Calloc}
use Rattle.p10_core.specs.Typed.{PlainValue}
use Rattle.p10_elabx.specs.declared.allocations.Site.{Site}
use Rattle.p10_elabx.specs.First.{Judged, only_first, refused}
use Rattle.p10_elabx.specs.Scopes.{PlainScope, evaluating}
use Rattle.p10_elabx.specs.Operands.{PlainOperand}
use Rattle.p10_elabx.specs.TypeNames.{Shape}
use Rattle.p10_elabx.specs.Judging.{is_star, place_of, value_in, one_element, two_sizes, counted_elements, other_allocation, product_judged, cleared_judged, judge, judge_type, judge_size, judge_bytes, judge_allocation}
use Rattle.p10_elabx.specs.private.Walking.{memory_call, allocation_call}
use Rattle.p10_elabx.specs.private.Numbers.{NumberOfBytes, of_type, of_sizes, of_elements, of_bytes, product_in, bytes_in}
use Rattle.p10_elabx.proofs.TreeNodes.{binary_tree, sizeof_tree}

-- ## Rows of one and of two

-- a row of expressions
abbrev pub row_of : List Expr → Expressions At
row_of all = expression_row (map expression_of all)

pub row_of_one : (all : List Expr) (e : Expr) → length all ≡ 1 → e ≡ get_or all 0 e → row_of all ≡ MoreExpressions (expression_of e) NoExpressions
row_of_one [] e one is = absurd (omega (arith, one))
row_of_one (x ∷ []) e one is = ap (λ y. MoreExpressions (expression_of y) NoExpressions) (sym is)
row_of_one (x ∷ y ∷ rest) e one is = absurd (omega (arith, one))

pub row_of_two : (all : List Expr) (e f : Expr) → length all ≡ 2 → e ≡ get_or all 0 e → f ≡ get_or all 1 f →
    row_of all ≡ MoreExpressions (expression_of e) (MoreExpressions (expression_of f) NoExpressions)
row_of_two [] e f two is is2 = absurd (omega (arith, two))
row_of_two (x ∷ []) e f two is is2 = absurd (omega (arith, two))
row_of_two (x ∷ y ∷ []) e f two is is2 =
    ap (λ a. MoreExpressions (expression_of a) (MoreExpressions (expression_of y) NoExpressions)) (sym is)
    ∙ ap (λ a. MoreExpressions (expression_of e) (MoreExpressions (expression_of a) NoExpressions)) (sym is2)
row_of_two (x ∷ y ∷ z ∷ rest) e f two is is2 = absurd (omega (arith, two))

-- ## Calls with another number of arguments

not_one : (s : PlainScope) (site : Site) (t : Judged Shape) (j : Judged PlainOperand) (all : List Expr) → (length all ≡ 1 → ⊥) →
    other_allocation only_first site t j ≡ judge_allocation only_first s site t Malloc j (row_of all)
not_one s site t j [] h = refl
not_one s site t j (x ∷ []) h = absurd (h refl)
not_one s site t j (x ∷ y ∷ rest) h = refl

not_two : (s : PlainScope) (site : Site) (t : Judged Shape) (j : Judged PlainOperand) (all : List Expr) → (length all ≡ 2 → ⊥) →
    other_allocation only_first site t j ≡ judge_allocation only_first s site t Calloc j (row_of all)
not_two s site t j [] h = refl
not_two s site t j (x ∷ []) h = refl
not_two s site t j (x ∷ y ∷ []) h = absurd (h refl)
not_two s site t j (x ∷ y ∷ z ∷ rest) h = refl

pub malloc_other : (s : PlainScope) (site : Site) (t : Judged Shape) (f : Library) (all : List Expr) (j : Judged PlainOperand) → f ≡ Malloc → (length all ≡ 1 → ⊥) →
    j ≡ other_allocation only_first site t (memory_call only_first s site f (row_of all)) → j ≡ allocation_call only_first s site t f (row_of all)
malloc_other s site t f all j is h ej =
    ej ∙ ap (λ g. other_allocation only_first site t (memory_call only_first s site g (row_of all))) is
    ∙ not_one s site t (memory_call only_first s site Malloc (row_of all)) all h ∙ ap (λ g. allocation_call only_first s site t g (row_of all)) (sym is)

pub calloc_other : (s : PlainScope) (site : Site) (t : Judged Shape) (f : Library) (all : List Expr) (j : Judged PlainOperand) → f ≡ Calloc → (length all ≡ 2 → ⊥) →
    j ≡ other_allocation only_first site t (memory_call only_first s site f (row_of all)) → j ≡ allocation_call only_first s site t f (row_of all)
calloc_other s site t f all j is h ej =
    ej ∙ ap (λ g. other_allocation only_first site t (memory_call only_first s site g (row_of all))) is
    ∙ not_two s site t (memory_call only_first s site Calloc (row_of all)) all h ∙ ap (λ g. allocation_call only_first s site t g (row_of all)) (sym is)

-- ## Bytes

-- an allocation of a number of bytes, by what is found in it
abbrev pub by_bytes : PlainScope → Site → Judged Shape → Judged PlainOperand → At → NumberOfBytes → Judged PlainOperand
by_bytes s site t j at (of_type element) = one_element only_first s.structures site t at element
by_bytes s site t j at (of_sizes left_at left right_at right) = two_sizes only_first s.structures site t left_at left right_at right
by_bytes s site t j at (of_elements size_at element count) = counted_elements only_first s.structures site Malloc (refused subset.OperandTypes at) t size_at element count
by_bytes s site t j at of_bytes = other_allocation only_first site t j

product_as : (s : PlainScope) (site : Site) (t : Judged Shape) (j : Judged PlainOperand) (at : At) (star : Bool) (a b : Expression At) (left right : Option (Judged Shape)) →
    by_bytes s site t j at (product_in only_first s star a left b right)
    ≡ product_judged only_first s.structures site t j at star (record { at = place_of a; size = left; value = value_in s (judge only_first s a) })
    (record { at = place_of b; size = right; value = value_in s (judge only_first s b) })
product_as s site t j at true a b (Some l) (Some r) = refl
product_as s site t j at true a b None (Some r) = refl
product_as s site t j at true a b (Some l) None = refl
product_as s site t j at true a b None None = refl
product_as s site t j at false a b left right = refl

bytes_as : (s : PlainScope) (site : Site) (t : Judged Shape) (j : Judged PlainOperand) (e : Expression At) →
    by_bytes s site t j (place_of e) (bytes_in only_first s e) ≡ judge_bytes only_first s site t j e
bytes_as s site t j (expression at n (SizeofType k)) = refl
bytes_as s site t j (expression at n (Binary sign a b)) = product_as s site t j at (is_star sign) a b (judge_size only_first (evaluating s) a) (judge_size only_first (evaluating s) b)
bytes_as s site t j e = refl

-- a call of `malloc` with one argument, by what is found in that
pub bytes_row : (s : PlainScope) (site : Site) (t : Judged Shape) (all : List Expr) (e : Expr) (found bytes : NumberOfBytes) → length all ≡ 1 → e ≡ get_or all 0 e →
    found ≡ bytes_in only_first s (expression_of e) → found ≡ bytes →
    by_bytes s site t (memory_call only_first s site Malloc (row_of all)) e.at bytes ≡ allocation_call only_first s site t Malloc (row_of all)
bytes_row s site t all e found bytes one at is same =
    ap (by_bytes s site t (memory_call only_first s site Malloc (row_of all)) e.at) (sym same ∙ is)
    ∙ bytes_as s site t (memory_call only_first s site Malloc (row_of all)) (expression_of e)
    ∙ ap (judge_allocation only_first s site t Malloc (memory_call only_first s site Malloc (row_of all))) (sym (row_of_one all e one at))

-- ## Numbers of bytes

pub size_bytes : (s : PlainScope) (e : Expr) (k : Box TypeName Global) (x : TypeName) (element : Judged Shape) → e.form ≡ form.SizeofType k → x ≡ k.value →
    element ≡ judge_type only_first (evaluating s) (kind_of x) → of_type element ≡ bytes_in only_first s (expression_of e)
size_bytes s e k x element is ex el =
    ap of_type (el ∙ ap (λ y. judge_type only_first (evaluating s) (kind_of y)) ex) ∙ ap (bytes_in only_first s) (sym (sizeof_tree e k is))

pub product_bytes : (s : PlainScope) (e : Expr) (sign : Sign) (a b : Box Expr Global) (x y : Expr) (star : Bool) (left right size_a size_b : Option (Judged Shape)) →
    e.form ≡ form.Binary sign a b → x ≡ a.value → y ≡ b.value → star ≡ is_star sign → star ≡ true →
    size_a ≡ judge_size only_first (evaluating s) (expression_of x) → size_a ≡ left → size_b ≡ judge_size only_first (evaluating s) (expression_of y) → size_b ≡ right →
    product_in only_first s true (expression_of x) left (expression_of y) right ≡ bytes_in only_first s (expression_of e)
product_bytes s e sign a b x y star left right size_a size_b is ex ey es holds ea la eb lb =
    ap (λ z. product_in only_first s z (expression_of x) left (expression_of y) right) (sym holds ∙ es)
    ∙ ap (λ z. product_in only_first s (is_star sign) (expression_of x) z (expression_of y) right) (sym la ∙ ea)
    ∙ ap (product_in only_first s (is_star sign) (expression_of x) (judge_size only_first (evaluating s) (expression_of x)) (expression_of y)) (sym lb ∙ eb)
    ∙ ap (bytes_in only_first s) (sym (binary_tree e sign a b x y is ex ey))

pub sign_bytes : (s : PlainScope) (e : Expr) (sign : Sign) (a b : Box Expr Global) (star : Bool) → e.form ≡ form.Binary sign a b → star ≡ is_star sign → star ≡ false →
    of_bytes ≡ bytes_in only_first s (expression_of e)
sign_bytes s e sign a b star is es fails =
    ap (λ z. product_in only_first s z (expression_of a.value) (judge_size only_first (evaluating s) (expression_of a.value)) (expression_of b.value) (judge_size only_first (evaluating s) (expression_of b.value))) (sym fails ∙ es)
    ∙ ap (bytes_in only_first s) (sym (binary_tree e sign a b a.value b.value is refl refl))

-- ## Cleared elements

-- what is found in a call of `calloc` with two arguments under a cast, by the size in it
abbrev pub cleared_of : PlainScope → Site → Judged Shape → Expressions At → Expression At → Expression At → Option (Judged Shape) → Judged PlainOperand
cleared_of s site t all e f size =
    cleared_judged only_first s.structures site t (memory_call only_first s site Calloc all) (place_of e) (value_in s (judge only_first s e)) (place_of f) size

pub cleared_row : (s : PlainScope) (site : Site) (t : Judged Shape) (all : Expressions At) (e f : Expression At) (size : Option (Judged Shape)) →
    all ≡ MoreExpressions e (MoreExpressions f NoExpressions) → size ≡ judge_size only_first (evaluating s) f →
    cleared_of s site t all e f size ≡ allocation_call only_first s site t Calloc all
cleared_row s site t all e f size two es =
    ap (cleared_of s site t all e f) es ∙ ap (judge_allocation only_first s site t Calloc (memory_call only_first s site Calloc all)) (sym two)

pub cleared_size : (s : PlainScope) (site : Site) (t : Judged Shape) (all : List Expr) (e f : Expr) (size : Option (Judged Shape)) (element : Judged Shape) (v : Judged PlainValue) (j : Judged PlainOperand) →
    length all ≡ 2 → e ≡ get_or all 0 e → f ≡ get_or all 1 f → size ≡ judge_size only_first (evaluating s) (expression_of f) → size ≡ Some element → v ≡ value_in s (judge only_first s (expression_of e)) →
    j ≡ counted_elements only_first s.structures site Calloc (refused subset.TypesDiffer e.at) t f.at element v → j ≡ allocation_call only_first s site t Calloc (row_of all)
cleared_size s site t all e f size element v j two at next es is ev ej =
    ej ∙ ap (counted_elements only_first s.structures site Calloc (refused subset.TypesDiffer e.at) t f.at element) ev
    ∙ cleared_row s site t (row_of all) (expression_of e) (expression_of f) (Some element) (row_of_two all e f two at next) (sym is ∙ es)

pub cleared_other : (s : PlainScope) (site : Site) (t : Judged Shape) (all : List Expr) (e f : Expr) (size : Option (Judged Shape)) (j : Judged PlainOperand) →
    length all ≡ 2 → e ≡ get_or all 0 e → f ≡ get_or all 1 f → size ≡ judge_size only_first (evaluating s) (expression_of f) → size ≡ None →
    j ≡ other_allocation only_first site t (memory_call only_first s site Calloc (row_of all)) → j ≡ allocation_call only_first s site t Calloc (row_of all)
cleared_other s site t all e f size j two at next es is ej =
    ej ∙ cleared_row s site t (row_of all) (expression_of e) (expression_of f) None (row_of_two all e f two at next) (sym is ∙ es)
