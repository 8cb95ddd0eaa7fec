-- Both outcomes of conditions, by the forms that the code finds.
use Rattle.std.proofs.Common.{◌≡◌, ℕ, ◌≤◌, ◌<◌, Bool, true, false, List, [], ◌∷◌, length, get_or, refl, ap, sym, ◌∙◌, Option, Some, None, option_map, ℤ, Result, arith}
use Rattle.std.specs.Prelude.{◌&&◌, if◌then◌else◌, IfOk}
use Rattle.std.specs.declared.alloc.AllocError.{AllocError}
use Rattle.std.proofs.lemmas.Result.{IfOk-weaker}
use Rattle.p10_base.specs.declared.at.At.{At}
use Rattle.p10_base.specs.declared.span.Span.{Span}
use Rattle.p10_int.specs.declared.operators.BinOp.{BinOp}
use Rattle.p10_int.specs.declared.operators.BinOp.TheVariants.{Add, Sub, Mul, Div, Rem, Shl, Shr, And, Or, Xor, Lt, Gt, Le, Ge, Eq, Ne}
use Rattle.p10_int.specs.declared.operators.UnOp.TheVariants.{Plus, Neg, Com, Not}
use Rattle.p10_core.specs.declared.typed.Value.{Value}
use Rattle.p10_core.specs.declared.typed.Library.{Library}
use Rattle.p10_core.specs.declared.typed.Library.TheVariants.{CAssert, Getchar, Putchar, Assert, Malloc, Calloc, Free}
use Rattle.p10_core.specs.declared.typed.LogicOp.{LogicOp}
use Rattle.p10_core.specs.declared.typed.LogicOp.TheVariants.{And as AndThen, Or as OrElse}
use Rattle.p10_core.specs.Types.{PlainType, plain_type}
use Rattle.p10_core.specs.Typed.{PlainValue, PlainForm, value, constant, read, sense, address, decay, convert, cast, unary, binary, logic, conditional, call, built_in, PlainValues, no_values, more_values}
use Rattle.p10_core.specs.Views.{plain_form, plain_value, plain_values}
use Rattle.p10_absx.specs.Branches.{unbranched}
use Rattle.p10_absx.specs.Comparing.{is_comparison, contrary}
use Rattle.p10_absx.specs.Environments.{Environment}
use Rattle.p10_absx.specs.Assessing.{are_integers, assume_of}
use Rattle.p10_absx.specs.Trails.{Branching}
use Rattle.p10_diff.specs.declared.conditions.Outcomes.{Outcomes}
use Rattle.p10_diff.specs.declared.known.Diff.{Diff}
use Rattle.p10_diff.specs.Differences.{Name, Pair, Differences, named}
use Rattle.p10_diff.specs.Domain.{compared, compared_where, assume}
use Rattle.p10_diff.specs.Knowing.{differences_of}
use Rattle.p10_diff.specs.Listed.{bounds_listed}
use Rattle.p10_diff.specs.private.Conditions.{logic_true, logic_false, taught, told_by, told_where, ranged_where, only_where, called_where}

-- ## `&&` and `||`

true_by : (p : Pair) (op : LogicOp) (at : At) (t : PlainType) (a b : PlainValue) (e : Differences) → logic_true p op b (assume p a true e) (assume p a false e) ≡ assume p (value at t (logic op a b)) true e
true_by p AndThen at t a b e = refl
true_by p OrElse at t a b e = refl

false_by : (p : Pair) (op : LogicOp) (at : At) (t : PlainType) (a b : PlainValue) (e : Differences) → logic_false p op b (assume p a true e) (assume p a false e) ≡ assume p (value at t (logic op a b)) false e
false_by p AndThen at t a b e = refl
false_by p OrElse at t a b e = refl

holds_by : (p : Pair) (v : Value) (op : LogicOp) (a b : PlainValue) (e : Differences) (truth lie r : Option Differences) → plain_form v.form ≡ logic op a b → truth ≡ assume p a true e → lie ≡ assume p a false e → r ≡ logic_true p op b truth lie → r ≡ assume p (plain_value v) true e
holds_by p v op a b e truth lie r form t l told =
    told ∙ ((λ i. logic_true p op b (t i) (l i)) ∙ (true_by p op v.at (plain_type v.ty) a b e ∙ ap (λ f. assume p (value v.at (plain_type v.ty) f) true e) (sym form)))

fails_by : (p : Pair) (v : Value) (op : LogicOp) (a b : PlainValue) (e : Differences) (truth lie r : Option Differences) → plain_form v.form ≡ logic op a b → truth ≡ assume p a true e → lie ≡ assume p a false e → r ≡ logic_false p op b truth lie → r ≡ assume p (plain_value v) false e
fails_by p v op a b e truth lie r form t l told =
    told ∙ ((λ i. logic_false p op b (t i) (l i)) ∙ (false_by p op v.at (plain_type v.ty) a b e ∙ ap (λ f. assume p (value v.at (plain_type v.ty) f) false e) (sym form)))

-- by the clause of what is called
pub logic_holds : (p : Pair) (v : Value) (op : LogicOp) (a b : PlainValue) (e : Differences) (truth lie : Option Differences) (r : Result Outcomes AllocError) → plain_form v.form ≡ logic op a b → truth ≡ assume p a true e → lie ≡ assume p a false e →
    IfOk r (λ o. option_map differences_of o.truth ≡ logic_true p op b truth lie) → IfOk r (λ o. option_map differences_of o.truth ≡ assume p (plain_value v) true e)
logic_holds p v op a b e truth lie r form t l told =
    IfOk-weaker r (λ o. option_map differences_of o.truth ≡ logic_true p op b truth lie) (λ o. option_map differences_of o.truth ≡ assume p (plain_value v) true e)
    (λ o is. holds_by p v op a b e truth lie (option_map differences_of o.truth) form t l is) told

pub logic_fails : (p : Pair) (v : Value) (op : LogicOp) (a b : PlainValue) (e : Differences) (truth lie : Option Differences) (r : Result Outcomes AllocError) → plain_form v.form ≡ logic op a b → truth ≡ assume p a true e → lie ≡ assume p a false e →
    IfOk r (λ o. option_map differences_of o.contrary ≡ logic_false p op b truth lie) → IfOk r (λ o. option_map differences_of o.contrary ≡ assume p (plain_value v) false e)
logic_fails p v op a b e truth lie r form t l told =
    IfOk-weaker r (λ o. option_map differences_of o.contrary ≡ logic_false p op b truth lie) (λ o. option_map differences_of o.contrary ≡ assume p (plain_value v) false e)
    (λ o is. fails_by p v op a b e truth lie (option_map differences_of o.contrary) form t l is) told

-- ## Calls of library functions

called_by : (p : Pair) (f : Library) (at : At) (t : PlainType) (s : Span) (arguments : PlainValues) (truth : Bool) (e : Differences) →
    called_where p f arguments truth e (ranged_where p (value at t (built_in s f arguments)) truth e) ≡ assume p (value at t (built_in s f arguments)) truth e
called_by p CAssert at t s no_values truth e = refl
called_by p CAssert at t s (more_values v no_values) truth e = refl
called_by p CAssert at t s (more_values v (more_values w rest)) truth e = refl
called_by p Getchar at t s arguments truth e = refl
called_by p Putchar at t s arguments truth e = refl
called_by p Assert at t s arguments truth e = refl
called_by p Malloc at t s arguments truth e = refl
called_by p Calloc at t s arguments truth e = refl
called_by p Free at t s arguments truth e = refl

assumed_by : (p : Pair) (v : Value) (s : Span) (f : Library) (arguments : PlainValues) (truth : Bool) (e : Differences) (r : Option Differences) → plain_form v.form ≡ built_in s f arguments →
    r ≡ called_where p f arguments truth e (ranged_where p (plain_value v) truth e) → r ≡ assume p (plain_value v) truth e
assumed_by p v s f arguments truth e r form told =
    told ∙ (ap (λ g. called_where p f arguments truth e (ranged_where p (value v.at (plain_type v.ty) g) truth e)) form ∙
    (called_by p f v.at (plain_type v.ty) s arguments truth e ∙ ap (λ g. assume p (value v.at (plain_type v.ty) g) truth e) (sym form)))

-- by the clause of what is called, of either outcome
pub call_assumed : (part : Outcomes → Option Diff) (p : Pair) (v : Value) (s : Span) (f : Library) (arguments : PlainValues) (truth : Bool) (e : Differences) (r : Result Outcomes AllocError) → plain_form v.form ≡ built_in s f arguments →
    IfOk r (λ o. option_map differences_of (part o) ≡ called_where p f arguments truth e (ranged_where p (plain_value v) truth e)) → IfOk r (λ o. option_map differences_of (part o) ≡ assume p (plain_value v) truth e)
call_assumed part p v s f arguments truth e r form told =
    IfOk-weaker r (λ o. option_map differences_of (part o) ≡ called_where p f arguments truth e (ranged_where p (plain_value v) truth e)) (λ o. option_map differences_of (part o) ≡ assume p (plain_value v) truth e)
    (λ o is. assumed_by p v s f arguments truth e (option_map differences_of (part o)) form is) told

-- the only one of arguments
one_by : (p : Pair) (all : List Value) (x : Value) (truth : Bool) (e : Differences) (other r : Option Differences) → 1 ≤ length all → length all < 2 → x ≡ get_or all 0 x → r ≡ assume p (plain_value x) truth e → r ≡ only_where p (plain_values all) truth e other
one_by p [] x truth e other r l m is told = absurd (omega (arith, l))
one_by p (y ∷ []) x truth e other r l m is told = told ∙ ap (λ v. assume p (plain_value v) truth e) is
one_by p (y ∷ (z ∷ all)) x truth e other r l m is told = absurd (omega (arith, m))

pub only_one : (part : Outcomes → Option Diff) (p : Pair) (all : List Value) (x : Value) (truth : Bool) (e : Differences) (other : Option Differences) (r : Result Outcomes AllocError) → 1 ≤ length all → length all < 2 → x ≡ get_or all 0 x →
    IfOk r (λ o. option_map differences_of (part o) ≡ assume p (plain_value x) truth e) → IfOk r (λ o. option_map differences_of (part o) ≡ only_where p (plain_values all) truth e other)
only_one part p all x truth e other r l m is told =
    IfOk-weaker r (λ o. option_map differences_of (part o) ≡ assume p (plain_value x) truth e) (λ o. option_map differences_of (part o) ≡ only_where p (plain_values all) truth e other)
    (λ o so. one_by p all x truth e other (option_map differences_of (part o)) l m is so) told

pub only_none : (p : Pair) (all : List Value) (truth : Bool) (e : Differences) (other : Option Differences) → length all < 1 → only_where p (plain_values all) truth e other ≡ other
only_none p [] truth e other l = refl
only_none p (y ∷ all) truth e other l = absurd (omega (arith, l))

pub only_many : (p : Pair) (all : List Value) (truth : Bool) (e : Differences) (other : Option Differences) → 2 ≤ length all → only_where p (plain_values all) truth e other ≡ other
only_many p [] truth e other l = absurd (omega (arith, l))
only_many p (y ∷ []) truth e other l = absurd (omega (arith, l))
only_many p (y ∷ (z ∷ all)) truth e other l = refl

-- ## Values without conditions in them

-- whether a value has no conditions in it
abbrev pub is_unconditional : PlainForm → Bool
is_unconditional (logic op a b) = false
is_unconditional (unary Not v) = false
is_unconditional (built_in s f arguments) = false
is_unconditional form = true

ranged_is : (p : Pair) (at : At) (t : PlainType) (form : PlainForm) (truth : Bool) (e : Differences) → is_unconditional form ≡ true → ranged_where p (value at t form) truth e ≡ assume p (value at t form) truth e
ranged_is p at t (constant z) truth e is = refl
ranged_is p at t (read q) truth e is = refl
ranged_is p at t (sense n) truth e is = refl
ranged_is p at t (address q) truth e is = refl
ranged_is p at t (decay q) truth e is = refl
ranged_is p at t (convert v) truth e is = refl
ranged_is p at t (cast v) truth e is = refl
ranged_is p at t (unary Plus v) truth e is = refl
ranged_is p at t (unary Neg v) truth e is = refl
ranged_is p at t (unary Com v) truth e is = refl
ranged_is p at t (unary Not v) truth e is = absurd cc
ranged_is p at t (binary op a b) truth e is = refl
ranged_is p at t (logic op a b) truth e is = absurd cc
ranged_is p at t (conditional v a b) truth e is = refl
ranged_is p at t (call s n arguments) truth e is = refl
ranged_is p at t (built_in s f arguments) truth e is = absurd cc

-- by the clause of what is called, of either outcome
pub ranged_assumed : (part : Outcomes → Option Diff) (p : Pair) (v : Value) (truth : Bool) (e : Differences) (r : Result Outcomes AllocError) → is_unconditional (plain_form v.form) ≡ true →
    IfOk r (λ o. option_map differences_of (part o) ≡ ranged_where p (plain_value v) truth e) → IfOk r (λ o. option_map differences_of (part o) ≡ assume p (plain_value v) truth e)
ranged_assumed part p v truth e r is told =
    IfOk-weaker r (λ o. option_map differences_of (part o) ≡ ranged_where p (plain_value v) truth e) (λ o. option_map differences_of (part o) ≡ assume p (plain_value v) truth e)
    (λ o so. so ∙ ranged_is p v.at (plain_type v.ty) (plain_form v.form) truth e is) told

-- ## What is known by ranges

there : (o : Option Environment) (told : Option Branching) (env : Branching) → told ≡ option_map unbranched o → told ≡ Some env → o ≡ Some env.values
there None told env is some = absurd cc
there (Some x) told env is some = let e : env ≡ unbranched x = cc in ap (λ (b : Branching). Some b.values) (sym e)

not_there : (o : Option Environment) (told : Option Branching) → told ≡ option_map unbranched o → told ≡ None → o ≡ None
not_there None told is none = refl
not_there (Some x) told is none = absurd cc

pub none_left : (f : Environment → Differences) (o : Option Environment) (told : Option Branching) → told ≡ option_map unbranched o → told ≡ None → None ≡ option_map f o
none_left f o told is none = sym (ap (option_map f) (not_there o told is none))

pub some_left : (f : Environment → Differences) (o : Option Environment) (told : Option Branching) (env : Branching) → told ≡ option_map unbranched o → told ≡ Some env → Some (f env.values) ≡ option_map f o
some_left f o told env is some = sym (ap (option_map f) (there o told env is some))

-- ## Comparisons

-- ranges with bounds of differences and of the fall
abbrev pub with_bounds : Environment → (Name → Name → Option ℤ) → Option ℤ → Differences
with_bounds ranges bounds fall = record { ranges = ranges; bounds = bounds; fall = fall }

-- what a comparison of two integers teaches, by the variables that its operands are
pub taught_told : (p : Pair) (op : BinOp) (a b : PlainValue) (e : Diff) (r s : Branching) (left right : Option ℕ) (bounds : Name → Name → Option ℤ) → true ≡ (is_comparison op && are_integers a b) → r ≡ e.ranges → s ≡ r → left ≡ named p e.ranges.values a → right ≡ named p r.values b →
    bounds ≡ compared op left right (bounds_listed e.bounds.items) → with_bounds s.values bounds e.fall ≡ taught p op a b (differences_of e)
taught_told p op a b e r s left right bounds is same again left_is right_is told =
    let d : Differences = differences_of e in
    (λ i. record d {
      ranges = ap (λ (x : Branching). x.values) (again ∙ same) i;
      bounds = (told ∙ (λ j. compared op (left_is j) ((right_is ∙ ap (λ (x : Branching). named p x.values b) same) j) d.bounds)) i;
    }) ∙ (λ i. record d { bounds = if is i then compared op (named p d.ranges a) (named p d.ranges b) d.bounds else d.bounds })

contrary_compares : (op : BinOp) → is_comparison (contrary op) ≡ is_comparison op
contrary_compares Add = refl
contrary_compares Sub = refl
contrary_compares Mul = refl
contrary_compares Div = refl
contrary_compares Rem = refl
contrary_compares Shl = refl
contrary_compares Shr = refl
contrary_compares And = refl
contrary_compares Or = refl
contrary_compares Xor = refl
contrary_compares Lt = refl
contrary_compares Gt = refl
contrary_compares Le = refl
contrary_compares Ge = refl
contrary_compares Eq = refl
contrary_compares Ne = refl

taught_where : (p : Pair) (op : BinOp) (truth : Bool) (a b : PlainValue) (e : Differences) (after : Environment) →
    record (taught p (if truth then op else contrary op) a b e) { ranges = after } ≡ compared_where p op truth a b e after
taught_where p op true a b e after = refl
taught_where p op false a b e after =
    λ i. record e { ranges = after; bounds = if contrary_compares op i && are_integers a b then compared (contrary op) (named p e.ranges a) (named p e.ranges b) e.bounds else e.bounds }

-- what a value says, with the ranges that are known after it
told_after : (p : Pair) (v : PlainValue) (truth : Bool) (e : Differences) (after : Environment) → record (told_by p v truth e) { ranges = after } ≡ told_where p v truth e after
told_after p (value at t (binary op a b)) truth e after = taught_where p op truth a b e after
told_after p (value at t (constant z)) truth e after = refl
told_after p (value at t (read q)) truth e after = refl
told_after p (value at t (sense n)) truth e after = refl
told_after p (value at t (address q)) truth e after = refl
told_after p (value at t (decay q)) truth e after = refl
told_after p (value at t (convert v)) truth e after = refl
told_after p (value at t (cast v)) truth e after = refl
told_after p (value at t (unary op v)) truth e after = refl
told_after p (value at t (logic op a b)) truth e after = refl
told_after p (value at t (conditional v a b)) truth e after = refl
told_after p (value at t (call s n arguments)) truth e after = refl
told_after p (value at t (built_in s f arguments)) truth e after = refl

pub told_left : (p : Pair) (v : PlainValue) (truth : Bool) (e taken : Differences) (told : Option Branching) (env : Branching) → taken ≡ told_by p v truth e → told ≡ option_map unbranched (assume_of None v truth e.ranges) → told ≡ Some env →
    Some (record taken { ranges = env.values }) ≡ ranged_where p v truth e
told_left p v truth e taken told env is known some =
    ap (λ (d : Differences). Some (record d { ranges = env.values })) is ∙ (ap Some (told_after p v truth e env.values) ∙ some_left (told_where p v truth e) (assume_of None v truth e.ranges) told env known some)
