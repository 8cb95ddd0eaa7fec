-- What is known where a value is true or false is known of the same variables as before.
use Rattle.std.proofs.Common.{◌≡◌, ℕ, Bool, true, false, refl, ◌∙◌, ap, sym, subst, Option, Some, None}
use Rattle.std.specs.Prelude.{is_some, if◌then◌else◌, nat_eq}
use Rattle.std.specs.Option.{option_map, option_and_then}
use Rattle.std.proofs.lemmas.Bool.{eqb-true, eqb-false}
use Rattle.p10_int.specs.declared.operators.BinOp.{BinOp}
use Rattle.p10_int.specs.declared.operators.BinOp.TheVariants.{Ne}
use Rattle.p10_int.specs.declared.operators.UnOp.{UnOp}
use Rattle.p10_int.specs.declared.operators.UnOp.TheVariants.{Plus, Neg, Not, Com}
use Rattle.p10_range.specs.Ranges.{Interval, meet_of}
use Rattle.p10_core.specs.declared.typed.Library.{Library}
use Rattle.p10_core.specs.declared.typed.Library.TheVariants.{Assert, CAssert, Getchar, Putchar, Malloc, Calloc, Free}
use Rattle.p10_core.specs.declared.typed.LogicOp.{LogicOp}
use Rattle.p10_core.specs.declared.typed.LogicOp.TheVariants.{And, Or}
use Rattle.p10_core.specs.Types.{PlainType, void, integer, pointer, array, structure}
use Rattle.p10_core.specs.Typed.{PlainValue, value, PlainForm, constant, read, sense, address, decay, convert, cast, unary, binary, logic, conditional, call, built_in, PlainPlace, place, variable, global, literal, index, member, dereference, PlainValues, no_values, more_values}
use Rattle.p10_cert.specs.Claims.{Claims}
use Rattle.p10_absx.specs.Abstract.{Abstract}
use Rattle.p10_absx.specs.Environments.{Environment, known, learned, hull_entry, hull_environment, hull_reached}
use Rattle.p10_absx.specs.Comparing.{is_comparison, contrary, allowed, turned, Side, met_with, side_met, compared}
use Rattle.p10_absx.specs.Assessing.{Assessed, a_scalar, a_test, as_side, zero_side, known_where, variable_read, place_read, converted_found, comparison_found, are_integers, binary_found, arithmetic_found, any_of, logic_found, unary_assessed, library_assessed, assess, assess_form, assess_only}
use Rattle.p10_execution.proofs.Entries.{learned_here, learned_other, known_hull, known_some}

-- another environment knows the same variables
pub record SameScope (env other : Environment) : Type 0 where
  pub same : (n : ℕ) → is_some (known other n) ≡ is_some (known env n)

-- so does another environment, if there is one
abbrev pub MaybeSame : Environment → Option Environment → Type 0
MaybeSame env None = Unit {0}
MaybeSame env (Some other) = SameScope env other

pub scope_itself : (env : Environment) → SameScope env env
scope_itself env = record { same = λ n. refl }

pub scope_trans : (a b c : Environment) → SameScope a b → SameScope b c → SameScope a c
scope_trans a b c h k = record { same = λ n. k.same n ∙ h.same n }

maybe_trans : (a b : Environment) (o : Option Environment) → SameScope a b → MaybeSame b o → MaybeSame a o
maybe_trans a b None h k = tt
maybe_trans a b (Some c) h k = scope_trans a b c h k

-- something else is learned of a variable in scope
pub learned_scope : (env : Environment) (n : ℕ) (a : Abstract) → is_some (known env n) ≡ true → SameScope env (learned env n a)
learned_scope env n a e = record { same = λ m. at m (nat_eq m n) refl }
  where
    at : (m : ℕ) (b : Bool) → nat_eq m n ≡ b → is_some (known (learned env n a) m) ≡ is_some (known env m)
    at m true q =
        let p : m ≡ n = eqb-true m n q in
        ap (λ k. is_some (known (learned env n a) k)) p ∙ (ap is_some (learned_here env n a e) ∙ (sym e ∙ ap (λ k. is_some (known env k)) (sym p)))
    at m false q = ap is_some (learned_other env n m a (eqb-false m n q))

pub hull_scope : (env a b : Environment) → SameScope env a → SameScope env b → SameScope env (hull_environment a b)
hull_scope env a b h k = record { same = λ n. ap is_some (known_hull a b n) ∙ (at (known a n) (known b n) (k.same n ∙ sym (h.same n)) ∙ h.same n) }
  where
    at : (x y : Option Abstract) → is_some y ≡ is_some x → is_some (hull_entry x y) ≡ is_some x
    at None y e = refl
    at (Some x) None e = e
    at (Some x) (Some y) e = refl

pub reached_scope : (env : Environment) (a b : Option Environment) → MaybeSame env a → MaybeSame env b → MaybeSame env (hull_reached a b)
reached_scope env None b h k = k
reached_scope env (Some a) None h k = h
reached_scope env (Some a) (Some b) h k = hull_scope env a b h k

-- ## Comparisons

met_scope : (env : Environment) (n : ℕ) (r : Interval) (o : Option Abstract) → known env n ≡ o → MaybeSame env (met_with env n r o)
met_scope env n r None e = scope_itself env
met_scope env n r (Some a) e = at (meet_of a.range r)
  where
    at : (q : Option Interval) → MaybeSame env (option_map (λ s. learned env n (record { range = s; offset = a.offset })) q)
    at None = tt
    at (Some s) = learned_scope env n (record { range = s; offset = a.offset }) (known_some (known env n) a e)

side_scope : (n : Option ℕ) (r : Interval) (env : Environment) → MaybeSame env (side_met n r env)
side_scope None r env = scope_itself env
side_scope (Some n) r env = met_scope env n r (known env n) refl

pub then_scope : {A : Type 0} (env : Environment) (o : Option A) (go : A → Option Environment) → ((a : A) → o ≡ Some a → MaybeSame env (go a)) → MaybeSame env (option_and_then go o)
then_scope env None go h = tt
then_scope env (Some a) go h = h a refl

maybe_then : (env : Environment) (o : Option Environment) (go : Environment → Option Environment) → MaybeSame env o → ((e : Environment) → MaybeSame e (go e)) → MaybeSame env (option_and_then go o)
maybe_then env None go h k = tt
maybe_then env (Some e) go h k = maybe_trans env e (go e) h (k e)

compared_scope : (op : BinOp) (left right : Side) (env : Environment) → MaybeSame env (compared op left right env)
compared_scope op left right env = at left.value right.value
  where
    at : (a b : Option Abstract) → MaybeSame env (compared op (record left { value = a }) (record right { value = b }) env)
    at None b = tt
    at (Some a) None = tt
    at (Some a) (Some b) =
        then_scope env (allowed op a.range b.range) _ (λ r e. then_scope env (allowed (turned op) b.range a.range) _ (λ s f.
        maybe_then env (side_met left.variable r env) (side_met right.variable s) (side_scope left.variable r env) (λ e. side_scope right.variable s e)))

-- ## Values

-- what is found of a value knows the same variables
abbrev AssessedSame : Environment → Assessed → Type 0
AssessedSame env (a_scalar i side) = Unit {0}
AssessedSame env (a_test first second) = MaybeSame env first × MaybeSame env second

where_scope : (truth : Bool) (env : Environment) (a : Assessed) → AssessedSame env a → MaybeSame env (known_where truth env a)
where_scope truth env (a_scalar true side) h = truly truth
  where
    truly : (b : Bool) → MaybeSame env (compared (if b then Ne else contrary Ne) side zero_side env)
    truly true = compared_scope Ne side zero_side env
    truly false = compared_scope (contrary Ne) side zero_side env
where_scope truth env (a_scalar false side) h = scope_itself env
where_scope true env (a_test first second) h = h.0
where_scope false env (a_test first second) h = h.1

if_same : (env : Environment) (b : Bool) (x y : Assessed) → AssessedSame env x → AssessedSame env y → AssessedSame env (if b then x else y)
if_same env true x y h k = h
if_same env false x y h k = k

read_same : (t : PlainType) (n : ℕ) (env : Environment) (o : Option Abstract) → AssessedSame env (variable_read t n o)
read_same t n env None = tt
read_same t n env (Some a) = tt

place_same : (t : PlainType) (p : PlainPlace) (env : Environment) → AssessedSame env (place_read t p env)
place_same t (place at u (variable n)) env = read_same t n env (known env n)
place_same t (place at u (global n)) env = tt
place_same t (place at u (literal n bytes)) env = tt
place_same t (place at u (index a i)) env = tt
place_same t (place at u (member p m)) env = tt
place_same t (place at u (dereference v)) env = tt

converted_same : (t : PlainType) (side : Side) (env : Environment) → AssessedSame env (converted_found t side)
converted_same (integer c i) side env = tt
converted_same (void c) side env = tt
converted_same (pointer c t) side env = tt
converted_same (array c t n) side env = tt
converted_same (structure c n) side env = tt

comparison_same : (op : BinOp) (integers : Bool) (left right : Side) (env : Environment) → AssessedSame env (comparison_found op integers left right env)
comparison_same op true left right env = (compared_scope op left right env, compared_scope (contrary op) left right env)
comparison_same op false left right env = (scope_itself env, scope_itself env)

binary_same : (op : BinOp) (t : PlainType) (integers : Bool) (a b : Assessed) (env : Environment) → AssessedSame env (binary_found op t integers a b env)
binary_same op t integers a b env = if_same env (is_comparison op) _ _ (comparison_same op integers (as_side a) (as_side b) env) (if_same env integers (arithmetic_found op t _ _) (any_of t) tt tt)

logic_same : (op : LogicOp) (env : Environment) (left : Assessed) (right : Environment → Assessed) → AssessedSame env left → ((e : Environment) → AssessedSame e (right e)) → AssessedSame env (logic_found op env left right)
logic_same And env left right h k =
    let after : MaybeSame env (known_where true env left) = where_scope true env left h in (
      maybe_then env (known_where true env left) _ after (λ e. where_scope true e (right e) (k e)),
      reached_scope env (known_where false env left) _ (where_scope false env left h) (maybe_then env (known_where true env left) _ after (λ e. where_scope false e (right e) (k e))),
    )
logic_same Or env left right h k =
    let after : MaybeSame env (known_where false env left) = where_scope false env left h in (
      reached_scope env (known_where true env left) _ (where_scope true env left h) (maybe_then env (known_where false env left) _ after (λ e. where_scope true e (right e) (k e))),
      maybe_then env (known_where false env left) _ after (λ e. where_scope false e (right e) (k e)),
    )

unary_same : (op : UnOp) (t : PlainType) (env : Environment) (a : Assessed) → AssessedSame env a → AssessedSame env (unary_assessed op t env a)
unary_same Not t env a h = (where_scope false env a h, where_scope true env a h)
unary_same Plus t env a h = tt
unary_same Neg t env a h = tt
unary_same Com t env a h = tt

library_same : (f : Library) (t : PlainType) (env : Environment) (a : Option Assessed) → ((x : Assessed) → a ≡ Some x → AssessedSame env x) → AssessedSame env (library_assessed f t env a)
library_same CAssert t env (Some a) h = (where_scope true env a (h a refl), where_scope false env a (h a refl))
library_same CAssert t env None h = tt
library_same Assert t env a h = tt
library_same Getchar t env a h = tt
library_same Putchar t env a h = tt
library_same Malloc t env a h = tt
library_same Calloc t env a h = tt
library_same Free t env a h = tt

-- what is found of the only argument
abbrev OnlySame : Environment → Option Assessed → Type 0
OnlySame env None = Unit {0}
OnlySame env (Some a) = AssessedSame env a

only_of : (env : Environment) (o : Option Assessed) → OnlySame env o → (x : Assessed) → o ≡ Some x → AssessedSame env x
only_of env None h x e = absurd cc
only_of env (Some a) h x e = let p : a ≡ x = cc in subst (λ y. AssessedSame env y) p h

module _ (c : Option Claims) where
  mutual
    assess_same : (v : PlainValue) (env : Environment) → AssessedSame env (assess c v env)
    assess_same (value at t form) env = form_same t form env

    form_same : (t : PlainType) (form : PlainForm) (env : Environment) → AssessedSame env (assess_form c t form env)
    form_same t (constant z) env = tt
    form_same t (read p) env = place_same t p env
    form_same t (sense n) env = tt
    form_same t (address p) env = tt
    form_same t (decay p) env = tt
    form_same t (convert v) env = converted_same t (as_side (assess c v env)) env
    form_same t (cast v) env = converted_same t (as_side (assess c v env)) env
    form_same t (unary op v) env = unary_same op t env (assess c v env) (assess_same v env)
    form_same t (binary op a b) env = binary_same op t (are_integers a b) (assess c a env) (assess c b env) env
    form_same t (logic op a b) env = logic_same op env (assess c a env) (λ env. assess c b env) (assess_same a env) (λ e. assess_same b e)
    form_same t (conditional v a b) env = tt
    form_same t (call s n arguments) env = tt
    form_same t (built_in s f arguments) env = library_same f t env (assess_only c arguments env) (only_of env (assess_only c arguments env) (only_same arguments env))

    only_same : (arguments : PlainValues) (env : Environment) → OnlySame env (assess_only c arguments env)
    only_same no_values env = tt
    only_same (more_values v no_values) env = assess_same v env
    only_same (more_values v (more_values u rest)) env = tt

-- what is known where a value is true or false
pub assessed_scope : (c : Option Claims) (truth : Bool) (v : PlainValue) (env : Environment) → MaybeSame env (known_where truth env (assess c v env))
assessed_scope c truth v env = where_scope truth env (assess c v env) (assess_same c v env)
