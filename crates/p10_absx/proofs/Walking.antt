-- The rows of values that hold others, as the walk comes to them.
use Rattle.std.proofs.Common.{◌≡◌, ◌<◌, ◌≤◌, List, [], ◌∷◌, length, get_or, Option, Some, None, refl, ap, sym, ◌∙◌, subst, arith}
use Rattle.std.specs.Option.{option_map}
use Rattle.p10_base.specs.declared.span.Span.{Span}
use Rattle.p10_core.specs.declared.typed.Value.{Value}
use Rattle.p10_core.specs.declared.typed.Library.{Library}
use Rattle.p10_core.specs.declared.typed.LogicOp.{LogicOp}
use Rattle.p10_core.specs.Types.{plain_type}
use Rattle.p10_core.specs.Typed.{PlainValue, PlainValues, logic, built_in}
use Rattle.p10_core.specs.Views.{plain_form, plain_value, plain_values}
use Rattle.p10_cert.specs.Claims.{Claims}
use Rattle.p10_absx.specs.declared.found.Found.{Found}
use Rattle.p10_absx.specs.Environments.{Environment}
use Rattle.p10_absx.specs.Assessing.{assess, assess_form, assess_only, logic_found, library_assessed}
use Rattle.p10_absx.specs.private.Found.{assessed_of}

-- `&&` and `||`
pub logic_carried : (c : Option Claims) (v : Value) (op : LogicOp) (left right : PlainValue) (env now : Environment) (first f : Found) → plain_form v.form ≡ logic op left right → now ≡ env →
    assessed_of env first ≡ assess c left env → assessed_of now f ≡ logic_found op now (assessed_of now first) (λ e. assess c right e) → assessed_of env f ≡ assess c (plain_value v) env
logic_carried c v op left right env now first f form same found is =
    subst (λ e. assessed_of e f ≡ logic_found op e (assessed_of e first) (λ e. assess c right e)) same is ∙
    (ap (λ a. logic_found op env a (λ e. assess c right e)) found ∙ sym (ap (λ g. assess_form c (plain_type v.ty) g env) form))

-- a call of a library function
pub built_in_carried : (c : Option Claims) (v : Value) (s : Span) (f : Library) (arguments : PlainValues) (env now : Environment) (only : Option Found) (a : Found) →
    plain_form v.form ≡ built_in s f arguments → now ≡ env → option_map (assessed_of env) only ≡ assess_only c arguments env →
    assessed_of now a ≡ library_assessed f (plain_type v.ty) now (option_map (assessed_of now) only) → assessed_of env a ≡ assess c (plain_value v) env
built_in_carried c v s f arguments env now only a form same found is =
    subst (λ e. assessed_of e a ≡ library_assessed f (plain_type v.ty) e (option_map (assessed_of e) only)) same is ∙
    (ap (library_assessed f (plain_type v.ty) env) found ∙ sym (ap (λ g. assess_form c (plain_type v.ty) g env) form))

-- the only one of arguments
pub only_one : (c : Option Claims) (all : List Value) (x : Value) (env : Environment) → 1 ≤ length all → length all < 2 → x ≡ get_or all 0 x →
    Some (assess c (plain_value x) env) ≡ assess_only c (plain_values all) env
only_one c [] x env l m e = absurd (omega (arith, l))
only_one c (y ∷ []) x env l m e = ap (λ v. Some (assess c (plain_value v) env)) e
only_one c (y ∷ (z ∷ all)) x env l m e = absurd (omega (arith, m))

pub only_none : (c : Option Claims) (all : List Value) (env : Environment) → length all < 1 → None ≡ assess_only c (plain_values all) env
only_none c [] env l = refl
only_none c (y ∷ all) env l = absurd (omega (arith, l))

pub only_many : (c : Option Claims) (all : List Value) (env : Environment) → 2 ≤ length all → None ≡ assess_only c (plain_values all) env
only_many c [] env l = absurd (omega (arith, l))
only_many c (y ∷ []) env l = absurd (omega (arith, l))
only_many c (y ∷ (z ∷ all)) env l = refl
