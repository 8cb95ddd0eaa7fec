-- Calls, by tests.
use Rattle.std.specs.Prelude.{◌≡◌, ℕ, zero, suc, ◌+◌, ◌<◌, ◌≤◌, nat_eq, Bool, true, false, ◌&&◌, Option, Some, None, option_map, slice_get, List, [], ◌∷◌, length, map, take, drop, if◌then◌else◌, refl}
use Rattle.std.proofs.Common.{ap, sym, ◌∙◌, get_or, drop-cons, add-one, subst, arith}
use Rattle.std.proofs.lemmas.List.{drop_all}
use Rattle.p10_core.specs.declared.typed.Value.{Value}
use Rattle.p10_core.specs.declared.program.Variable.{Variable}
use Rattle.p10_core.specs.Types.{PlainType, plain_type, bare, unqualified}
use Rattle.p10_core.specs.Typed.{PlainValues, PlainFunction, PlainVariable}
use Rattle.p10_core.specs.Views.{plain_program, plain_values, plain_variable}
use Rattle.p10_core.specs.Whole.{Surroundings, ArgumentsFit, Calls}
use Rattle.p10_core.specs.WholePrograms.{seen_function, parameter_types}
use Rattle.p10_whole.specs.declared.around.Around.{Around}
use Rattle.p10_whole.specs.private.Shows.{Shows}
use Rattle.p10_whole.specs.private.Surroundings.{surroundings_in, types_of_variables}
use Rattle.p10_whole.proofs.Showing.{both_true}

function_seen : (b : Bool) (o : Option PlainFunction) (f : PlainFunction) → (b ≡ true → ⊥) → o ≡ Some f → (if b then None else option_map seen_function o) ≡ Some (seen_function f)
function_seen true o f apart e = absurd (apart refl)
function_seen false o f apart e = ap (option_map seen_function) e

pub calls_shown : (a : Around) (t : PlainType) (n : ℕ) (arguments : PlainValues) (f : PlainFunction) (x y z : Bool) → (nat_eq n (plain_program a.program.now).main ≡ true → ⊥) → Some f ≡ slice_get (plain_program a.program.now).functions n →
    Shows x (ArgumentsFit (surroundings_in a) (parameter_types f) arguments) → Shows y (bare (plain_program a.program.now).structures t ≡ bare (plain_program a.program.now).structures f.result) → Shows z (t ≡ unqualified t) →
    Shows (x && (y && z)) (Calls (surroundings_in a) t n arguments)
calls_shown a t n arguments f x y z apart e p q r = record {
  shows = λ h.
      let b = both_true x (y && z) h in
      let d = both_true y z b.1 in
      record {
        seen = seen_function f;
        there = function_seen (nat_eq n (plain_program a.program.now).main) (slice_get (plain_program a.program.now).functions n) f apart (sym e);
        fit = p.shows b.0;
        result_is = q.shows d.0;
        unmarked = r.shows d.1;
      };
}

-- the types of the parameters, of which there are enough
pub parameters_are : (n : ℕ) (vs : List Variable) → types_of_variables (take n vs) ≡ map (λ (v : PlainVariable). v.type) (take n (map plain_variable vs))
parameters_are zero vs = refl
parameters_are (suc n) [] = refl
parameters_are (suc n) (v ∷ vs) = ap (λ r. plain_type v.ty ∷ r) (parameters_are n vs)

-- ## Arguments, one after the other

pub none_left : (c : Surroundings) (ps : List Variable) (vs : List Value) (i : ℕ) → length ps ≡ length vs → length vs ≤ i → ArgumentsFit c (types_of_variables (drop i ps)) (plain_values (drop i vs))
none_left c ps vs i e h =
    let P : List Variable → Type 0 = λ qs. ArgumentsFit c (types_of_variables qs) (plain_values (drop i vs)) in
    let Q : List Value → Type 0 = λ us. ArgumentsFit c [] (plain_values us) in
    subst P (sym (drop_all i ps (omega arith))) (subst Q (sym (drop_all i vs h)) tt)

pub one_fits : (c : Surroundings) (ps : List Variable) (vs : List Value) (i : ℕ) → i < length ps → i < length vs → (d : Variable) (e : Value) →
    bare c.structures (plain_type (get_or vs i e).ty) ≡ bare c.structures (plain_type (get_or ps i d).ty) →
    ArgumentsFit c (types_of_variables (drop (i + 1) ps)) (plain_values (drop (i + 1) vs)) → ArgumentsFit c (types_of_variables (drop i ps)) (plain_values (drop i vs))
one_fits c ps vs i low high d e same rest =
    let P : List Variable → Type 0 = λ qs. ArgumentsFit c (types_of_variables qs) (plain_values (drop i vs)) in
    let Q : List Value → Type 0 = λ us. ArgumentsFit c (plain_type (get_or ps i d).ty ∷ types_of_variables (drop (i + 1) ps)) (plain_values us) in
    let cut : drop i ps ≡ get_or ps i d ∷ drop (i + 1) ps = drop-cons ps i d low ∙ ap (λ n. get_or ps i d ∷ drop n ps) (sym (add-one i)) in
    let cut_two : drop i vs ≡ get_or vs i e ∷ drop (i + 1) vs = drop-cons vs i e high ∙ ap (λ n. get_or vs i e ∷ drop n vs) (sym (add-one i)) in
    subst P (sym cut) (subst Q (sym cut_two) (same, rest))
