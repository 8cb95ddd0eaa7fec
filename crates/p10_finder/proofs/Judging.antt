-- Parameters of functions, cycles of calls, and loops without a bound, one after the other.
use Rattle.std.proofs.Common.{◌≡◌, ℕ, zero, suc, ◌+◌, ◌<◌, ◌≤◌, min, List, [], ◌∷◌, ◌++◌, length, map, take, drop, get_or, Some, refl, sym, ◌∙◌, ap, arith, append_assoc, add-one}
use Rattle.std.specs.Prelude.{slice_get}
use Rattle.std.proofs.lemmas.List.{map-append, length-map, drop_more}
use Rattle.std.proofs.lemmas.Grind.{take_at_read}
use Rattle.std.proofs.lemmas.Option.{slice_get-get_or}
use Rattle.p10_base.specs.declared.span.Span.{Span}
use Rattle.p10_core.specs.declared.program.Variable.{Variable}
use Rattle.p10_core.specs.declared.program.Func.{Func as CodeFunc}
use Rattle.p10_core.specs.Types.{plain_type}
use Rattle.p10_core.specs.Typed.{PlainVariable, PlainProgram}
use Rattle.p10_core.specs.Views.{plain_variable, plain_function}
use Rattle.p10_core.specs.WholePrograms.{parameter_types}
use Rattle.p10_graph.specs.Graphs.{Edge, IsOnCycle}
use Rattle.p10_calls.proofs.Edges.{reaches_same}
use Rattle.p10_cert.specs.declared.claims.ValueClaim.{ValueClaim}
use Rattle.p10_cert.specs.Claims.{value_of, Claims}
use Rattle.p10_absx.proofs.Entries.{get_map}
use Rattle.p10_finder.specs.Functions.{any_value, loops_of}
use Rattle.p10_finder.specs.private.Judging.{lacking_from}
use Rattle.p10_approach.specs.Offers.{Offers}

-- ## Parameters

-- the first of mapped lists, with the next one
one_more : {A B : Type 0} (f : A → B) (xs : List A) (k : ℕ) (x : A) → k < length xs → x ≡ get_or xs k x → map f (take (k + 1) xs) ≡ map f (take k xs) ++ f x ∷ []
one_more f xs k x inside is =
    ap (map f) (take_at_read xs k x inside).1 ∙ (map-append f (take k xs) (get_or xs k x ∷ []) ∙ ap (λ y. map f (take k xs) ++ f y ∷ []) (sym is))

-- what may be claimed of one variable more
variable_more : (vars : List Variable) (k : ℕ) (v : Variable) → k < length vars → v ≡ get_or vars k v →
    map (λ (x : PlainVariable). any_value x.type) (take (k + 1) (map plain_variable vars)) ≡ map (λ (x : PlainVariable). any_value x.type) (take k (map plain_variable vars)) ++ any_value (plain_type v.ty) ∷ []
variable_more vars k v there v_is =
    let got : slice_get (map plain_variable vars) k ≡ Some (plain_variable v) = get_map plain_variable vars k v (slice_get-get_or vars k v there ∙ ap Some (sym v_is)) in
    let below : k < length (map plain_variable vars) = let e : length (map plain_variable vars) ≡ length vars = length-map vars plain_variable in omega (arith, e, there) in
    let read : slice_get (map plain_variable vars) k ≡ Some (get_or (map plain_variable vars) k (plain_variable v)) = slice_get-get_or (map plain_variable vars) k (plain_variable v) below in
    let v_too : plain_variable v ≡ get_or (map plain_variable vars) k (plain_variable v) = cc in
    one_more (λ (x : PlainVariable). any_value x.type) (map plain_variable vars) k (plain_variable v) below v_too

-- one more that is put after the others
pub params_put : (old new : List ValueClaim) (vars : List Variable) (k : ℕ) (p : ValueClaim) (v : Variable) → k < length vars → v ≡ get_or vars k v → value_of p ≡ any_value (plain_type v.ty) → new ≡ old ++ p ∷ [] →
    map value_of old ≡ map (λ (x : PlainVariable). any_value x.type) (take k (map plain_variable vars)) → map value_of new ≡ map (λ (x : PlainVariable). any_value x.type) (take (k + 1) (map plain_variable vars))
params_put old new vars k p v there v_is same put so-far =
    ap (map value_of) put ∙ (map-append value_of old (p ∷ [])
    ∙ (ap (λ l. l ++ value_of p ∷ []) so-far ∙ (ap (λ y. map (λ (x : PlainVariable). any_value x.type) (take k (map plain_variable vars)) ++ y ∷ []) same ∙ sym (variable_more vars k v there v_is))))

-- the first n of a list, or all of it
take_least : {A : Type 0} (xs : List A) (n : ℕ) → take (min (length xs) n) xs ≡ take n xs
take_least [] zero = refl
take_least [] (suc n) = let none : min 0 (suc n) ≡ 0 = omega arith in ap (λ k. take k []) none
take_least (x ∷ xs) zero = let none : min (length (x ∷ xs)) 0 ≡ 0 = omega arith in ap (λ k. take k (x ∷ xs)) none
take_least (x ∷ xs) (suc n) = let more : min (length (x ∷ xs)) (suc n) ≡ suc (min (length xs) n) = omega arith in ap (λ k. take k (x ∷ xs)) more ∙ ap (λ l. x ∷ l) (take_least xs n)

-- what may be claimed of variables is what may be claimed of values of their types
by_types : (vs : List PlainVariable) → map (λ (x : PlainVariable). any_value x.type) vs ≡ map any_value (map (λ (x : PlainVariable). x.type) vs)
by_types [] = refl
by_types (v ∷ vs) = ap (λ l. any_value v.type ∷ l) (by_types vs)

-- what may be claimed of all parameters
pub types_all : (f : CodeFunc) (slice : List Variable) (count k : ℕ) → slice ≡ f.vars → count ≡ min (length slice) f.params → count ≤ k → k ≤ count →
    map (λ (x : PlainVariable). any_value x.type) (take k (map plain_variable slice)) ≡ map any_value (parameter_types (plain_function f))
types_all f slice count k is least low high =
    let size : length (map plain_variable slice) ≡ length slice = length-map slice plain_variable in
    let few : k ≡ min (length (map plain_variable slice)) f.params = omega (arith, least, low, high, size) in
    ap (λ m. map (λ (x : PlainVariable). any_value x.type) (take m (map plain_variable slice))) few
    ∙ (ap (map (λ (x : PlainVariable). any_value x.type)) (take_least (map plain_variable slice) f.params)
    ∙ (by_types (take f.params (map plain_variable slice)) ∙ ap (λ (l : List Variable). map any_value (map (λ (x : PlainVariable). x.type) (take f.params (map plain_variable l)))) is))

-- ## Cycles

pub on_cycle_too : (g h : List (List ℕ)) (n : ℕ) → ((u v : ℕ) → Edge g u v → Edge h u v) → IsOnCycle g n → IsOnCycle h n
on_cycle_too g h n edges c = record { next = c.next; edge = edges n c.next c.edge; back = reaches_same g h edges c.next n c.back }

-- ## Functions, one after the other

-- the loops so far, and those of the next one
pub lacking_more : (o : Offers) (p : PlainProgram) (c : Claims) (fs : List CodeFunc) (n : ℕ) (f : CodeFunc) (old new : List Span) (all : List Span) → n < length fs → f ≡ get_or fs n f → new ≡ old ++ (loops_of o p c n (plain_function f)).unbounded →
    old ++ lacking_from o p c n (map plain_function (drop n fs)) ≡ all → new ++ lacking_from o p c (n + 1) (map plain_function (drop (n + 1) fs)) ≡ all
lacking_more o p c fs n f old new all inside is put so-far =
    let next : map plain_function (drop n fs) ≡ plain_function f ∷ map plain_function (drop (n + 1) fs) = ap (map plain_function) (drop_more fs n f inside ∙ ap (λ (g : CodeFunc). g ∷ drop (n + 1) fs) (sym is)) in
    ap (λ l. l ++ lacking_from o p c (n + 1) (map plain_function (drop (n + 1) fs))) put ∙
    (append_assoc old (loops_of o p c n (plain_function f)).unbounded (lacking_from o p c (n + 1) (map plain_function (drop (n + 1) fs))) ∙
    (ap (λ m. old ++ ((loops_of o p c n (plain_function f)).unbounded ++ lacking_from o p c m (map plain_function (drop (n + 1) fs)))) (add-one n) ∙ (ap (λ l. old ++ lacking_from o p c n l) (sym next) ∙ so-far)))
