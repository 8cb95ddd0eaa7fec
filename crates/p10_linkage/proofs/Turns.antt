-- Declarations of different roots taken together, one after the other.
use Rattle.std.proofs.Common.{◌≡◌, ℕ, zero, suc, ◌+◌, ◌<◌, nat_eq, Bool, true, false, not, ◌&&◌, ◌||◌, if◌then◌else◌, List, [], ◌∷◌, ◌++◌, map, length, take, drop, Option, Some, None, slice_get, slice_index_or, option_map, ◌≤◌, bytes_eq, refl, sym, ◌∙◌, ap, subst, arith, ◌⊎◌, inl, inr}
use Rattle.std.proofs.lemmas.List.{append-nil}
use Rattle.std.proofs.lemmas.Option.{slice_get-get_or, slice_get-map}
use Rattle.std.specs.Bool.{beq}
use Rattle.std.specs.Option.{unwrap_or}
use Rattle.p10_base.specs.Words.{Text}
use Rattle.p10_base.specs.declared.codes.SubsetCode.TheVariants as subset
use Rattle.p10_core.specs.Types.{PlainType, PlainStructure}
use Rattle.p10_core.specs.Completing.{AreBuilt}
use Rattle.p10_elabx.specs.declared.problem.Problem.{Problem}
use Rattle.p10_elabx.specs.First.{Keep, joined}
use Rattle.p10_elabd.specs.Standing.{PlainStanding, refusing}
use Rattle.p10_heads.specs.Heads.{Head}
use Rattle.p10_linkage.specs.Linkage.{LinkedType, a_function, an_object, a_part_function, unknown_object, is_function, parameters_of, known_result, lists_agree, is_none_listed, Linked}
use Rattle.p10_linkage.specs.Compatible.{are_compatible}
use Rattle.p10_linkage.specs.Uniting.{and_then}
use Rattle.p10_linkage.specs.Between.{known_united, parameters_united, listed_united, functions_united, objects_united, linked_united, unless_compatible, is_other, agreed_with, agreed, agreed_noted, agreeing, all_agreeing, is_defined_before, definitions_noted}
use Rattle.p10_linkage.specs.private.Meetings.{given}
use Rattle.p10_linkage.specs.private.Grouping.{with_row, rows_at, named}
use Rattle.p10_linkage.specs.private.Agreeing.{agreed_row, stood, noted_where, is_defined_row}
use Rattle.p10_linkage.proofs.ByNumbers.{then_none}
use Rattle.p10_linkage.proofs.LinkedTypes.{drop_here, rest_of}
use Rattle.p10_linkage.proofs.Joining.{StandsWell, IsKept, kept_itself, kept_on}
use Rattle.p10_linkage.proofs.OneType.{some_is, none_is_not, some_if, some_then, united_kept, built_stands, kept_built}

-- ## Structures that are kept

as_before : (ss rs : List PlainStructure) → StandsWell ss → Some ss ≡ Some rs → IsKept ss rs
as_before ss rs w e = subst (IsKept ss) (some_is ss rs e) (kept_itself ss w)

known_kept : (t u : Option PlainType) (ss rs : List PlainStructure) → StandsWell ss → known_united t u ss ≡ Some rs → IsKept ss rs
known_kept (Some t) (Some u) ss rs w e = (united_kept t u ss rs w e).0
known_kept (Some t) None ss rs w e = as_before ss rs w e
known_kept None (Some u) ss rs w e = as_before ss rs w e
known_kept None None ss rs w e = as_before ss rs w e

parameters_kept : (ts us : List (Option PlainType)) (ss rs : List PlainStructure) → StandsWell ss → parameters_united ts us ss ≡ Some rs → IsKept ss rs
parameters_kept [] [] ss rs w e = as_before ss rs w e
parameters_kept (t ∷ ts) (u ∷ us) ss rs w e =
    let next : (qs : List PlainStructure) × (known_united t u ss ≡ Some qs) × (parameters_united ts us qs ≡ Some rs) = some_then (known_united t u ss) (parameters_united ts us) rs e in
    let first : IsKept ss next.0 = known_kept t u ss next.0 w next.1 in
    kept_on ss next.0 rs first (parameters_kept ts us next.0 rs first.stands next.2)
parameters_kept [] (u ∷ us) ss rs w e = none_is_not rs e
parameters_kept (t ∷ ts) [] ss rs w e = none_is_not rs e

either_some : {A : Type 0} (t : Bool) (o p : Option A) (y : A) → (if t then o else p) ≡ Some y → (o ≡ Some y) ⊎ (p ≡ Some y)
either_some true o p y e = inl e
either_some false o p y e = inr e

listed_kept : (t u : LinkedType) (ss rs : List PlainStructure) → StandsWell ss → listed_united t u ss ≡ Some rs → IsKept ss rs
listed_kept t u ss rs w e =
    elim (either_some (is_none_listed t u) (Some ss) (parameters_united (parameters_of t) (parameters_of u) ss) rs e) as (λ _. IsKept ss rs) [
      | inl none ↦ as_before ss rs w none
      | inr both ↦ parameters_kept (parameters_of t) (parameters_of u) ss rs w both
    ]

functions_kept : (l now : Linked) (ss rs : List PlainStructure) → StandsWell ss → functions_united l now ss ≡ Some rs → IsKept ss rs
functions_kept l now ss rs w e =
    let both : Option (List PlainStructure) = and_then (known_united (known_result l.type) (known_result now.type) ss) (listed_united l.type now.type) in
    let next : (qs : List PlainStructure) × (known_united (known_result l.type) (known_result now.type) ss ≡ Some qs) × (listed_united l.type now.type qs ≡ Some rs) =
    some_then (known_united (known_result l.type) (known_result now.type) ss) (listed_united l.type now.type) rs (some_if (lists_agree l.defines now.defines l.type now.type) both rs e).1 in
    let first : IsKept ss next.0 = known_kept (known_result l.type) (known_result now.type) ss next.0 w next.1 in
    kept_on ss next.0 rs first (listed_kept l.type now.type next.0 rs first.stands next.2)

apart_before : (t u : LinkedType) (ss rs : List PlainStructure) → StandsWell ss → (if beq (is_function t) (is_function u) then Some ss else None) ≡ Some rs → IsKept ss rs
apart_before t u ss rs w e = as_before ss rs w (some_if (beq (is_function t) (is_function u)) (Some ss) rs e).1

objects_kept : (t u : LinkedType) (ss rs : List PlainStructure) → StandsWell ss → objects_united t u ss ≡ Some rs → IsKept ss rs
objects_kept (an_object t) (an_object u) ss rs w e = (united_kept t u ss rs w e).0
objects_kept (an_object t) (a_function ws q) ss rs w e = apart_before (an_object t) (a_function ws q) ss rs w e
objects_kept (an_object t) (a_part_function p) ss rs w e = apart_before (an_object t) (a_part_function p) ss rs w e
objects_kept (an_object t) unknown_object ss rs w e = apart_before (an_object t) unknown_object ss rs w e
objects_kept (a_function vs r) u ss rs w e = apart_before (a_function vs r) u ss rs w e
objects_kept (a_part_function p) u ss rs w e = apart_before (a_part_function p) u ss rs w e
objects_kept unknown_object u ss rs w e = apart_before unknown_object u ss rs w e

linked_kept : (l now : Linked) (ss rs : List PlainStructure) → StandsWell ss → linked_united l now ss ≡ Some rs → IsKept ss rs
linked_kept l now ss rs w e =
    elim (either_some (is_function l.type && is_function now.type) (functions_united l now ss) (objects_united l.type now.type ss) rs e) as (λ _. IsKept ss rs) [
      | inl functions ↦ functions_kept l now ss rs w functions
      | inr objects ↦ objects_kept l.type now.type ss rs w objects
    ]

unless_kept : (l now : Linked) (ss rs : List PlainStructure) (found : Option (List PlainStructure)) → StandsWell ss →
    ((qs : List PlainStructure) → found ≡ Some qs → IsKept ss qs) → unless_compatible l now ss found ≡ Some rs → IsKept ss rs
unless_kept l now ss rs (Some after) w h e = h rs e
unless_kept l now ss rs None w h e = as_before ss rs w (some_if (are_compatible ss l now) (Some ss) rs e).1

with_kept : (l now : Linked) (ss rs : List PlainStructure) → StandsWell ss → agreed_with l now ss ≡ Some rs → IsKept ss rs
with_kept l now ss rs w e =
    let found : Option (List PlainStructure) = unless_compatible l now ss (linked_united l now ss) in
    elim (either_some (is_other l now) (if beq l.sensor now.sensor then found else None) (Some ss) rs e) as (λ _. IsKept ss rs) [
      | inl both ↦ unless_kept l now ss rs (linked_united l now ss) w (λ qs. linked_kept l now ss qs w) (some_if (beq l.sensor now.sensor) found rs both).1
      | inr same ↦ as_before ss rs w same
    ]

-- a declaration that agrees with those before it keeps the rest of the structures, and which of them are one
pub agreed_kept : (ls : List Linked) (now : Linked) (ss rs : List PlainStructure) → StandsWell ss → agreed ls now ss ≡ Some rs → IsKept ss rs
agreed_kept [] now ss rs w e = as_before ss rs w e
agreed_kept (l ∷ ls) now ss rs w e =
    let next : (qs : List PlainStructure) × (agreed_with l now ss ≡ Some qs) × (agreed ls now qs ≡ Some rs) = some_then (agreed_with l now ss) (agreed ls now) rs e in
    let first : IsKept ss next.0 = with_kept l now ss next.0 w next.1 in
    kept_on ss next.0 rs first (agreed_kept ls now next.0 rs first.stands next.2)

-- structures are built after a declaration, whether or not it agrees
pub turn_built : (agrees : Bool) (ls : List Linked) (now : Linked) (ss rs : List PlainStructure) → AreBuilt ss → given agrees rs ≡ agreed ls now ss → (agrees ≡ false → rs ≡ ss) → AreBuilt rs
turn_built true ls now ss rs b e same = kept_built ss rs b (agreed_kept ls now ss rs (built_stands ss b) (sym e))
turn_built false ls now ss rs b e same = subst AreBuilt (sym (same refl)) b

-- parameters that aren't as many aren't made one
pub parameters_apart : (ts us : List (Option PlainType)) (ss : List PlainStructure) → (length ts ≡ length us → ⊥) → parameters_united ts us ss ≡ None
parameters_apart [] [] ss h = absurd (h refl)
parameters_apart [] (u ∷ us) ss h = refl
parameters_apart (t ∷ ts) [] ss h = refl
parameters_apart (t ∷ ts) (u ∷ us) ss h = then_none (known_united t u ss) (parameters_united ts us) (λ x. parameters_apart ts us x (λ e. h (ap suc e)))

-- the parameters at a place of two functions are made one, and then those after them
pub parameters_turn : (ts us : List (Option PlainType)) (k : ℕ) (ss rs : List PlainStructure) (agrees : Bool) → k < length ts → k < length us →
    given agrees rs ≡ known_united (unwrap_or (slice_get ts k) None) (unwrap_or (slice_get us k) None) ss →
    parameters_united (drop k ts) (drop k us) ss ≡ (if agrees then parameters_united (drop (k + 1) ts) (drop (k + 1) us) rs else None)
parameters_turn ts us k ss rs agrees h g e =
    (λ i. parameters_united (drop_here ts k h i) (drop_here us k g i) ss)
    ∙ ap (λ o. and_then o (parameters_united (drop (k + 1) ts) (drop (k + 1) us))) (sym e)
    ∙ by_answer agrees
  where
    by_answer : (t : Bool) → and_then (given t rs) (parameters_united (drop (k + 1) ts) (drop (k + 1) us)) ≡ (if t then parameters_united (drop (k + 1) ts) (drop (k + 1) us) rs else None)
    by_answer true = refl
    by_answer false = refl

-- no parameters are left
pub parameters_done : (ts us : List (Option PlainType)) (k : ℕ) (ss : List PlainStructure) → length ts ≤ k → length us ≤ k → parameters_united (drop k ts) (drop k us) ss ≡ Some ss
parameters_done ts us k ss h g = λ i. parameters_united (rest_of ts k h i) (rest_of us k g i) ss

-- ## Names

-- each name's places are those of the first elements that have it
abbrev pub AreGrouped : {A : Type 0} → (A → Text) → List A → ℕ → (Text → List ℕ) → Type 0
AreGrouped of all k group = (name : Text) → rows_at (group name) all ≡ named of name (take k all)

pub rows_append : {A : Type 0} (all : List A) (places : List ℕ) (k : ℕ) → rows_at (places ++ k ∷ []) all ≡ rows_at places all ++ with_row (slice_get all k) []
rows_append all [] k = refl
rows_append {A = A} all (n ∷ places) k = ap (with_row (slice_get all n)) (rows_append all places k) ∙ row_append (slice_get all n) (rows_at places all) (with_row (slice_get all k) [])
  where
    row_append : (o : Option A) (xs ys : List A) → with_row o (xs ++ ys) ≡ with_row o xs ++ ys
    row_append None xs ys = refl
    row_append (Some x) xs ys = refl

pub named_append : {A : Type 0} (of : A → Text) (name : Text) (xs : List A) (a : A) → named of name (xs ++ a ∷ []) ≡ named of name xs ++ named of name (a ∷ [])
named_append of name [] a = refl
named_append {A = A} of name (x ∷ xs) a = ap (λ rest. if bytes_eq (of x) name then x ∷ rest else rest) (named_append of name xs a) ∙ passed (bytes_eq (of x) name) (named of name xs) (named of name (a ∷ []))
  where
    passed : (t : Bool) (ys zs : List A) → (if t then x ∷ (ys ++ zs) else ys ++ zs) ≡ (if t then x ∷ ys else ys) ++ zs
    passed true ys zs = refl
    passed false ys zs = refl

pub after : (k : ℕ) → suc k ≡ k + 1
after k = omega arith

pub take_more : {A : Type 0} (all : List A) (k : ℕ) (a : A) → slice_get all k ≡ Some a → take (suc k) all ≡ take k all ++ a ∷ []
take_more [] k a e = none_is_not a e
take_more (x ∷ all) zero a e = ap (λ y. y ∷ []) (some_is x a e)
take_more (x ∷ all) (suc k) a e = ap (λ rest. x ∷ rest) (take_more all k a e)

drop_more : {A : Type 0} (all : List A) (k : ℕ) (a : A) → slice_get all k ≡ Some a → drop k all ≡ a ∷ drop (suc k) all
drop_more [] k a e = none_is_not a e
drop_more (x ∷ all) zero a e = ap (λ y. y ∷ all) (some_is x a e)
drop_more (x ∷ all) (suc k) a e = drop_more all k a e

-- one place more is noted for the name of what stands there
pub grouped_on : {A : Type 0} (of : A → Text) (all : List A) (k : ℕ) (a : A) (group new : Text → List ℕ) → slice_get all k ≡ Some a → AreGrouped of all k group →
    ((name : Text) → new name ≡ (if bytes_eq (of a) name then group name ++ k ∷ [] else group name)) → AreGrouped of all (k + 1) new
grouped_on {A = A} of all k a group new there h is name =
    ap (λ places. rows_at places all) (is name)
    ∙ chosen (bytes_eq (of a) name)
    ∙ ap (λ rows. rows ++ (if bytes_eq (of a) name then a ∷ [] else [])) (h name)
    ∙ sym (named_append of name (take k all) a)
    ∙ ap (named of name) (sym (take_more all k a there))
    ∙ ap (λ n. named of name (take n all)) (after k)
  where
    chosen : (t : Bool) → rows_at (if t then group name ++ k ∷ [] else group name) all ≡ rows_at (group name) all ++ (if t then a ∷ [] else [])
    chosen true = rows_append all (group name) k ∙ ap (λ o. rows_at (group name) all ++ with_row o []) there
    chosen false = sym (append-nil (rows_at (group name) all))

-- ## Declarations

then_same : {A : Type 0} (o : Option A) (f g : A → Option A) → ((x : A) → f x ≡ g x) → and_then o f ≡ and_then o g
then_same None f g h = refl
then_same (Some x) f g h = h x

no_other : (a c : Bool) → (a && (false && c)) ≡ false
no_other true c = refl
no_other false c = refl

-- only declarations with the same name count
named_agreed : (ls : List Linked) (now : Linked) (ss : List PlainStructure) → agreed (named (λ (l : Linked). l.name) now.name ls) now ss ≡ agreed ls now ss
named_agreed [] now ss = refl
named_agreed (l ∷ ls) now ss = by_name (named_agreed ls now) (bytes_eq l.name now.name) refl
  where
    rest : List Linked
    rest = named (λ (l : Linked). l.name) now.name ls

    by_name : ((rs : List PlainStructure) → agreed rest now rs ≡ agreed ls now rs) → (t : Bool) → bytes_eq l.name now.name ≡ t → agreed (if bytes_eq l.name now.name then l ∷ rest else rest) now ss ≡ and_then (agreed_with l now ss) (agreed ls now)
    by_name same true e =
        ap (λ t. agreed (if t then l ∷ rest else rest) now ss) e
        ∙ then_same (agreed_with l now ss) (agreed rest now) (agreed ls now) same
    by_name same false e =
        let differs : is_other l now ≡ false = ap (λ t. not (nat_eq l.root now.root) && (t && not (l.internal || now.internal))) e ∙ no_other (not (nat_eq l.root now.root)) (not (l.internal || now.internal)) in
        ap (λ t. agreed (if t then l ∷ rest else rest) now ss) e
        ∙ same ss
        ∙ sym (ap (λ t. and_then (if t then (if beq l.sensor now.sensor then unless_compatible l now ss (linked_united l now ss) else None) else Some ss) (agreed ls now)) differs)

-- a declaration is taken with those before it
pub agreed_turn : (all : List Linked) (k : ℕ) (now : Linked) (places : List ℕ) (ss rs : List PlainStructure) (agrees : Bool) (h : Keep) (s : PlainStanding) (found : List Problem) → slice_get all k ≡ Some now →
    rows_at places all ≡ named (λ (l : Linked). l.name) now.name (take k all) → given agrees rs ≡ agreed (rows_at places all) now ss → (agrees ≡ false → rs ≡ ss) →
    all_agreeing h (take k all) (drop k all) (stood s ss found) ≡ all_agreeing h (take (k + 1) all) (drop (k + 1) all) (stood s rs (noted_where h (not agrees) subset.DefinedTwice now.at found))
agreed_turn all k now places ss rs agrees h s found there are e same =
    ap (λ rest. all_agreeing h (take k all) rest (stood s ss found)) (drop_more all k now there)
    ∙ (λ i. all_agreeing h (sym (take_more all k now there) i) (drop (suc k) all) (told i))
    ∙ ap (λ n. all_agreeing h (take n all) (drop n all) (stood s rs (noted_where h (not agrees) subset.DefinedTwice now.at found))) (after k)
  where
    by_answer : (t : Bool) → (t ≡ false → rs ≡ ss) → agreed_noted h now (stood s ss found) (given t rs) ≡ stood s rs (noted_where h (not t) subset.DefinedTwice now.at found)
    by_answer true same = refl
    by_answer false same = ap (λ ts. stood s ts (joined h found (record { code = subset.DefinedTwice; at = now.at } ∷ []))) (sym (same refl))

    told : agreeing h (take k all) now (stood s ss found) ≡ stood s rs (noted_where h (not agrees) subset.DefinedTwice now.at found)
    told =
        ap (agreed_noted h now (stood s ss found)) (sym (named_agreed (take k all) now ss) ∙ ap (λ ls. agreed ls now ss) (sym are) ∙ sym e)
        ∙ by_answer agrees same

-- a declaration is taken with one at a place, and then with the others
pub row_agreed : (o : Option Linked) (rest : List Linked) (now : Linked) (ss : List PlainStructure) → agreed (with_row o rest) now ss ≡ and_then (agreed_row o now ss) (agreed rest now)
row_agreed None rest now ss = refl
row_agreed (Some l) rest now ss = refl

pub row_at : (before : List ℕ) (k : ℕ) → k < length before → drop k before ≡ slice_index_or before k 0 ∷ drop (k + 1) before
row_at before k h = drop_more before k (slice_index_or before k 0) (slice_get-get_or before k 0 h) ∙ ap (λ n. slice_index_or before k 0 ∷ drop n before) (after k)

-- a declaration is taken with the next one of those before it
pub agreed_on : (before : List ℕ) (k : ℕ) (all : List Linked) (now : Linked) (ss rs : List PlainStructure) (agrees : Bool) → k < length before →
    given agrees rs ≡ agreed_row (slice_get all (slice_index_or before k 0)) now ss →
    agreed (rows_at (drop k before) all) now ss ≡ (if agrees then agreed (rows_at (drop (k + 1) before) all) now rs else None)
agreed_on before k all now ss rs agrees h e =
    ap (λ places. agreed (rows_at places all) now ss) (row_at before k h)
    ∙ row_agreed (slice_get all (slice_index_or before k 0)) (rows_at (drop (k + 1) before) all) now ss
    ∙ ap (λ o. and_then o (agreed (rows_at (drop (k + 1) before) all) now)) (sym e)
    ∙ by_answer agrees
  where
    by_answer : (t : Bool) → and_then (given t rs) (agreed (rows_at (drop (k + 1) before) all) now) ≡ (if t then agreed (rows_at (drop (k + 1) before) all) now rs else None)
    by_answer true = refl
    by_answer false = refl

-- ## Definitions

-- a definition is taken with those before it
pub defined_turn : (all : List Head) (k : ℕ) (f : Head) (twice : Bool) (h : Keep) (s : PlainStanding) (found : List Problem) → slice_get all k ≡ Some f → twice ≡ is_defined_before (take k all) f →
    definitions_noted h (take k all) (drop k all) (record s { problems = found }) ≡ definitions_noted h (take (k + 1) all) (drop (k + 1) all) (record s { problems = noted_where h twice subset.DefinedTwice f.at found })
defined_turn all k f twice h s found there e =
    ap (λ rest. definitions_noted h (take k all) rest (record s { problems = found })) (drop_more all k f there)
    ∙ (λ i. definitions_noted h (sym (take_more all k f there) i) (drop (suc k) all) (told i))
    ∙ ap (λ n. definitions_noted h (take n all) (drop n all) (record s { problems = noted_where h twice subset.DefinedTwice f.at found })) (after k)
  where
    by_test : (t : Bool) → refusing h t subset.DefinedTwice f.at (record s { problems = found }) ≡ record s { problems = noted_where h t subset.DefinedTwice f.at found }
    by_test true = refl
    by_test false = refl

    told : refusing h (is_defined_before (take k all) f) subset.DefinedTwice f.at (record s { problems = found }) ≡ record s { problems = noted_where h twice subset.DefinedTwice f.at found }
    told = ap (λ t. refusing h t subset.DefinedTwice f.at (record s { problems = found })) (sym e) ∙ by_test twice

-- a definition is taken with one at a place, and then with the others
pub row_defined : (o : Option Head) (rest : List Head) (f : Head) → is_defined_before (with_row o rest) f ≡ (is_defined_row o f || is_defined_before rest f)
row_defined None rest f = refl
row_defined (Some g) rest f = refl

-- a definition is taken with the next one of those before it
pub defined_on : (before : List ℕ) (k : ℕ) (all : List Head) (f : Head) → k < length before →
    is_defined_before (rows_at (drop k before) all) f ≡ (is_defined_row (slice_get all (slice_index_or before k 0)) f || is_defined_before (rows_at (drop (k + 1) before) all) f)
defined_on before k all f h =
    ap (λ places. is_defined_before (rows_at places all) f) (row_at before k h)
    ∙ row_defined (slice_get all (slice_index_or before k 0)) (rows_at (drop (k + 1) before) all) f

-- ## The end of a walk

pub drop_all : {A : Type 0} (all : List A) (k : ℕ) → length all ≤ k → drop k all ≡ []
drop_all [] zero h = refl
drop_all [] (suc k) h = refl
drop_all (a ∷ all) zero h = absurd (omega (arith, h))
drop_all (a ∷ all) (suc k) h = drop_all all k (omega (arith, h))

-- what stands at a place of a list, as another list has it
pub mapped_at : {A B : Type 0} (f : A → B) (all : List A) (k : ℕ) (d : A) → k < length all → slice_get (map f all) k ≡ Some (f (slice_index_or all k d))
mapped_at f all k d h = slice_get-map f all k ∙ ap (option_map f) (slice_get-get_or all k d h)
