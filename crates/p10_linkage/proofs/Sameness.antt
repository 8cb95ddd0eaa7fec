-- Types that are one already: making them one changes nothing.
use Rattle.std.proofs.Common.{◌≡◌, ℕ, zero, suc, nat_eq, Bool, true, false, ◌&&◌, if◌then◌else◌, List, [], ◌∷◌, map, length, Option, Some, None, refl, sym, ◌∙◌, ap, subst, eq-eqb}
use Rattle.std.proofs.lemmas.Bool.{eqb-true}
use Rattle.std.specs.Bool.{beq}
use Rattle.p10_int.specs.declared.types.IntType.{IntType}
use Rattle.p10_core.specs.Types.{PlainType, void, integer, pointer, array, structure, PlainStructure, representative_of}
use Rattle.p10_core.specs.Rows.{number_of, same_integer}
use Rattle.p10_linkage.specs.Linkage.{LinkedType, a_function, an_object, a_part_function, unknown_object, is_function, known_result, lists_agree, all_known, Linked}
use Rattle.p10_linkage.specs.Uniting.{and_then, types_united, united_within, united}
use Rattle.p10_linkage.specs.Between.{known_united, parameters_united, listed_united, objects_united, linked_united}
use Rattle.p10_linkage.specs.Laws.{as_one}
use Rattle.p10_linkage.specs.declared.meeting.Meeting.{Meeting}
use Rattle.p10_linkage.specs.declared.meeting.Meeting.TheVariants.{Never, Always}
use Rattle.p10_linkage.specs.private.Meetings.{meeting_of, slice_or}
use Rattle.p10_linkage.specs.private.Covering.{kind_as_one, is_all_known, is_met, all_met, kinds_met}
use Rattle.p10_linkage.proofs.Agreements.{same_flag}
use Rattle.p10_linkage.proofs.OneType.{both_true, same_integers}
use Rattle.p10_linkage.proofs.UnitedAlike.{same_marks, first_true}

if_true : {A : Type 0} (b : Bool) (x y : A) → b ≡ true → (if b then x else y) ≡ x
if_true true x y e = refl
if_true false x y e = absurd cc

marks_same : (c d : Bool) → c ≡ d → beq c d ≡ true
marks_same c d e = subst (λ x. beq c x ≡ true) e (same_flag c)

integers_same : (c d : Bool) (i j : IntType) → c ≡ d → i ≡ j → (beq c d && same_integer i j) ≡ true
integers_same c d i j e f =
    ap (λ b. b && same_integer i j) (marks_same c d e) ∙ subst (λ k. same_integer i k ≡ true) f (eq-eqb (number_of i) (number_of i) refl)

-- ## Making them one

types_same : (unite : ℕ → ℕ → List PlainStructure → Option (List PlainStructure)) → ((n : ℕ) (ss : List PlainStructure) → unite n n ss ≡ Some ss) →
    (t u : PlainType) (ss : List PlainStructure) → as_one ss t ≡ as_one ss u → types_united unite t u ss ≡ Some ss
types_same unite h (void c) (void d) ss e =
    let marks : c ≡ d = cc in
    if_true (beq c d) (Some ss) None (marks_same c d marks)
types_same unite h (void c) (integer d j) ss e = absurd cc
types_same unite h (void c) (pointer d u) ss e = absurd cc
types_same unite h (void c) (array d u n) ss e = absurd cc
types_same unite h (void c) (structure d n) ss e = absurd cc
types_same unite h (integer c i) (void d) ss e = absurd cc
types_same unite h (integer c i) (integer d j) ss e =
    let marks : c ≡ d = cc in
    let kinds : i ≡ j = cc in
    if_true (beq c d && same_integer i j) (Some ss) None (integers_same c d i j marks kinds)
types_same unite h (integer c i) (pointer d u) ss e = absurd cc
types_same unite h (integer c i) (array d u n) ss e = absurd cc
types_same unite h (integer c i) (structure d n) ss e = absurd cc
types_same unite h (pointer c t) (void d) ss e = absurd cc
types_same unite h (pointer c t) (integer d j) ss e = absurd cc
types_same unite h (pointer c t) (pointer d u) ss e =
    let marks : c ≡ d = cc in
    let targets : as_one ss t ≡ as_one ss u = cc in
    if_true (beq c d) (types_united unite t u ss) None (marks_same c d marks) ∙ types_same unite h t u ss targets
types_same unite h (pointer c t) (array d u n) ss e = absurd cc
types_same unite h (pointer c t) (structure d n) ss e = absurd cc
types_same unite h (array c t m) (void d) ss e = absurd cc
types_same unite h (array c t m) (integer d j) ss e = absurd cc
types_same unite h (array c t m) (pointer d u) ss e = absurd cc
types_same unite h (array c t m) (array d u n) ss e =
    let elements : as_one ss t ≡ as_one ss u = cc in
    let lengths : m ≡ n = cc in
    if_true (nat_eq m n) (types_united unite t u ss) None (eq-eqb m n lengths) ∙ types_same unite h t u ss elements
types_same unite h (array c t m) (structure d n) ss e = absurd cc
types_same unite h (structure c m) (void d) ss e = absurd cc
types_same unite h (structure c m) (integer d j) ss e = absurd cc
types_same unite h (structure c m) (pointer d u) ss e = absurd cc
types_same unite h (structure c m) (array d u n) ss e = absurd cc
types_same unite h (structure c m) (structure d n) ss e =
    let marks : c ≡ d = cc in
    let stands : representative_of ss m ≡ representative_of ss n = cc in
    if_true (beq c d) (unite (representative_of ss m) (representative_of ss n) ss) None (marks_same c d marks)
    ∙ ap (λ k. unite (representative_of ss m) k ss) (sym stands)
    ∙ h (representative_of ss m) ss

within_same : (pairs n : ℕ) (ss : List PlainStructure) → united_within pairs n n ss ≡ Some ss
within_same zero n ss = if_true (nat_eq n n) (Some ss) None (eq-eqb n n refl)
within_same (suc pairs) n ss = if_true (nat_eq n n) (Some ss) _ (eq-eqb n n refl)

united_same : (t u : PlainType) (ss : List PlainStructure) → as_one ss t ≡ as_one ss u → united t u ss ≡ Some ss
united_same t u ss e = types_same (united_within (length ss)) (within_same (length ss)) t u ss e

parameters_same : (ts us : List PlainType) (ss : List PlainStructure) → map (as_one ss) ts ≡ map (as_one ss) us → parameters_united (all_known ts) (all_known us) ss ≡ Some ss
parameters_same [] [] ss e = refl
parameters_same [] (u ∷ us) ss e = absurd cc
parameters_same (t ∷ ts) [] ss e = absurd cc
parameters_same (t ∷ ts) (u ∷ us) ss e =
    let first : as_one ss t ≡ as_one ss u = cc in
    let rest : map (as_one ss) ts ≡ map (as_one ss) us = cc in
    ap (λ o. and_then o (parameters_united (all_known ts) (all_known us))) (united_same t u ss first) ∙ parameters_same ts us ss rest

-- two declarations as one, by what they declare
abbrev kinds_united : Bool → Bool → LinkedType → LinkedType → List PlainStructure → Option (List PlainStructure)
kinds_united defines defining t u ss =
    if is_function t && is_function u
    then (if lists_agree defines defining t u then and_then (known_united (known_result t) (known_result u) ss) (listed_united t u) else None)
    else objects_united t u ss

kinds_same : (defines defining : Bool) (t u : LinkedType) (ss : List PlainStructure) → is_all_known t ≡ true → kind_as_one ss t ≡ kind_as_one ss u → kinds_united defines defining t u ss ≡ Some ss
kinds_same b d (a_function ts r) (a_function us q) ss k e =
    let results : as_one ss r ≡ as_one ss q = cc in
    let parameters : map (as_one ss) ts ≡ map (as_one ss) us = cc in
    ap (λ o. and_then o (listed_united (a_function ts r) (a_function us q))) (united_same r q ss results) ∙ parameters_same ts us ss parameters
kinds_same b d (a_function ts r) (an_object u) ss k e = absurd cc
kinds_same b d (a_function ts r) (a_part_function p) ss k e = absurd cc
kinds_same b d (a_function ts r) unknown_object ss k e = absurd cc
kinds_same b d (an_object t) (a_function us q) ss k e = absurd cc
kinds_same b d (an_object t) (an_object u) ss k e =
    let types : as_one ss t ≡ as_one ss u = cc in
    united_same t u ss types
kinds_same b d (an_object t) (a_part_function p) ss k e = absurd cc
kinds_same b d (an_object t) unknown_object ss k e = absurd cc
kinds_same b d (a_part_function p) u ss k e = absurd cc
kinds_same b d unknown_object u ss k e = absurd cc

-- making declarations one that declare the same already changes nothing
pub linked_same : (l now : Linked) (ss : List PlainStructure) → is_all_known l.type ≡ true → kind_as_one ss l.type ≡ kind_as_one ss now.type → linked_united l now ss ≡ Some ss
linked_same l now ss k e = kinds_same l.defines now.defines l.type now.type ss k e

-- ## What the code tells by numbers

always_is : (b : Bool) (numbers : List ℕ) → is_met numbers (if b then Always else Never) ≡ true → b ≡ true
always_is true numbers e = refl
always_is false numbers e = absurd cc

unless_is : (b : Bool) (numbers : List ℕ) (m : Meeting) → is_met numbers (if b then m else Never) ≡ true → (b ≡ true) × (is_met numbers m ≡ true)
unless_is true numbers m e = (refl, e)
unless_is false numbers m e = absurd cc

-- the numbers are those of the structures that stand for others
abbrev pub StandBy : List ℕ → List PlainStructure → Type 0
StandBy numbers ss = (n : ℕ) → representative_of ss n ≡ slice_or numbers n

types_one : (numbers : List ℕ) (ss : List PlainStructure) → StandBy numbers ss → (t u : PlainType) → is_met numbers (meeting_of t u) ≡ true → as_one ss t ≡ as_one ss u
types_one numbers ss h (void c) (void d) e = ap void (same_marks c d (always_is (beq c d) numbers e))
types_one numbers ss h (void c) (integer d j) e = absurd cc
types_one numbers ss h (void c) (pointer d u) e = absurd cc
types_one numbers ss h (void c) (array d u n) e = absurd cc
types_one numbers ss h (void c) (structure d n) e = absurd cc
types_one numbers ss h (integer c i) (void d) e = absurd cc
types_one numbers ss h (integer c i) (integer d j) e =
    let both : (beq c d && same_integer i j) ≡ true = always_is (beq c d && same_integer i j) numbers e in
    let marks : c ≡ d = same_marks c d (first_true (beq c d) (same_integer i j) both) in
    let kinds : i ≡ j = same_integers i j (both_true (beq c d) (same_integer i j) both) in
    (λ x. integer (marks x) (kinds x))
types_one numbers ss h (integer c i) (pointer d u) e = absurd cc
types_one numbers ss h (integer c i) (array d u n) e = absurd cc
types_one numbers ss h (integer c i) (structure d n) e = absurd cc
types_one numbers ss h (pointer c t) (void d) e = absurd cc
types_one numbers ss h (pointer c t) (integer d j) e = absurd cc
types_one numbers ss h (pointer c t) (pointer d u) e =
    let both : (beq c d ≡ true) × (is_met numbers (meeting_of t u) ≡ true) = unless_is (beq c d) numbers (meeting_of t u) e in
    let marks : c ≡ d = same_marks c d both.0 in
    let targets : as_one ss t ≡ as_one ss u = types_one numbers ss h t u both.1 in
    (λ x. pointer (marks x) (targets x))
types_one numbers ss h (pointer c t) (array d u n) e = absurd cc
types_one numbers ss h (pointer c t) (structure d n) e = absurd cc
types_one numbers ss h (array c t m) (void d) e = absurd cc
types_one numbers ss h (array c t m) (integer d j) e = absurd cc
types_one numbers ss h (array c t m) (pointer d u) e = absurd cc
types_one numbers ss h (array c t m) (array d u n) e =
    let both : (nat_eq m n ≡ true) × (is_met numbers (meeting_of t u) ≡ true) = unless_is (nat_eq m n) numbers (meeting_of t u) e in
    let lengths : m ≡ n = eqb-true m n both.0 in
    let elements : as_one ss t ≡ as_one ss u = types_one numbers ss h t u both.1 in
    (λ x. array false (elements x) (lengths x))
types_one numbers ss h (array c t m) (structure d n) e = absurd cc
types_one numbers ss h (structure c m) (void d) e = absurd cc
types_one numbers ss h (structure c m) (integer d j) e = absurd cc
types_one numbers ss h (structure c m) (pointer d u) e = absurd cc
types_one numbers ss h (structure c m) (array d u n) e = absurd cc
types_one numbers ss h (structure c m) (structure d n) e =
    let both : (beq c d ≡ true) × (nat_eq (slice_or numbers m) (slice_or numbers n) ≡ true) = unless_is (beq c d) numbers _ e in
    let marks : c ≡ d = same_marks c d both.0 in
    let stands : representative_of ss m ≡ representative_of ss n = h m ∙ eqb-true (slice_or numbers m) (slice_or numbers n) both.1 ∙ sym (h n) in
    (λ x. structure (marks x) (stands x))

all_one : (numbers : List ℕ) (ss : List PlainStructure) → StandBy numbers ss → (ts us : List PlainType) → all_met numbers ts us ≡ true → map (as_one ss) ts ≡ map (as_one ss) us
all_one numbers ss h [] [] e = refl
all_one numbers ss h [] (u ∷ us) e = absurd cc
all_one numbers ss h (t ∷ ts) [] e = absurd cc
all_one numbers ss h (t ∷ ts) (u ∷ us) e =
    let first : as_one ss t ≡ as_one ss u = types_one numbers ss h t u (first_true (is_met numbers (meeting_of t u)) (all_met numbers ts us) e) in
    let rest : map (as_one ss) ts ≡ map (as_one ss) us = all_one numbers ss h ts us (both_true (is_met numbers (meeting_of t u)) (all_met numbers ts us) e) in
    (λ x. first x ∷ rest x)

-- what is known and one by numbers is
pub kinds_one : (numbers : List ℕ) (ss : List PlainStructure) → StandBy numbers ss → (t u : LinkedType) → kinds_met numbers t u ≡ true →
    (is_all_known t ≡ true) × (kind_as_one ss t ≡ kind_as_one ss u)
kinds_one numbers ss h (a_function ts r) (a_function us q) e =
    let results : as_one ss r ≡ as_one ss q = types_one numbers ss h r q (first_true (is_met numbers (meeting_of r q)) (all_met numbers ts us) e) in
    let parameters : map (as_one ss) ts ≡ map (as_one ss) us = all_one numbers ss h ts us (both_true (is_met numbers (meeting_of r q)) (all_met numbers ts us) e) in
    (refl, λ x. a_function (parameters x) (results x))
kinds_one numbers ss h (a_function ts r) (an_object u) e = absurd cc
kinds_one numbers ss h (a_function ts r) (a_part_function p) e = absurd cc
kinds_one numbers ss h (a_function ts r) unknown_object e = absurd cc
kinds_one numbers ss h (an_object t) (a_function us q) e = absurd cc
kinds_one numbers ss h (an_object t) (an_object u) e = (refl, ap an_object (types_one numbers ss h t u e))
kinds_one numbers ss h (an_object t) (a_part_function p) e = absurd cc
kinds_one numbers ss h (an_object t) unknown_object e = absurd cc
kinds_one numbers ss h (a_part_function p) u e = absurd cc
kinds_one numbers ss h unknown_object u e = absurd cc

neither : (b : Bool) → (b && false) ≡ false
neither true = refl
neither false = refl

-- types that aren't as many aren't one
pub all_apart : (numbers : List ℕ) (ts us : List PlainType) → (length ts ≡ length us → ⊥) → all_met numbers ts us ≡ false
all_apart numbers [] [] h = absurd (h refl)
all_apart numbers [] (u ∷ us) h = refl
all_apart numbers (t ∷ ts) [] h = refl
all_apart numbers (t ∷ ts) (u ∷ us) h =
    ap (λ b. is_met numbers (meeting_of t u) && b) (all_apart numbers ts us (λ e. h (ap suc e))) ∙ neither (is_met numbers (meeting_of t u))
