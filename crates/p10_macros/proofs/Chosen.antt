-- The places that are chosen at a use: each as often as it stands among those of the words for which something is put, and in order.
use Rattle.std.proofs.Common.{◌≡◌, ℕ, suc, ◌+◌, ◌<◌, ◌≤◌, ◌==◌, List, [], ◌∷◌, ◌++◌, length, map, get_or, Bool, true, false, ◌&&◌, cond, ltb, Option, Some, None, inl, inr, refl, sym, subst, ap, ◌∙◌, arith}
use Rattle.std.specs.Prelude.{is_none}
use Rattle.std.specs.List.{All, count_by, flat_map, slice_get}
use Rattle.std.specs.List.Sorted.{IsPermutation, IsNonDecreasingBy}
use Rattle.std.proofs.lemmas.Bool.{cases_lt}
use Rattle.std.proofs.lemmas.Bool.Decides.{nat_tests}
use Rattle.std.proofs.lemmas.List.{length-map}
use Rattle.std.proofs.lemmas.Simd.{map-map}
use Rattle.std.proofs.lemmas.List.Sums.{sum_by-cons, sum_by-append}
use Rattle.std.proofs.lemmas.List.Sorted.{sum_by-IsPermutation}
use Rattle.std.proofs.lemmas.List.Elements.{All-weaker, All-from_get_or}
use Rattle.p10_base.specs.declared.word.Word.{Word}
use Rattle.p10_base.specs.Words.{Text, plain_word}
use Rattle.p10_macros.specs.declared.pending.Traced.{Traced}
use Rattle.p10_macros.specs.private.Places.{place_named, places_of, places_that, names, is_put, IsBelow, part_there}
use Rattle.p10_macros.specs.Uses.{texts_of}
use Rattle.p10_macros.proofs.PlacesThat.{places_agree, places_below, parts_chosen}

-- ## How often places stand in lists

-- how often a place stands in a list
abbrev pub times : ℕ → List ℕ → ℕ
times place places = count_by (λ (other : ℕ). other == place) places

-- each place stands in both as often
abbrev pub AreAsOften : List ℕ → List ℕ → Type 0
AreAsOften these those = (place : ℕ) → times place these ≡ times place those

times-cons : (place other : ℕ) (places : List ℕ) → times place (other ∷ places) ≡ cond (other == place) 1 0 + times place places
times-cons place other places = sum_by-cons (λ (x : ℕ). cond (x == place) 1 0) other places

times-append : (place : ℕ) (these those : List ℕ) → times place (these ++ those) ≡ times place these + times place those
times-append place these those = sum_by-append (λ (x : ℕ). cond (x == place) 1 0) these those

permuted_as_often : (these those : List ℕ) → IsPermutation these those → AreAsOften those these
permuted_as_often these those moved place = sum_by-IsPermutation (λ (x : ℕ). cond (x == place) 1 0) these those moved

-- ## Tests of which each element passes one at most

-- how often a place is that of a first element
abbrev first_times : Bool → Bool → ℕ
first_times passes same = cond passes (cond same 1 0) 0

first_counted : (place start : ℕ) (passes : Bool) (places : List ℕ) → times place (cond passes (start ∷ places) places) ≡ first_times passes (start == place) + times place places
first_counted place start true places = times-cons place start places
first_counted place start false places = omega arith

first_both : (a b c same : Bool) → cond c 1 0 ≡ cond a 1 0 + cond b 1 0 → first_times c same ≡ first_times a same + first_times b same
first_both true true true same sum = absurd (omega (arith, sum))
first_both true true false same sum = absurd (omega (arith, sum))
first_both true false true same sum = omega arith
first_both true false false same sum = absurd (omega (arith, sum))
first_both false true true same sum = omega arith
first_both false true false same sum = absurd (omega (arith, sum))
first_both false false true same sum = absurd (omega (arith, sum))
first_both false false false same sum = omega arith

counted_both : {A : Type 0} (a b c : A → Bool) → ((x : A) → cond (c x) 1 0 ≡ cond (a x) 1 0 + cond (b x) 1 0) → (place start : ℕ) (xs : List A) →
    times place (places_that c start xs) ≡ times place (places_that a start xs) + times place (places_that b start xs)
counted_both a b c sum place start [] = omega arith
counted_both a b c sum place start (x ∷ xs) =
    omega (
      arith,
      first_counted place start (c x) (places_that c (suc start) xs),
      first_counted place start (a x) (places_that a (suc start) xs),
      first_counted place start (b x) (places_that b (suc start) xs),
      first_both (a x) (b x) (c x) (start == place) (sum x),
      counted_both a b c sum place (suc start) xs,
    )

-- ## Parameters one by one

-- something is put for the word, which names none of the parameters from one of them on
abbrev pub is_among : List (List Traced) → ℕ → Option ℕ → Bool
is_among values count None = true
is_among values count (Some parameter) = ltb parameter count && is_put values (Some parameter)

pub among_none : (own : List ℕ) (values : List (List Traced)) (all : List (Option ℕ)) → own ≡ places_that is_none 0 all → AreAsOften own (places_that (is_among values 0) 0 all)
among_none own values all is place = ap (times place) (is ∙ places_agree is_none (is_among values 0) 0 all (All-from_get_or (λ (found : Option ℕ). is_none found ≡ is_among values 0 found) all None (λ i less. same (get_or all i None))))
  where
    same : (found : Option ℕ) → is_none found ≡ is_among values 0 found
    same None = refl
    same (Some parameter) = grind (arith, nat_tests)

-- the words of one more parameter, whose value has words or is missing
pub among_more : (places places' row : List ℕ) (values : List (List Traced)) (all : List (Option ℕ)) (parameter : ℕ) → is_put values (Some parameter) ≡ true → row ≡ places_that (names parameter) 0 all →
    places' ≡ places ++ row → AreAsOften places (places_that (is_among values parameter) 0 all) → AreAsOften places' (places_that (is_among values (parameter + 1)) 0 all)
among_more places places' row values all parameter puts named more before place =
    omega (
      arith,
      ap (times place) more,
      times-append place places row,
      ap (times place) named,
      before place,
      counted_both (is_among values parameter) (names parameter) (is_among values (parameter + 1)) sum place 0 all,
    )
  where
    one : (other : ℕ) → cond (is_among values (parameter + 1) (Some other)) 1 0 ≡ cond (is_among values parameter (Some other)) 1 0 + cond (other == parameter) 1 0
    one other = grind (arith, nat_tests, puts)

    sum : (found : Option ℕ) → cond (is_among values (parameter + 1) found) 1 0 ≡ cond (is_among values parameter found) 1 0 + cond (names parameter found) 1 0
    sum None = omega arith
    sum (Some other) = one other

-- the value of one more parameter has no words
pub among_same : (places : List ℕ) (values : List (List Traced)) (all : List (Option ℕ)) (parameter : ℕ) → is_put values (Some parameter) ≡ false →
    AreAsOften places (places_that (is_among values parameter) 0 all) → AreAsOften places (places_that (is_among values (parameter + 1)) 0 all)
among_same places values all parameter nothing before place =
    before place ∙ ap (times place) (places_agree (is_among values parameter) (is_among values (parameter + 1)) 0 all
    (All-from_get_or (λ (found : Option ℕ). is_among values parameter found ≡ is_among values (parameter + 1) found) all None (λ i less. same (get_or all i None))))
  where
    same : (found : Option ℕ) → is_among values parameter found ≡ is_among values (parameter + 1) found
    same None = refl
    same (Some other) = grind (arith, nat_tests, nothing)

-- ## Ascending places

-- no place is below the one before it
abbrev Ascends : ℕ → List ℕ → Type 0
Ascends low [] = Unit {0}
Ascends low (place ∷ places) = (low ≤ place) × Ascends place places

ascends : (low : ℕ) (places : List ℕ) → IsNonDecreasingBy (λ (x : ℕ). x) places → (0 < length places → low ≤ get_or places 0 0) → Ascends low places
ascends low [] up first = tt
ascends low (place ∷ places) up first = (first (omega arith), ascends place places (λ i j d le less. up (suc i) (suc j) d (omega (arith, le)) (omega (arith, less))) (λ some. up 0 1 0 (omega arith) (omega (arith, some))))

places_ascend : {A : Type 0} (test : A → Bool) (low start : ℕ) (xs : List A) → low ≤ start → Ascends low (places_that test start xs)
places_ascend test low start [] less = tt
places_ascend test low start (x ∷ xs) less = go (test x) (places_ascend test start (suc start) xs (omega arith)) (places_ascend test low (suc start) xs (omega (arith, less)))
  where
    go : (b : Bool) → Ascends start (places_that test (suc start) xs) → Ascends low (places_that test (suc start) xs) → Ascends low (cond b (start ∷ places_that test (suc start) xs) (places_that test (suc start) xs))
    go true behind below = (less, behind)
    go false behind below = below

absent : (place low : ℕ) (places : List ℕ) → place < low → Ascends low places → times place places ≡ 0
absent place low [] less up = refl
absent place low (other ∷ places) less (le, up) =
    let other' : (other == place) ≡ false = grind (arith, nat_tests, less, le) in
    omega (arith, times-cons place other places, ap {B = ℕ} (λ (b : Bool). cond b 1 0) other', absent place other places (omega (arith, less, le)) up)

present : (place : ℕ) (places : List ℕ) → 0 < times place (place ∷ places)
present place places =
    let same : (place == place) ≡ true = grind (arith, nat_tests) in
    omega (arith, times-cons place place places, ap {B = ℕ} (λ (b : Bool). cond b 1 0) same)

not_below : (this that : ℕ) (these those : List ℕ) → Ascends that those → AreAsOften (this ∷ these) (that ∷ those) → that ≤ this
not_below this that these those up same =
    elim (cases_lt this that) [
      | inl less ↦ absurd (omega (arith, same this, present this these, absent this that (that ∷ those) less (omega arith, up)))
      | inr le ↦ le
    ]

-- ascending lists in which each place stands as often are the same
ascending_same : (low : ℕ) (these those : List ℕ) → Ascends low these → Ascends low those → AreAsOften these those → these ≡ those
ascending_same low [] [] up up' same = refl
ascending_same low [] (that ∷ those) up up' same = absurd (omega (arith, same that, present that those))
ascending_same low (this ∷ these) [] up up' same = absurd (omega (arith, same this, present this these))
ascending_same low (this ∷ these) (that ∷ those) (le, up) (le', up') same =
    let one : this ≡ that = omega (arith, not_below this that these those up' same, not_below that this those these up (λ place. sym (same place))) in
    let rest : AreAsOften these those = λ place. omega (arith, same place, times-cons place this these, times-cons place that those, ap {B = ℕ} (λ (n : ℕ). cond (n == place) 1 0) one) in
    ap (λ (l : List ℕ). this ∷ l) (ascending_same this these those up (subst (λ (n : ℕ). Ascends n those) (sym one) up') rest) ∙ ap (λ (n : ℕ). n ∷ those) one

-- what is left after all parameters, in order
pub chosen_all : (before after : List ℕ) (values : List (List Traced)) (all : List (Option ℕ)) (count parameter : ℕ) → count ≤ parameter → All (IsBelow count) all →
    AreAsOften before (places_that (is_among values parameter) 0 all) → IsPermutation before after → IsNonDecreasingBy (λ (x : ℕ). x) after → after ≡ places_that (is_put values) 0 all
chosen_all before after values all count parameter whole within as_often moved up =
    ascending_same 0 after (places_that (is_put values) 0 all) (ascends 0 after up (λ some. omega arith)) (places_ascend (is_put values) 0 0 all (omega arith))
    (λ place. permuted_as_often before after moved place ∙ as_often place ∙ ap (times place) (places_agree (is_among values parameter) (is_put values) 0 all
    (All-weaker (IsBelow count) (λ (found : Option ℕ). is_among values parameter found ≡ is_put values found) same all within)))
  where
    same : (found : Option ℕ) → IsBelow count found → is_among values parameter found ≡ is_put values found
    same None below = refl
    same (Some other) below = let less : other < count = below other refl in grind (arith, nat_tests, less, whole)

-- ## The words of a replacement list

-- the places of words of the list
pub chosen_below : (parameters : Option (List Text)) (body : List Word) (all : List (Option ℕ)) (places : List ℕ) (test : Option ℕ → Bool) → 0 < length (texts_of parameters) → all ≡ places_of parameters (map plain_word body) →
    places ≡ places_that test 0 all → All (λ (place : ℕ). place < length body) places
chosen_below None body all places test some is chosen = absurd (omega (arith, some))
chosen_below (Some texts) body all places test some is chosen =
    let many : 0 + length (map (place_named texts) (map plain_word body)) ≡ length body = omega (arith, length-map (map plain_word body) (place_named texts), length-map body plain_word) in
    subst (λ (l : List ℕ). All (λ (place : ℕ). place < length body) l) (sym (chosen ∙ ap (places_that test 0) is))
    (subst (λ (n : ℕ). All (λ (place : ℕ). place < n) (places_that test 0 (map (place_named texts) (map plain_word body)))) many (places_below test 0 (map (place_named texts) (map plain_word body))))

-- for the others nothing is put
pub parts_whole : {A : Type 0} (parameters : Option (List Text)) (body : List Word) (all : List (Option ℕ)) (places : List ℕ) (values : List (List Traced)) → 0 < length (texts_of parameters) → all ≡ places_of parameters (map plain_word body) →
    places ≡ places_that (is_put values) 0 all → (part : Word → List A) → ((word : Word) → is_put values (place_named (texts_of parameters) (plain_word word)) ≡ false → part word ≡ []) →
    flat_map (λ (place : ℕ). part_there part (slice_get body place)) places ≡ flat_map part body
parts_whole None body all places values some is chosen part empty = absurd (omega (arith, some))
parts_whole {A} (Some texts) body all places values some is chosen part empty =
    ap (λ (l : List ℕ). flat_map (λ (place : ℕ). part_there part (slice_get body place)) l) (chosen ∙ ap (places_that (is_put values) 0) (is ∙ map-map (place_named texts) plain_word body))
    ∙ parts_chosen (λ (word : Word). place_named texts (plain_word word)) (is_put values) part body empty 0 body refl
