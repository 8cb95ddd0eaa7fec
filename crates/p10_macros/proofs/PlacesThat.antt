-- The places of the elements of a list for which a test holds.
use Rattle.std.proofs.Common.{◌≡◌, ℕ, suc, ◌+◌, ◌<◌, List, [], ◌∷◌, ◌++◌, length, map, take, drop, get_or, Bool, true, false, cond, Option, Some, None, zero, Vec, Global, refl, sym, subst, ap, ◌∙◌, arith}
use Rattle.std.specs.Prelude.{is_none}
use Rattle.std.specs.List.{All, flat_map, slice_get}
use Rattle.std.proofs.lemmas.List.{take_more, length-take-le, drop-drop}
use Rattle.std.proofs.lemmas.List.Elements.{All-nil, All-cons, All-head, All-tail}
use Rattle.p10_macros.specs.private.Places.{places_that, names, IsBelow, AreByParameter, IsPutInRow, part_there}

module _ {A : Type 0} (test : A → Bool) where
  places_that-append : (start : ℕ) (xs ys : List A) → places_that test start (xs ++ ys) ≡ places_that test start xs ++ places_that test (start + length xs) ys
  places_that-append start [] ys = ap (λ (n : ℕ). places_that test n ys) (omega arith)
  places_that-append start (x ∷ xs) ys =
      go (test x) (places_that-append (suc start) xs ys ∙ ap (λ (n : ℕ). places_that test (suc start) xs ++ places_that test n ys) (omega arith))
    where
      go : (b : Bool) → places_that test (suc start) (xs ++ ys) ≡ places_that test (suc start) xs ++ places_that test (start + length (x ∷ xs)) ys →
          cond b (start ∷ places_that test (suc start) (xs ++ ys)) (places_that test (suc start) (xs ++ ys))
          ≡ cond b (start ∷ places_that test (suc start) xs) (places_that test (suc start) xs) ++ places_that test (start + length (x ∷ xs)) ys
      go true again = ap (λ (l : List ℕ). start ∷ l) again
      go false again = again

  -- one more element
  places_that_more : (xs : List A) (place : ℕ) (none : A) → place < length xs →
      places_that test 0 (take (place + 1) xs) ≡ places_that test 0 (take place xs) ++ cond (test (get_or xs place none)) (place ∷ []) []
  places_that_more xs place none less =
      ap (λ (l : List A). places_that test 0 l) (take_more xs place none less)
      ∙ places_that-append 0 (take place xs) (get_or xs place none ∷ [])
      ∙ ap (λ (n : ℕ). places_that test 0 (take place xs) ++ cond (test (get_or xs place none)) (n ∷ []) []) (omega (arith, length-take-le place xs))

  pub places_below : (start : ℕ) (xs : List A) → All (λ (place : ℕ). place < start + length xs) (places_that test start xs)
  places_below start [] = All-nil (λ (place : ℕ). place < start + length {A = A} [])
  places_below start (x ∷ xs) =
      go (test x) (subst (λ (n : ℕ). All (λ (place : ℕ). place < n) (places_that test (suc start) xs)) (omega arith) (places_below (suc start) xs))
    where
      go : (b : Bool) → All (λ (place : ℕ). place < start + length (x ∷ xs)) (places_that test (suc start) xs) →
          All (λ (place : ℕ). place < start + length (x ∷ xs)) (cond b (start ∷ places_that test (suc start) xs) (places_that test (suc start) xs))
      go true again = All-cons (λ (place : ℕ). place < start + length (x ∷ xs)) start (places_that test (suc start) xs) (omega arith) again
      go false again = again

-- tests that agree at each element
pub places_agree : {A : Type 0} (test other : A → Bool) (start : ℕ) (xs : List A) → All (λ (x : A). test x ≡ other x) xs → places_that test start xs ≡ places_that other start xs
places_agree test other start [] agree = refl
places_agree {A} test other start (x ∷ xs) agree =
    go (test x) (other x) (All-head (λ (y : A). test y ≡ other y) x xs agree) (places_agree test other (suc start) xs (All-tail (λ (y : A). test y ≡ other y) x xs agree))
  where
    go : (a b : Bool) → a ≡ b → places_that test (suc start) xs ≡ places_that other (suc start) xs →
        cond a (start ∷ places_that test (suc start) xs) (places_that test (suc start) xs) ≡ cond b (start ∷ places_that other (suc start) xs) (places_that other (suc start) xs)
    go true true same again = ap (λ (l : List ℕ). start ∷ l) again
    go false false same again = again
    go true false same again = cc
    go false true same again = cc

-- ## Words by their parameters

-- the place of a word is put where it belongs; the words are read from a copy of the list
pub own_more : (own own' : List ℕ) (all copy : List (Option ℕ)) (place : ℕ) → copy ≡ all → place < length copy → own ≡ places_that is_none 0 (take place all) →
    own' ≡ own ++ cond (is_none (get_or copy place None)) (place ∷ []) [] → own' ≡ places_that is_none 0 (take (place + 1) all)
own_more own own' all copy place same less before more =
    more ∙ ap (λ (l : List ℕ). l ++ cond (is_none (get_or copy place None)) (place ∷ []) []) (before ∙ ap (λ (l : List (Option ℕ)). places_that is_none 0 (take place l)) (sym same))
    ∙ sym (places_that_more is_none copy place None less) ∙ ap (λ (l : List (Option ℕ)). places_that is_none 0 (take (place + 1) l)) same

pub named_more : (rows rows' : List (Vec ℕ Global)) (all copy : List (Option ℕ)) (place : ℕ) → copy ≡ all → place < length copy → length rows' ≡ length rows → AreByParameter rows (take place all) →
    IsPutInRow rows rows' (get_or copy place None) place → AreByParameter rows' (take (place + 1) all)
named_more rows rows' all copy place same less many before more parameter none less' =
    more parameter none (omega (arith, many, less'))
    ∙ ap (λ (l : List ℕ). l ++ cond (names parameter (get_or copy place None)) (place ∷ []) [])
    (before parameter none (omega (arith, many, less')) ∙ ap (λ (l : List (Option ℕ)). places_that (names parameter) 0 (take place l)) (sym same))
    ∙ sym (places_that_more (names parameter) copy place None less) ∙ ap (λ (l : List (Option ℕ)). places_that (names parameter) 0 (take (place + 1) l)) same

-- the parameter that a word names has a row
pub row_there : (all copy : List (Option ℕ)) (count rows place : ℕ) → copy ≡ all → rows ≡ count → place < length copy → All (IsBelow count) all → IsBelow rows (get_or copy place None)
row_there all copy count rows place same many less within parameter is =
    subst (λ (n : ℕ). parameter < n) (sym many) (subst (λ (l : List (Option ℕ)). All (IsBelow count) l) (sym same) within place None less parameter is)

-- a row holds the places of the words that name its parameter
pub row_names : (rows rows' : List (Vec ℕ Global)) (all : List (Option ℕ)) (parameter : ℕ) (row : Vec ℕ Global) (places : List ℕ) → AreByParameter rows all → rows' ≡ rows → parameter < length rows' → row ≡ get_or rows' parameter row →
    places ≡ row.items → places ≡ places_that (names parameter) 0 all
row_names rows rows' all parameter row places are same less is items =
    items ∙ ap (λ (r : Vec ℕ Global). r.items) (is ∙ ap (λ (l : List (Vec ℕ Global)). get_or l parameter row) same) ∙ are parameter row (subst (λ (l : List (Vec ℕ Global)). parameter < length l) same less)

-- no words yet
pub rows_begun : (rows : List (Vec ℕ Global)) → All (λ (row : Vec ℕ Global). row.items ≡ []) rows → AreByParameter rows []
rows_begun rows none parameter row less = none parameter row less

-- ## Words at places

first_there : {W : Type 0} (start : ℕ) (whole words : List W) (word : W) → drop start whole ≡ word ∷ words → slice_get whole start ≡ Some word
first_there zero whole words word rest = ap (λ l. slice_get l 0) rest
first_there (suc start) [] words word rest = absurd cc
first_there (suc start) (first ∷ whole) words word rest = first_there start whole words word rest

-- the words for which nothing is put may be left out
pub parts_chosen : {W A B : Type 0} (found : W → A) (test : A → Bool) (part : W → List B) (whole : List W) → ((word : W) → test (found word) ≡ false → part word ≡ []) →
    (start : ℕ) (words : List W) → drop start whole ≡ words → flat_map (λ (place : ℕ). part_there part (slice_get whole place)) (places_that test start (map found words)) ≡ flat_map part words
parts_chosen found test part whole empty start [] rest = refl
parts_chosen {W} {A} {B} found test part whole empty start (word ∷ words) rest =
    let one_more : suc start ≡ start + 1 = omega arith in
    let behind : drop (suc start) whole ≡ words = ap (λ (n : ℕ). drop n whole) one_more ∙ sym (drop-drop 1 start whole) ∙ ap (λ (l : List W). drop 1 l) rest in
    go (test (found word)) refl (parts_chosen found test part whole empty (suc start) words behind)
  where
    go : (b : Bool) → test (found word) ≡ b → flat_map (λ (place : ℕ). part_there part (slice_get whole place)) (places_that test (suc start) (map found words)) ≡ flat_map part words →
        flat_map (λ (place : ℕ). part_there part (slice_get whole place)) (cond b (start ∷ places_that test (suc start) (map found words)) (places_that test (suc start) (map found words))) ≡ flat_map part (word ∷ words)
    go true holds again =
        ap (λ (o : Option W). part_there part o ++ flat_map (λ (place : ℕ). part_there part (slice_get whole place)) (places_that test (suc start) (map found words))) (first_there start whole words word rest)
        ∙ ap (λ (l : List B). part word ++ l) again
    go false fails again = again ∙ ap (λ (l : List B). l ++ flat_map part words) (sym (empty word fails))
