-- Where files are told, a place has one text, and one of some places is the first at which there is a file.
use Rattle.std.proofs.Common.{◌≡◌, ℕ, false, List, [], ◌∷◌, ◌++◌, Option, Some, None, refl, sym, ◌∙◌, ap, subst}
use Rattle.std.specs.Prelude.{All, IsSome, is_some}
use Rattle.std.proofs.lemmas.Bool.{both_ways}
use Rattle.std.proofs.lemmas.Option.{same_Some}
use Rattle.std.proofs.lemmas.List.Elements.{All-head, All-tail}
use Rattle.p10_world.specs.Files.{Named}
use Rattle.p10_world.specs.Files as world
use Rattle.p10_expand.specs.declared.place.Place.{Place}
use Rattle.p10_expand.specs.declared.place.Place.TheVariants.{File, Header}
use Rattle.p10_expand.specs.Headers.{header_of}
use Rattle.p10_expand.specs.Finding.{HasText, IsThere, IsAbsent, IsFirst}

-- ## Equal lists

pub same_head : {A : Type 0} (x y : A) (xs ys : List A) → x ∷ xs ≡ y ∷ ys → x ≡ y
same_head x y xs ys same = cc

pub same_tail : {A : Type 0} (x y : A) (xs ys : List A) → x ∷ xs ≡ y ∷ ys → xs ≡ ys
same_tail x y xs ys same = cc

-- ## One place

none_and_some : (o : Option (List ℕ)) → o ≡ None → IsSome o → ⊥
none_and_some o none some = both_ways (is_some o) (ap is_some none) some

-- there isn't both no file and one at a place
pub absent_there : (told : Option (List Named)) (place : Place) → IsSome told → IsAbsent told place → IsThere told place → ⊥
absent_there told (Header name) some absent there = none_and_some (header_of name) absent there
absent_there None (File name) some absent there = both_ways false refl some
absent_there (Some files) (File name) some absent there = none_and_some (world.file_of name files) absent there

-- a place has one text
pub text_once : (told : Option (List Named)) (place : Place) (text other : List ℕ) → IsSome told → HasText told place text → HasText told place other → text ≡ other
text_once told (Header name) text other some is are = same_Some text other (sym is ∙ are)
text_once None (File name) text other some is are = absurd (both_ways false refl some)
text_once (Some files) (File name) text other some is are = same_Some text other (sym is ∙ are)

-- ## The first of some places

first_in : (told : Option (List Named)) (front front' back back' : List Place) (place other : Place) → IsSome told → front ++ place ∷ back ≡ front' ++ other ∷ back' →
    All (IsAbsent told) front → All (IsAbsent told) front' → IsThere told place → IsThere told other → place ≡ other
first_in told [] [] back back' place other some same none none' there there' = same_head place other back back' same
first_in told [] (p ∷ front') back back' place other some same none none' there there' =
    let is : place ≡ p = same_head place p back (front' ++ other ∷ back') same in
    absurd (absent_there told p some (All-head (IsAbsent told) p front' none') (subst (λ q. IsThere told q) is there))
first_in told (p ∷ front) [] back back' place other some same none none' there there' =
    let is : p ≡ other = same_head p other (front ++ place ∷ back) back' same in
    absurd (absent_there told p some (All-head (IsAbsent told) p front none) (subst (λ q. IsThere told q) (sym is) there'))
first_in told (p ∷ front) (q ∷ front') back back' place other some same none none' there there' =
    first_in told front front' back back' place other some (same_tail p q (front ++ place ∷ back) (front' ++ other ∷ back') same)
    (All-tail (IsAbsent told) p front none) (All-tail (IsAbsent told) q front' none') there there'

-- one place is the first
pub first_once : (told : Option (List Named)) (places others : List Place) (place other : Place) → IsSome told → places ≡ others → IsFirst told places place → IsFirst told others other → place ≡ other
first_once told places others place other some same is are =
    first_in told is.front are.front is.back are.back place other some (sym is.parts ∙ same ∙ are.parts) is.none are.none is.there are.there

not_all : (told : Option (List Named)) (front back : List Place) (place : Place) → IsSome told → All (IsAbsent told) (front ++ place ∷ back) → IsThere told place → ⊥
not_all told [] back place some none there = absent_there told place some (All-head (IsAbsent told) place back none) there
not_all told (p ∷ front) back place some none there = not_all told front back place some (All-tail (IsAbsent told) p (front ++ place ∷ back) none) there

-- where there is a file at none of the places, none is the first
pub none_first : (told : Option (List Named)) (places others : List Place) (place : Place) → IsSome told → places ≡ others → All (IsAbsent told) places → IsFirst told others place → ⊥
none_first told places others place some same none is =
    not_all told is.front is.back place some (subst (λ ps. All (IsAbsent told) ps) (same ∙ is.parts) none) is.there
