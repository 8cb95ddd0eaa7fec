-- The places of the parameters that the words of a replacement list name, and of the words that a use puts something for.
use Rattle.std.specs.Prelude.{ℕ, ◌≡◌, suc, ◌==◌, ◌<◌, List, [], ◌∷◌, ◌++◌, length, map, slice_index_or, Bool, true, false, Option, Some, None, if◌then◌else◌, bytes_eq, Vec, All, ◌⊎◌}
use Rattle.std.specs.Global.{Global}
use Rattle.std.specs.Borrow.{Bor}
use Rattle.std.specs.List.{flat_map, slice_get}
use Rattle.std.specs.HashMap.{HashMap, get_by}
use Rattle.p10_base.specs.Words.{Text, PlainWord, is_name_kind}
use Rattle.p10_base.specs.Names.{place_in}
use Rattle.p10_macros.specs.declared.pending.Traced.{Traced}

-- the place of the parameter that a word names: the first one with its text
abbrev pub place_named : List Text → PlainWord → Option ℕ
place_named parameters word = if is_name_kind word.kind then place_in parameters word.text else None

-- the same for each word of a replacement list; none are kept for an object-like macro
abbrev pub places_of : Option (List Text) → List PlainWord → List (Option ℕ)
places_of None words = []
places_of (Some parameters) words = map (place_named parameters) words

-- what stands at a place of a list
abbrev pub at_place : {A : Type 0} → Option ℕ → List A → Option A
at_place None items = None
at_place (Some place) items = slice_get items place

-- what a map has at a text
abbrev pub at_text : {S : Type 0} → HashMap (Bor Text) ℕ S → Text → Option ℕ
at_text by_text text = get_by (λ key. bytes_eq text key.now) by_text

-- what it has at the word, where that is a name
abbrev pub at_word : {S : Type 0} → HashMap (Bor Text) ℕ S → PlainWord → Option ℕ
at_word by_text word = if is_name_kind word.kind then at_text by_text word.text else None

-- ## Places by parameters

-- the places, counted from a start, of the elements for which a test holds
abbrev pub places_that : {A : Type 0} → (A → Bool) → ℕ → List A → List ℕ
places_that test start [] = []
places_that test start (item ∷ items) = if test item then start ∷ places_that test (suc start) items else places_that test (suc start) items

-- whether that parameter is the one named
abbrev pub names : ℕ → Option ℕ → Bool
names parameter None = false
names parameter (Some found) = found == parameter

-- a parameter that is named is one of the first `count`
abbrev pub IsBelow : ℕ → Option ℕ → Type 0
IsBelow count found = (parameter : ℕ) → found ≡ Some parameter → parameter < count

-- for each parameter the places of the words that name it
abbrev pub AreByParameter : List (Vec ℕ Global) → List (Option ℕ) → Type 0
AreByParameter rows all = (parameter : ℕ) (none : Vec ℕ Global) → parameter < length rows → (slice_index_or rows parameter none).items ≡ places_that (names parameter) 0 all

-- the rows after one more place, that of a word that names a parameter or none: after the others of that parameter
abbrev pub IsPutInRow : List (Vec ℕ Global) → List (Vec ℕ Global) → Option ℕ → ℕ → Type 0
IsPutInRow old new found place =
    (parameter : ℕ) (none : Vec ℕ Global) → parameter < length old → (slice_index_or new parameter none).items ≡ (slice_index_or old parameter none).items ++ (if names parameter found then place ∷ [] else [])

-- ## Words that are put

-- whether something is put for a word whose parameter has this value: all but nothing. A word without a value is put itself
abbrev pub gives : Option (List Traced) → Bool
gives None = true
gives (Some []) = false
gives (Some (traced ∷ value)) = true

-- the same, by the parameter that the word names
abbrev pub is_put : List (List Traced) → Option ℕ → Bool
is_put values found = gives (at_place found values)

-- there are no parameters, or each has a value with words
abbrev pub HaveWords : List Text → List (List Traced) → Type 0
HaveWords parameters values = (length parameters ≡ 0) ⊎ All (λ (value : List Traced). 0 < length value) values

-- what comes of a word, where there is one
abbrev pub part_there : {W A : Type 0} → (W → List A) → Option W → List A
part_there part None = []
part_there part (Some word) = part word

-- what comes of the chosen words, by what comes of each: of those at the places, or of all
abbrev pub chosen_parts : {W A : Type 0} → (W → List A) → List W → Option (Vec ℕ Global) → List A
chosen_parts part words None = flat_map part words
chosen_parts part words (Some places) = flat_map (λ (place : ℕ). part_there part (slice_get words place)) places.items

-- how many words are chosen
abbrev pub chosen_count : {W : Type 0} → List W → Option (Vec ℕ Global) → ℕ
chosen_count words None = length words
chosen_count words (Some places) = length places.items

-- the place of one of them
abbrev pub chosen_place : Option (Vec ℕ Global) → ℕ → ℕ
chosen_place None index = index
chosen_place (Some places) index = slice_index_or places.items index 0
