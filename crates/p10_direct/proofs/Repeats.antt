-- Texts that stand twice, and parameters one by one.
use Rattle.std.proofs.Common.{◌≡◌, ℕ, zero, suc, ◌+◌, ◌-◌, ◌<◌, ◌≤◌, List, [], ◌∷◌, ◌++◌, length, take, map, drop, length-drop, get_or, Bool, true, false, cond, ◌||◌, ◌&&◌, bytes_eq, codes, refl, sym, ◌∙◌, ap, arith, Bor}
use Rattle.std.specs.List.{list_any}
use Rattle.std.proofs.lemmas.Bool.{or_from, or_left, or_right}
use Rattle.std.proofs.lemmas.List.{map-append, drop-map, drop-drop, drop_more}
use Rattle.p10_base.specs.declared.word.Word.{Word}
use Rattle.p10_base.specs.Words.{PlainWord, plain_word, Text, is_name_kind, is_punctuator, spellings_of}
use Rattle.p10_direct.specs.Directives.{has_repeated_text, is_ellipsis}
use Rattle.p10_direct.specs.private.Reading.{Parameters, Wrong, Listed, Parameter, No, Last, Further, parameter_of, behind_parameters}
use Rattle.p10_direct.proofs.Cuts.{rest_from}

-- ## Words from a place on, with a set of their texts

abbrev Keys : Type 0
Keys = List (Bor (List ℕ))

abbrev is_key : Keys → Text → Bool
is_key keys text = list_any (λ (key : Bor (List ℕ)). bytes_eq text key.now) keys

abbrev pub texts_in : List Word → List Text
texts_in words = spellings_of (map plain_word words)

abbrev is_text : List Word → Text → Bool
is_text words text = list_any (λ other. bytes_eq other text) (texts_in words)

-- a text is among the keys exactly if it is among the texts of the words
pub record HaveTexts (keys : Keys) (words : List Word) : Type 0 where
  pub same : (text : Bor (List ℕ)) → is_key keys text.now ≡ is_text words text.now

-- the texts from the place before this one on
from_before : (words : List Word) (place : ℕ) (d : Word) → 0 < place → place ≤ length words → texts_in (drop (place - 1) words) ≡ (get_or words (place - 1) d).text.now ∷ texts_in (drop place words)
from_before words place d some inside =
    let next : place - 1 + 1 ≡ place = omega (arith, some) in
    ap texts_in (drop_more words (place - 1) d (omega (arith, some, inside))) ∙ ap (λ n. (get_or words (place - 1) d).text.now ∷ texts_in (drop n words)) next

as_or : (a b : Bool) → cond a true b ≡ (a || b)
as_or true b = refl
as_or false b = refl

pub one_more : (words : List Word) (place : ℕ) (d : Word) (old new : Keys) → 0 < place → place ≤ length words → HaveTexts old (drop place words)
    → ((text : Bor (List ℕ)) → is_key new text.now ≡ cond (bytes_eq (get_or words (place - 1) d).text.now text.now) true (is_key old text.now))
    → HaveTexts new (drop (place - 1) words)
one_more words place d old new some inside behind added = record {
  same = λ text.
      let same = bytes_eq (get_or words (place - 1) d).text.now text.now in
      added text ∙ as_or same (is_key old text.now) ∙ ap (λ b. same || b) (behind.same text)
      ∙ sym (ap (list_any (λ other. bytes_eq other text.now)) (from_before words place d some inside));
}

-- whether a text stands twice, where a set has the texts after the first
by_keys : (words : List Word) (place : ℕ) (d : Word) (keys : Keys) → 0 < place → place ≤ length words → HaveTexts keys (drop place words)
    → has_repeated_text (texts_in (drop (place - 1) words)) ≡ (is_key keys (get_or words (place - 1) d).text.now || has_repeated_text (texts_in (drop place words)))
by_keys words place d keys some inside behind =
    ap has_repeated_text (from_before words place d some inside)
    ∙ ap (λ b. b || has_repeated_text (texts_in (drop place words))) (sym (behind.same (get_or words (place - 1) d).text))

pub still_none : (words : List Word) (place : ℕ) (d : Word) (keys : Keys) → 0 < place → place ≤ length words → HaveTexts keys (drop place words)
    → is_key keys (get_or words (place - 1) d).text.now ≡ false → has_repeated_text (texts_in (drop place words)) ≡ false → has_repeated_text (texts_in (drop (place - 1) words)) ≡ false
still_none words place d keys some inside behind fresh none = by_keys words place d keys some inside behind ∙ or_from _ _ fresh none

-- what stands twice from a place on does so in all the words
twice_in_all : (words : List Word) (place : ℕ) → has_repeated_text (texts_in (drop place words)) ≡ true → has_repeated_text (texts_in words) ≡ true
twice_in_all words zero twice = twice
twice_in_all [] (suc place) twice = twice
twice_in_all (word ∷ words) (suc place) twice = or_right _ _ (twice_in_all words place twice)

pub stands_twice : (words : List Word) (place : ℕ) (d : Word) (keys : Keys) → 0 < place → place ≤ length words → HaveTexts keys (drop place words)
    → is_key keys (get_or words (place - 1) d).text.now ≡ true → true ≡ has_repeated_text (texts_in words)
stands_twice words place d keys some inside behind known =
    sym (twice_in_all words (place - 1) (by_keys words place d keys some inside behind ∙ or_left _ _ known))

-- ## Parameters one by one

-- what a parameter makes of the parameters so far
abbrev follow : List PlainWord → List PlainWord → Parameter → Parameters
follow before words No = Wrong
follow before words (Last word) = Listed (before ++ word ∷ []) words
follow before words (Further word) = behind_parameters (before ++ word ∷ []) words

step_is : (before : List PlainWord) (words : List PlainWord) → behind_parameters before words ≡ follow before (drop 2 words) (parameter_of words)
step_is before [] = refl
step_is before (word ∷ []) = refl
step_is before (word ∷ separator ∷ words) =
    let more = before ++ word ∷ [] in
    elim (is_punctuator (codes ")") separator) as (λ b. cond b (cond (is_name_kind word.kind || is_ellipsis word) (Listed more words) Wrong) (cond (is_punctuator (codes ",") separator && is_name_kind word.kind) (behind_parameters more words) Wrong)
    ≡ follow before words (cond b (cond (is_name_kind word.kind || is_ellipsis word) (Last word) No) (cond (is_punctuator (codes ",") separator && is_name_kind word.kind) (Further word) No))) [
      | true ↦ elim (is_name_kind word.kind || is_ellipsis word) as (λ b. cond b (Listed more words) Wrong ≡ follow before words (cond b (Last word) No)) [ true ↦ refl | false ↦ refl ]
      | false ↦ elim (is_punctuator (codes ",") separator && is_name_kind word.kind) as (λ b. cond b (behind_parameters more words) Wrong ≡ follow before words (cond b (Further word) No)) [ true ↦ refl | false ↦ refl ]
    ]

-- the parameter at a place, after those before it
at_place : (all : List Word) (place : ℕ) (before : List PlainWord) (found : Parameter) → place ≤ length all → found ≡ parameter_of (map plain_word (take (length all - place) (drop place all)))
    → behind_parameters [] (map plain_word all) ≡ behind_parameters before (map plain_word (drop place all))
    → behind_parameters [] (map plain_word all) ≡ follow before (map plain_word (drop (place + 2) all)) found
at_place all place before found inside is so_far =
    let rest = map plain_word (drop place all) in
    so_far ∙ step_is before rest
    ∙ ap (λ p. follow before (drop 2 rest) p) (ap (λ ws. parameter_of (map plain_word ws)) (sym (rest_from place all inside)) ∙ sym is)
    ∙ ap (λ ws. follow before ws found) (drop-map plain_word 2 (drop place all) ∙ ap (map plain_word) (drop-drop 2 place all))

-- one word more
pushed_plain : (before next : List Word) (word : Word) → next ≡ before ++ word ∷ [] → map plain_word next ≡ map plain_word before ++ plain_word word ∷ []
pushed_plain before next word pushed = ap (map plain_word) pushed ∙ map-append plain_word before (word ∷ [])

pub further : (all : List Word) (place : ℕ) (before next : List Word) (word : Word) → place ≤ length all → Further (plain_word word) ≡ parameter_of (map plain_word (take (length all - place) (drop place all))) → next ≡ before ++ word ∷ []
    → behind_parameters [] (map plain_word all) ≡ behind_parameters (map plain_word before) (map plain_word (drop place all))
    → behind_parameters [] (map plain_word all) ≡ behind_parameters (map plain_word next) (map plain_word (drop (place + 2) all))
further all place before next word inside is pushed so_far =
    at_place all place (map plain_word before) (Further (plain_word word)) inside is so_far
    ∙ ap (λ ws. behind_parameters ws (map plain_word (drop (place + 2) all))) (sym (pushed_plain before next word pushed))

pub last : (all : List Word) (place : ℕ) (before next : List Word) (word : Word) → place + 2 ≤ length all → Last (plain_word word) ≡ parameter_of (map plain_word (take (length all - place) (drop place all))) → next ≡ before ++ word ∷ []
    → behind_parameters [] (map plain_word all) ≡ behind_parameters (map plain_word before) (map plain_word (drop place all))
    → Listed (map plain_word next) (map plain_word (take (length all - (place + 2)) (drop (place + 2) all))) ≡ behind_parameters [] (map plain_word all)
last all place before next word inside is pushed so_far =
    let near : place ≤ length all = omega (arith, inside) in
    ap (λ ws. Listed (map plain_word next) (map plain_word ws)) (rest_from (place + 2) all inside)
    ∙ ap (λ ws. Listed ws (map plain_word (drop (place + 2) all))) (pushed_plain before next word pushed)
    ∙ sym (at_place all place (map plain_word before) (Last (plain_word word)) near is so_far)

short_list : (before : List PlainWord) (words : List Word) → length words ≤ 1 → Wrong ≡ behind_parameters before (map plain_word words)
short_list before [] short = refl
short_list before (word ∷ []) short = refl
short_list before (word ∷ separator ∷ words) short = absurd (omega (arith, short))

pub ends : (all : List Word) (place : ℕ) (before : List PlainWord) → length all < place + 2
    → behind_parameters [] (map plain_word all) ≡ behind_parameters before (map plain_word (drop place all)) → Wrong ≡ behind_parameters [] (map plain_word all)
ends all place before short so_far = short_list before (drop place all) (omega (arith, length-drop place all, short)) ∙ sym so_far
