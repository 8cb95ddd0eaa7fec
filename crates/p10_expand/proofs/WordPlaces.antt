-- Words that are slices of a text are the words at their places, and these are the only places that have them.
use Rattle.std.proofs.Common.{◌≡◌, ℕ, ◌<◌, ◌∙◌, List, [], ◌∷◌, map, refl, ap, sym, subst, arith}
use Rattle.std.specs.Prelude.{All, Result, Ok, Err, IfOk, Vec}
use Rattle.std.proofs.lemmas.List.Elements.{All-nil, All-cons}
use Rattle.std.specs.declared.alloc.Global.{Global}
use Rattle.p10_base.specs.declared.word.Word.{Word}
use Rattle.p10_base.specs.declared.word.WordPlace.{WordPlace}
use Rattle.p10_base.specs.Gathered.{Gathered, count_of, text_of, word_places_of}
use Rattle.p10_base.specs.Words.{PlainWord, Text, plain_words, place_of_word, word_at, words_at}
use Rattle.p10_lex.specs.Lexes.{Answers}
use Rattle.p10_lex.specs.Slices.{IsSlice, AreSlices}
use Rattle.p10_lex.proofs.SliceLaws.{answer_slices}
use Rattle.p10_lex.proofs.Uniqueness.{same_words}
use Rattle.p10_expand.specs.declared.place.Include.{Include}
use Rattle.p10_expand.specs.Gathering.{HaveWords}
use Rattle.p10_expand.specs.Includes.{AreIncludes, HasIncludes}
use Rattle.p10_expand.specs.private.Steps.{StandsIn}

-- a slice is the word at its place
slice_stands : (file : ℕ) (text : Text) (word : PlainWord) → IsSlice file text word → word_at file text (place_of_word word) ≡ word
slice_stands file text word is =
    λ i. record { kind = word.kind; text = sym is.slice i; at = record { file = sym is.of_file i; start = word.at.start; end = word.at.end }; first = word.first }

-- slices are the words at their places
slices_stand : (file : ℕ) (text : Text) (after : ℕ) (words : List PlainWord) → AreSlices file text after words → words_at file text (map place_of_word words) ≡ words
slices_stand file text after [] are = refl
slices_stand file text after (word ∷ words) (behind, is, are) = λ i. slice_stands file text word is i ∷ slices_stand file text word.at.end words are i

-- the places of the words at places are these
places_back : (file : ℕ) (text : Text) (places : List WordPlace) → map place_of_word (words_at file text places) ≡ places
places_back file text [] = refl
places_back file text (place ∷ places) = ap (λ ps. place ∷ ps) (places_back file text places)

-- the words of a text stand at one list of places
pub places_once : (file : ℕ) (text : Text) (places others : List WordPlace) → Answers file text (Ok (words_at file text places)) → Answers file text (Ok (words_at file text others)) → places ≡ others
places_once file text places others is are =
    sym (places_back file text places)
    ∙ (ap (λ ws. map place_of_word ws) (same_words file text (words_at file text places) (words_at file text others) is.2 are.2) ∙ places_back file text others)

-- slices stand in their text
slices_within : (file : ℕ) (text : Text) (after : ℕ) (places : List WordPlace) → AreSlices file text after (words_at file text places) → All (StandsIn text) places
slices_within file text after [] are = All-nil (StandsIn text)
slices_within file text after (place ∷ places) (behind, is, are) =
    All-cons (StandsIn text) place places (record { ordered = omega (arith, is.some); within = is.within }) (slices_within file text place.end places are)

-- the words of a text stand in it
words_within : (file : ℕ) (text : Text) (places : List WordPlace) → Answers file text (Ok (words_at file text places)) → All (StandsIn text) places
words_within file text places is = slices_within file text 0 places (answer_slices file text (words_at file text places) is)

-- the words of a text stand at their places
pub words_placed : (file : ℕ) (text : Text) (words : List PlainWord) (includes : List Include) → Answers file text (Ok words) → AreIncludes words includes → HasIncludes file text (map place_of_word words) includes
words_placed file text words includes lexed named =
    let back : words_at file text (map place_of_word words) ≡ words = slices_stand file text 0 words (answer_slices file text words lexed) in
    record { lexes = subst (λ ws. Answers file text (Ok ws)) (sym back) lexed; named = subst (λ ws. AreIncludes ws includes) (sym back) named }

-- what is read of a text, where both readers were lent its words
pub text_read : (file : ℕ) (text : Text) (words these those : List Word) (places : List WordPlace) (includes : List Include) → Answers file text (Ok (plain_words words)) →
    these ≡ words → AreIncludes (plain_words these) includes → those ≡ words → places ≡ map place_of_word (plain_words those) → HasIncludes file text places includes
text_read file text words these those places includes lexed this named that are =
    subst (λ ps. HasIncludes file text ps includes) (sym (are ∙ ap (λ ws. map place_of_word (plain_words ws)) that))
    (words_placed file text (plain_words words) includes lexed (subst (λ ws. AreIncludes (plain_words ws) includes) this named))

-- where the words of each file are those of its text, they stand in it
pub words_lent : (g : Gathered) (number : ℕ) (text : Text) (places : List WordPlace) → HaveWords g → number < count_of g → text ≡ text_of g number → places ≡ word_places_of g number → All (StandsIn text) places
words_lent g number text places have held text_is places_are =
    subst (λ t. All (StandsIn t) places) (sym text_is) (subst (λ ps. All (StandsIn (text_of g number)) ps) (sym places_are) (words_within number (text_of g number) (word_places_of g number) (have number held)))

-- the words that were made of their places are those of the text
pub words_made : {E : Type 0} (g : Gathered) (number : ℕ) (text : Text) (places : List WordPlace) (result : Result (Vec Word Global) E) → HaveWords g → number < count_of g → text ≡ text_of g number → places ≡ word_places_of g number →
    IfOk result (λ words. plain_words words.items ≡ words_at number text places) → IfOk result (λ words. Answers number (text_of g number) (Ok (plain_words words.items)))
words_made g number text places (Ok words) have held text_is places_are are =
    subst (λ ws. Answers number (text_of g number) (Ok ws)) (sym (are ∙ λ i. words_at number (text_is i) (places_are i))) (have number held)
words_made g number text places (Err fault) have held text_is places_are are = tt
