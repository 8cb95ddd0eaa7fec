-- The words of arguments become those of a use.
use Rattle.std.proofs.Common.{◌≡◌, ℕ, zero, suc, ◌<◌, ◌≤◌, List, [], ◌∷◌, length, map, slice_index_or, slice_set, Bool, true, false, ◌||◌, bytes_eq, Vec, Global, refl, sym, subst, ap, ◌∙◌, arith}
use Rattle.std.proofs.lemmas.List.{map-set, get_or-map, length-map}
use Rattle.p10_base.specs.declared.span.Span.{Span}
use Rattle.p10_base.specs.declared.word.Word.{Word}
use Rattle.p10_base.specs.Words.{Text, PlainWord, plain_word}
use Rattle.p10_direct.specs.Directives.{PlainMacro}
use Rattle.p10_macros.specs.declared.origin.Origins.{Origins}
use Rattle.p10_macros.specs.declared.pending.Traced.{Traced}
use Rattle.p10_macros.specs.Uses.{Sourced, given, written}
use Rattle.p10_macros.specs.private.Origins.{count_of, has_macro, Extends, HasBoth, HasOne}
use Rattle.p10_macros.specs.private.Traces.{lists_of, IsTraced, AreTraced, AreValues}
use Rattle.p10_macros.specs.private.Putting.{fresh, IsBase, IsJoined, IsGiven, AreGiven}
use Rattle.p10_macros.proofs.SetsOfMacros.{still_has, has_no_macro, longer, or_no_more}
use Rattle.p10_macros.proofs.Growing.{traced_more, all_traced_more, values_more, base_more}

-- ## Sets of the use and of a word

or_absorbs : (e s : Bool) → (e || s) ≡ ((e || s) || s)
or_absorbs true s = refl
or_absorbs false true = refl
or_absorbs false false = refl

or_swaps : (a b : Bool) → (a || b) ≡ (b || a)
or_swaps true true = refl
or_swaps true false = refl
or_swaps false true = refl
or_swaps false false = refl

pub joined_none : (old : Origins) (from own : ℕ) (macro' : Text) (name' : Sourced) → own ≤ 0 → IsBase old from macro' name' → IsJoined old own macro' name' old from
joined_none old from own macro' name' none is = record {
  known = is.known;
  both = λ other. is.base other ∙ or_no_more (bytes_eq other macro' || name'.from other) ∙ ap (λ (b : Bool). (bytes_eq other macro' || name'.from other) || b) (sym (has_no_macro old own other none));
}

pub joined_same : (old : Origins) (name from own : ℕ) (macro' : Text) (name' : Sourced) → own ≡ name → ((other : Text) → has_macro old name other ≡ name'.from other) → IsBase old from macro' name' → IsJoined old own macro' name' old from
joined_same old name from own macro' name' same known is = record {
  known = is.known;
  both = λ other. is.base other ∙ or_absorbs (bytes_eq other macro') (name'.from other)
      ∙ ap (λ (b : Bool). (bytes_eq other macro' || name'.from other) || b) (sym (known other) ∙ ap (λ (n : ℕ). has_macro old n other) (sym same));
}

pub joined_both : (old new : Origins) (from own all : ℕ) (macro' : Text) (name' : Sourced) → IsBase old from macro' name' → HasBoth old own from new all → IsJoined old own macro' name' new all
joined_both old new from own all macro' name' is has = record {
  known = has.known;
  both = λ other. has.both other ∙ or_swaps (has_macro old own other) (has_macro old from other) ∙ ap (λ (b : Bool). b || has_macro old own other) (is.base other);
}

pub joined_known : (old : Origins) (own known all : ℕ) (macro' : Text) (name' : Sourced) → own ≡ known → IsJoined old known macro' name' old all → IsJoined old own macro' name' old all
joined_known old own known all macro' name' same joined = subst (λ (n : ℕ). IsJoined old n macro' name' old all) (sym same) joined

-- the set with the macros of the use is there still, where more came
joined_now : (old new : Origins) (own all : ℕ) (macro' : Text) (name' : Sourced) → Extends old new → own ≤ count_of old → IsJoined old own macro' name' new all → IsJoined new own macro' name' new all
joined_now old new own all macro' name' grown less joined = record {
  known = joined.known;
  both = λ other. joined.both other ∙ ap (λ (b : Bool). (bytes_eq other macro' || name'.from other) || b) (sym (still_has old new grown own other less));
}

pub base_of : (old new : Origins) (macro' : Text) (name : Traced) (name' : Sourced) (from : ℕ) → HasOne old macro' name.from new from → IsTraced old name name' → IsBase new from macro' name'
base_of old new macro' name name' from has is = record {
  known = has.known;
  base = λ other. has.one other ∙ ap (λ (b : Bool). bytes_eq other macro' || b) (is.from other);
}

-- ## Words of a use

-- a word at another place
abbrev moved : Span → PlainWord → PlainWord
moved at word = record word { at = at }

-- a word at the place of a use stands for one that the use gives
fresh_traced : (origins : Origins) (word : Word) (at : Span) (from : ℕ) (plain : PlainMacro) (name part : Sourced) → plain_word word ≡ part.word → at ≡ name.word.at → from ≤ count_of origins →
    ((other : Text) → has_macro origins from other ≡ ((bytes_eq other plain.name || name.from other) || part.from other)) → IsTraced origins (fresh word at from) (given plain name part)
fresh_traced origins word at from plain name part same place known both = record {
  word = ap (moved at) same ∙ ap (λ (a : Span). moved a part.word) place;
  known = known;
  from = both;
}

-- a word of the replacement list
pub written_traced : (origins : Origins) (word : Word) (at : Span) (from : ℕ) (plain : PlainMacro) (name : Sourced) → at ≡ name.word.at → IsBase origins from plain.name name →
    IsTraced origins (fresh word at from) (given plain name (written (plain_word word)))
written_traced origins word at from plain name place base =
    fresh_traced origins word at from plain name (written (plain_word word)) refl place base.known (λ other. base.base other ∙ or_no_more (bytes_eq other plain.name || name.from other))

-- a word of an argument
word_given : (old new : Origins) (traced : Traced) (at : Span) (all : ℕ) (plain : PlainMacro) (name word : Sourced) → at ≡ name.word.at → IsTraced old traced word → IsJoined old traced.from plain.name name new all →
    IsTraced new (fresh traced.word at all) (given plain name word)
word_given old new traced at all plain name word place is joined =
    fresh_traced new traced.word at all plain name word is.word place joined.known (λ other. joined.both other ∙ ap (λ (b : Bool). (bytes_eq other plain.name || name.from other) || b) (is.from other))

-- ## The words of an argument, one after the other

-- the first `count` are words of the use
abbrev pub given_first : PlainMacro → Sourced → ℕ → List Sourced → List Sourced
given_first plain name zero words = words
given_first plain name (suc count) [] = []
given_first plain name (suc count) (word ∷ words) = given plain name word ∷ given_first plain name count words

-- one more is
next_given : (old new : Origins) (plain : PlainMacro) (name : Sourced) (place : ℕ) (none traced : Traced) (value : List Traced) (words : List Sourced) → Extends old new → place < length value →
    AreTraced old value (given_first plain name place words) →
    ((word : Sourced) → IsTraced old (slice_index_or value place none) word → IsTraced new traced (given plain name word)) →
    AreTraced new (slice_set value place traced) (given_first plain name (suc place) words)
next_given old new plain name place none traced [] words grown less are one = absurd (omega arith)
next_given old new plain name zero none traced (first ∷ value) [] grown less are one = absurd are
next_given old new plain name zero none traced (first ∷ value) (word ∷ words) grown less (is, are) one = (one word is, all_traced_more old new grown value words are)
next_given old new plain name (suc place) none traced (first ∷ value) [] grown less are one = absurd are
next_given old new plain name (suc place) none traced (first ∷ value) (word ∷ words) grown less (is, are) one =
    (traced_more old new grown first (given plain name word) is, next_given old new plain name place none traced value words grown (omega arith) are one)

-- what holds where the first words of an argument are words of the use
pub record IsGivenTo (now : Origins) (name : Traced) (from own all : ℕ) (value : List Traced) (place : ℕ) (plain : PlainMacro) (name' : Sourced) (words : List Sourced) : Type 0 where
  pub named : IsTraced now name name'
  pub base : IsBase now from plain.name name'
  pub less : own ≤ count_of now
  pub joined : IsJoined now own plain.name name' now all
  pub are : AreTraced now value (given_first plain name' place words)

-- the same, from what held before the first one
abbrev pub GivesTo : Origins → Origins → Traced → ℕ → ℕ → ℕ → List Traced → List Traced → ℕ → Type 0
GivesTo old now name from own all before value place =
    (plain : PlainMacro) (name' : Sourced) (words : List Sourced) → IsTraced old name name' → IsBase old from plain.name name' → AreTraced old before words → IsGivenTo now name from own all value place plain name' words

pub none_given : (origins : Origins) (name : Traced) (from : ℕ) (value : List Traced) → GivesTo origins origins name from 0 from value value 0
none_given origins name from value plain name' words named base are = record {
  named = named;
  base = base;
  less = omega arith;
  joined = joined_none origins from 0 plain.name name' (omega arith) base;
  are = are;
}

-- the clause of `join`
abbrev JoinsNext : Origins → Origins → Traced → ℕ → ℕ → ℕ → ℕ → ℕ → Type 0
JoinsNext old new name from known own all next =
    (macro' : Text) (name' : Sourced) → IsTraced old name name' → IsBase old from macro' name' → IsJoined old known macro' name' old all → own ≤ count_of old → IsJoined old own macro' name' new next

known_at : (origins : Origins) (place : ℕ) (none : Traced) (value : List Traced) (words : List Sourced) → place < length value → AreTraced origins value words → (slice_index_or value place none).from ≤ count_of origins
known_at origins place none [] words less are = absurd (omega arith)
known_at origins place none (first ∷ value) [] less are = absurd are
known_at origins zero none (first ∷ value) (word ∷ words) less (is, are) = is.known
known_at origins (suc place) none (first ∷ value) (word ∷ words) less (is, are) = known_at origins place none value words (omega arith) are

pub one_given : (first old new : Origins) (name : Traced) (from known own all next : ℕ) (before value : List Traced) (place after : ℕ) (none traced : Traced) → Extends old new → place < length value → after ≡ suc place →
    traced ≡ fresh (slice_index_or value place none).word name.word.at next → own ≡ (slice_index_or value place none).from → JoinsNext old new name from known (slice_index_or value place none).from all next →
    GivesTo first old name from known all before value place → GivesTo first new name from own next before (slice_set value place traced) after
one_given first old new name from known own all next before value place after none traced grown less behind is same joins gives plain name' words named base are =
    let part : Traced = slice_index_or value place none in
    let so = gives plain name' words named base are in
    let known' : part.from ≤ count_of old = known_at old place none value (given_first plain name' place words) less so.are in
    let joined : IsJoined old part.from plain.name name' new next = joins plain.name name' so.named so.base so.joined known' in
    record {
      named = traced_more old new grown name name' so.named;
      base = base_more old new grown from plain.name name' so.base;
      less = subst (λ (n : ℕ). n ≤ count_of new) (sym same) (longer old new grown part.from known');
      joined = joined_known new own part.from next plain.name name' same (joined_now old new part.from next plain.name name' grown known' joined);
      are = subst (λ (n : ℕ). AreTraced new (slice_set value place traced) (given_first plain name' n words)) (sym behind) (next_given old new plain name' place none traced value words grown less so.are
          (λ word held. subst (λ (t : Traced). IsTraced new t (given plain name' word)) (sym is) (word_given old new part name.word.at next plain name' word (ap (λ (w : PlainWord). w.at) named.word) held joined)));
    }

all_first : (plain : PlainMacro) (name : Sourced) (count : ℕ) (words : List Sourced) → length words ≤ count → given_first plain name count words ≡ map (given plain name) words
all_first plain name zero [] less = refl
all_first plain name zero (word ∷ words) less = absurd (omega arith)
all_first plain name (suc count) [] less = refl
all_first plain name (suc count) (word ∷ words) less = ap (λ (l : List Sourced). given plain name word ∷ l) (all_first plain name count words (omega arith))

pub traced_length : (origins : Origins) (those : List Traced) (these : List Sourced) → AreTraced origins those these → length those ≡ length these
traced_length origins [] [] are = refl
traced_length origins (traced ∷ those) (word ∷ these) (is, are) = ap suc (traced_length origins those these are)
traced_length origins [] (word ∷ these) are = absurd are
traced_length origins (traced ∷ those) [] are = absurd are

pub all_given : (old now : Origins) (name : Traced) (from own all : ℕ) (before value : List Traced) (place : ℕ) → length before ≤ place → GivesTo old now name from own all before value place → IsGiven old now name from before value
all_given old now name from own all before value place whole gives plain name' words named base are =
    let so = gives plain name' words named base are in
    subst (λ (l : List Sourced). AreTraced now value l) (all_first plain name' place words (omega (arith, whole, traced_length old before words are))) so.are

-- ## All arguments

-- the words of the first `count` are words of the use
abbrev pub values_first : PlainMacro → Sourced → ℕ → List (List Sourced) → List (List Sourced)
values_first plain name zero values = values
values_first plain name (suc count) [] = []
values_first plain name (suc count) (value ∷ values) = map (given plain name) value ∷ values_first plain name count values

all_values_first : (plain : PlainMacro) (name : Sourced) (count : ℕ) (values : List (List Sourced)) → length values ≤ count → values_first plain name count values ≡ map (λ (value : List Sourced). map (given plain name) value) values
all_values_first plain name zero [] less = refl
all_values_first plain name zero (value ∷ values) less = absurd (omega arith)
all_values_first plain name (suc count) [] less = refl
all_values_first plain name (suc count) (value ∷ values) less = ap (λ (l : List (List Sourced)). map (given plain name) value ∷ l) (all_values_first plain name count values (omega arith))

next_value : (old new : Origins) (plain : PlainMacro) (name : Sourced) (place : ℕ) (none value' : List Traced) (values : List (List Traced)) (words : List (List Sourced)) → Extends old new → place < length values →
    AreValues old values (values_first plain name place words) →
    ((value : List Sourced) → AreTraced old (slice_index_or values place none) value → AreTraced new value' (map (given plain name) value)) →
    AreValues new (slice_set values place value') (values_first plain name (suc place) words)
next_value old new plain name place none value' [] words grown less are one = absurd (omega arith)
next_value old new plain name zero none value' (first ∷ values) [] grown less are one = absurd are
next_value old new plain name zero none value' (first ∷ values) (word ∷ words) grown less (is, are) one = (one word is, values_more old new grown values words are)
next_value old new plain name (suc place) none value' (first ∷ values) [] grown less are one = absurd are
next_value old new plain name (suc place) none value' (first ∷ values) (word ∷ words) grown less (is, are) one =
    (all_traced_more old new grown first (map (given plain name) word) is, next_value old new plain name place none value' values words grown (omega arith) are one)

-- what holds where the words of the first arguments are words of the use
pub record AreGivenTo (now : Origins) (name : Traced) (from : ℕ) (values : List (List Traced)) (place : ℕ) (plain : PlainMacro) (name' : Sourced) (words : List (List Sourced)) : Type 0 where
  pub named : IsTraced now name name'
  pub base : IsBase now from plain.name name'
  pub are : AreValues now values (values_first plain name' place words)

-- the same, from what held before the first one
abbrev pub GiveTo : Origins → Origins → Traced → ℕ → List (List Traced) → List (List Traced) → ℕ → Type 0
GiveTo old now name from before values place =
    (plain : PlainMacro) (name' : Sourced) (words : List (List Sourced)) → IsTraced old name name' → IsBase old from plain.name name' → AreValues old before words → AreGivenTo now name from values place plain name' words

pub no_value_given : (origins : Origins) (name : Traced) (from : ℕ) (values : List (List Traced)) → GiveTo origins origins name from values values 0
no_value_given origins name from values plain name' words named base are = record { named = named; base = base; are = are }

one_value_given : (first old new : Origins) (name : Traced) (from : ℕ) (before values : List (List Traced)) (place after : ℕ) (none value' : List Traced) → Extends old new → place < length values → after ≡ suc place →
    IsGiven old new name from (slice_index_or values place none) value' → GiveTo first old name from before values place → GiveTo first new name from before (slice_set values place value') after
one_value_given first old new name from before values place after none value' grown less behind given' gives plain name' words named base are =
    let so = gives plain name' words named base are in record {
      named = traced_more old new grown name name' so.named;
      base = base_more old new grown from plain.name name' so.base;
      are = subst (λ (n : ℕ). AreValues new (slice_set values place value') (values_first plain name' n words)) (sym behind)
          (next_value old new plain name' place none value' values words grown less so.are (λ value is. given' plain name' value so.named so.base is));
    }

values_length : (origins : Origins) (those : List (List Traced)) (these : List (List Sourced)) → AreValues origins those these → length those ≡ length these
values_length origins [] [] are = refl
values_length origins (traced ∷ those) (word ∷ these) (is, are) = ap suc (values_length origins those these are)
values_length origins [] (word ∷ these) are = absurd are
values_length origins (traced ∷ those) [] are = absurd are

pub all_values_given : (old now : Origins) (name : Traced) (from : ℕ) (before values : List (List Traced)) (place : ℕ) → length before ≤ place → GiveTo old now name from before values place → AreGiven old now name from before values
all_values_given old now name from before values place whole gives plain name' words named base are =
    let so = gives plain name' words named base are in
    subst (λ (l : List (List Sourced)). AreValues now values l) (all_values_first plain name' place words (omega (arith, whole, values_length old before words are))) so.are

-- the same, where the arguments are kept in vectors
pub one_vec_given : (first old new : Origins) (name : Traced) (from : ℕ) (before : List (List Traced)) (values : List (Vec Traced Global)) (place after : ℕ) (none value' : Vec Traced Global) (was now : List Traced) →
    Extends old new → place < length values → after ≡ suc place → was ≡ (slice_index_or values place none).items → value'.items ≡ now → IsGiven old new name from was now →
    GiveTo first old name from before (lists_of values) place → GiveTo first new name from before (lists_of (slice_set values place value')) after
one_vec_given first old new name from before values place after none value' was now grown less behind is is' given' gives =
    let items = λ (value : Vec Traced Global). value.items in
    let there : was ≡ slice_index_or (lists_of values) place none.items = is ∙ sym (get_or-map items values place none none.items less) in
    subst (λ (l : List (List Traced)). GiveTo first new name from before l after) (sym (map-set items values place value'))
    (one_value_given first old new name from before (lists_of values) place after none.items value'.items grown (omega (arith, length-map values items)) behind
    (subst (λ (l : List Traced). IsGiven old new name from l value'.items) there (subst (λ (l : List Traced). IsGiven old new name from was l) (sym is') given')) gives)
