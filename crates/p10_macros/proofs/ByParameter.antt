-- The places of parameters, and the values there.
use Rattle.std.proofs.Common.{◌≡◌, ℕ, zero, suc, ◌+◌, ◌-◌, ◌<◌, ◌≤◌, List, [], ◌∷◌, length, map, drop, slice_index_or, Bool, true, false, ◌&&◌, cond, not, ltb, bytes_eq, Option, Some, None, option_map, Bor, refl, sym, subst, ap, ◌∙◌, arith, drop-cons}
use Rattle.std.specs.List.{All, slice_get, position, position_or_len}
use Rattle.std.specs.Map.{lookup}
use Rattle.std.specs.HashMap.{HashMap, IsEmpty, Updates}
use Rattle.std.proofs.lemmas.List.{drop_all, length-map, get_or-map}
use Rattle.std.proofs.lemmas.List.Elements.{All-nil, All-cons}
use Rattle.std.proofs.lemmas.List.Quantifiers.{position-Some}
use Rattle.std.proofs.lemmas.Map.Text.{hash_map_updates_str}
use Rattle.std.proofs.lemmas.Bool.Decides.{nat_tests}
use Rattle.std.proofs.lemmas.Slice.Eq.{bytes_eq-Decides}
use Rattle.p10_base.specs.declared.word.Word.{Word}
use Rattle.p10_base.specs.Names.{place_in}
use Rattle.p10_base.specs.Words.{Text, PlainWord, is_name_kind, plain_word}
use Rattle.p10_macros.specs.declared.origin.Origins.{Origins}
use Rattle.p10_macros.specs.declared.pending.Traced.{Traced}
use Rattle.p10_macros.specs.Uses.{Sourced, value_of, texts_of}
use Rattle.p10_macros.specs.private.Traces.{AreValues}
use Rattle.p10_macros.proofs.Putting.{IsValue, texts_at}
use Rattle.p10_macros.specs.private.Places.{place_named, at_place, at_text, IsBelow, places_of}

-- ## Places by texts

-- the first place of a list is that of its head, or stands after it
position-cons : {A : Type 0} (test : A → Bool) (item : A) (items : List A) → position test (item ∷ items) ≡ cond (test item) (Some 0) (option_map suc (position test items))
position-cons test item items = go (test item)
  where
    go : (b : Bool) → cond (ltb (cond (not b) (1 + position_or_len test items) 0) (length (item ∷ items))) (Some (cond (not b) (1 + position_or_len test items) 0)) None
        ≡ cond b (Some 0) (option_map suc (cond (ltb (position_or_len test items) (length items)) (Some (position_or_len test items)) None))
    go true = grind (arith, nat_tests)
    go false = behind (ltb (1 + position_or_len test items) (length (item ∷ items))) (ltb (position_or_len test items) (length items)) (grind (arith, nat_tests))
      where
        behind : (a b : Bool) → a ≡ b → cond a (Some (1 + position_or_len test items)) None ≡ option_map suc (cond b (Some (position_or_len test items)) None)
        behind true true same = ap (λ (n : ℕ). Some n) (omega arith)
        behind false false same = refl
        behind true false same = cc
        behind false true same = cc

place_in-cons : (name text : Text) (names : List Text) → place_in (name ∷ names) text ≡ cond (bytes_eq text name) (Some 0) (option_map suc (place_in names text))
place_in-cons name text names = position-cons (bytes_eq text) name names

-- a place among the parameters from one of them on is a place among all
abbrev pub behind : ℕ → Option ℕ → Option ℕ
behind place found = option_map (λ n. n + place) found

-- a map has the places of the parameters from one of them on
abbrev pub HasPlaces : {S : Type 0} → HashMap (Bor Text) ℕ S → List Text → ℕ → Type 0
HasPlaces by_text texts place = (text : Text) → at_text by_text text ≡ behind place (place_in (drop place texts) text)

same_text : (this that : Text) → bytes_eq this that ≡ bytes_eq that this
same_text this that = go (bytes_eq this that) (bytes_eq that this) (bytes_eq-Decides this that) (bytes_eq-Decides that this)
  where
    go : (a b : Bool) → ((a ≡ true → this ≡ that) × (this ≡ that → a ≡ true)) → ((b ≡ true → that ≡ this) × (that ≡ this → b ≡ true)) → a ≡ b
    go true b (so, back) (so', back') = sym (back' (sym (so refl)))
    go false true (so, back) (so', back') = back (sym (so' refl))
    go false false these those = refl

pub has_none : {S : Type 0} (by_text : HashMap (Bor Text) ℕ S) (texts : List Text) (place : ℕ) → IsEmpty by_text → length texts ≤ place → HasPlaces by_text texts place
has_none by_text texts place empty whole text =
    ap (λ (entries : List (Bor Text × ℕ)). lookup (λ (key : Bor Text). bytes_eq text key.now) entries) empty ∙ sym (ap (λ (l : List Text). behind place (place_in l text)) (drop_all place texts whole))

-- the place of one more parameter, before the others
one_more : (parameter text : Text) (rest : List Text) (place : ℕ) → 0 < place → cond (bytes_eq parameter text) (Some (place - 1)) (behind place (place_in rest text)) ≡ behind (place - 1) (place_in (parameter ∷ rest) text)
one_more parameter text rest place more =
    go (bytes_eq parameter text) (bytes_eq text parameter) (same_text parameter text) (place_in rest text) ∙ ap (behind (place - 1)) (sym (place_in-cons parameter text rest))
  where
    go : (a b : Bool) → a ≡ b → (found : Option ℕ) → cond a (Some (place - 1)) (behind place found) ≡ behind (place - 1) (cond b (Some 0) (option_map suc found))
    go true true e found = ap (λ (n : ℕ). Some n) (omega arith)
    go false false e None = refl
    go false false e (Some n) = ap (λ (m : ℕ). Some m) (omega arith)
    go true false e found = cc
    go false true e found = cc

pub has_more : {S : Type 0} (old new : HashMap (Bor Text) ℕ S) (params : List (Bor Text)) (place : ℕ) (none : Bor Text) → 0 < place → place ≤ length params →
    HasPlaces old (texts_at params) place → Updates (λ x y. bytes_eq x.now y.now) old new (slice_index_or params (place - 1) none) (Some (place - 1)) → HasPlaces new (texts_at params) (place - 1)
has_more old new params place none more less has updates text =
    let parameter : Text = (slice_index_or params (place - 1) none).now in
    let rest : List Text = drop place (texts_at params) in
    let up : suc (place - 1) ≡ place = omega arith in
    let front : drop (place - 1) (texts_at params) ≡ parameter ∷ rest =
    drop-cons (texts_at params) (place - 1) [] (omega (arith, length-map params (λ (param : Bor Text). param.now)))
    ∙ ap (λ (n : ℕ). slice_index_or (texts_at params) (place - 1) [] ∷ drop n (texts_at params)) up
    ∙ ap (λ (t : Text). t ∷ rest) (get_or-map (λ (param : Bor Text). param.now) params (place - 1) none [] (omega arith)) in
    hash_map_updates_str parameter old new (Some (place - 1)) updates text
    ∙ ap (λ (o : Option ℕ). cond (bytes_eq parameter text) (Some (place - 1)) o) (has text)
    ∙ one_more parameter text rest place more
    ∙ ap (λ (l : List Text). behind (place - 1) (place_in l text)) (sym front)

pub has_all : {S : Type 0} (by_text : HashMap (Bor Text) ℕ S) (texts : List Text) (place : ℕ) → place ≤ 0 → HasPlaces by_text texts place → (text : Text) → at_text by_text text ≡ place_in texts text
has_all by_text texts place none has text =
    let e : place ≡ 0 = omega arith in
    has text ∙ ap (λ (n : ℕ). behind n (place_in (drop n texts) text)) e ∙ all (place_in texts text)
  where
    all : (found : Option ℕ) → behind 0 found ≡ found
    all None = refl
    all (Some n) = ap (λ (m : ℕ). Some m) (omega arith)

-- the place of a name is below the number of names
place_below : (texts : List Text) (text : Text) → IsBelow (length texts) (place_in texts text)
place_below texts text place found = (position-Some (bytes_eq text) texts place [] found).0

named_below : (texts : List Text) (word : PlainWord) → IsBelow (length texts) (place_named texts word)
named_below texts word = go (is_name_kind word.kind)
  where
    go : (b : Bool) → IsBelow (length texts) (cond b (place_in texts word.text) None)
    go true = place_below texts word.text
    go false = λ place found. cc

pub all_below : (parameters : Option (List Text)) (words : List PlainWord) → All (IsBelow (length (texts_of parameters))) (places_of parameters words)
all_below None words = All-nil (IsBelow 0)
all_below (Some texts) [] = All-nil (IsBelow (length texts))
all_below (Some texts) (word ∷ words) = All-cons (IsBelow (length texts)) (place_named texts word) (map (place_named texts) words) (named_below texts word) (all_below (Some texts) words)

-- ## Values at places

nothing : (found : Option ℕ) → None ≡ at_place {A = List Sourced} found []
nothing None = refl
nothing (Some place) = refl

named_value : (word : PlainWord) → is_name_kind word.kind ≡ true → (texts : List Text) (values : List (List Sourced)) → value_of texts values word ≡ at_place (place_in texts word.text) values
named_value word kind [] [] = refl
named_value word kind [] (value ∷ values) = refl
named_value word kind (parameter ∷ texts) [] = nothing (place_in (parameter ∷ texts) word.text)
named_value word kind (parameter ∷ texts) (value ∷ values) =
    ap (λ (b : Bool). cond (b && bytes_eq word.text parameter) (Some value) (value_of texts values word)) kind
    ∙ go (bytes_eq word.text parameter) (place_in texts word.text) (named_value word kind texts values)
    ∙ ap (λ (found : Option ℕ). at_place found (value ∷ values)) (sym (place_in-cons parameter word.text texts))
  where
    go : (b : Bool) (found : Option ℕ) → value_of texts values word ≡ at_place found values →
        cond b (Some value) (value_of texts values word) ≡ at_place (cond b (Some 0) (option_map suc found)) (value ∷ values)
    go true found again = refl
    go false None again = again
    go false (Some place) again = again

-- a word that is no name has none
other_value : (word : PlainWord) → is_name_kind word.kind ≡ false → (texts : List Text) (values : List (List Sourced)) → value_of texts values word ≡ None
other_value word kind [] [] = refl
other_value word kind [] (value ∷ values) = refl
other_value word kind (parameter ∷ texts) [] = refl
other_value word kind (parameter ∷ texts) (value ∷ values) =
    ap (λ (b : Bool). cond (b && bytes_eq word.text parameter) (Some value) (value_of texts values word)) kind ∙ other_value word kind texts values

-- the value of the parameter that a word names stands at the place of that parameter
pub value_at : (texts : List Text) (values : List (List Sourced)) (word : PlainWord) → value_of texts values word ≡ at_place (place_named texts word) values
value_at texts values word = go (is_name_kind word.kind) refl
  where
    go : (b : Bool) → is_name_kind word.kind ≡ b → value_of texts values word ≡ at_place (cond b (place_in texts word.text) None) values
    go true kind = named_value word kind texts values
    go false kind = other_value word kind texts values

values_at : (origins : Origins) (those : List (List Traced)) (these : List (List Sourced)) → AreValues origins those these → (place : ℕ) → IsValue origins (slice_get those place) (slice_get these place)
values_at origins [] [] are place = tt
values_at origins (traced ∷ those) (sourced ∷ these) (is, are) zero = is
values_at origins (traced ∷ those) (sourced ∷ these) (is, are) (suc place) = values_at origins those these are place
values_at origins [] (sourced ∷ these) are place = absurd are
values_at origins (traced ∷ those) [] are place = absurd are

-- what stands at the place of the parameter is the value of the word
pub is_value : (texts : List Text) (word : PlainWord) (place : Option ℕ) (values : List (List Traced)) (value : Option (List Traced)) → place ≡ place_named texts word → value ≡ at_place place values →
    (origins : Origins) (values' : List (List Sourced)) → AreValues origins values values' → IsValue origins value (value_of texts values' word)
is_value texts word place values value named there origins values' are =
    let found : value_of texts values' word ≡ at_place place values' = value_at texts values' word ∙ ap (λ (p : Option ℕ). at_place p values') (sym named) in
    subst (λ (v : Option (List Traced)). IsValue origins v (value_of texts values' word)) (sym there)
    (subst (λ (o : Option (List Sourced)). IsValue origins (at_place place values) o) (sym found) (go place))
  where
    go : (p : Option ℕ) → IsValue origins (at_place p values) (at_place p values')
    go None = tt
    go (Some n) = values_at origins values values' are n

-- ## The places that a macro keeps

kept_there : (parameters : Option (List Text)) (body : List Word) (place : ℕ) (none : Word) → place < length (places_of parameters (map plain_word body)) →
    slice_index_or (places_of parameters (map plain_word body)) place None ≡ place_named (texts_of parameters) (plain_word (slice_index_or body place none))
kept_there None body place none less = absurd (omega arith)
kept_there (Some texts) [] place none less = absurd (omega arith)
kept_there (Some texts) (word ∷ body) zero none less = refl
kept_there (Some texts) (word ∷ body) (suc place) none less = kept_there (Some texts) body place none (omega arith)

-- the place that is kept for a word is that of the parameter which it names
pub parameter_at : (parameters : Option (List Text)) (body : List Word) (all : List (Option ℕ)) (place : ℕ) (found : Option ℕ) (none : Word) → all ≡ places_of parameters (map plain_word body) → place < length all →
    found ≡ slice_index_or all place None → found ≡ place_named (texts_of parameters) (plain_word (slice_index_or body place none))
parameter_at parameters body all place found none is less there =
    there ∙ ap (λ (l : List (Option ℕ)). slice_index_or l place None) is ∙ kept_there parameters body place none (subst (λ (l : List (Option ℕ)). place < length l) is less)
