-- The lines of a run of text, one after the other.
use Rattle.std.proofs.Common.{◌≡◌, ℕ, ◌-◌, ◌<◌, List, [], ◌∷◌, ◌++◌, Bool, true, false, if◌then◌else◌, drop, take, map, get_or, length, refl, sym, ◌∙◌, ap, subst, arith, length-append, length-drop, append_assoc}
use Rattle.std.proofs.lemmas.List.{take-append-drop, length-map, get_or-map}
use Rattle.std.proofs.Math.Seq.{drop-append_seam}
use Rattle.p10_base.specs.declared.word.Word.{Word}
use Rattle.p10_base.specs.Words.{PlainWord, plain_word, Text, spellings_of}
use Rattle.p10_direct.specs.Cutting.{before, behind, split}
use Rattle.p10_expand.specs.Items.{lines_of, onto_line, item_name, given_after, new_words}
use Rattle.p10_expand.specs.private.Running.{PutsItem}
use Rattle.p10_expand.proofs.Answering.{plain_from}

first_by : (begins : Bool) (word next : PlainWord) (words front after : List PlainWord) → lines_of (next ∷ words) ≡ (next ∷ front) ∷ lines_of after →
    (if begins then (word ∷ []) ∷ lines_of (next ∷ words) else onto_line word (lines_of (next ∷ words)))
    ≡ (word ∷ (if begins then [] else next ∷ front)) ∷ lines_of (if begins then next ∷ words else after)
first_by true word next words front after same = refl
first_by false word next words front after same = ap (onto_line word) same

-- the first line, and then those after it
pub first_of_lines : (word : PlainWord) (words : List PlainWord) → lines_of (word ∷ words) ≡ (word ∷ before (λ w. w.first) words) ∷ lines_of (behind (λ w. w.first) words)
first_of_lines word [] = refl
first_of_lines word (next ∷ words) = first_by next.first word next words _ _ (first_of_lines next words)

whole_by : (passes : Bool) (word : PlainWord) (words front after : List PlainWord) → front ++ after ≡ words →
    (if passes then [] else word ∷ front) ++ (if passes then word ∷ words else after) ≡ word ∷ words
whole_by true word words front after same = refl
whole_by false word words front after same = ap (λ rest. word ∷ rest) same

pub before_behind : (test : PlainWord → Bool) (words : List PlainWord) → before test words ++ behind test words ≡ words
before_behind test [] = refl
before_behind test (word ∷ words) = whole_by (test word) word words _ _ (before_behind test words)

-- what stands after a prefix, by the lengths
pub drop_to : (front after all : List PlainWord) → all ≡ front ++ after → drop (length all - length after) all ≡ after
drop_to front after all same =
    let count : length all - length after ≡ length front = omega (arith, ap length same, length-append front after) in
    rw (count, same) (drop-append_seam front after)

-- what a cut of the words from a place on gives
record PlainCut (all : List PlainWord) (place : ℕ) (line after : List PlainWord) : Type 0 where
  lines : lines_of (drop place all) ≡ line ∷ lines_of after
  rest : drop (length all - length after) all ≡ after

line_cut_of : (all : List PlainWord) (place : ℕ) (line after rest : List PlainWord) → drop place all ≡ rest → 0 < length rest → (line, after) ≡ split (λ word. word.first) rest → PlainCut all place line after
line_cut_of all place line after [] here some cut = absurd (omega (arith, some))
line_cut_of all place line after (word ∷ words) here some cut =
    let front : line ≡ word ∷ before (λ word. word.first) words = ap (λ (p : List PlainWord × List PlainWord). p.0) cut in
    let back : after ≡ behind (λ word. word.first) words = ap (λ (p : List PlainWord × List PlainWord). p.1) cut in
    let joined : line ++ after ≡ drop place all = rw (front, back) (ap (λ rest. word ∷ rest) (before_behind (λ word. word.first) words) ∙ sym here) in
    record {
      lines = rw (front, back) (ap lines_of here ∙ first_of_lines word words);
      rest = drop_to (take place all ++ line) after all (sym (take-append-drop place all) ∙ ap (λ rest. take place all ++ rest) (sym joined) ∙ sym (append_assoc (take place all) line after));
    }

-- the same for the code's words
pub record CutsLine (all : List Word) (place : ℕ) (line after : List Word) : Type 0 where
  pub lines : lines_of (drop place (map plain_word all)) ≡ map plain_word line ∷ lines_of (map plain_word after)
  pub rest : drop (length all - length after) (map plain_word all) ≡ map plain_word after

pub line_cut : (all : List Word) (place : ℕ) (line after : List Word) → place < length all →
    (map plain_word line, map plain_word after) ≡ split (λ word. word.first) (map plain_word (take (length all - place) (drop place all))) → CutsLine all place line after
line_cut all place line after there cut =
    let words : List PlainWord = map plain_word all in
    let count : length words ≡ length all = length-map all plain_word in
    let some : 0 < length (drop place words) = simp length-drop (omega (arith, there, count)) in
    let here : (map plain_word line, map plain_word after) ≡ split (λ word. word.first) (drop place words) = cut ∙ ap (split (λ word. word.first)) (plain_from place all) in
    let cuts : PlainCut words place (map plain_word line) (map plain_word after) = line_cut_of words place (map plain_word line) (map plain_word after) (drop place words) refl some here in
    let lengths : length words - length (map plain_word after) ≡ length all - length after = omega (arith, count, length-map after plain_word) in
    record { lines = cuts.lines; rest = subst (λ (n : ℕ). drop n words ≡ map plain_word after) lengths cuts.rest }

-- the name of an item, in the code's words
pub item_of : (line : List Word) (place : ℕ) (other : Word) → 0 < length line → place ≡ length line - 2 → (get_or line place other).text.now ≡ item_name (map plain_word line)
item_of line place other some is =
    let words : List PlainWord = map plain_word line in
    let count : length words ≡ length line = length-map line plain_word in
    let below : place < length line = omega (arith, some, is) in
    let texts : get_or (spellings_of words) place [] ≡ (get_or line place other).text.now =
    get_or-map (λ (word : PlainWord). word.text) words place (plain_word other) [] (omega (arith, below, count)) ∙ ap (λ (word : PlainWord). word.text) (get_or-map plain_word line place other (plain_word other) below) in
    sym texts ∙ ap (λ n. get_or (spellings_of words) n []) (is ∙ ap (λ n. n - 2) (sym count))

-- one item more is put
pub one_put : (all : List Word) (place : ℕ) (line after : List Word) (out new : List PlainWord) (given names : List Text) → CutsLine all place line after → PutsItem out given (map plain_word line) new names →
    (wanted : List PlainWord) → out ++ new_words given (lines_of (drop place (map plain_word all))) ≡ wanted → new ++ new_words names (lines_of (drop (length all - length after) (map plain_word all))) ≡ wanted
one_put all place line after out new given names cut put wanted so_far =
    ap (λ rest. new ++ new_words names (lines_of rest)) cut.rest ∙ put.words (lines_of (map plain_word after)) ∙ ap (λ lines. out ++ new_words given lines) (sym cut.lines) ∙ so_far

pub one_named : (all : List Word) (place : ℕ) (line after : List Word) (out new : List PlainWord) (given names : List Text) → CutsLine all place line after → PutsItem out given (map plain_word line) new names →
    (wanted : List Text) → given_after given (lines_of (drop place (map plain_word all))) ≡ wanted → given_after names (lines_of (drop (length all - length after) (map plain_word all))) ≡ wanted
one_named all place line after out new given names cut put wanted so_far =
    ap (λ rest. given_after names (lines_of rest)) cut.rest ∙ put.names (lines_of (map plain_word after)) ∙ ap (λ lines. given_after given lines) (sym cut.lines) ∙ so_far
