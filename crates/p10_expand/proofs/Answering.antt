-- Conditions where `defined` is answered, and what comes of them.
use Rattle.std.proofs.Common.{◌≡◌, ℕ, zero, suc, ◌+◌, ◌-◌, ◌≤◌, ◌<◌, List, [], ◌∷◌, ◌++◌, drop, take, get_or, map, length, length-drop, refl, sym, ◌∙◌, ap, subst, add-one, arith}
use Rattle.std.proofs.lemmas.List.{drop-drop, drop-map, length-map}
use Rattle.std.proofs.Math.Seq.{drop-cons, take-length}
use Rattle.p10_base.specs.declared.word.Word.{Word}
use Rattle.p10_base.specs.Words.{PlainWord, plain_word}
use Rattle.p10_macros.specs.Table.{Table}
use Rattle.p10_expand.specs.Conditionals.{answered}
use Rattle.p10_expand.specs.private.Running.{PutsAnswer}

-- the words of a question are passed over
pub answered_after : (macros : Table) (more : ℕ) (words : List PlainWord) → answered macros more words ≡ answered macros 0 (drop more words)
answered_after macros zero words = refl
answered_after macros (suc more) [] = refl
answered_after macros (suc more) (word ∷ words) = answered_after macros more words

-- the words from a place on are all of those from there on
pub all_from : {A : Type 0} (place : ℕ) (all : List A) → take (length all - place) (drop place all) ≡ drop place all
all_from place all = ap (λ n. take n (drop place all)) (sym (length-drop place all)) ∙ take-length (drop place all)

-- the same, as plain words
pub plain_from : (place : ℕ) (all : List Word) → map plain_word (take (length all - place) (drop place all)) ≡ drop place (map plain_word all)
plain_from place all = ap (map plain_word) (all_from place all) ∙ sym (drop-map plain_word place all)

-- the plain word at a place, and those after it
plain_here : (all : List Word) (place : ℕ) (other : Word) → place < length all → drop place (map plain_word all) ≡ plain_word (get_or all place other) ∷ drop (place + 1) (map plain_word all)
plain_here all place other there =
    drop-map plain_word place all
    ∙ ap (map plain_word) (let here : drop place all ≡ get_or all place other ∷ drop (place + 1) all = rw add-one (drop-cons all place other there) in here)
    ∙ ap (λ (rest : List PlainWord). plain_word (get_or all place other) ∷ rest) (sym (drop-map plain_word (place + 1) all))

-- the words of a condition so far, and those that are left
pub record Goes (macros : Table) (out : List PlainWord) (all : List Word) (place : ℕ) : Type 0 where
  pub within : place ≤ length all
  pub same : out ++ answered macros 0 (drop place (map plain_word all)) ≡ answered macros 0 (map plain_word all)

-- one word more is answered
pub one_answered : (macros : Table) (out new : List PlainWord) (all : List Word) (place more : ℕ) (other : Word) → place < length all →
    PutsAnswer macros out (plain_word (get_or all place other)) (map plain_word (take (length all - (place + 1)) (drop (place + 1) all))) new more →
    out ++ answered macros 0 (drop place (map plain_word all)) ≡ answered macros 0 (map plain_word all) →
    Goes macros new all (place + (1 + more))
one_answered macros out new all place more other there put so_far =
    let words : List PlainWord = map plain_word all in
    let rest : map plain_word (take (length all - (place + 1)) (drop (place + 1) all)) ≡ drop (place + 1) words = plain_from (place + 1) all in
    let count : length words ≡ length all = length-map all plain_word in
    let within : more ≤ length (drop (place + 1) words) = subst (λ (those : List PlainWord). more ≤ length those) rest put.within in
    let put_so : new ++ answered macros more (drop (place + 1) words) ≡ out ++ answered macros 0 (plain_word (get_or all place other) ∷ drop (place + 1) words) =
    subst (λ (those : List PlainWord). new ++ answered macros more those ≡ out ++ answered macros 0 (plain_word (get_or all place other) ∷ those)) rest put.same in
    let apart : drop more (drop (place + 1) words) ≡ drop (place + (1 + more)) words = drop-drop more (place + 1) words ∙ ap (λ n. drop n words) (omega arith) in
    record {
      within = omega (arith, there, count, simp length-drop at within);
      same = ap (λ those. new ++ answered macros 0 those) (sym apart)
          ∙ ap (λ those. new ++ those) (sym (answered_after macros more (drop (place + 1) words)))
          ∙ put_so
          ∙ ap (λ those. out ++ answered macros 0 those) (sym (plain_here all place other there))
          ∙ so_far;
    }
