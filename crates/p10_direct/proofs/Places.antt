-- Words from a place on.
use Rattle.std.proofs.Common.{◌≡◌, ℕ, ◌+◌, ◌<◌, ◌≤◌, suc, List, [], ◌∷◌, length, length-drop, map, drop, get_or, Bool, true, false, refl, sym, ◌∙◌, ap, arith, None}
use Rattle.std.proofs.Math.Seq.{drop-cons}
use Rattle.std.proofs.Math.ListN.{drop_of_length-le}
use Rattle.std.proofs.lemmas.List.{drop-drop, drop-map}
use Rattle.p10_base.specs.declared.word.Word.{Word}
use Rattle.p10_base.specs.Words.{Text, is_punctuator, plain_word}
use Rattle.p10_direct.specs.Tokens.{token_of, tokens_of}
use Rattle.p10_direct.specs.private.Parts.{from}
use Rattle.p10_direct.specs.private.Signs.{binary_of}
use Rattle.p10_direct.specs.private.Climbing.{Nothing, heads, if_level, operator_at, start_of, start_at, is_nil}

pub from_end : (place : ℕ) (words : List Word) → length words ≤ place → from place words ≡ []
unfolding from
from_end place words past = ap (λ ws. tokens_of (map plain_word ws)) (drop_of_length-le words past)

pub from_word : (place : ℕ) (words : List Word) (d : Word) → place < length words → from place words ≡ token_of (plain_word (get_or words place d)) ∷ from (suc place) words
unfolding from
from_word place words d inside = ap (λ ws. tokens_of (map plain_word ws)) (drop-cons words place d inside)

pub from_next : (place : ℕ) (words : List Word) → from (place + 1) words ≡ drop 1 (from place words)
unfolding from
from_next place words =
    ap (λ ws. tokens_of (map plain_word ws)) (sym (drop-drop 1 place words)) ∙ ap tokens_of (sym (drop-map plain_word 1 (drop place words)))
    ∙ sym (drop-map token_of 1 (map plain_word (drop place words)))

pub from_stays : (place : ℕ) (words : List Word) → length words ≤ place → from place words ≡ drop 1 (from place words)
from_stays place words past = from_end place words past ∙ ap (drop 1) (sym (from_end place words past))

pub heads_there : (place : ℕ) (words : List Word) (d : Word) (text : Text) (answer : Bool) → place < length words → answer ≡ is_punctuator text (plain_word (get_or words place d)) → answer ≡ heads text (from place words)
heads_there place words d text answer inside e = e ∙ sym (ap (heads text) (from_word place words d inside))

pub heads_end : (place : ℕ) (words : List Word) (text : Text) → length words ≤ place → false ≡ heads text (from place words)
heads_end place words text past = sym (ap (heads text) (from_end place words past))

pub operator_there : (place level : ℕ) (words : List Word) (d : Word) → place < length words → if_level level (binary_of (token_of (plain_word (get_or words place d)))) ≡ operator_at level (from place words)
operator_there place level words d inside = sym (ap (operator_at level) (from_word place words d inside))

pub operator_end : (place level : ℕ) (words : List Word) → length words ≤ place → None ≡ operator_at level (from place words)
operator_end place level words past = sym (ap (operator_at level) (from_end place words past))

pub start_there : (place : ℕ) (words : List Word) (d : Word) → place < length words → start_of (token_of (plain_word (get_or words place d))) ≡ start_at (from place words)
start_there place words d inside = sym (ap start_at (from_word place words d inside))

pub start_end : (place : ℕ) (words : List Word) → length words ≤ place → Nothing ≡ start_at (from place words)
start_end place words past = sym (ap start_at (from_end place words past))

pub nil_there : (place : ℕ) (words : List Word) → place < length words → false ≡ is_nil (from place words)
unfolding from
nil_there place words inside = not_nil (drop place words) (omega (arith, length-drop place words, inside))
  where
    not_nil : (rest : List Word) → 0 < length rest → false ≡ is_nil (tokens_of (map plain_word rest))
    not_nil [] some = absurd (omega (arith, some))
    not_nil (word ∷ rest) some = refl

pub nil_end : (place : ℕ) (words : List Word) → length words ≤ place → true ≡ is_nil (from place words)
nil_end place words past = sym (ap is_nil (from_end place words past))
