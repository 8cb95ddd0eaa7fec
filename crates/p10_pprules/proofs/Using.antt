-- The macros that a list uses, word by word.
use Rattle.std.proofs.Common.{◌≡◌, ℕ, ◌+◌, ◌<◌, List, [], ◌∷◌, ◌++◌, length, map, take, get_or, true, false, cond, not, ◌&&◌, bytes_eq, Option, Some, None, refl, sym, ◌∙◌, ap}
use Rattle.std.specs.Option.{option_to_list}
use Rattle.std.specs.List.{All, list_any, filter_map, cons_option}
use Rattle.std.proofs.lemmas.List.Elements.{All-nil, All-cons, filter_map-append}
use Rattle.p10_base.specs.declared.word.Word.{Word}
use Rattle.p10_base.specs.Words.{PlainWord, plain_word, Text, is_name_kind}
use Rattle.p10_base.specs.Names.{place_in}
use Rattle.p10_base.proofs.Naming.{place_before}
use Rattle.p10_pprules.specs.private.Listing.{used_by}
use Rattle.p10_pprules.proofs.Members.{mapped_more}

-- parameters count by their texts alone
pub used_same : (names these those : List Text) → ((text : Text) → list_any (bytes_eq text) these ≡ list_any (bytes_eq text) those) → (words : List PlainWord) → filter_map (used_by names these) words ≡ filter_map (used_by names those) words
used_same names these those same [] = refl
used_same names these those same (word ∷ words) =
    ap (λ b. cons_option (cond (is_name_kind word.kind && not b) (place_in names word.text) None) (filter_map (used_by names these) words)) (same word.text)
    ∙ ap (cons_option (used_by names those word)) (used_same names these those same words)

use_within : (names parameters : List Text) (word : PlainWord) (place : ℕ) → used_by names parameters word ≡ Some place → place < length names
use_within names parameters word place e =
    elim (is_name_kind word.kind && not (list_any (bytes_eq word.text) parameters)) as (λ b. cond b (place_in names word.text) None ≡ Some place → place < length names)
    [ true ↦ λ e. place_before names word.text place e | false ↦ λ e. absurd cc ] e

pub used_within : (names parameters : List Text) (words : List PlainWord) → All (λ place. place < length names) (filter_map (used_by names parameters) words)
used_within names parameters [] = All-nil (λ place. place < length names)
used_within names parameters (word ∷ words) =
    elim (used_by names parameters word) as (λ o. used_by names parameters word ≡ o → All (λ place. place < length names) (cons_option o (filter_map (used_by names parameters) words))) [
      | None ↦ λ e. used_within names parameters words
      | Some place ↦ λ e. All-cons (λ place. place < length names) place (filter_map (used_by names parameters) words) (use_within names parameters word place e) (used_within names parameters words)
    ] refl

lone : (o : Option ℕ) → cons_option o [] ≡ option_to_list o
lone None = refl
lone (Some x) = refl

pub used_more : (names parameters : List Text) (words : List Word) (i : ℕ) (d : Word) (places next : List ℕ) → i < length words → places ≡ filter_map (used_by names parameters) (map plain_word (take i words))
    → next ≡ places ++ option_to_list (used_by names parameters (plain_word (get_or words i d))) → next ≡ filter_map (used_by names parameters) (map plain_word (take (i + 1) words))
used_more names parameters words i d places next inside so_far grown =
    grown ∙ ap (λ l. l ++ option_to_list (used_by names parameters (plain_word (get_or words i d)))) so_far
    ∙ ap (λ l. filter_map (used_by names parameters) (map plain_word (take i words)) ++ l) (sym (lone (used_by names parameters (plain_word (get_or words i d)))))
    ∙ sym (filter_map-append (used_by names parameters) (map plain_word (take i words)) (plain_word (get_or words i d) ∷ []))
    ∙ ap (filter_map (used_by names parameters)) (sym (mapped_more plain_word words i d inside))
