-- Lines tell the words that they are of.
use Rattle.std.proofs.Common.{◌≡◌, ◌==◌, true, false, cond, List, [], ◌∷◌, ◌++◌, Some, map, codes, refl, sym, ap, ◌∙◌, append-nil}
use Rattle.std.specs.Prelude.{◌↔◌}
use Rattle.std.specs.List.{flat_map, slice_get}
use Rattle.p10_base.specs.declared.word.Kind.{Kind}
use Rattle.p10_base.specs.declared.word.Kind.TheVariants as kind
use Rattle.p10_base.specs.Words.{Text, PlainWord}
use Rattle.p10_digests.specs.Lines.{prefix_of, hashed_lines}
use Rattle.p10_digests.specs.Bare.{BareWord, is_mark_kind, bare_word, bare_words, IsProgramWord, AreProgramWords}
use Rattle.p10_digests.proofs.Patterns.{not_equal}
use Rattle.p10_digests.proofs.Splitting.{split, split_words, shown}

-- the word that a text shows
abbrev pub read : Text → BareWord
read [] = record { mark = false; text = [] }
read (b ∷ text) = cond (b == 35) (record { mark = true; text = text }) (record { mark = false; text = b ∷ text })

read_unmarked : (text : Text) → (slice_get text 0 ≡ Some 35 → ⊥) → read text ≡ record { mark = false; text = text }
read_unmarked [] sign = refl
read_unmarked (b ∷ text) sign =
    let other : (b == 35) ≡ false = not_equal b 35 (λ e. sign (ap Some e)) in
    rw other refl

read_shown : (kind : Kind) (text : Text) → (is_mark_kind kind ≡ false → slice_get text 0 ≡ Some 35 → ⊥) → read (prefix_of kind ++ text) ≡ record { mark = is_mark_kind kind; text = text }
read_shown kind.Mark text sign = refl
read_shown kind.Name text sign = read_unmarked text (sign refl)
read_shown kind.Number text sign = read_unmarked text (sign refl)
read_shown kind.Char text sign = read_unmarked text (sign refl)
read_shown kind.Str text sign = read_unmarked text (sign refl)
read_shown kind.Punct text sign = read_unmarked text (sign refl)

pub read_word : (word : PlainWord) → IsProgramWord word → read (shown word) ≡ bare_word word
read_word word good = read_shown word.kind word.text good.sign

read_words : (words : List PlainWord) → AreProgramWords words → map read (map shown words) ≡ bare_words words
read_words [] good = refl
read_words (w ∷ words) good = ap (λ b. b ∷ map read (map shown words)) (read_word w good.0) ∙ ap (λ bs. bare_word w ∷ bs) (read_words words good.1)

words_again : (words : List PlainWord) → AreProgramWords words → map read (split (hashed_lines words)) ≡ bare_words words
words_again words good =
    ap (λ t. map read (split t)) (sym (append-nil (hashed_lines words)))
    ∙ ap (map read) (split_words words [] good ∙ append-nil (map shown words))
    ∙ read_words words good

-- ---- words without places have lines

-- the line of a word without its place
abbrev bare_line : BareWord → Text
bare_line word = cond word.mark (codes "#") [] ++ (word.text ++ codes "\n")

abbrev pub bare_lines : List BareWord → Text
bare_lines words = flat_map bare_line words

prefix_is : (kind : Kind) → prefix_of kind ≡ cond (is_mark_kind kind) (codes "#") []
prefix_is kind.Mark = refl
prefix_is kind.Name = refl
prefix_is kind.Number = refl
prefix_is kind.Char = refl
prefix_is kind.Str = refl
prefix_is kind.Punct = refl

pub lines_are_bare : (words : List PlainWord) → hashed_lines words ≡ bare_lines (bare_words words)
lines_are_bare [] = refl
lines_are_bare (w ∷ words) =
    ap (λ p. (p ++ (w.text ++ codes "\n")) ++ hashed_lines words) (prefix_is w.kind)
    ∙ ap (λ t. bare_line (bare_word w) ++ t) (lines_are_bare words)

pub lines_tell_words : (xs ys : List PlainWord) → AreProgramWords xs → AreProgramWords ys → (hashed_lines xs ≡ hashed_lines ys) ↔ (bare_words xs ≡ bare_words ys)
lines_tell_words xs ys left right = (
  (λ e. sym (words_again xs left) ∙ ap (λ t. map read (split t)) e ∙ words_again ys right),
  (λ e. lines_are_bare xs ∙ ap bare_lines e ∙ sym (lines_are_bare ys)),
)
