-- Lines of words are split again into the texts that they show.
use Rattle.std.proofs.Common.{◌≡◌, ℕ, ◌==◌, false, cond, List, [], ◌∷◌, ◌++◌, map, codes, sym, ap, ◌∙◌, refl, arith, append_assoc}
use Rattle.std.specs.List.{All}
use Rattle.std.proofs.lemmas.List.Elements.{All-head, All-tail, All-cons}
use Rattle.p10_base.specs.declared.word.Kind.{Kind}
use Rattle.p10_base.specs.declared.word.Kind.TheVariants as kind
use Rattle.p10_base.specs.Words.{Text, PlainWord}
use Rattle.p10_digests.specs.Lines.{prefix_of, word_line, hashed_lines}
use Rattle.p10_digests.specs.Bare.{IsProgramWord, AreProgramWords}
use Rattle.p10_digests.proofs.Patterns.{not_equal}

-- a byte other than a line feed
abbrev pub IsInLine : ℕ → Type 0
IsInLine b = b ≡ 10 → ⊥

-- a byte before the first line
abbrev front : ℕ → List Text → List Text
front b [] = (b ∷ []) ∷ []
front b (line ∷ lines) = (b ∷ line) ∷ lines

-- the lines of a text
abbrev pub split : Text → List Text
split [] = []
split (b ∷ text) = cond (b == 10) ([] ∷ split text) (front b (split text))

split_first : (line rest : Text) → All IsInLine line → split (line ++ (10 ∷ rest)) ≡ line ∷ split rest
split_first [] rest inside = refl
split_first (b ∷ line) rest inside =
    let other : (b == 10) ≡ false = not_equal b 10 (All-head IsInLine b line inside) in
    rw other (ap (front b) (split_first line rest (All-tail IsInLine b line inside)))

-- what a word shows
abbrev pub shown : PlainWord → Text
shown word = prefix_of word.kind ++ word.text

shown_inside : (kind : Kind) (text : Text) → All IsInLine text → All IsInLine (prefix_of kind ++ text)
shown_inside kind.Mark text inside = All-cons IsInLine 35 text (λ e. omega (arith, e)) inside
shown_inside kind.Name text inside = inside
shown_inside kind.Number text inside = inside
shown_inside kind.Char text inside = inside
shown_inside kind.Str text inside = inside
shown_inside kind.Punct text inside = inside

split_word : (word : PlainWord) (rest : Text) → IsProgramWord word → split (word_line word ++ rest) ≡ shown word ∷ split rest
split_word word rest good =
    ap split (append_assoc (prefix_of word.kind) (word.text ++ codes "\n") rest ∙ ap (λ t. prefix_of word.kind ++ t) (append_assoc word.text (codes "\n") rest) ∙ sym (append_assoc (prefix_of word.kind) word.text (10 ∷ rest)))
    ∙ split_first (shown word) rest (shown_inside word.kind word.text good.line)

pub split_words : (words : List PlainWord) (rest : Text) → AreProgramWords words → split (hashed_lines words ++ rest) ≡ map shown words ++ split rest
split_words [] rest good = refl
split_words (w ∷ words) rest good =
    ap split (append_assoc (word_line w) (hashed_lines words) rest)
    ∙ split_word w (hashed_lines words ++ rest) good.0
    ∙ ap (λ lines. shown w ∷ lines) (split_words words rest good.1)
