-- The words of a directive line of the code, as plain words.
use Rattle.std.proofs.Common.{◌≡◌, ℕ, ◌-◌, ◌<◌, ◌≤◌, List, [], ◌∷◌, ◌++◌, map, length, get_or, None, refl, ap, sym, ◌∙◌, arith}
use Rattle.std.proofs.lemmas.List.{map-append, length-map, get_or-map}
use Rattle.p10_base.specs.declared.word.Word.{Word}
use Rattle.p10_base.specs.declared.word.Kind.TheVariants.{Mark}
use Rattle.p10_base.specs.Words.{PlainWord, plain_word}
use Rattle.p10_direct.specs.Form.{BeginsWithHash}
use Rattle.p10_expand.specs.Guards.{guarded_by_if, guarded_name}
use Rattle.p10_expand.specs.Obeying.{mark_word}

-- ## Guards

-- a line of seven words guards a name as an `#if` does
pub seven_words : (line : List Word) (d : Word) → 7 ≤ length line → length line < 8 →
    guarded_by_if (plain_word (get_or line 1 d)) (plain_word (get_or line 2 d)) (plain_word (get_or line 3 d)) (plain_word (get_or line 4 d)) (plain_word (get_or line 5 d)) (plain_word (get_or line 6 d))
    ≡ guarded_name (map plain_word line)
seven_words [] d most least = absurd (omega (arith, most))
seven_words (a ∷ []) d most least = absurd (omega (arith, most))
seven_words (a ∷ b ∷ []) d most least = absurd (omega (arith, most))
seven_words (a ∷ b ∷ c ∷ []) d most least = absurd (omega (arith, most))
seven_words (a ∷ b ∷ c ∷ e ∷ []) d most least = absurd (omega (arith, most))
seven_words (a ∷ b ∷ c ∷ e ∷ f ∷ []) d most least = absurd (omega (arith, most))
seven_words (a ∷ b ∷ c ∷ e ∷ f ∷ g ∷ []) d most least = absurd (omega (arith, most))
seven_words (a ∷ b ∷ c ∷ e ∷ f ∷ g ∷ h ∷ []) d most least = refl
seven_words (a ∷ b ∷ c ∷ e ∷ f ∷ g ∷ h ∷ i ∷ rest) d most least = absurd (omega (arith, least))

-- lines of no other numbers of words than three and seven guard one
pub few_words : (line : List Word) → length line < 3 → None ≡ guarded_name (map plain_word line)
few_words [] few = refl
few_words (a ∷ []) few = refl
few_words (a ∷ b ∷ []) few = refl
few_words (a ∷ b ∷ c ∷ rest) few = absurd (omega (arith, few))

pub some_words : (line : List Word) → 4 ≤ length line → length line < 7 → None ≡ guarded_name (map plain_word line)
some_words [] most least = absurd (omega (arith, most))
some_words (a ∷ []) most least = absurd (omega (arith, most))
some_words (a ∷ b ∷ []) most least = absurd (omega (arith, most))
some_words (a ∷ b ∷ c ∷ []) most least = absurd (omega (arith, most))
some_words (a ∷ b ∷ c ∷ e ∷ []) most least = refl
some_words (a ∷ b ∷ c ∷ e ∷ f ∷ []) most least = refl
some_words (a ∷ b ∷ c ∷ e ∷ f ∷ g ∷ []) most least = refl
some_words (a ∷ b ∷ c ∷ e ∷ f ∷ g ∷ h ∷ rest) most least = absurd (omega (arith, least))

pub many_words : (line : List Word) → 8 ≤ length line → None ≡ guarded_name (map plain_word line)
many_words [] most = absurd (omega (arith, most))
many_words (a ∷ []) most = absurd (omega (arith, most))
many_words (a ∷ b ∷ []) most = absurd (omega (arith, most))
many_words (a ∷ b ∷ c ∷ []) most = absurd (omega (arith, most))
many_words (a ∷ b ∷ c ∷ e ∷ []) most = absurd (omega (arith, most))
many_words (a ∷ b ∷ c ∷ e ∷ f ∷ []) most = absurd (omega (arith, most))
many_words (a ∷ b ∷ c ∷ e ∷ f ∷ g ∷ []) most = absurd (omega (arith, most))
many_words (a ∷ b ∷ c ∷ e ∷ f ∷ g ∷ h ∷ []) most = absurd (omega (arith, most))
many_words (a ∷ b ∷ c ∷ e ∷ f ∷ g ∷ h ∷ i ∷ rest) most = refl

-- ## Marks

-- the words of a root with the mark of a pragma after them
pub marked : (line : List Word) (other : Word) (words new : List Word) → BeginsWithHash (map plain_word line) → new ≡ words ++ (record (get_or line (length line - 1) other) { kind = Mark }) ∷ [] →
    map plain_word new ≡ map plain_word words ++ mark_word (map plain_word line)
marked [] other words new begins more = absurd begins
marked (hash ∷ rest) other words new begins more =
    let line : List Word = hash ∷ rest in
    let last : Word = get_or line (length line - 1) other in
    let count : length (map plain_word line) ≡ length line = length-map line plain_word in
    let here : plain_word last ≡ get_or (map plain_word line) (length (map plain_word line) - 1) (plain_word hash) =
    sym (get_or-map plain_word line (length line - 1) other (plain_word hash) (omega arith)) ∙ ap (λ (n : ℕ). get_or (map plain_word line) (n - 1) (plain_word hash)) (sym count) in
    ap (map plain_word) more
    ∙ map-append plain_word words ((record last { kind = Mark }) ∷ [])
    ∙ ap (λ (word : PlainWord). map plain_word words ++ (record word { kind = Mark }) ∷ []) here
