-- Reading the list of a definition from its words, from the first on.
use Rattle.std.specs.Prelude.{◌≡◌, List, [], ◌∷◌, Bool, true, false, not, ◌&&◌, ◌||◌, Option, Some, None, option_and_then, MatchBool, if◌then◌else◌, codes}
use Rattle.p10_base.specs.Words.{PlainWord, is_name, is_name_kind, is_punctuator}
use Rattle.p10_pprules.specs.declared.bracket.Bracket.{Bracket}
use Rattle.p10_pprules.specs.declared.bracket.Bracket.TheVariants.{Round, Square, Curly}
use Rattle.p10_pprules.specs.declared.bracket.Side.{Side}
use Rattle.p10_pprules.specs.declared.bracket.Side.TheVariants.{Opening, Closing, Neither}
use Rattle.p10_pprules.specs.Groups.{opens, closes}
use Rattle.p10_pprules.specs.Units.{is_number_kind, is_while_zero}
use Rattle.p10_pprules.specs.Dereferences.{ends_operand, is_star, is_arrow}

-- ## Groups

-- what a word is to groups in brackets: it begins one, ends one, or neither
abbrev pub side_of : PlainWord → Side
side_of word =
    if opens Round word then Opening Round
    else if opens Square word then Opening Square
    else if opens Curly word then Opening Curly
    else if closes Round word then Closing Round
    else if closes Square word then Closing Square
    else if closes Curly word then Closing Curly
    else Neither

-- whether two brackets are of one kind
abbrev pub is_same : Bracket → Bracket → Bool
is_same Round Round = true
is_same Square Square = true
is_same Curly Curly = true
is_same _ _ = false

-- the open groups after a bracket that ends one, the innermost first; None where it doesn't end the innermost one
abbrev pub closed_by : Bracket → List Bracket → Option (List Bracket)
closed_by bracket [] = None
closed_by bracket (innermost ∷ pending) = if is_same bracket innermost then Some pending else None

-- the open groups after a word, the innermost first; None where it closes another one
abbrev pub open_behind : Side → List Bracket → Option (List Bracket)
open_behind (Opening bracket) pending = Some (bracket ∷ pending)
open_behind (Closing bracket) pending = closed_by bracket pending
open_behind Neither pending = Some pending

-- a word fits and was taken, or it closes another group
abbrev pub Opens : Side → Bool → List Bracket → List Bracket → Type 0
Opens side fits old new = MatchBool fits (open_behind side old ≡ Some new) (open_behind side old ≡ None)

-- the words after the end of all open groups
abbrev pub behind_open : List Bracket → List PlainWord → Option (List PlainWord)
behind_open [] words = Some words
behind_open (innermost ∷ pending) [] = None
behind_open (innermost ∷ pending) (word ∷ words) = option_and_then (λ pending. behind_open pending words) (open_behind (side_of word) (innermost ∷ pending))

-- the words after a group in these brackets with which the words begin
abbrev pub behind_group : Bracket → List PlainWord → Option (List PlainWord)
behind_group bracket [] = None
behind_group bracket (word ∷ words) = if opens bracket word then behind_open (bracket ∷ []) words else None

-- ## Unit forms

-- whether a group was read, and no words stand after it
abbrev pub is_end : Option (List PlainWord) → Bool
is_end (Some []) = true
is_end _ = false

-- whether the words are one group in these brackets
abbrev pub is_one_group : Bracket → List PlainWord → Bool
is_one_group bracket words = is_end (behind_group bracket words)

-- whether the words are `-` and a number
abbrev pub is_negative : List PlainWord → Bool
is_negative (minus ∷ number ∷ []) = is_punctuator (codes "-") minus && is_number_kind number.kind
is_negative _ = false

-- whether the words are a name and one group in `( )`, as a call is (C99 6.5.2.2)
abbrev pub is_call : List PlainWord → Bool
is_call (name ∷ words) = is_name_kind name.kind && is_one_group Round words
is_call [] = false

-- whether a group was read, and the words after it are `while (0)`
abbrev pub then_while_zero : Option (List PlainWord) → Bool
then_while_zero (Some words) = is_while_zero words
then_while_zero None = false

-- whether the words are `do`, a group in `{ }` and `while (0)` (C99 6.8.5.2)
abbrev pub is_do_while : List PlainWord → Bool
is_do_while (keyword ∷ words) = is_name (codes "do") keyword && then_while_zero (behind_group Curly words)
is_do_while [] = false

-- whether there is at most one word
abbrev pub is_short : List PlainWord → Bool
is_short [] = true
is_short (word ∷ []) = true
is_short _ = false

-- the units that may have many words
abbrev pub is_long_unit : List PlainWord → Bool
is_long_unit words = is_one_group Round words || is_one_group Curly words || is_call words || is_do_while words

-- whether the words are a complete unit
abbrev pub is_unit : List PlainWord → Bool
is_unit words = is_short words || is_negative words || is_long_unit words

-- ## Dereferences

-- a dereference in words that stand after an operand or not
abbrev pub dereferences_behind : Bool → List PlainWord → Bool
dereferences_behind operand [] = false
dereferences_behind operand (word ∷ words) = is_arrow word || (is_star word && not operand) || dereferences_behind (ends_operand word) words
