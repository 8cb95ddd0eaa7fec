-- How the words of a replacement are put on top of the pending words.
use Rattle.std.specs.Prelude.{ℕ, ◌≡◌, ◌+◌, ◌≤◌, List, [], ◌∷◌, ◌++◌, length, map, reverse, ◌||◌, bytes_eq, Option, Some, None}
use Rattle.p10_base.specs.declared.span.Span.{Span}
use Rattle.p10_base.specs.declared.word.Word.{Word}
use Rattle.p10_base.specs.Words.{Text, plain_word}
use Rattle.p10_direct.specs.Directives.{PlainMacro}
use Rattle.p10_macros.specs.declared.origin.Origins.{Origins}
use Rattle.p10_macros.specs.declared.pending.Traced.{Traced}
use Rattle.p10_macros.specs.declared.pending.Pending.{Pending}
use Rattle.p10_macros.specs.declared.replaced.ReplaceFault.{ReplaceFault}
use Rattle.p10_macros.specs.declared.replaced.ReplaceFault.TheVariants as fault
use Rattle.p10_macros.specs.Uses.{Sourced, given, replacement, texts_of}
use Rattle.p10_macros.specs.private.Places.{at_place, place_named}
use Rattle.p10_macros.specs.private.Origins.{count_of, has_macro}
use Rattle.p10_macros.specs.private.Traces.{IsTraced, AreTraced, AreValues}

-- a word of a replacement, at the place of the use, with its set of macros
abbrev pub fresh : Word → Span → ℕ → Traced
fresh word at from = record { word = record { kind = word.kind; text = word.text; at = at; first = word.first }; from = from }

-- a word was put before the pending ones
pub record IsPushed (old new : List Pending) (traced : Traced) : Type 0 where
  pub last : Pending
  pub is : new ≡ old ++ last ∷ []
  pub of : last.traced ≡ traced

-- pending words stand for these
abbrev pub ArePut : Origins → List Pending → List Sourced → Type 0
ArePut origins [] [] = Unit {0}
ArePut origins (pending ∷ items) (word ∷ words) = IsTraced origins pending.traced word × ArePut origins items words
ArePut origins _ _ = ⊥

-- words were put on top of the pending ones, and taken from those that may be made
pub record Puts (origins : Origins) (before behind : List Pending) (words : List Sourced) (left remaining : ℕ) : Type 0 where
  pub items : List Pending
  pub pending : reverse behind ≡ items ++ reverse before
  pub put : ArePut origins items words
  pub costs : left ≡ length words + remaining

-- the same, where the words are given as they are kept
pub record PutsTraced (before behind : List Pending) (words : List Traced) (left remaining : ℕ) : Type 0 where
  pub items : List Pending
  pub pending : reverse behind ≡ items ++ reverse before
  pub put : map (λ (pending : Pending). pending.traced) items ≡ words
  pub costs : left ≡ length words + remaining

-- the set with this number has a macro, and those that the name of its use comes from
pub record IsBase (origins : Origins) (from : ℕ) (macro' : Text) (name : Sourced) : Type 0 where
  pub known : from ≤ count_of origins
  pub base : (other : Text) → has_macro origins from other ≡ (bytes_eq other macro' || name.from other)

-- the set with this number has the macros of such a set, and those of another
pub record IsJoined (old : Origins) (own : ℕ) (macro' : Text) (name : Sourced) (new : Origins) (all : ℕ) : Type 0 where
  pub known : all ≤ count_of new
  pub both : (other : Text) → has_macro new all other ≡ ((bytes_eq other macro' || name.from other) || has_macro old own other)

-- a fault that is no refusal: where it is that there are too many words, this holds
abbrev pub Short : ReplaceFault → Type 0 → Type 0
Short (fault.Refused refusal) P = ⊥
Short fault.TooMany P = P
Short fault.Memory P = Unit {0}

-- words of an argument were made those of a use with this name, where `from` is the number of the set of its macro and of those
-- that the name comes from
abbrev pub IsGiven : Origins → Origins → Traced → ℕ → List Traced → List Traced → Type 0
IsGiven old new name from value value' =
    (plain : PlainMacro) (name' : Sourced) (words : List Sourced) → IsTraced old name name' → IsBase old from plain.name name' → AreTraced old value words → AreTraced new value' (map (given plain name') words)

-- those of all arguments were
abbrev pub AreGiven : Origins → Origins → Traced → ℕ → List (List Traced) → List (List Traced) → Type 0
AreGiven old new name from values values' =
    (plain : PlainMacro) (name' : Sourced) (words : List (List Sourced)) → IsTraced old name name' → IsBase old from plain.name name' → AreValues old values words →
    AreValues new values' (map (λ (value : List Sourced). map (given plain name') value) words)

-- the value of a parameter, or the word itself
abbrev pub value_or_word : Option (List Traced) → Traced → List Traced
value_or_word None traced = traced ∷ []
value_or_word (Some value) traced = value

-- what stands for a word of the replacement list, where the arguments were made those of the use
abbrev pub part_of : PlainMacro → List (List Traced) → Span → ℕ → Word → List Traced
part_of plain values at from word = value_or_word (at_place (place_named (texts_of plain.parameters) (plain_word word)) values) (fresh word at from)

-- what is put for a use
abbrev pub PutsReplacement : Origins → Origins → List Pending → List Pending → PlainMacro → Traced → List (List Traced) → ℕ → ℕ → Type 0
PutsReplacement old new before behind plain name values left remaining =
    (name' : Sourced) (values' : List (List Sourced)) → IsTraced old name name' → AreValues old values values' →
    Puts new before behind (replacement plain name' values') left remaining
