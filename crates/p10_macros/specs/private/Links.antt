-- The ends of the argument and of the call in which pending words stand.
use Rattle.std.specs.Prelude.{ℕ, ◌≡◌, suc, ◌+◌, ◌==◌, List, [], ◌∷◌, length, ◌&&◌, ◌||◌, if◌then◌else◌}
use Rattle.p10_base.specs.Words.{PlainWord, plain_word}
use Rattle.p10_macros.specs.declared.pending.Exits.{Exits}
use Rattle.p10_macros.specs.declared.pending.Pending.{Pending}
use Rattle.p10_macros.specs.Uses.{closes, separates, depth_after}

-- A place is the number of pending words from the last one up to that place, and 0 is none; the next word stands first.

-- a pending word as definitions speak of it
abbrev pub word_of : Pending → PlainWord
word_of pending = plain_word pending.traced.word

-- the place of the first comma or `)` in no parentheses, where `depth` are open
abbrev pub argument_end : ℕ → List Pending → ℕ
argument_end depth [] = 0
argument_end depth (pending ∷ items) =
    if (closes (word_of pending) || separates (word_of pending)) && (depth == 0) then length items + 1 else argument_end (depth_after depth (word_of pending)) items

-- the place of the first `)` in no parentheses, where `depth` are open
abbrev pub call_end : ℕ → List Pending → ℕ
call_end depth [] = 0
call_end depth (pending ∷ items) = if closes (word_of pending) && (depth == 0) then length items + 1 else call_end (depth_after depth (word_of pending)) items

-- how many commas in no parentheses stand before that `)`
abbrev pub commas : ℕ → List Pending → ℕ
commas depth [] = 0
commas depth (pending ∷ items) =
    if closes (word_of pending) && (depth == 0) then 0
    else if separates (word_of pending) && (depth == 0) then suc (commas 0 items)
    else commas (depth_after depth (word_of pending)) items

-- the words stand before these ends
pub record HasExits (exits : Exits) (items : List Pending) : Type 0 where
  pub argument : exits.argument ≡ argument_end 0 items
  pub call : exits.call ≡ call_end 0 items

-- no end stands after the words
abbrev pub nowhere : Exits
nowhere = record { argument = 0; call = 0 }

-- what the word at a place knows
abbrev pub exits_past : List Pending → ℕ → Exits
exits_past [] place = nowhere
exits_past (pending ∷ items) place = if place == length items + 1 then pending.exits else exits_past items place

-- the words after a place
abbrev pub after_place : List Pending → ℕ → List Pending
after_place [] place = []
after_place (pending ∷ items) place = if place == length items + 1 then items else after_place items place

-- each word knows the ends before which the words after it stand
abbrev pub IsLinked : List Pending → Type 0
IsLinked items = (place : ℕ) → HasExits (exits_past items place) (after_place items place)
