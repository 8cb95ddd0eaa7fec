-- How a replacement begins.
use Rattle.std.specs.Prelude.{ℕ, ◌≡◌, List, [], map, reverse}
use Rattle.p10_base.specs.declared.word.Word.{Word}
use Rattle.p10_base.specs.Words.{PlainWord}
use Rattle.p10_macros.specs.declared.pending.Pending.{Pending}
use Rattle.p10_macros.specs.declared.pending.Traced.{Traced}
use Rattle.p10_macros.specs.declared.pending.Run.{Run}
use Rattle.p10_macros.specs.Uses.{written}
use Rattle.p10_macros.specs.private.Standing.{State}

-- a word of the source, which comes from no macro
abbrev pub unread : Word → Traced
unread word = record { word = word; from = 0 }

-- pending words with their sets of macros
abbrev pub traced_of : List Pending → List Traced
traced_of items = map (λ (pending : Pending). pending.traced) items

-- all words are to be looked through
abbrev pub start_of : List PlainWord → ℕ → State
start_of words left = record { given = []; todo = map written words; done = []; uses = []; left = left }

-- nothing is looked through yet
pub record IsBegun (those : List Word) (remaining : ℕ) (run : Run) : Type 0 where
  pub pending : traced_of (reverse run.pending.words.items) ≡ map unread those
  pub stop : run.stop ≡ 0
  pub words : run.words.items ≡ []
  pub done : run.done.items ≡ []
  pub opens : run.open.items ≡ []
  pub left : run.left ≡ remaining
