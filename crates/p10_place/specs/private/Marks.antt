-- The places of a declaration's and of a function's words in their root.
use Rattle.std.specs.Prelude.{ℕ, ◌-◌}
use Rattle.p10_base.specs.declared.at.At.{At}
use Rattle.p10_syn.specs.Places.{Source, place_at}
use Rattle.p10_syn.specs.Trees.{Landmarks, External, Outer, Defines}

-- those of a function from word `first` up to but not including word `past`, with the `{` of its body at word `brace`
abbrev pub landmarks_between : Source → ℕ → ℕ → ℕ → Landmarks At
landmarks_between s first brace past =
    let root : Source = record { words = s.words; before = 0 } in
    record { whole = place_at root first (past - first); first_word = place_at root first 1; brace = place_at root brace 1; last_word = place_at root (past - 1) 1 }

-- a declaration with this as its place in its root; a function as it is
abbrev pub with_own_place : At → External At → External At
with_own_place place (Outer p d) = Outer place d
with_own_place place (Defines d) = Defines d
