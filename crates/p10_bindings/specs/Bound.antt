-- Declared names as the code keeps them.
use Rattle.std.specs.Prelude.{ℕ, Option, Some, None, option_map, List, map, slice_get}
use Rattle.p10_base.specs.Words.{Text}
use Rattle.p10_bindings.specs.declared.entry.Entry.{Entry}
use Rattle.p10_bindings.specs.declared.bindings.Bindings.{Bindings}

module _ {T : Type 0} where
  -- the declared names in order, each with what it stands for
  abbrev pub bound_of : List (Entry T) → List (Text × T)
  bound_of entries = map (λ e. (e.name.now, e.what)) entries

  -- the names of a table
  abbrev pub bound_in : Bindings T → List (Text × T)
  bound_in b = bound_of b.entries.items

  -- what an entry stands for, by its place
  abbrev pub what_at : List (Entry T) → Option ℕ → Option T
  what_at entries None = None
  what_at entries (Some place) = option_map (λ e. e.what) (slice_get entries place)
