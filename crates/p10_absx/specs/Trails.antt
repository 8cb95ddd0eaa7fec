-- What contracts see of the code's environments: a flat list of entries, with a trail of what open branches changed.
use Rattle.std.specs.Prelude.{List, [], ◌∷◌, map, reverse, slice_set}
use Rattle.std.specs.Option.{option_map}
use Rattle.p10_absx.specs.declared.notes.Entry.{Entry}
use Rattle.p10_absx.specs.declared.notes.Note.{Note}
use Rattle.p10_absx.specs.declared.notes.Note.TheVariants.{Opened, Was}
use Rattle.p10_absx.specs.Abstract.{abstract_of}
use Rattle.p10_absx.specs.Environments.{Environment}

-- an environment, and those that stood where the open branches begin, the innermost first
pub record Branching : Type 0 where
  pub values : Environment
  pub outer : List Environment

-- the environment that entries are
abbrev pub known_in_entries : List Entry → Environment
known_in_entries entries = map (λ (e : Entry). option_map abstract_of e.known) entries

-- the environments where the open branches begin, from the notes on what was changed since, the newest first
abbrev pub outer_of : List Entry → List Note → List Environment
outer_of entries [] = []
outer_of entries (Opened branch ∷ notes) = known_in_entries entries ∷ outer_of entries notes
outer_of entries (Was n entry ∷ notes) = outer_of (slice_set entries n entry) notes

-- what entries and notes, the newest last, are
abbrev pub branching_of : List Entry → List Note → Branching
branching_of entries notes = record { values = known_in_entries entries; outer = outer_of entries (reverse notes) }

-- the environment before the innermost branch was opened
abbrev pub back : Branching → Branching
back b = of b.outer
  where
    of : List Environment → Branching
    of [] = b
    of (env ∷ rest) = record { values = env; outer = rest }

-- with one more branch
abbrev pub branched : Branching → Branching
branched b = record { values = b.values; outer = b.values ∷ b.outer }

-- with another environment
abbrev pub with_values : Branching → Environment → Branching
with_values b env = record { values = env; outer = b.outer }
