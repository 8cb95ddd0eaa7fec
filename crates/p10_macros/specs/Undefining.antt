-- What it is to undefine a macro: its name is taken away, and nothing else.
use Rattle.std.specs.Prelude.{ℕ, ◌≡◌, ◌+◌, [], ◌∷◌, Bool, ◌&&◌, not, count_by, Option, Some, None, bytes_eq, if◌then◌else◌}
use Rattle.p10_base.specs.Words.{Text}
use Rattle.p10_direct.specs.Directives.{PlainMacro}
use Rattle.p10_macros.specs.Table.{Entry, Table, macro_named, with_macro, without_macro, own_of}

-- no name stands twice
abbrev pub NamedOnce : Table → Type 0
NamedOnce [] = Unit {0}
NamedOnce (entry ∷ table) = (macro_named entry.made.name table ≡ None) × NamedOnce table

-- the entry of the macro with this name
abbrev pub entry_named : Text → Table → Option Entry
entry_named name [] = None
entry_named name (entry ∷ table) = if bytes_eq name entry.made.name then Some entry else entry_named name table

-- how many macros of this name no built-in header defined
abbrev pub own_named : Text → Table → ℕ
own_named name table = count_by (λ (entry : Entry). bytes_eq name entry.made.name && not entry.builtin) table

-- without a macro its name has no entry, and each other name has the one that it had; a name that has none changes nothing
-- (C99 6.10.3.5p2)
abbrev pub TakesOneName : Type 0
TakesOneName = (table : Table) (name other : Text) → entry_named other (without_macro table name) ≡ (if bytes_eq other name then None else entry_named other table)

-- of those that no built-in header defined there are fewer by the ones of that name alone
abbrev pub TakesOneOwn : Type 0
TakesOneOwn = (table : Table) (name : Text) → own_of table ≡ own_named name table + own_of (without_macro table name)

-- no name stands twice without a macro, nor with one more whose name wasn't there
abbrev pub StaysNamedOnce : Type 0
StaysNamedOnce =
    ((table : Table) (name : Text) → NamedOnce table → NamedOnce (without_macro table name))
    × ((table : Table) (made : PlainMacro) (builtin : Bool) → NamedOnce table → macro_named made.name table ≡ None → NamedOnce (with_macro table made builtin))
