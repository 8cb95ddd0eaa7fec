-- The macros that are defined, as they are kept: each at a place, in the order of their definitions, and nothing where one was undefined.
use Rattle.std.specs.Prelude.{ℕ, ◌≡◌, List, slice_get, Option, Some, option_map, option_and_then}
use Rattle.std.specs.List.{filter_map}
use Rattle.std.specs.Borrow.{Bor}
use Rattle.std.specs.HashMap.{HashMap}
use Rattle.p10_base.specs.Words.{Text}
use Rattle.p10_direct.specs.Form.{plain_macro}
use Rattle.p10_macros.specs.declared.known.Known.{Known}
use Rattle.p10_macros.specs.Table.{Entry, Table}
use Rattle.p10_macros.specs.private.Places.{at_text}

-- a macro that is kept, as an entry of the table
abbrev pub entry_of : Known → Entry
entry_of known = record { made = plain_macro known.made; builtin = known.builtin }

-- the table of the macros that are kept
abbrev pub table_among : List (Option Known) → Table
table_among kept = filter_map (option_map entry_of) kept

-- the macro at a place
abbrev pub kept_at : List (Option Known) → ℕ → Option Known
kept_at kept place = option_and_then (λ (entry : Option Known). entry) (slice_get kept place)

-- its name
abbrev pub kept_name : List (Option Known) → ℕ → Option Text
kept_name kept place = option_map (λ (known : Known). known.made.name.now) (kept_at kept place)

-- a name is found at a place where the macro there has it
pub record IsFoundAt (kept : List (Option Known)) (found : Option ℕ) (name : Text) (place : ℕ) : Type 0 where
  pub there : found ≡ Some place → kept_name kept place ≡ Some name
  pub back : kept_name kept place ≡ Some name → found ≡ Some place

-- each name is found where its macro is, and no other
abbrev pub NamesAreFound : {S : Type 0} → List (Option Known) → HashMap (Bor Text) ℕ S → Type 0
NamesAreFound kept places = (name : Text) (place : ℕ) → IsFoundAt kept (at_text places name) name place
