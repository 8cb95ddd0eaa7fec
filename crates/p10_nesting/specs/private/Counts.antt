-- What matters of the row of an open level, in numbers, and what happens to it.
use Rattle.std.specs.Prelude.{ℕ, ◌+◌, Bool, false, ◌||◌, if◌then◌else◌}
use Rattle.p10_nesting.specs.declared.role.Role.{Role}
use Rattle.p10_nesting.specs.declared.role.Role.TheVariants.{Ends, Finishes, Separates}
use Rattle.p10_nesting.specs.Roles.{is_kept_role, is_question_role}

-- how many words stand in the rows around a row, how many it has, how many of them stay where it is reduced, and whether
-- it has a `?`
pub record Counts : Type 0 where
  pub around : ℕ
  pub words : ℕ
  pub kept : ℕ
  pub asks : Bool

-- the row of the outermost level, before the first word
abbrev pub no_counts : Counts
no_counts = record { around = 0; words = 0; kept = 0; asks = false }

-- one more word in a row
abbrev pub added_counts : Role → Counts → Counts
added_counts role row = record {
  around = row.around;
  words = row.words + 1;
  kept = (if is_kept_role role then row.kept + 1 else row.kept);
  asks = is_question_role role || row.asks;
}

-- the row of a level that is opened
abbrev pub inner_counts : Counts → Counts
inner_counts row = record { around = row.around + row.words; words = 0; kept = 0; asks = false }

-- a row reduced
abbrev pub reduced_counts : Counts → Counts
reduced_counts row = record { around = row.around; words = row.kept; kept = row.kept; asks = false }

-- a row emptied
abbrev pub emptied_counts : Counts → Counts
emptied_counts row = record { around = row.around; words = 0; kept = 0; asks = false }

-- a row where a statement has ended
abbrev pub finished_counts : Bool → Counts → Counts
finished_counts goes_on row = if goes_on then reduced_counts row else emptied_counts row

-- the row of the innermost level after a word of this role was met
abbrev pub settled_counts : Role → Bool → Bool → Counts → Counts
settled_counts Ends inside goes_on row = finished_counts goes_on row
settled_counts Finishes inside goes_on row = if inside then finished_counts goes_on row else row
settled_counts Separates inside goes_on row = if row.asks then row else reduced_counts row
settled_counts _ inside goes_on row = row
