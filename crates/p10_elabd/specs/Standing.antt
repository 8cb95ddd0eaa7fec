-- Where declarations stand: what names stand for, and which rows of the subset were found to hold so far.
use Rattle.std.specs.Prelude.{ℕ, Bool, if◌then◌else◌, List, [], ◌∷◌, Option, Some, None, Ok, Err}
use Rattle.p10_base.specs.declared.at.At.{At}
use Rattle.p10_base.specs.declared.codes.SubsetCode.{SubsetCode}
use Rattle.p10_elabx.specs.declared.problem.Problem.{Problem}
use Rattle.p10_elabx.specs.First.{Keep, joined, Found}
use Rattle.p10_elabx.specs.Scopes.{PlainScope, empty_scope}

-- the names in scope; the numbers of the structures whose members are being declared; and the problems so far
pub record PlainStanding : Type 0 where
  pub scope : PlainScope
  pub open_structures : List ℕ
  pub problems : List Problem

-- no names, and no problems
abbrev pub nothing_stands : PlainStanding
nothing_stands = record { scope = empty_scope; open_structures = []; problems = [] }

-- what a part of a declaration makes, if none of it is refused, and where what follows stands
pub record Passed (A : Type 0) : Type 0 where
  pub made : Option A
  pub after : PlainStanding

-- with problems more
abbrev pub with_problems : Keep → List Problem → PlainStanding → PlainStanding
with_problems h rs s = record s { problems = joined h s.problems rs }

-- a row that holds at a tree, where a condition is met
abbrev pub refusing : Keep → Bool → SubsetCode → At → PlainStanding → PlainStanding
refusing h holds code at s = if holds then with_problems h (record { code = code; at = at } ∷ []) s else s

-- what is found where declarations stand: its problems are noted
abbrev pub noted : {A : Type 0} → Keep → Found A → PlainStanding → Passed A
noted h (Ok a) s = record { made = Some a; after = s }
noted h (Err rs) s = record { made = None; after = with_problems h rs s }

-- something that is made without a problem
abbrev pub passed : {A : Type 0} → A → PlainStanding → Passed A
passed a s = record { made = Some a; after = s }

-- nothing is made
abbrev pub nothing_made : {A : Type 0} → PlainStanding → Passed A
nothing_made s = record { made = None; after = s }
