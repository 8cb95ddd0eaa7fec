-- Declarations of different roots taken together, as the code does it.
use Rattle.std.specs.Prelude.{Bool, false, not, ◌&&◌, ◌||◌, nat_eq, bytes_eq, if◌then◌else◌, List, [], ◌∷◌, Option, Some, None}
use Rattle.p10_base.specs.declared.at.At.{At}
use Rattle.p10_base.specs.declared.codes.SubsetCode.{SubsetCode}
use Rattle.p10_core.specs.Types.{PlainStructure}
use Rattle.p10_elabx.specs.declared.problem.Problem.{Problem}
use Rattle.p10_elabx.specs.First.{Keep, joined}
use Rattle.p10_elabd.specs.Standing.{PlainStanding}
use Rattle.p10_heads.specs.Heads.{Head}
use Rattle.p10_linkage.specs.Linkage.{Linked}
use Rattle.p10_linkage.specs.Between.{agreed_with}

-- a declaration with another one, if there is one
abbrev pub agreed_row : Option Linked → Linked → List PlainStructure → Option (List PlainStructure)
agreed_row None now structures = Some structures
agreed_row (Some before) now structures = agreed_with before now structures

-- what stands, with other structures and problems
abbrev pub stood : PlainStanding → List PlainStructure → List Problem → PlainStanding
stood s structures problems = record s { scope = record s.scope { structures = structures }; problems = problems }

-- problems, with one more at a tree where a condition is met
abbrev pub noted_where : Keep → Bool → SubsetCode → At → List Problem → List Problem
noted_where h holds code at rs = if holds then joined h rs (record { code = code; at = at } ∷ []) else rs

-- whether a definition, if there is one, is one of another root with the same name
abbrev pub is_defined_row : Option Head → Head → Bool
is_defined_row None f = false
is_defined_row (Some g) f = bytes_eq g.name f.name && (not (g.internal || f.internal) && (not (g.in_block || f.in_block) && not (nat_eq g.root f.root)))

-- whether roots share a definition: it isn't internal to its root, nor in a block
abbrev pub is_shared : Head → Bool
is_shared f = not (f.internal || f.in_block)
