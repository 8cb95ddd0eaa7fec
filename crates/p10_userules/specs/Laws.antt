-- What holds of uses, of blocks and of the rows, and small programs with what violates the rows in each.
use Rattle.std.specs.Prelude.{◌≡◌, ◌↔◌, ◌<◌, List, [], ◌++◌, map, Option, Some, None}
use Rattle.std.specs.List.{Contains, filter_map}
use Rattle.p10_base.specs.declared.report.Violation.{Violation}
use Rattle.p10_core.specs.Typed.{value, PlainForm, sense, place, PlainPlaceForm, variable, global, PlainStatements, PlainProgram}
use Rattle.p10_core.specs.Nodes.{PlainNode, a_statement, a_value, a_place, nodes_of_statements}
use Rattle.p10_userules.specs.declared.occurrences.Referent.{Referent}
use Rattle.p10_userules.specs.declared.occurrences.Referent.TheVariants.{Variable, Object}
use Rattle.p10_userules.specs.declared.occurrences.Occurrence.{Occurrence}
use Rattle.p10_userules.specs.Occurrences.{times, occurrences_in_statements}
use Rattle.p10_userules.specs.Blocks.{blocks_among, reached_among}
use Rattle.p10_userules.specs.Violations.{IsUsedOnlyIn, Violates}

-- what a form of value names itself: a sensor that it reads
abbrev pub named_by_form : PlainForm → Option Referent
named_by_form (sense n) = Some (Object n)
named_by_form f = None

-- what a form of place names itself
abbrev pub named_by_place_form : PlainPlaceForm → Option Referent
named_by_place_form (variable n) = Some (Variable n)
named_by_place_form (global n) = Some (Object n)
named_by_place_form f = None

-- what a node of a tree names itself
abbrev pub named_by_node : PlainNode → Option Referent
named_by_node (a_statement s) = None
named_by_node (a_value (value at t f)) = named_by_form f
named_by_node (a_place (place at t f)) = named_by_place_form f

-- the occurrences in statements are the namings by their nodes, each once, in text order; initialisers of static objects,
-- which aren't among the nodes, are left out by a program without objects
abbrev pub OccurrencesAreNamings : Type 0
OccurrencesAreNamings = (ss : PlainStatements) → map (λ o. o.referent) (occurrences_in_statements [] ss) ≡ filter_map named_by_node (nodes_of_statements ss)

-- what is used only in a part is used there, and neither before nor after it
abbrev pub UsedOnlyIsUsedNowhereElse : Type 0
UsedOnlyIsUsedNowhereElse =
    (x : Referent) (before part after : List Occurrence) → IsUsedOnlyIn x part (before ++ (part ++ after)) ↔ ((0 < times x part) × (times x before ≡ 0) × (times x after ≡ 0))

-- a block that is reached without entering a loop is one of the blocks
abbrev pub ReachedAreBlocks : Type 0
ReachedAreBlocks = (ss : PlainStatements) (block : PlainStatements) → Contains (reached_among ss) block → Contains (blocks_among ss) block

-- the rows are violated by a program exactly at these places
abbrev pub IsViolatedAt : PlainProgram → List Violation → Type 0
IsViolatedAt p places = (v : Violation) → Contains places v ↔ Violates p v.sub v.span
