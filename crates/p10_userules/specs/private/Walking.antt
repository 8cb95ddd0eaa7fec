-- What walks over statements find.
use Rattle.std.specs.Prelude.{true, false, List, [], ◌∷◌, ◌++◌, length, slice_get}
use Rattle.p10_core.specs.declared.statements.LoopKeyword.{LoopKeyword}
use Rattle.p10_core.specs.declared.statements.LoopKeyword.TheVariants.{While, Do, For}
use Rattle.p10_core.specs.Typed.{PlainStatement, statement, PlainStatementForm, set, update, copy, evaluate, asserts, declare, declare_static, block, if_then, if_else, loop, switch, return, PlainStatements, no_statements, more_statements, PlainFunction, PlainObject}
use Rattle.p10_userules.specs.declared.occurrences.Referent.{Referent}
use Rattle.p10_userules.specs.declared.occurrences.Occurrence.{Occurrence}
use Rattle.p10_userules.specs.declared.walking.Walk.{Walk}
use Rattle.p10_userules.specs.declared.parts.Stretch.{Stretch}
use Rattle.p10_userules.specs.declared.parts.BlockParts.{BlockParts}
use Rattle.p10_userules.specs.Occurrences.{occurrences_in_value, occurrences_in_place, occurrences_in_maybe, occurrences_in_initializer, occurrences_at_object}
use Rattle.p10_userules.specs.Blocks.{declared_among}

-- what was found so far: the occurrences; in the block that is walked over, the stretches of the outermost blocks that are
-- reached without entering a loop; and the blocks that were left
pub record Walked : Type 0 where
  pub occurrences : List Occurrence
  pub nested : List Stretch
  pub blocks : List BlockParts

-- what a walk of the code has found so far
abbrev pub walk_of : Walk → List Stretch → Walked
walk_of w nested = record { occurrences = w.occurrences.items; nested = nested; blocks = w.blocks.items }

-- occurrences are met
abbrev pub met : List Occurrence → Walked → Walked
met os w = record w { occurrences = w.occurrences ++ os }

-- a block or a loop is entered
abbrev pub entered : Walked → Walked
entered w = record w { nested = [] }

-- a loop is left, which was entered from what stands first
abbrev pub left_loop : Walked → Walked → Walked
left_loop outer inner = record inner { nested = outer.nested }

-- the items of a block are passed, which declares this
abbrev pub noted : List Referent → Walked → Walked
noted declared w = record w { blocks = w.blocks ++ record { declared = declared; nested = w.nested } ∷ [] }

-- a block is left, which was entered from what stands before the last
abbrev pub left_block : List Referent → Walked → Walked → Walked
left_block declared outer inner = record (noted declared inner) {
  nested = outer.nested ++ record { start = length outer.occurrences; end = length inner.occurrences } ∷ [];
}

-- the parts of a loop in text order
abbrev pub loop_walked : LoopKeyword → (Walked → Walked) → (Walked → Walked) → (Walked → Walked) → (Walked → Walked) → Walked → Walked
loop_walked While first test third body w = body (third (test (first w)))
loop_walked For first test third body w = body (third (test (first w)))
loop_walked Do first test third body w = third (test (body (first w)))

-- the occurrences in a statement without statements in it; none of another one
abbrev pub simple_occurrences : List PlainObject → PlainStatementForm → List Occurrence
simple_occurrences objects (set p v) = occurrences_in_place false p ++ occurrences_in_value false v
simple_occurrences objects (update kind op t p v) = occurrences_in_place false p ++ occurrences_in_value false v
simple_occurrences objects (copy p q) = occurrences_in_place false p ++ occurrences_in_place false q
simple_occurrences objects (evaluate v) = occurrences_in_value false v
simple_occurrences objects (asserts at v) = occurrences_in_value true v
simple_occurrences objects (declare n i) = occurrences_in_initializer i
simple_occurrences objects (declare_static n) = occurrences_at_object (slice_get objects n)
simple_occurrences objects (return span v) = occurrences_in_maybe v
simple_occurrences objects f = []

abbrev mutual
  -- a statement
  pub walk_over : List PlainObject → PlainStatement → Walked → Walked
  walk_over objects (statement at f) w = walk_over_form objects f w

  -- a form of statement
  pub walk_over_form : List PlainObject → PlainStatementForm → Walked → Walked
  walk_over_form objects (block ss) w = left_block (declared_among ss) w (walk_over_all objects ss (entered w))
  walk_over_form objects (if_then v s) w = walk_over objects s (met (occurrences_in_value true v) w)
  walk_over_form objects (if_else v s t) w = walk_over objects t (walk_over objects s (met (occurrences_in_value true v) w))
  walk_over_form objects (loop head first test third body) w =
      left_loop w (loop_walked head.keyword (walk_over_all objects first) (met (occurrences_in_maybe test)) (walk_over_all objects third) (walk_over objects body) (entered w))
  walk_over_form objects (switch span v labels body) w = walk_over objects body (met (occurrences_in_value false v) w)
  walk_over_form objects f w = met (simple_occurrences objects f) w

  -- statements, one after the other
  pub walk_over_all : List PlainObject → PlainStatements → Walked → Walked
  walk_over_all objects no_statements w = w
  walk_over_all objects (more_statements s rest) w = walk_over_all objects rest (walk_over objects s w)

-- where a walk over a function begins, after these occurrences
abbrev pub beginning : List Occurrence → Walked
beginning before = record { occurrences = before; nested = []; blocks = [] }

-- a function
abbrev pub function_walked : List PlainObject → PlainStatements → List Occurrence → Walked
function_walked objects body before = noted (declared_among body) (walk_over_all objects body (beginning before))

-- the blocks of a function, which follows these occurrences
abbrev pub parts_of : List PlainObject → List Occurrence → PlainFunction → List BlockParts
parts_of objects before f = (function_walked objects f.body before).blocks

-- the occurrences up to the end of a function
abbrev pub passed : List PlainObject → List Occurrence → PlainFunction → List Occurrence
passed objects before f = (function_walked objects f.body before).occurrences

-- the occurrences up to the end of functions
abbrev pub passed_all : List PlainObject → List Occurrence → List PlainFunction → List Occurrence
passed_all objects before [] = before
passed_all objects before (f ∷ rest) = passed_all objects (passed objects before f) rest

-- the blocks of functions, one after the other
abbrev pub parts_of_all : List PlainObject → List Occurrence → List PlainFunction → List (List BlockParts)
parts_of_all objects before [] = []
parts_of_all objects before (f ∷ rest) = parts_of objects before f ∷ parts_of_all objects (passed objects before f) rest

-- the stretches of functions, one after the other
abbrev pub stretches_of_all : List PlainObject → List Occurrence → List PlainFunction → List Stretch
stretches_of_all objects before [] = []
stretches_of_all objects before (f ∷ rest) =
    record { start = length before; end = length (passed objects before f) } ∷ stretches_of_all objects (passed objects before f) rest
