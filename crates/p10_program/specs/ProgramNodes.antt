-- The nodes of all functions and objects of a program.
use Rattle.std.specs.Prelude.{List, [], ◌∷◌, ◌++◌}
use Rattle.p10_core.specs.Nodes.{PlainNode, nodes_of_statements, nodes_of_initializer}
use Rattle.p10_core.specs.Typed.{PlainFunction, PlainObject, PlainProgram}

-- the nodes of the bodies of functions
abbrev pub nodes_of_functions : List PlainFunction → List PlainNode
nodes_of_functions [] = []
nodes_of_functions (f ∷ rest) = nodes_of_statements f.body ++ nodes_of_functions rest

-- the nodes of the initialisers of objects
abbrev pub nodes_of_objects : List PlainObject → List PlainNode
nodes_of_objects [] = []
nodes_of_objects (o ∷ rest) = nodes_of_initializer o.initializer ++ nodes_of_objects rest

-- the nodes of a program
abbrev pub nodes_of_program : PlainProgram → List PlainNode
nodes_of_program p = nodes_of_functions p.functions ++ nodes_of_objects p.objects
