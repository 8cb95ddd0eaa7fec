-- The nodes of all functions and objects of a program: what the rows of rule 10 on values and statements go over.
use Rattle.std.specs.Prelude.{List, [], ◌∷◌, ◌++◌}
use Rattle.p10_core.specs.Nodes.{PlainNode, nodes_of_statements, nodes_of_initializer}
use Rattle.p10_core.specs.Typed.{PlainFunction, PlainObject, PlainProgram}

-- the nodes of the bodies of functions
abbrev pub nodes_in_bodies : List PlainFunction → List PlainNode
nodes_in_bodies [] = []
nodes_in_bodies (f ∷ rest) = nodes_of_statements f.body ++ nodes_in_bodies rest

-- the nodes of the initialisers of objects of static lifetime
abbrev pub nodes_in_initializers : List PlainObject → List PlainNode
nodes_in_initializers [] = []
nodes_in_initializers (o ∷ rest) = nodes_of_initializer o.initializer ++ nodes_in_initializers rest

-- the nodes of a program. What stands in an operand of `sizeof` is none of them: there a typed program has a constant alone
abbrev pub all_nodes : PlainProgram → List PlainNode
all_nodes p = nodes_in_bodies p.functions ++ nodes_in_initializers p.objects
