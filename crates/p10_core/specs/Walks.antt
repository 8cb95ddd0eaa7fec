-- What walks over the trees of the code have left.
use Rattle.std.specs.Prelude.{◌≡◌, List, [], ◌∷◌, ◌++◌, Option, Some, None}
use Rattle.p10_core.specs.declared.nodes.Node.{Node}
use Rattle.p10_core.specs.declared.nodes.Node.TheVariants.{Stmt as StatementNode, Value as ValueNode, Place as PlaceNode}
use Rattle.p10_core.specs.declared.nodes.Nodes.{Nodes}
use Rattle.p10_core.specs.Nodes.{PlainNode, a_statement, a_value, a_place, nodes_of}
use Rattle.p10_core.specs.Views.{plain_value, plain_place, plain_statement}

-- what a node of the code is
abbrev pub plain_node : Node → PlainNode
plain_node (StatementNode s) = a_statement (plain_statement s.now)
plain_node (ValueNode v) = a_value (plain_value v.now)
plain_node (PlaceNode p) = a_place (plain_place p.now)

-- the nodes of trees of which the last is the next one
abbrev pub nodes_ahead : List Node → List PlainNode
nodes_ahead [] = []
nodes_ahead (n ∷ rest) = nodes_ahead rest ++ nodes_of (plain_node n)

-- the nodes that are left of a walk, in text order
abbrev pub left_in : Nodes → List PlainNode
left_in w = nodes_ahead w.ahead.items

-- one step of a walk: the next node of those that were left, or none where none was
abbrev pub WalksOn : Option Node → List PlainNode → List PlainNode → Type 0
WalksOn None before after = before ≡ []
WalksOn (Some n) before after = before ≡ plain_node n ∷ after
