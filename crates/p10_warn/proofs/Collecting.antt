-- The violations that the parts of the code list, taken together.
use Rattle.std.proofs.Common.{◌≡◌, ℕ, List, [], ◌++◌, map, ◌∙◌, ap}
use Rattle.std.specs.List.{filter_map, flat_map}
use Rattle.std.proofs.lemmas.List.{append_assoc}
use Rattle.p10_base.specs.declared.report.Violation.{Violation}
use Rattle.p10_core.specs.declared.program.Func.{Func}
use Rattle.p10_core.specs.declared.program.Global.{Global}
use Rattle.p10_core.specs.declared.program.Program.{Program}
use Rattle.p10_core.specs.Nodes.{PlainNode}
use Rattle.p10_core.specs.declared.program.Seen.{Seen}
use Rattle.p10_core.specs.Typed.{PlainSeen}
use Rattle.p10_core.specs.Views.{plain_function, plain_object, plain_seen, plain_program}
use Rattle.p10_warn.specs.AllNodes.{nodes_in_bodies, nodes_in_initializers}
use Rattle.p10_warn.specs.Naming.{named_object, called_function}
use Rattle.p10_warn.specs.private.Listing.{node_violations, unused_objects, functions_violations, program_violations}

-- the nodes of functions and objects
abbrev nodes_in : List Func → List Global → List PlainNode
nodes_in functions objects = nodes_in_bodies (map plain_function functions) ++ nodes_in_initializers (map plain_object objects)

-- the violations by functions and objects
abbrev on_nodes : List Func → List Global → List Violation
on_nodes functions objects = flat_map node_violations (nodes_in functions objects)

abbrev on_objects : List Func → List Global → List Violation
on_objects functions objects = unused_objects (filter_map named_object (nodes_in functions objects)) 0 (map plain_object objects)

abbrev on_functions : ℕ → List PlainSeen → List Func → List Global → List Violation
on_functions main outside functions objects =
    functions_violations (record { objects = map plain_object objects; outside = outside }) main (filter_map called_function (nodes_in functions objects)) 0 (map plain_function functions)

pub collected : (program : Program) (functions : List Func) (objects known : List Global) (seen : List Seen) (nodes : List PlainNode) (named called : List ℕ) (first one two all : List Violation)
    → functions ≡ program.functions → objects ≡ program.globals → known ≡ objects → seen ≡ program.outside → nodes ≡ nodes_in functions objects
    → named ≡ filter_map named_object (nodes_in functions objects) → called ≡ filter_map called_function (nodes_in functions objects) → first ≡ []
    → one ≡ first ++ flat_map node_violations nodes → two ≡ one ++ unused_objects named 0 (map plain_object objects)
    → all ≡ two ++ functions_violations (record { objects = map plain_object known; outside = map plain_seen seen }) program.main called 0 (map plain_function functions) → all ≡ program_violations (plain_program program)
collected program functions objects known seen nodes named called first one two all same_functions same_objects same_known same_seen are named_are called_are none by_nodes by_objects by_functions =
    let main : ℕ = program.main in
    let m : List Violation = on_nodes functions objects in
    let u : List Violation = on_objects functions objects in
    let outside : List PlainSeen = map plain_seen program.outside in
    let g : List Violation = on_functions main outside functions objects in
    let one_is : one ≡ m = by_nodes ∙ ap (λ xs. xs ++ flat_map node_violations nodes) none ∙ ap (flat_map node_violations) are in
    let two_is : two ≡ m ++ u = by_objects ∙ ap (λ xs. xs ++ unused_objects named 0 (map plain_object objects)) one_is ∙ ap (λ ns. m ++ unused_objects ns 0 (map plain_object objects)) named_are in
    let all_is : all ≡ (m ++ u) ++ g =
    by_functions
    ∙ (λ i. two ++ functions_violations (record { objects = map plain_object (same_known i); outside = map plain_seen (same_seen i) }) main called 0 (map plain_function functions))
    ∙ ap (λ ns. two ++ functions_violations (record { objects = map plain_object objects; outside = outside }) main ns 0 (map plain_function functions)) called_are
    ∙ ap (λ xs. xs ++ g) two_is in
    all_is ∙ append_assoc m u g
    ∙ ap (λ fs. on_nodes fs objects ++ (on_objects fs objects ++ on_functions main outside fs objects)) same_functions
    ∙ ap (λ os. on_nodes program.functions os ++ (on_objects program.functions os ++ on_functions main outside program.functions os)) same_objects
