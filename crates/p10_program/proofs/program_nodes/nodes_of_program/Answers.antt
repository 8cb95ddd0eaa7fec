use Rattle.std.proofs.Common.{◌∙◌, ◌++◌, ap, map}
use Rattle.std.proofs.lemmas.List.{append-nil}
use Rattle.p10_core.specs.Views.{plain_function, plain_object}
use Rattle.p10_program.specs.ProgramNodes.{nodes_of_functions, nodes_of_objects}
use Rattle.p10_program.proofs.program_nodes.nodes_of_program.Goals as goal

pub returns : goal.returns
returns c =
    c.in_ok-put_functions.ensures
    ∙ ap (λ ns. nodes_of_functions (map plain_function c.args.functions.now) ++ ns)
    (c.in_ok-put_objects.ensures ∙ ap (λ ns. nodes_of_objects (map plain_object c.args.objects.now) ++ ns) c.new-nodes.ensures ∙ append-nil _)
