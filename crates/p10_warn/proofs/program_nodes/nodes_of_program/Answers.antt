use Rattle.std.proofs.Common.{◌∙◌, ◌++◌, ap, map}
use Rattle.std.proofs.lemmas.List.{append-nil}
use Rattle.p10_core.specs.Views.{plain_function, plain_object}
use Rattle.p10_warn.specs.AllNodes.{nodes_in_bodies, nodes_in_initializers}
use Rattle.p10_warn.proofs.program_nodes.nodes_of_program.Goals as goal

pub returns : goal.returns
returns c =
    c.in_ok-put_functions.ensures
    ∙ ap (λ ns. nodes_in_bodies (map plain_function c.args.functions.now) ++ ns)
    (c.in_ok-put_objects.ensures ∙ ap (λ ns. nodes_in_initializers (map plain_object c.args.objects.now) ++ ns) c.new-nodes.ensures ∙ append-nil _)
