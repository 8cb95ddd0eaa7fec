use Rattle.std.proofs.Common.{◌≡◌, map, length}
use Rattle.p10_syn.specs.BuiltStatements.{init_declarator_of}
use Rattle.p10_elabs.specs.private.Specifying.{all_pass}
use Rattle.p10_elabs.proofs.specifiers.all_pass.Given as goal

abbrev pub invariant-loop-rest : goal.invariant-loop-rest
invariant-loop-rest l = all_pass l.asked (map init_declarator_of l.rest) ≡ all_pass l.asked (map init_declarator_of l.all)

abbrev pub decreases-loop-rest : goal.decreases-loop-rest
decreases-loop-rest l = length l.rest
