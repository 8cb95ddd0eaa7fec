-- What is told of a declaration or a function outside of functions is told of all roots.
use Rattle.std.specs.Prelude.{◌≡◌, List, ◌∷◌, ◌++◌}
use Rattle.p10_base.specs.declared.at.At.{At}
use Rattle.p10_syn.specs.Trees.{External}
use Rattle.p10_elabx.specs.declared.problem.Problem.{Problem}
use Rattle.p10_elabx.specs.First.{Among, every}
use Rattle.p10_heads.specs.Heads.{Heads, heads_of_roots}
use Rattle.p10_elab.specs.Knowledge.{Known}
use Rattle.p10_elab.specs.RootEnds.{nothing_known, known_after, known_after_all, root_begun, roots_passed}
use Rattle.p10_elab.specs.Programs.{standing_of}

-- where the roots come to a declaration or a function: after other roots, and after those before it in its own
abbrev pub reached_in_roots : Heads → List (List (External At)) → List (External At) → Known
reached_in_roots heads before earlier = known_after_all every heads (root_begun (roots_passed every heads nothing_known before)) earlier

-- a declaration or a function of one of the roots, after other roots, and after those before it in its own
pub record StandsIn (roots before : List (List (External At))) (earlier : List (External At)) (one : External At) : Type 0 where
  pub later : List (External At)
  pub after : List (List (External At))
  pub parts : roots ≡ before ++ (earlier ++ one ∷ later) ∷ after

-- what is told of it is among the rows of all roots, whatever stands beside it
abbrev pub DeclarationsAreTold : Type 0
DeclarationsAreTold =
    (roots before : List (List (External At))) (earlier : List (External At)) (one : External At) (r : Problem) → StandsIn roots before earlier one →
    Among r (known_after every (heads_of_roots 0 roots) (reached_in_roots (heads_of_roots 0 roots) before earlier) one).standing.problems → Among r (standing_of every roots).problems
