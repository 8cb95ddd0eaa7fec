-- Of all rows of the subset that hold in the trees of roots, the first is answered.
use Rattle.std.specs.Prelude.{◌≡◌, List, [], ◌∷◌}
use Rattle.p10_base.specs.declared.at.At.{At}
use Rattle.p10_syn.specs.Trees.{External}
use Rattle.p10_elabx.specs.declared.problem.Problem.{Problem}
use Rattle.p10_elabx.specs.First.{IsFirst, every}
use Rattle.p10_heads.specs.Roots.{roots_of}
use Rattle.p10_elab.specs.Programs.{Elaborated, refusal, standing_of, roots_elaborated, elaborated}

-- the first of these rows is answered: it is one of them, and none is before it in the order of the text; where there are none,
-- something else is answered
abbrev pub TellsFirst : List Problem → Elaborated → Elaborated → Type 0
TellsFirst [] otherwise told = told ≡ otherwise
TellsFirst (r ∷ rest) otherwise told = (q : Problem) × (told ≡ refusal q) × IsFirst q (r ∷ rest)

-- where every row is kept that holds anywhere in the roots, the first of S1 to S26, S29 and S30 among them is the one that is answered; where
-- none of these holds, the answer is what comes of the roots then: S27, S28, limit M8, or the program
abbrev pub TheFirstOfAllIsTold : Type 0
TheFirstOfAllIsTold =
    (all : List (External At)) → TellsFirst (standing_of every (roots_of all)).problems (roots_elaborated every all (roots_of all)) (elaborated all)
