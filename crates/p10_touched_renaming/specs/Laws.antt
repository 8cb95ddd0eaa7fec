-- Bodies that differ leave what is known outside of them the same.
use Rattle.std.specs.Prelude.{◌≡◌, ℕ, ◌<◌, true}
use Rattle.p10_base.specs.declared.at.At.{At}
use Rattle.p10_syn.specs.Trees.{Definition, Statements}
use Rattle.p10_core.specs.Completing.{AreBuilt}
use Rattle.p10_elabx.specs.First.{Keep}
use Rattle.p10_heads.specs.Heads.{Heads}
use Rattle.p10_elab.specs.Knowledge.{Known}
use Rattle.p10_elab.specs.Outer.{defined_outside}
use Rattle.p10_renaming.specs.Renaming.{Pairing}
use Rattle.p10_expression_renaming.specs.Knowing.{IsOneToOne}
use Rattle.p10_declaration_renaming.specs.Standings.{AreQuiet}
use Rattle.p10_root_renaming.specs.Roots.{SameHeads, SameKnown}
use Rattle.p10_touched_renaming.specs.Touched.{first_with, second_with, before_parameters, before_body, after_body, IsMade, Narrows}

-- a function that stands at two places, with a body of its own at each: where no row holds up to its end, and it becomes a function in both
-- programs, the same is known after it. The structures that its parameters declare are the same up to its body; after it, since a body may
-- complete them, they are so only where types of parameters name them. All of these are there after it
abbrev pub TouchedRenamed : Type 0
TouchedRenamed =
    (S R : Pairing) → IsOneToOne S → IsOneToOne R → (h : Keep) (heads others : Heads) → SameHeads heads others → (k j : Known) (d : Definition (At × At)) (one other : Statements At)
    → IsMade h heads k (first_with d one) → IsMade h others j (second_with d other)
    → AreBuilt (defined_outside h heads k (first_with d one)).standing.scope.structures → AreBuilt (defined_outside h others j (second_with d other)).standing.scope.structures
    → Narrows S R (before_parameters h k (first_with d one))
    → (AreQuiet (before_body h k (first_with d one)) k.standing j.standing → SameKnown S (before_body h k (first_with d one)) k j)
    → (AreQuiet (before_parameters h k (first_with d one)) k.standing j.standing → SameKnown R (before_parameters h k (first_with d one)) k j)
    → AreQuiet (after_body h heads k (first_with d one)) (defined_outside h heads k (first_with d one)).standing (defined_outside h others j (second_with d other)).standing
    → SameKnown R (after_body h heads k (first_with d one)) (defined_outside h heads k (first_with d one)) (defined_outside h others j (second_with d other))
    × ((n m : ℕ) → S.used n m ≡ true → n < before_body h k (first_with d one) → m < after_body h others j (second_with d other))
