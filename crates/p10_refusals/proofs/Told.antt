-- Of all rows that hold in the roots the first is answered.
use Rattle.std.proofs.Common.{◌≡◌, ℕ, List, [], ◌∷◌, length, refl, sym, subst}
use Rattle.p10_base.specs.declared.at.At.{At}
use Rattle.p10_syn.specs.Trees.{External}
use Rattle.p10_elabx.specs.declared.problem.Problem.{Problem}
use Rattle.p10_elabx.specs.First.{every, only_first}
use Rattle.p10_elabd.specs.Laws.{AreKept}
use Rattle.p10_elabd.specs.Standing.{PlainStanding}
use Rattle.p10_heads.specs.Heads.{heads_of_roots}
use Rattle.p10_heads.specs.Roots.{roots_of}
use Rattle.p10_linkage.specs.Between.{taken_together}
use Rattle.p10_elab.specs.Knowledge.{Known}
use Rattle.p10_elab.specs.RootEnds.{nothing_known}
use Rattle.p10_elab.specs.Programs.{Elaborated, unless_problem, names_settled, program_of, main_among, known_of, standing_of}
use Rattle.p10_refusals.specs.Laws.{TellsFirst, TheFirstOfAllIsTold}
use Rattle.p10_refusals.proofs.Alike.{Alike}
use Rattle.p10_refusals.proofs.Outside.{AlikeKnown}
use Rattle.p10_refusals.proofs.Roots.{alike_roots, alike_together}

nothing_alike : AlikeKnown nothing_known nothing_known
nothing_alike = record {
  standing = record { scope = refl; open_structures = refl; problems = refl };
  root = refl;
  linked = refl;
  functions = refl;
  block_objects = refl;
  objects = refl;
  sightings = refl;
  visible = refl;
  mains = refl;
  tentative = refl;
  undefined = refl;
  outside = refl;
}

alike_known : (roots : List (List (External At))) → AlikeKnown (known_of every roots) (known_of only_first roots)
unfolding known_of
alike_known roots = alike_roots (heads_of_roots 0 roots) roots nothing_alike

alike_standing : (roots : List (List (External At))) → Alike (standing_of every roots) (standing_of only_first roots)
alike_standing roots =
    let a = alike_known roots in
    subst (λ ls. Alike (standing_of every roots) (taken_together only_first (heads_of_roots 0 roots) ls (known_of only_first roots).standing)) a.linked
    (alike_together (heads_of_roots 0 roots) (known_of every roots).linked a.standing)

-- what comes where no row holds
same_settled : (all : List (External At)) (count : ℕ) (s t : PlainStanding) (k j : Known) → Alike s t → AlikeKnown k j →
    names_settled all (length j.functions) count (main_among j.functions) j.mains (program_of count t j) ≡ names_settled all (length k.functions) count (main_among k.functions) k.mains (program_of count s k)
same_settled all count s t k j a b = sym (λ i. names_settled all (length (b.functions i)) count (main_among (b.functions i)) (b.mains i)
    (program_of count (record { scope = a.scope i; open_structures = a.open_structures i; problems = [] })
    (record {
      standing = k.standing;
      root = b.root i;
      linked = b.linked i;
      functions = b.functions i;
      block_objects = b.block_objects i;
      objects = b.objects i;
      sightings = b.sightings i;
      visible = b.visible i;
      mains = b.mains i;
      tentative = b.tentative i;
      undefined = b.undefined i;
      outside = b.outside i;
    })))

told_by : (all few : List Problem) (this that : Elaborated) → that ≡ this → AreKept all few → TellsFirst all (unless_problem all this) (unless_problem few that)
told_by [] [] this that e k = e
told_by (r ∷ rest) [] this that e k = absurd cc
told_by [] (q ∷ []) this that e k = absurd k.holds
told_by (r ∷ rest) (q ∷ []) this that e k = (q, refl, k)
told_by all (q ∷ p ∷ rest) this that e k = absurd k

pub the_first_of_all_is_told : TheFirstOfAllIsTold
the_first_of_all_is_told all =
    let roots : List (List (External At)) = roots_of all in
    let a = alike_standing roots in
    let count : ℕ = length (heads_of_roots 0 roots).objects in
    told_by (standing_of every roots).problems (standing_of only_first roots).problems _ _ (same_settled all count (standing_of every roots) (standing_of only_first roots) (known_of every roots) (known_of only_first roots) a (alike_known roots)) a.problems
