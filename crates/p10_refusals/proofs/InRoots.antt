-- What is told of a declaration or a function is told of all roots.
use Rattle.std.specs.Prelude.{◌≡◌, List, [], ◌∷◌, ◌++◌, Option, Some, None, true}
use Rattle.std.proofs.Common.{sym, subst}
use Rattle.p10_base.specs.declared.at.At.{At}
use Rattle.p10_base.specs.declared.codes.SubsetCode.TheVariants as subset
use Rattle.p10_syn.specs.Trees.{External}
use Rattle.p10_core.specs.Types.{PlainStructure}
use Rattle.p10_elabx.specs.declared.problem.Problem.{Problem}
use Rattle.p10_elabx.specs.First.{Among, every}
use Rattle.p10_elabd.specs.Laws.{FormRowsAreTold}
use Rattle.p10_elabd.specs.Standing.{PlainStanding, refusing}
use Rattle.p10_heads.specs.Heads.{Heads, Head, heads_of_roots}
use Rattle.p10_linkage.specs.Linkage.{Linked}
use Rattle.p10_linkage.specs.Between.{agreed, agreed_noted, agreeing, all_agreeing, is_defined_before, definitions_noted, taken_together}
use Rattle.p10_elab.specs.Knowledge.{Known}
use Rattle.p10_elab.specs.RootEnds.{nothing_known, known_after, known_after_all, root_begun, root_passed, roots_passed}
use Rattle.p10_elab.specs.Programs.{known_of, standing_of}
use Rattle.p10_refusals.specs.InRoots.{DeclarationsAreTold}
use Rattle.p10_refusals.proofs.Growing.{Grows, as_before, grows_on, grows_refusing, grown, grown_outside}
use Rattle.p10_root_steps.proofs.Passing.{over_all, over_roots}
use Rattle.p10_root_steps.proofs.Parts.{over_sizes}

-- ## Between roots

grows_agreed : (l : Linked) (s : PlainStanding) (o : Option (List PlainStructure)) → Grows s (agreed_noted every l s o)
grows_agreed l s None = grows_refusing true subset.DefinedTwice l.at s
grows_agreed l s (Some structures) = record { among = λ r h. h }

pub grows_agreeing : (before all : List Linked) (s : PlainStanding) → Grows s (all_agreeing every before all s)
grows_agreeing before [] s = as_before s
grows_agreeing before (l ∷ rest) s =
    grows_on (grows_agreed l s (agreed before l s.scope.structures)) (grows_agreeing (before ++ l ∷ []) rest (agreeing every before l s))

pub grows_definitions : (before all : List Head) (s : PlainStanding) → Grows s (definitions_noted every before all s)
grows_definitions before [] s = as_before s
grows_definitions before (f ∷ rest) s =
    grows_on (grows_refusing (is_defined_before before f) subset.DefinedTwice f.at s)
    (grows_definitions (before ++ f ∷ []) rest (refusing every (is_defined_before before f) subset.DefinedTwice f.at s))

grows_together : (heads : Heads) (linked : List Linked) (s : PlainStanding) → Grows s (taken_together every heads linked s)
unfolding taken_together
grows_together heads linked s =
    let t : PlainStanding = all_agreeing every [] linked s in
    grows_on (grows_agreeing [] linked s)
    (grows_on (grows_definitions [] heads.functions t) (grows_definitions [] heads.objects (definitions_noted every [] heads.functions t)))

-- ## Where the roots come to a declaration or a function

in_root : (heads : Heads) (k : Known) (earlier : List (External At)) (one : External At) (later : List (External At)) (r : Problem) →
    Among r (known_after every heads (known_after_all every heads k earlier) one).standing.problems → Among r (known_after_all every heads k (earlier ++ one ∷ later)).standing.problems
in_root heads k [] one later r h = (grown_outside (over_all every heads (known_after every heads k one) later)).among r h
in_root heads k (e ∷ earlier) one later r h = in_root heads (known_after every heads k e) earlier one later r h

in_roots : (heads : Heads) (k : Known) (before : List (List (External At))) (root : List (External At)) (after : List (List (External At))) (r : Problem) →
    Among r (root_passed every heads (roots_passed every heads k before) root).standing.problems → Among r (roots_passed every heads k (before ++ root ∷ after)).standing.problems
in_roots heads k [] root after r h = (grown_outside (over_roots every heads (root_passed every heads k root) after)).among r h
in_roots heads k (x ∷ before) root after r h = in_roots heads (root_passed every heads k x) before root after r h

pub root_told : (roots before : List (List (External At))) (root : List (External At)) (after : List (List (External At))) (r : Problem) → roots ≡ before ++ root ∷ after →
    Among r (root_passed every (heads_of_roots 0 roots) (roots_passed every (heads_of_roots 0 roots) nothing_known before) root).standing.problems → Among r (standing_of every roots).problems
unfolding known_of
root_told roots before root after r parts h =
    let heads : Heads = heads_of_roots 0 roots in
    (grows_together heads (known_of every roots).linked (known_of every roots).standing).among r
    (subst (λ rs. Among r (roots_passed every heads nothing_known rs).standing.problems) (sym parts) (in_roots heads nothing_known before root after r h))

pub declarations_told : FormRowsAreTold → DeclarationsAreTold
declarations_told law roots before earlier one r s h =
    let heads : Heads = heads_of_roots 0 roots in
    let k : Known = root_begun (roots_passed every heads nothing_known before) in
    let root : List (External At) = earlier ++ one ∷ s.later in
    root_told roots before root s.after r s.parts ((grown (over_sizes every (known_after_all every heads k root).tentative (known_after_all every heads k root).standing)).among r (in_root heads k earlier one s.later r h))
