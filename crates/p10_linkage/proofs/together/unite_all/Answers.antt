use Rattle.std.proofs.Common.{List, [], map, length, sym, ◌∙◌, ap, subst}
use Rattle.std.proofs.lemmas.List.{length-map}
use Rattle.p10_core.specs.Types.{PlainStructure}
use Rattle.p10_core.specs.Views.{plain_types}
use Rattle.p10_core.specs.Completing.{AreBuilt}
use Rattle.p10_core.specs.Representing.{represented}
use Rattle.p10_elabx.specs.First.{only_first, problems}
use Rattle.p10_elabd.specs.Standing.{PlainStanding}
use Rattle.p10_elabd.specs.Views.{plain_standing}
use Rattle.p10_linkage.specs.LinkedViews.{linked_of_name}
use Rattle.p10_linkage.specs.Between.{all_agreeing}
use Rattle.p10_linkage.specs.private.Agreeing.{stood}
use Rattle.p10_linkage.proofs.ByNumbers.{represented_own}
use Rattle.p10_linkage.proofs.together.unite_all.Goals as goal

pub unite_in_turn-requires : goal.unite_in_turn-requires
unite_in_turn-requires c =
    let ss : List PlainStructure = plain_types c.args.standing.now.scope.types in
    record {
      as_many = ap length (c.in_ok-stands.ensures ∙ c.in_ok-numbers.ensures) ∙ length-map ss (λ s. s.representative);
      built = subst AreBuilt (sym (ap (represented ss) (c.in_ok-stands.ensures ∙ c.in_ok-numbers.ensures) ∙ represented_own ss)) c.args.standing.now.scope.types.built;
    }

pub represent-requires : goal.represent-requires
represent-requires c =
    let ss : List PlainStructure = plain_types c.args.standing.now.scope.types in
    record {
      as_many = ap length c.as_slice.ensures.value ∙ c.in_ok-united.ensures.as_many ∙ ap length (c.in_ok-stands.ensures ∙ c.in_ok-numbers.ensures) ∙ length-map ss (λ s. s.representative);
      built = subst (λ numbers. AreBuilt (represented ss numbers)) (sym c.as_slice.ensures.value) (c.in_ok-united.ensures.built c.if-not-united.false);
    }

pub returns-clause-united : goal.returns-clause-united
returns-clause-united c = λ all.
    let ss : List PlainStructure = plain_types c.args.standing.now.scope.types in
    let s : PlainStanding = plain_standing c.args.standing.now in
    ap (λ ts. stood s ts (problems c.args.standing.now.problem)) (c.represent.ensures ∙ ap (represented ss) c.as_slice.ensures.value)
    ∙ sym (c.in_ok-united.ensures.told c.if-not-united.false s (problems c.args.standing.now.problem))
    ∙ ap (λ ts. all_agreeing only_first [] (map linked_of_name c.args.linked.now) (stood s ts (problems c.args.standing.now.problem))) (ap (represented ss) (c.in_ok-stands.ensures ∙ c.in_ok-numbers.ensures) ∙ represented_own ss)
