use Rattle.std.proofs.Common.{◌≡◌, ◌∙◌, ap, to_z, of_z, rules}
use Rattle.std.proofs.lemmas.Int.{to_z-of_z}
use Rattle.std.specs.Int.{w128}
use Rattle.p10_numbers.specs.Numbers.{with_number}
use Rattle.p10_elabs.proofs.CaseValues.{labelled_with}
use Rattle.p10_elabs.proofs.case_labels.CaseLabels.with.Goals as goal

pub invariant_of-result : goal.invariant_of-result
invariant_of-result c =
    let same : to_z w128 (of_z w128 c.args.label.value) ≡ c.args.label.value = to_z-of_z w128 c.args.label.value (search rules) in
    record {
      known = labelled_with c.args.self.values c.add.new.self c.args.self.list.items c.push.new.self.items c.args.label c.args.self.known (c.in_ok-add.ensures.ok ∙ ap (with_number c.args.self.values) same) c.in_ok-push.ensures.items;
    }
