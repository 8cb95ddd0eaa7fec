use Rattle.std.proofs.Common.{map, length, ◌∙◌, ap, arith}
use Rattle.std.proofs.lemmas.List.{with_items_is}
use Rattle.p10_core.specs.Types.{plain_structure}
use Rattle.p10_core.specs.Representing.{represented}
use Rattle.p10_core.proofs.StandingFor.{represented_is_table}
use Rattle.p10_core.proofs.table.Types.represent.Goals as goal

pub invariant_of-self : goal.invariant_of-self
invariant_of-self c =
    let items = with_items_is c.args.self.now.structures c.represent_all.new.structures (omega (arith, c.represent_all.auto.structures, c.as_mut_slice.ensures.len)) in
    let t = represented_is_table c.args.self.now.structures.items _ c.args.self.now.bodies c.args.numbers.now
    (record { few = c.args.self.now.few; counted = c.args.self.now.counted; built = c.args.self.now.built })
    (ap length items ∙ c.represent_all.auto.structures ∙ ap length c.as_mut_slice.ensures.value)
    (ap (map plain_structure) items ∙ c.represent_all.ensures ∙ ap (λ ss. represented (map plain_structure ss) c.args.numbers.now) c.as_mut_slice.ensures.value) c.requires.built in
    record { few = t.few; counted = t.counted; built = t.built }
