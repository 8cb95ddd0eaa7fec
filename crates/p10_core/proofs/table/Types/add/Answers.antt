use Rattle.std.proofs.Common.{None, option_map, sym, ◌∙◌, arith}
use Rattle.std.proofs.lemmas.List.{length-map}
use Rattle.p10_core.specs.Types.{plain_structure}
use Rattle.p10_core.proofs.Tables.{pushed_is_table}
use Rattle.p10_core.proofs.table.Types.add.Goals as goal

pub invariant_of-self : goal.invariant_of-self
invariant_of-self c =
    let counts = c.len-count.ensures ∙ c.args.self.now.structures.ok.0 ∙ sym (length-map c.args.self.now.structures.items plain_structure) in
    let t = pushed_is_table _ c.args.self.now.structures.items c.push.new.self.items _ c.args.self.now.bodies (option_map (λ t. t.now) c.args.tag)
    (record { few = c.args.self.now.few; counted = c.args.self.now.counted; built = c.args.self.now.built })
    (λ i. record { tag = option_map (λ t. t.now) c.args.tag; body = None; representative = counts i })
    (omega (arith, counts, c.if-count-ge-MOST_STRUCTURES.false)) c.push.ensures.items in
    record { few = t.few; counted = t.counted; built = t.built }
