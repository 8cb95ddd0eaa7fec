use Rattle.std.proofs.Common.{◌∙◌, nat_eq, sym}
use Rattle.indexmap.specs.IndexMap.{get}
use Rattle.p10_heads.proofs.BlockNumbers.{outside, noted_before, noted_new}
use Rattle.p10_heads.proofs.block_numbers.note.Goals as goal

pub returns-then-not-in_block : goal.returns-then-not-in_block
returns-then-not-in_block c = λ first. outside (get nat_eq c.args.table.now first) c.args.head.now.in_block (nat_eq c.args.head.now.at.first first) c.args.number c.if-not-in_block.true

pub returns-then-contains_key : goal.returns-then-contains_key
returns-then-contains_key c = λ first. noted_before (get nat_eq c.args.table.now) c.args.head.now.at.first first c.args.number c.args.head.now.in_block (sym c.contains_key.ensures ∙ c.if-contains_key.true)

pub returns : goal.returns
returns c = λ first.
    noted_new (get nat_eq c.args.table.now) (get nat_eq c.insert.new.self) c.args.head.now.at.first first c.args.number c.args.head.now.in_block c.if-not-in_block.false (sym c.contains_key.ensures ∙ c.if-contains_key.false) (c.in_ok-insert.ensures.updates.0 first)
