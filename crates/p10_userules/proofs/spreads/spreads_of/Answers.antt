use Rattle.std.proofs.Common.{ℕ, ◌+◌, ◌-◌, slice_index_or, false, refl, arith}
use Rattle.p10_userules.specs.declared.occurrences.Referent.TheVariants.{Variable}
use Rattle.p10_userules.specs.declared.occurrences.Occurrence.{Occurrence}
use Rattle.p10_userules.specs.private.Spreads.{number_of_kind}
use Rattle.p10_userules.proofs.Noting.{turned, turned_length, all_noted}
use Rattle.p10_userules.proofs.spreads.spreads_of.Goals as goal

pub loop-left-preserved : goal.loop-left-preserved
loop-left-preserved c =
    let none : Occurrence = record { referent = Variable 0; checked = false } in
    let left : ℕ = c.loop-left.left - 1 in
    let o : Occurrence = slice_index_or c.args.occurrences.now left none in (
      omega arith,
      turned_length c.loop-left.spreads.items c.note.new.spreads.items (number_of_kind c.args.kind o.referent) (record { start = c.args.start + left; end = c.args.start + left + 1; checked = o.checked }) c.args.count c.loop-left.invariant.1 c.note.ensures,
      turned c.args.kind c.args.start c.loop-left.left left c.args.occurrences.now none o c.loop-left.spreads.items c.note.new.spreads.items (omega arith) (omega arith) refl c.loop-left.invariant.2 c.note.ensures,
    )

pub returns : goal.returns
returns c = all_noted c.args.kind c.args.start c.loop-left.left c.args.occurrences.now c.args.count c.loop-left.spreads.items (omega arith) c.loop-left.invariant.1 c.loop-left.invariant.2
