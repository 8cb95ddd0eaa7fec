use Rattle.std.proofs.Common.{◌≤◌}
use Rattle.p10_macros.specs.private.KnownMacros.{plain_known}
use Rattle.p10_macros.specs.private.Places.{chosen_count}
use Rattle.p10_macros.specs.private.Putting.{PutsTraced, part_of}
use Rattle.p10_macros.specs.private.Traces.{lists_of}
use Rattle.p10_macros.proofs.Putting.{parts_behind}
use Rattle.p10_macros.proofs.replacement.put_list.Given as goal

-- what stands for the chosen words from one of them on was put
abbrev pub invariant-loop-index : goal.invariant-loop-index
invariant-loop-index l = record {
  inside : l.index ≤ chosen_count l.known.made.body.now l.chosen;
  puts : PutsTraced l.fn.pending.words.items l.pending.words.items (parts_behind (part_of (plain_known l.known) (lists_of l.values) l.site.at l.site.from) l.known.made.body.now l.chosen l.index) l.fn.left l.left;
}

abbrev pub decreases-loop-index : goal.decreases-loop-index
decreases-loop-index l = l.index
