use Rattle.std.proofs.Common.{◌≡◌, length}
use Rattle.p10_macros.specs.private.Origins.{Extends}
use Rattle.p10_macros.specs.private.Traces.{lists_of}
use Rattle.p10_macros.proofs.Uniting.{GiveTo}
use Rattle.p10_macros.proofs.giving.give_all.Given as goal

-- the words of the arguments so far are words of the use
abbrev pub invariant-loop-value : goal.invariant-loop-value
invariant-loop-value l = record {
  grown : Extends l.fn.origins l.origins;
  long : length l.values ≡ length l.fn.values;
  gives : GiveTo l.fn.origins l.origins l.name l.from (lists_of l.fn.values) (lists_of l.values) l.value-index;
}
