use Rattle.std.proofs.Common.{◌≡◌, length}
use Rattle.p10_macros.specs.private.Origins.{Extends}
use Rattle.p10_macros.proofs.Uniting.{GivesTo}
use Rattle.p10_macros.proofs.giving.give.Given as goal

-- the words so far are words of the use
abbrev pub invariant-loop-part : goal.invariant-loop-part
invariant-loop-part l = record {
  grown : Extends l.fn.origins l.origins;
  long : length l.value ≡ length l.fn.value;
  gives : GivesTo l.fn.origins l.origins l.name l.from l.joined.own l.joined.all l.fn.value l.value l.part-index;
}
