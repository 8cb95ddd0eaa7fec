use Rattle.std.proofs.Common.{drop}
use Rattle.p10_core.specs.Views.{plain_statements}
use Rattle.p10_core.specs.WholePrograms.{declared_of, loops_of, marks_of}
use Rattle.p10_whole.specs.declared.order.Next.{Next}
use Rattle.p10_whole.specs.private.Orders.{Passes}
use Rattle.p10_whole.proofs.order.+order.Given as goal

abbrev pub invariant-pass_statements-loop-s : goal.invariant-pass_statements-loop-s
invariant-pass_statements-loop-s l =
    (z : Next) → Passes l.next (declared_of (plain_statements (drop l.s-index l.all))) (loops_of (plain_statements (drop l.s-index l.all))) (marks_of (plain_statements (drop l.s-index l.all))) z →
    Passes l.fn.next (declared_of (plain_statements l.all)) (loops_of (plain_statements l.all)) (marks_of (plain_statements l.all)) z
