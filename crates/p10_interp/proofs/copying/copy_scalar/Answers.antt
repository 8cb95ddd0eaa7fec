-- A step, a read and a write.
use Rattle.std.proofs.Common.{◌-◌, suc, refl, sym, subst}
use Rattle.p10_meaning.specs.Statements.{copy_scalars}
use Rattle.p10_interp.specs.private.Machines.{state_of}
use Rattle.p10_interp.specs.private.Writing.{Continues}
use Rattle.p10_interp.proofs.Begun.{step_paid}
use Rattle.p10_interp.proofs.Pointed.{part_copied}
use Rattle.p10_interp.proofs.copying.copy_scalar.Goals as goal

pub returns : goal.returns
returns c = λ io frame n.
    subst (λ o. Continues o (copy_scalars n (suc c.args.i) c.args.copied.to_span c.args.copied.to c.args.copied.from_span c.args.copied.from frame (state_of (record c.args.outside.now { store = c.write_part.new.store; left = c.args.outside.now.left - 1 }) io)) c.write_part.result (state_of (record c.args.outside.now { store = c.write_part.new.store; left = c.args.outside.now.left - 1 }) io))
    (sym (step_paid (state_of c.args.outside.now io) _ c.if-outside-eq0.false))
    (part_copied n c.args.i c.args.copied.to_span c.args.copied.to c.args.copied.from_span c.args.copied.from frame (record (state_of c.args.outside.now io) { left = c.args.outside.now.left - 1 }) c.in_ok-cell.cell c.args.outside.now.store c.write_part.new.store c.write_part.result refl refl c.in_ok-cell.ensures c.write_part.ensures)
