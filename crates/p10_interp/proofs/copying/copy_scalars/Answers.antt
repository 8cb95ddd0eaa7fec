-- Each turn copies the first of the scalars that are left.
use Rattle.std.proofs.Common.{suc, ◌+◌, ◌-◌, refl, ◌∙◌, ap, Err}
use Rattle.std.proofs.lemmas.Result.{err_from_is_err_and}
use Rattle.p10_meaning.specs.Statements.{normal, copy_scalars}
use Rattle.p10_interp.specs.private.Machines.{state_of}
use Rattle.p10_interp.proofs.Pointed.{copied_one, copy_stops}
use Rattle.p10_interp.proofs.copying.copy_scalars.Goals as goal

pub loop-i-preserved : goal.loop-i-preserved
loop-i-preserved c = λ io frame.
    copied_one c.args.count c.loop-i.i (c.loop-i.i + 1) (λ m j. copy_scalars m j c.args.copied.to_span c.args.copied.to c.args.copied.from_span c.args.copied.from frame (state_of c.loop-i.outside io)) (λ m j. copy_scalars m j c.args.copied.to_span c.args.copied.to c.args.copied.from_span c.args.copied.from frame (state_of c.copy_scalar.new.outside io)) _ c.loop-i-test.true refl (c.loop-i.invariant io frame)
    (c.in_ok-copy_scalar.ensures io frame (c.args.count - (c.loop-i.i + 1)))

pub returns-in_err-copy_scalar : goal.returns-in_err-copy_scalar
returns-in_err-copy_scalar c = λ io frame.
    let p = err_from_is_err_and c.from_residual.result c.from_residual.ensures.1 in
    copy_stops c.args.count c.loop-i.i (λ m j. copy_scalars m j c.args.copied.to_span c.args.copied.to c.args.copied.from_span c.args.copied.from frame (state_of c.loop-i.outside io)) (copy_scalars (c.args.count - (c.loop-i.i + 1)) (suc c.loop-i.i) c.args.copied.to_span c.args.copied.to c.args.copied.from_span c.args.copied.from frame (state_of c.copy_scalar.new.outside io)) (copy_scalars c.args.count 0 c.args.copied.to_span c.args.copied.to c.args.copied.from_span c.args.copied.from frame (state_of c.args.outside.now io)) c.from_residual.result _ (record { flow = normal; frame = frame }) (state_of c.copy_scalar.new.outside io) c.loop-i-test.true (c.loop-i.invariant io frame)
    (p.1 ∙ ap (λ y. Err y) p.2) (c.in_err-copy_scalar.ensures io frame (c.args.count - (c.loop-i.i + 1)))
