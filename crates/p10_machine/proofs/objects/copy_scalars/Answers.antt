-- Each turn copies the first of the scalars that are left.
use Rattle.std.proofs.Common.{suc, ◌+◌, ◌-◌, refl, ◌∙◌, ap, Err}
use Rattle.std.proofs.lemmas.Result.{err_from_is_err_and}
use Rattle.p10_meaning.specs.Statements.{copy_scalars, goes}
use Rattle.p10_machine.specs.Views.{state_of}
use Rattle.p10_machine.proofs.Copied.{piece_done, piece_cut}
use Rattle.p10_machine.proofs.objects.copy_scalars.Goals as goal

pub loop-i-preserved : goal.loop-i-preserved
loop-i-preserved c = λ io frame.
    piece_done c.args.count c.loop-i.i (c.loop-i.i + 1) (λ m j. copy_scalars m j c.args.spans.0 c.args.pointers.0 c.args.spans.1 c.args.pointers.1 frame (state_of c.loop-i.left c.loop-i.outside io)) (λ m j. copy_scalars m j c.args.spans.0 c.args.pointers.0 c.args.spans.1 c.args.pointers.1 frame (state_of c.in_ok-left.left c.copy_scalar.new.outside io)) _ c.loop-i-test.true refl (c.loop-i.invariant io frame)
    (c.in_ok-left.ensures (c.args.count - (c.loop-i.i + 1)) io frame)

pub returns-in_err-left : goal.returns-in_err-left
returns-in_err-left c = λ io frame.
    let p = err_from_is_err_and c.from_residual.result c.from_residual.ensures.1 in
    piece_cut c.args.count c.loop-i.i (λ m j. copy_scalars m j c.args.spans.0 c.args.pointers.0 c.args.spans.1 c.args.pointers.1 frame (state_of c.loop-i.left c.loop-i.outside io)) (λ left. copy_scalars (c.args.count - (c.loop-i.i + 1)) (suc c.loop-i.i) c.args.spans.0 c.args.pointers.0 c.args.spans.1 c.args.pointers.1 frame (state_of left c.copy_scalar.new.outside io)) (λ left. goes frame (state_of left c.copy_scalar.new.outside io)) (copy_scalars c.args.count 0 c.args.spans.0 c.args.pointers.0 c.args.spans.1 c.args.pointers.1 frame (state_of c.args.steps c.args.outside.now io)) c.from_residual.result _ c.copy_scalar.new.outside io c.loop-i-test.true (c.loop-i.invariant io frame)
    (p.1 ∙ ap (λ y. Err y) p.2) (c.in_err-left.ensures (c.args.count - (c.loop-i.i + 1)) io frame)
