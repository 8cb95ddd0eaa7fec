-- A byte stands at its place in the text.
use Rattle.std.proofs.Common.{◌-◌, ◌∙◌, sym, arith}
use Rattle.std.proofs.lemmas.Option.{slice_get-get_or, slice_get_past}
use Rattle.p10_machine.proofs.Filled.{byte_before, byte_at}
use Rattle.p10_machine.proofs.listed.byte_for.Goals as goal

pub returns-then-number-first : goal.returns-then-number-first
returns-then-number-first c = byte_before c.args.bytes.now c.args.first c.args.number c.if-number-first.true

pub returns-then-place-bytes : goal.returns-then-place-bytes
returns-then-place-bytes c =
    sym (slice_get-get_or c.args.bytes.now (c.args.number - c.args.first) 0 (omega (arith, c.if-place-bytes.true))) ∙ byte_at c.args.bytes.now c.args.first c.args.number (c.args.number - c.args.first) (omega (arith, c.if-number-first.false))

pub returns-else-place-bytes : goal.returns-else-place-bytes
returns-else-place-bytes c =
    sym (slice_get_past c.args.bytes.now (c.args.number - c.args.first) (omega (arith, c.if-place-bytes.false))) ∙ byte_at c.args.bytes.now c.args.first c.args.number (c.args.number - c.args.first) (omega (arith, c.if-number-first.false))
