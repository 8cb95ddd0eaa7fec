use Rattle.std.proofs.Common.{◌≡◌, ◌++◌, ap, ◌∙◌, arith, rules}
use Rattle.p10_cert.specs.Vars.{var_of}
use Rattle.p10_cert.specs.private.Packing.{number_bytes, unfolded, end_above, step_to, step_by}
use Rattle.p10_cert.proofs.PackingLaws.{parts_read, step_again, unfolded_again, end_again}
use Rattle.p10_cert.proofs.packing.packed.Goals as goal

pub returns : goal.returns
returns c =
    let low = c.args.line.range.lo in
    let high = c.args.line.range.hi in
    let step : c.from.result ≡ step_to c.args.last c.args.line.var = cc in
    let least : unfolded c.folded.result ≡ low = ap unfolded c.folded.ensures ∙ unfolded_again low in
    parts_read c.args.last c.from.result c.folded.result c.width_of.result (var_of c.args.line) c.put_number-3.new.bytes.items
    (omega (arith, c.from.type_inv)) (omega (arith, c.folded.type_inv)) (omega (arith, c.width_of.type_inv))
    (c.in_ok-put_number-3.ensures
    ∙ ap (λ bytes. bytes ++ number_bytes c.width_of.result) (c.in_ok-put_number-2.ensures
    ∙ ap (λ bytes. bytes ++ number_bytes c.folded.result) (c.in_ok-put_number.ensures ∙ ap (λ bytes. bytes ++ number_bytes c.from.result) c.new-bytes.ensures.items)))
    (ap (step_by c.args.last) step ∙ step_again c.args.last c.args.line.var (omega arith) (omega arith))
    least
    (ap (λ l. end_above l c.width_of.result) least ∙ ap (end_above low) c.width_of.ensures ∙ end_again low high (search rules) (search rules) c.args.line.range.ordered)
