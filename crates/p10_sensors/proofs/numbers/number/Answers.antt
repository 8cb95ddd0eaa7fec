use Rattle.std.proofs.Common.{◌≡◌, Ok, decimal, sym, subst, ap, ◌∙◌}
use Rattle.std.specs.Str.{IsUtf8}
use Rattle.std.proofs.lemmas.Bool.{false≢true}
use Rattle.std.proofs.lemmas.Str.{IsUtf8-from_ascii}
use Rattle.std.proofs.lemmas.Fmt.{IsAscii-decimal, parse-decimal}
use Rattle.p10_sensors.proofs.Digits.{is_read, number_read}
use Rattle.p10_sensors.proofs.numbers.number.Goals as goal

pub returns-in_default-clause-none : goal.returns-in_default-clause-none
returns-in_default-clause-none c = λ n small e. c.in_default.ensures.cases.0 (subst IsUtf8 (sym e) (IsUtf8-from_ascii (decimal n) (IsAscii-decimal n small)))

pub returns-in_default-parse-clause-none : goal.returns-in_default-parse-clause-none
returns-in_default-parse-clause-none c = λ n small e.
    let read : c.parse.result ≡ Ok n = parse-decimal 64 n c.in-Ok.text.now c.parse.result small small (c.in-Ok.ensures.cases.0 ∙ e) c.parse.ensures.value.0 in
    false≢true (ap is_read (sym c.in_default-parse.is ∙ read))

pub returns-else-is_form_of-clause-none : goal.returns-else-is_form_of-clause-none
returns-else-is_form_of-clause-none c = λ n small e.
    let read : c.parse.result ≡ Ok n = parse-decimal 64 n c.in-Ok.text.now c.parse.result small small (c.in-Ok.ensures.cases.0 ∙ e) c.parse.ensures.value.0 in
    let same : c.in-Ok-parse.number ≡ n = ap number_read (sym c.in-Ok-parse.is ∙ read) in
    false≢true (sym c.if-is_form_of.false ∙ c.is_form_of.ensures.1 (ap decimal same ∙ sym e))
