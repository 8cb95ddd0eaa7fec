-- Declarations and functions are told apart, since each is what is read.
use Rattle.std.proofs.Common.{◌≡◌, ◌+◌, ◌*◌, sym, ◌∙◌, ap, arith}
use Rattle.std.proofs.lemmas.Option.{same_Some}
use Rattle.p10_pexpr.specs.Reading.{readers}
use Rattle.p10_parse.specs.ExternalReading.{builders, external_at}
use Rattle.p10_parse.specs.Laws.{ExternalsAreApart}
use Rattle.p10_parse.proofs.Sizes.{external_size}
use Rattle.p10_parse.proofs.Again.{external_again}

pub externals_are_apart : ExternalsAreApart
externals_are_apart names t u rest more ist isu same =
    let n = 2 * external_size t + 2 * external_size u in
    let both : (t, rest) ≡ (u, more) = same_Some _ _
    (sym (external_again t n names rest ist (omega arith)) ∙ ap (external_at (readers n) (builders n) names) same ∙ external_again u n names more isu (omega arith)) in
    (ap (λ q. q.0) both, ap (λ q. q.1) both)
