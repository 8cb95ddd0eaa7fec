use Rattle.std.proofs.Common.{◌∙◌, ap, sym, option_copied}
use Rattle.p10_syn.specs.Built.{specifier_of}
use Rattle.p10_elabx.specs.TypeNames.{specifier_at, from_to}
use Rattle.p10_elabx.proofs.SpecifierTrees.{row_place}
use Rattle.p10_elabx.proofs.type_names.specifiers_at.Goals as goal

pub returns-in-Some-Some : goal.returns-in-Some-Some
returns-in-Some-Some c =
    c.from_to.ensures
    ∙ ap (λ a. from_to a c.specifier_at-in-Some-Some.result) c.specifier_at.ensures
    ∙ ap (from_to (specifier_at (specifier_of c.in-Some-Some.first.now))) c.specifier_at-in-Some-Some.ensures
    ∙ row_place c.args.specs.now c.in-Some-Some.first.now c.in-Some-Some.last.now c.args.at
    (sym (ap option_copied c.in-Some-Some.is-0) ∙ c.first.ensures.value) (sym (ap option_copied c.in-Some-Some.is-1) ∙ c.last.ensures.value)
