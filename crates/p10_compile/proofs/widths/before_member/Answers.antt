-- The members are those of the structure that stands for it.
use Rattle.std.proofs.Common.{sym, ◌∙◌, ap, map, false, option_map, option_copied}
use Rattle.p10_core.specs.Types.{structure, bare, plain_form_of_type, plain_body, plain_member, plain_type, representative_of}
use Rattle.p10_core.specs.Views.{plain_types}
use Rattle.p10_compile.proofs.Members.{before_member}
use Rattle.p10_compile.proofs.widths.before_member.Goals as goal

pub returns-in-Some : goal.returns-in-Some
returns-in-Some c = λ p e.
    before_member p (plain_types c.args.types.now) (bare p.structures (plain_type c.args.t.now)) c.representative.result c.args.number (plain_body c.in-Some.body.now) (map plain_member c.as_slice.result.now) c.scalars_of_first.result e
    (ap (λ f. bare p.structures (plain_form_of_type c.args.t.now.is_const f)) c.in-Struct.is ∙ (ap (λ ss. structure false (representative_of ss c.in-Struct.structure)) e ∙ ap (λ n. structure false n) (sym c.representative.ensures)))
    (sym (sym (ap (λ r. option_map plain_body (option_copied r)) c.in-Some.is) ∙ c.body.ensures))
    (ap (λ ms. map plain_member ms) (sym c.as_slice.ensures)) c.scalars_of_first.ensures
