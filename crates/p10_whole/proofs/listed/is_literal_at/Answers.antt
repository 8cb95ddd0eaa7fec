use Rattle.std.proofs.Common.{ap, sym, ◌∙◌, option_map, option_copied}
use Rattle.p10_core.specs.Views.{plain_literal}
use Rattle.p10_whole.proofs.Listing.{literal_at_shown}
use Rattle.p10_whole.proofs.listed.is_literal_at.Goals as goal

pub returns-in-Some : goal.returns-in-Some
returns-in-Some c =
    literal_at_shown c.args.literals.now c.args.place c.args.number c.args.bytes.now (plain_literal c.in-Some.literal.now) c.are_equal.result
    (sym (ap (λ r. option_map plain_literal (option_copied r)) c.in-Some.is) ∙ c.literal_at.ensures)
    (record { shows = λ h. sym c.as_slice.ensures ∙ c.are_equal.ensures.shows h })
