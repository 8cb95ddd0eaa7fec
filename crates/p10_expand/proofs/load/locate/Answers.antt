use Rattle.std.proofs.Common.{sym, ◌∙◌}
use Rattle.p10_expand.proofs.Standing.{adds_stands, header_at}
use Rattle.p10_expand.proofs.load.locate.Goals as goal

pub returns-in_ok-add-in-Some-built_in-clause-stands : goal.returns-in_ok-add-in-Some-built_in-clause-stands
returns-in_ok-add-in-Some-built_in-clause-stands g c =
    adds_stands _ _ _ _ _ _ _ c.requires
    (header_at (g.F.Files.held c.args.files.now) c.as_slice.result.now c.in-Some-built_in.header.text.now _ _ c.in-Some-built_in.ensures.text
    (c.of.ensures ∙ (c.in_ok-from_slice-in-Some-built_in.ensures.items ∙ (c.as_slice-in-Some-built_in.ensures ∙ sym c.as_slice.ensures))) c.in_ok-text-in-Some-built_in.ensures.items)
    c.in_ok-add-in-Some-built_in.ensures.added c.in_ok-add-in-Some-built_in.ensures.absent
