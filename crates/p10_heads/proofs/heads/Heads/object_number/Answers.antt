use Rattle.std.proofs.Common.{◌∙◌, ap, map}
use Rattle.p10_heads.specs.HeadViews.{plain_head}
use Rattle.p10_heads.specs.private.Numbering.{number_from}
use Rattle.p10_heads.proofs.Numbered.{numbers_are}
use Rattle.p10_heads.proofs.heads.Heads.object_number.Goals as goal

pub returns : goal.returns
returns c =
    c.number.ensures ∙ ap (λ k. number_from k c.args.root c.args.internal c.args.name.now) c.args.self.now.objects_numbered
    ∙ numbers_are (map plain_head c.args.self.now.objects.items) c.args.root c.args.internal c.args.name.now
