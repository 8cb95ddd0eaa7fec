use Rattle.std.proofs.Common.{◌∙◌, None, ap}
use Rattle.p10_heads.specs.Heads.{number_by}
use Rattle.p10_heads.proofs.heads.Heads.block_number.Goals as goal

pub returns : goal.returns
returns c = c.number_by.ensures ∙ (λ i. number_by (c.block_place.ensures i) None ((c.count.ensures ∙ ap (λ k. k.count) c.args.self.now.objects_numbered) i))
