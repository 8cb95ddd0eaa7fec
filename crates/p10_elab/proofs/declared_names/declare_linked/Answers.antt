use Rattle.std.proofs.Common.{length, sym, ap, ◌∙◌}
use Rattle.std.proofs.lemmas.List.{length-map}
use Rattle.p10_heads.specs.HeadViews.{plain_head}
use Rattle.p10_heads.specs.PlainHeads.{plain_heads}
use Rattle.p10_elab.proofs.declared_names.declare_linked.Goals as goal

pub returns : goal.returns
returns c = c.in_ok-add_linked.ensures (plain_heads c.args.setting.now.heads.now) (sym c.linked_number-number.ensures) (ap length (sym c.objects-count.ensures) ∙ length-map c.objects-count.result.now plain_head) (sym c.is_taken-taken.ensures)
