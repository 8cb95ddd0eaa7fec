use Rattle.std.proofs.Common.{Bool, map, Some, None, ap, ◌∙◌}
use Rattle.std.specs.Prelude.{if◌then◌else◌}
use Rattle.p10_diff.specs.Ranked.{rank_by}
use Rattle.p10_diff_evidence.proofs.AllLines.{one_read, ended}
use Rattle.p10_diff_evidence.proofs.evidence.DiffEvidence.new.Goals as goal

pub loop-rest-preserved : goal.loop-rest-preserved
loop-rest-preserved c =
    let put = c.in_ok-is_read.ensures ∙ ap (λ (b : Bool). if b then Some (map rank_by c.put_text.new.ranks.items) else None) c.if-not-is_read.false in
    let gone = one_read c.loop-rest.number c.args.lines.now c.loop-rest.rest.now _ _ c.as_slice.result.now c.text-item.result c.loop-rest.invariant.counted c.loop-rest.invariant.left c.loop-rest.invariant.read c.in-len1-up.len_at_least c.text-item.is c.as_slice.ensures put in
    record { counted = gone.counted; left = gone.left; read = gone.read }

pub returns : goal.returns
returns c = ended c.loop-rest.number c.args.lines.now c.loop-rest.rest.now _ c.loop-rest.invariant.left c.in_default.len_below c.loop-rest.invariant.read
