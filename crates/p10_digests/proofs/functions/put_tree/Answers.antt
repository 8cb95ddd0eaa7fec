use Rattle.std.proofs.Common.{◌++◌, map, take, drop, ap, rules}
use Rattle.p10_base.specs.Words.{plain_words}
use Rattle.p10_digests.specs.Lines.{hashed_lines, all_words}
use Rattle.p10_digests.proofs.Steps.{root_taken, no_root_taken}
use Rattle.p10_digests.proofs.functions.put_tree.Goals as goal

pub loop-rest-init : goal.loop-rest-init
loop-rest-init c =
    ap (λ n. c.args.text.now.items ++ hashed_lines (take n (drop c.args.at.first (all_words (map (λ words. plain_words words.items) c.args.roots.now))))) c.saturating_sub-left.ensures

pub loop-rest-preserved : goal.loop-rest-preserved
loop-rest-preserved c =
    root_taken (λ words. plain_words words.items) _ c.root-item.result c.loop-rest.rest.now c.as_slice-words.result.now c.loop-rest.text.items c.put_words.new.text.items c.loop-rest.skip c.loop-rest.left
    c.smaller-first.result c.smaller-count.result _ _ c.in-len1-up.len_at_least c.root-item.is (ap plain_words c.as_slice-words.ensures.value)
    c.smaller-first.ensures.first c.smaller-first.ensures.second c.smaller-count.ensures.first c.smaller-count.ensures.second
    (search rules) c.in_ok-put_words.ensures c.loop-rest.invariant

pub returns : goal.returns
returns c = no_root_taken (λ words. plain_words words.items) c.loop-rest.rest.now c.loop-rest.text.items c.loop-rest.skip c.loop-rest.left _ c.in_default.len_below c.loop-rest.invariant
