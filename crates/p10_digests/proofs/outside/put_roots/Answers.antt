use Rattle.std.proofs.Common.{◌≡◌, ◌+◌, length, ap, rules}
use Rattle.p10_base.specs.Words.{plain_words}
use Rattle.p10_digests.proofs.Steps.{root_put, no_root_put}
use Rattle.p10_digests.proofs.outside.put_roots.Goals as goal

pub loop-rest-preserved : goal.loop-rest-preserved
loop-rest-preserved c =
    let after : c.in-Some.next ≡ c.loop-rest.number + length c.as_slice-words.result.now = search rules in
    root_put (λ words. plain_words words.items) _ c.root-item.result c.loop-rest.rest.now c.as_slice-words.result.now c.loop-rest.text.items c.extend_from_slice.new.self.items c.put_root.new.text.items c.args.bodies.now
    c.loop-rest.number c.in-Some.next _ c.in-len1-up.len_at_least c.root-item.is (ap plain_words c.as_slice-words.ensures.value) c.in_ok-extend_from_slice.ensures.items c.in_ok-put_root.ensures after c.loop-rest.invariant

pub returns : goal.returns
returns c = no_root_put (λ words. plain_words words.items) c.loop-rest.rest.now c.loop-rest.text.items c.args.bodies.now c.loop-rest.number _ c.in_default.len_below c.loop-rest.invariant
