use Rattle.std.proofs.Common.{◌∙◌, ◌++◌, map, ap, sym}
use Rattle.std.proofs.lemmas.List.{append-nil, drop_all, drop_more}
use Rattle.p10_core.specs.Views.{plain_object, plain_seen}
use Rattle.p10_warn.specs.private.NamedExtents.{noted_for, extents_named, extents_outside}
use Rattle.p10_warn.proofs.Noting.{seen_more}
use Rattle.p10_warn.proofs.named_extents.NamedExtents.of.Goals as goal

pub loop-seen-init : goal.loop-seen-init
loop-seen-init c = λ name. ap (λ es. es ++ extents_outside (map plain_seen c.args.outside.now) name) (c.in_ok-extents.ensures name)

pub loop-seen-preserved : goal.loop-seen-preserved
loop-seen-preserved c =
    seen_more c.args.outside.now c.loop-seen.seen-index _ (noted_for c.loop-seen.extents) (noted_for c.add.new.self)
    (λ name. extents_named (map plain_object c.args.objects.now) name ++ extents_outside (map plain_seen c.args.outside.now) name)
    (drop_more c.args.outside.now c.loop-seen.seen-index _ c.loop-seen-test.true) c.in_ok-add.ensures c.loop-seen.invariant

pub returns : goal.returns
returns c = λ name.
    sym (append-nil (noted_for c.loop-seen.extents name))
    ∙ ap (λ os. noted_for c.loop-seen.extents name ++ extents_outside (map plain_seen os) name) (sym (drop_all c.loop-seen.seen-index c.args.outside.now c.loop-seen-test.false))
    ∙ c.loop-seen.invariant name
