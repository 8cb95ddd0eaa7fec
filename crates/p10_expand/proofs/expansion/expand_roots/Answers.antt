use Rattle.std.proofs.Common.{◌<◌, ◌-◌, length, map, arith}
use Rattle.std.proofs.lemmas.Result.{err_from_is_err_and}
use Rattle.p10_expand.specs.Answers.{plain_obeyed}
use Rattle.p10_expand.specs.private.Steps.{state_of, lists_in}
use Rattle.p10_expand.proofs.Rooting.{root_fails, root_refuses, root_goes, one_root_more, roots_done}
use Rattle.p10_expand.proofs.expansion.expand_roots.Goals as goal

pub returns-in_err-refusal-clause-fault : goal.returns-in_err-refusal-clause-fault
returns-in_err-refusal-clause-fault c =
    let p = err_from_is_err_and c.from_residual.result c.from_residual.ensures.1 in
    let there : c.loop-place.place < length c.args.texts.now.sources.now.roots = omega (arith, c.roots-count.ensures, c.loop-place-test.true) in
    rw (p.1, p.2) (root_fails c.args.texts.now.sources.now c.loop-place.place there (lists_in c.loop-place.roots) (map plain_obeyed c.loop-place.obeyed) c.loop-place.left c.loop-place.invariant
    c.root-root.result (state_of c.fresh-state.result) c.root-root.ensures.value c.fresh-state.ensures
    c.in_err-refusal.field-0.0 c.expand_file.new.state c.in_err-refusal.ensures)

pub returns-in-Some-clause-expanded : goal.returns-in-Some-clause-expanded
returns-in-Some-clause-expanded c =
    let there : c.loop-place.place < length c.args.texts.now.sources.now.roots = omega (arith, c.roots-count.ensures, c.loop-place-test.true) in
    root_refuses c.args.texts.now.sources.now c.loop-place.place there (lists_in c.loop-place.roots) (map plain_obeyed c.loop-place.obeyed) c.loop-place.left c.loop-place.invariant
    c.root-root.result (state_of c.fresh-state.result) c.root-root.ensures.value c.fresh-state.ensures
    c.expand_file.new.state c.in-Some.refusal (lists_in c.push.new.self) (c.roots-count.result - c.loop-place.place - 1) c.in_ok-refused-in-Some.field-0
    (rw c.in-Some.is at c.in_ok-refusal.ensures) (one_root_more c.loop-place.roots.items c.push.new.self.items c.expand_file.new.state.words c.in_ok-push.ensures.items)
    (omega (arith, c.roots-count.ensures)) c.in_ok-refused-in-Some.ensures

pub loop-place-preserved : goal.loop-place-preserved
loop-place-preserved c =
    let there : c.loop-place.place < length c.args.texts.now.sources.now.roots = omega (arith, c.roots-count.ensures, c.loop-place-test.true) in
    root_goes c.args.texts.now.sources.now c.loop-place.place there (lists_in c.loop-place.roots) (map plain_obeyed c.loop-place.obeyed) c.loop-place.left c.loop-place.invariant
    c.root-root.result (state_of c.fresh-state.result) c.root-root.ensures.value c.fresh-state.ensures
    c.expand_file.new.state (lists_in c.push.new.self)
    (rw c.in-None.is at c.in_ok-refusal.ensures) (one_root_more c.loop-place.roots.items c.push.new.self.items c.expand_file.new.state.words c.in_ok-push.ensures.items)

pub returns-clause-expanded : goal.returns-clause-expanded
returns-clause-expanded c =
    roots_done c.args.texts.now.sources.now c.loop-place.place c.loop-place.roots.items c.of.result c.loop-place.obeyed c.loop-place.left (omega (arith, c.roots-count.ensures, c.loop-place-test.false)) c.of.ensures c.loop-place.invariant
