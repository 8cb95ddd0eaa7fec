use Rattle.std.proofs.Common.{rules}
use Rattle.p10_words.proofs.Cutting.{fewer, push_last, push_one, split_none, split_some}
use Rattle.p10_words.proofs.values.push_directories.Goals as goal

pub loop-name-smaller : goal.loop-name-smaller
loop-name-smaller c = fewer c.loop-name.rest.now c.in-Some.name.now c.in-Some.others.now (split_some c.loop-name.rest.now c.split_once.result c.in-Some.name c.in-Some.others c.split_once.ensures.cases c.in-Some.is)

pub loop-name-preserved : goal.loop-name-preserved
loop-name-preserved c = record {
  text = search rules;
  parts = push_one c.args.found.now _ c.loop-name.found _ c.loop-name.rest.now c.in-Some.name.now c.in-Some.others.now c.in_ok-text.field-0 c.loop-name.invariant.parts
      (split_some c.loop-name.rest.now c.split_once.result c.in-Some.name c.in-Some.others c.split_once.ensures.cases c.in-Some.is) c.in_ok-push.ensures.ok c.in_ok-text.ensures;
}

pub returns : goal.returns
returns c =
    push_last c.args.found.now _ c.loop-name.found _ c.loop-name.rest.now c.in_ok-text-2.field-0 c.loop-name.invariant.parts
    (split_none c.loop-name.rest.now c.split_once.result c.split_once.ensures.cases c.in_default.is) c.in_ok-push-2.ensures.ok c.in_ok-text-2.ensures
