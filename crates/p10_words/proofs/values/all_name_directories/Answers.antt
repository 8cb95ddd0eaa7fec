use Rattle.std.proofs.Common.{rules}
use Rattle.p10_words.proofs.Cutting.{all_but_first, fewer, last_name, split_none, split_some}
use Rattle.p10_words.proofs.values.all_name_directories.Goals as goal

pub loop-name-smaller : goal.loop-name-smaller
loop-name-smaller c = fewer c.loop-name.rest.now c.in-Some.name.now c.in-Some.others.now (split_some c.loop-name.rest.now c.split_once.result c.in-Some.name c.in-Some.others c.split_once.ensures.cases c.in-Some.is)

pub loop-name-preserved : goal.loop-name-preserved
loop-name-preserved c = record {
  text = search rules;
  all = all_but_first c.args.value.now c.loop-name.rest.now c.in-Some.name.now c.in-Some.others.now c.names_file.result c.loop-name.invariant.all (split_some c.loop-name.rest.now c.split_once.result c.in-Some.name c.in-Some.others c.split_once.ensures.cases c.in-Some.is) c.names_file.ensures c.if-not-names_file.false;
}

pub returns : goal.returns
returns c = last_name c.args.value.now c.loop-name.rest.now c.names_file-2.result c.loop-name.invariant.all (split_none c.loop-name.rest.now c.split_once.result c.split_once.ensures.cases c.in_default.is) c.names_file-2.ensures
