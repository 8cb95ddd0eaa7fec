use Rattle.std.proofs.Common.{◌≡◌, ◌≤◌, ◌+◌, length, map, arith}
use Rattle.p10_parse.proofs.UnitSteps.{first_root, no_root, more_trees, done_next, done_spells, done_fits, done_decides}
use Rattle.p10_parse.proofs.program.units.Goals as goal

pub returns-in-Err-clause-fault : goal.returns-in-Err-clause-fault
returns-in-Err-clause-fault c = done_decides _ _ _ _ _ _ _ (first_root _ c.root-item.result c.loop-rest.rest.now c.as_slice-words.result.now c.in-len1-up.len_at_least c.root-item.is c.as_slice-words.ensures.value) c.loop-rest.invariant c.in-Err.ensures.fault

pub loop-rest-preserved : goal.loop-rest-preserved
loop-rest-preserved c =
    done_next _ _ _ c.as_slice-words.result.now _ _ _ _ _ (first_root _ c.root-item.result c.loop-rest.rest.now c.as_slice-words.result.now c.in-len1-up.len_at_least c.root-item.is c.as_slice-words.ensures.value) c.loop-rest.invariant c.in-Ok.ensures.found c.in-Ok.ensures.within
    (more_trees _ _ _ c.in_ok-append.ensures.items) (omega (arith, c.in-Some.ensures))

pub returns-clause-found : goal.returns-clause-found
returns-clause-found c = done_spells _ _ _ _ (no_root c.loop-rest.rest.now (omega (arith, c.in_default.len_below))) c.loop-rest.invariant

pub returns-clause-within : goal.returns-clause-within
returns-clause-within c = done_fits _ _ _ _ (no_root c.loop-rest.rest.now (omega (arith, c.in_default.len_below))) c.loop-rest.invariant
