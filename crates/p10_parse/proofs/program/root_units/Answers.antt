use Rattle.std.proofs.Common.{◌≡◌, ◌<◌, ◌≤◌, ◌+◌, arith, length, map, rules}
use Rattle.std.proofs.lemmas.Grind.{common_steps}
use Rattle.p10_base.specs.Words.{plain_words}
use Rattle.p10_pexpr.proofs.AllWords.{not_over}
use Rattle.p10_parse.proofs.UnitSteps.{as_many, root_placed, root_unread}
use Rattle.p10_parse.proofs.program.root_units.Goals as goal

pub returns-in-Err-clause-fault : goal.returns-in-Err-clause-fault
returns-in-Err-clause-fault c = root_unread (plain_words c.args.words.now) _ (not_over c.in_ok-is_over.is_over _ c.in_ok-is_over.ensures c.if-is_over.false) c.in-Err.ensures.fault

pub place_units-requires : goal.place_units-requires
place_units-requires c = let n = as_many c.args.words.now c.in-Ok.all.items c.in-Ok.ensures.read in first_of (search (rules, n), grind (arith, common_steps, n))

pub returns-clause-found : goal.returns-clause-found
returns-clause-found c = root_placed (plain_words c.args.words.now) c.args.before c.in-Ok.all.items c.place_units.new.units.items c.in-Ok.ensures.read c.place_units.ensures.placed c.place_units.ensures.same

pub returns-clause-within : goal.returns-clause-within
returns-clause-within c = not_over c.in_ok-is_over.is_over _ c.in_ok-is_over.ensures c.if-is_over.false
