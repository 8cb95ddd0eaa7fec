-- Each turn holds the next variable.
use Rattle.std.proofs.Common.{◌+◌, sym, ◌∙◌, ap, map, take, get_or, slice_get, refl, arith}
use Rattle.std.proofs.lemmas.List.{take_all}
use Rattle.p10_core.specs.Views.{plain_variable}
use Rattle.p10_meaning.specs.Values.{absent}
use Rattle.p10_code.specs.Machine.{gathered}
use Rattle.p10_machine.specs.Frames.{scalars_from}
use Rattle.p10_machine.specs.Slots.{held_in}
use Rattle.p10_machine.specs.Views.{config_of}
use Rattle.p10_machine.proofs.Entered.{holds_first, variable_held, variables_held, first_slots}
use Rattle.p10_machine.proofs.Holding.{held_count}
use Rattle.p10_machine.proofs.calling.hold_variables.Goals as goal

pub loop-i-init : goal.loop-i-init
loop-i-init c = record {
  first = λ s io. take_all c.len-end.result (held_in c.args.m.now.targets.items c.args.m.now.slots.items) (omega (arith, c.len-end.ensures, held_count c.args.m.now.targets.items c.args.m.now.slots.items, c.args.m.now.slots.ok.0));
  held = λ s io. holds_first (map plain_variable c.args.variables.now) (scalars_from c.args.arguments.0 c.args.arguments.1 (config_of s c.args.m.now io)) (config_of s c.args.m.now io);
}

pub loop-i-preserved : goal.loop-i-preserved
loop-i-preserved c = record {
  first = λ s io.
      first_slots c.index-variables-i.result.frame c.argument-x.result c.len-end.result (config_of s c.args.m.now io) (config_of s c.loop-i.m io) (config_of s c.hold_next.new.m io)
      (omega (arith, c.len-end.ensures, held_count c.args.m.now.targets.items c.args.m.now.slots.items, c.args.m.now.slots.ok.0)) (c.loop-i.invariant.first s io) (c.in_ok-hold_next.ensures s io);
  held = λ s io.
      variable_held c.args.variables.now c.index-variables-i.result (scalars_from c.args.arguments.0 c.args.arguments.1 (config_of s c.args.m.now io)) c.loop-i.i (c.loop-i.i + 1) c.argument-x.result (config_of s c.args.m.now io) (config_of s c.loop-i.m io) (config_of s c.hold_next.new.m io)
      c.loop-i-test.true c.index-variables-i.is refl
      (sym (c.argument-x.ensures ∙ ap (λ hs. slice_get (gathered c.args.arguments.0 c.args.arguments.1 (λ k. get_or hs k absent)) c.loop-i.i) (c.loop-i.invariant.first s io)))
      (c.in_ok-hold_next.ensures s io) (c.loop-i.invariant.held s io);
}

pub returns : goal.returns
returns c = λ s io.
    variables_held c.args.variables.now (scalars_from c.args.arguments.0 c.args.arguments.1 (config_of s c.args.m.now io)) c.loop-i.i (config_of s c.args.m.now io) (config_of s c.loop-i.m io) (omega (arith, c.loop-i-test.false)) (c.loop-i.invariant.held s io)
