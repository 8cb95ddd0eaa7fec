-- The frame is that of the meaning.
use Rattle.std.proofs.Common.{◌+◌, ◌∷◌, ◌∙◌, ap, map, arith}
use Rattle.p10_core.specs.Views.{plain_variable, plain_function}
use Rattle.p10_meaning.specs.Calling.{entered}
use Rattle.p10_code.specs.Machine.{on}
use Rattle.p10_compile.specs.Views.{plain_entry}
use Rattle.p10_machine.specs.declared.machine.Spot.{Spot}
use Rattle.p10_machine.specs.Frames.{scalars_from, with_variables}
use Rattle.p10_machine.specs.Views.{plain_depth, config_of}
use Rattle.p10_machine.proofs.Entered.{call_entered}
use Rattle.p10_machine.proofs.Holding.{held_count}
use Rattle.p10_machine.proofs.calling.enter.Goals as goal

pub returns : goal.returns
returns c =
    let there : Spot = record { pc = c.args.entry.at; left = c.args.s.left } in
    λ io. ap (λ base. on (record (config_of there c.add_absent.new.self io) { base = base; depth = plain_depth c.in-Some.there })) (omega (arith, c.in-Ok.ensures, c.len.ensures, held_count c.args.m.now.targets.items c.args.m.now.slots.items, c.args.m.now.slots.ok.0)) ∙
    call_entered (plain_function c.args.f.now) (plain_entry c.args.entry) c.args.k c.args.arguments.0 c.args.arguments.1 c.place-from.result c.opened-first.result (plain_depth c.in-Some.there) (config_of c.args.s c.args.m.now io)
    (config_of there c.note_caller.new.m io) (config_of there c.hold_variables.new.m io) (config_of there c.note_block.new.m io) (config_of there c.add_absent.new.self io)
    c.in-Some.ensures c.place-from.ensures c.opened-first.ensures
    (c.in_ok-note_caller.ensures there io ∙ ap (λ w. record (config_of c.args.s c.args.m.now io) { pc = c.args.entry.at; callers = record { pc = c.args.s.pc + 1; base = c.args.m.now.base; to = c.args.k; depth = plain_depth c.args.m.now.depth } ∷ (config_of c.args.s c.args.m.now io).callers; state = w }) (c.raise.ensures c.args.s.left io))
    (c.in_ok-hold_variables.ensures there io ∙ ap (λ vs. with_variables (entered (map plain_variable vs) (scalars_from c.place-from.result c.args.arguments.1 (config_of there c.note_caller.new.m io)) (config_of there c.note_caller.new.m io).state) (config_of there c.note_caller.new.m io)) c.as_slice.ensures) (c.in_ok-note_block.ensures there io) (c.in_ok-add_absent.ensures there io)
