-- The youngest object ends.
use Rattle.std.proofs.Common.{◌≡◌, ◌+◌, ◌-◌, ◌∙◌, sym, ap, refl, arith}
use Rattle.std.specs.Prelude.{reverse}
use Rattle.p10_meaning.specs.Objects.{find}
use Rattle.p10_machine.specs.Blocks.{without_youngest}
use Rattle.p10_machine.specs.Views.{config_of}
use Rattle.p10_machine.proofs.Closing.{empty_list, ends_counted, youngest_ended, all_ended, enough_ended}
use Rattle.p10_machine.proofs.machine.Machine.end_youngest.Goals as goal

pub loop-i-init : goal.loop-i-init
loop-i-init c = λ s io.
    let e : c.args.count - 0 ≡ c.args.count = omega arith in
    ap (λ n. without_youngest n (reverse c.args.self.now.blocks.items) (reverse c.args.self.now.opened.items) (config_of s c.args.self.now io)) e

pub loop-i-preserved : goal.loop-i-preserved
loop-i-preserved c = λ s io.
    youngest_ended c.loop-i.i (c.loop-i.i + 1) c.args.count c.in-Some.object (reverse c.loop-i.self.blocks.items) c.pop.new.self.items c.loop-i.self.opened.items c.end.new.self.objects c.end.new.self.opened (config_of s c.loop-i.self io) _ c.loop-i-test.true refl c.in-Some.ensures.items c.end.ensures.objects
    (ends_counted c.in-Some.object (find c.in-Some.object c.loop-i.self.outside.store.objects) c.loop-i.self.outside.store c.end.new.self c.end.ensures.effect) (c.loop-i.invariant s io)

pub returns-in-None : goal.returns-in-None
returns-in-None c = λ s io.
    all_ended (c.args.count - c.loop-i.i) (reverse c.loop-i.self.blocks.items) c.pop.new.self.items (config_of s (record c.loop-i.self { opened = c.pop.new.self }) io) _ (empty_list c.pop.new.self.items (omega (arith, c.in-None.ensures.cases.1, c.pop.new.self.ok.0))) refl
    (ap (λ os. without_youngest (c.args.count - c.loop-i.i) (reverse c.loop-i.self.blocks.items) (reverse os) (config_of s c.loop-i.self io)) (empty_list c.pop.new.self.items (omega (arith, c.in-None.ensures.cases.1, c.pop.new.self.ok.0)) ∙ sym (empty_list c.loop-i.self.opened.items (omega (arith, c.in-None.ensures.cases.0, c.loop-i.self.opened.ok.0)))) ∙ c.loop-i.invariant s io)

pub returns : goal.returns
returns c = λ s io. enough_ended c.loop-i.i c.args.count (reverse c.loop-i.self.blocks.items) c.loop-i.self.opened.items (config_of s c.loop-i.self io) _ (omega (arith, c.loop-i-test.false)) refl (c.loop-i.invariant s io)
