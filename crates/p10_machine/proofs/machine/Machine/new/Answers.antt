-- One free slot is added to a machine without any.
use Rattle.std.proofs.Common.{◌++◌, ◌∙◌, ap, refl, replicate}
use Rattle.p10_meaning.specs.Values.{absent}
use Rattle.p10_code.specs.Machine.{Config}
use Rattle.p10_machine.proofs.Begun.{emptied}
use Rattle.p10_machine.proofs.machine.Machine.new.Goals as goal

pub returns : goal.returns
returns c = λ s io.
    c.in_ok-add_absent.ensures s io ∙ ap (λ (d : Config). record d { slots = d.slots ++ replicate 1 absent })
    (emptied s io (record { slots = c.new.result; targets = c.new-2.result; base = 0; callers = c.new-3.result; opened = c.new-4.result; blocks = c.new-5.result; depth = record { calls = 0; bytes = 0 }; outside = c.args.outside })
    c.new.ensures.items c.new-2.ensures.items c.new-3.ensures.items c.new-4.ensures.items c.new-5.ensures.items refl refl)
