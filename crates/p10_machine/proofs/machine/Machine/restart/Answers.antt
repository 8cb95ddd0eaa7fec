-- Free slots are added to a machine without any.
use Rattle.std.proofs.Common.{◌++◌, ◌∙◌, ap, refl, replicate}
use Rattle.std.proofs.lemmas.Result.{on_ok_weaker}
use Rattle.p10_meaning.specs.Values.{absent}
use Rattle.p10_code.specs.Machine.{Config}
use Rattle.p10_machine.proofs.Begun.{emptied}
use Rattle.p10_machine.proofs.machine.Machine.restart.Goals as goal

pub returns : goal.returns
returns c =
    on_ok_weaker c.add_absent.result (λ h s io. h s io ∙ ap (λ (d : Config). record d { slots = d.slots ++ replicate c.args.room absent })
    (emptied s io (record c.args.self.now { slots = c.clear.new.self; targets = c.clear-2.new.self; base = 0; callers = c.clear-3.new.self; opened = c.clear-4.new.self; blocks = c.clear-5.new.self; depth = record { calls = 0; bytes = 0 } })
    c.clear.ensures.items c.clear-2.ensures.items c.clear-3.ensures.items c.clear-4.ensures.items c.clear-5.ensures.items refl refl)) c.add_absent.ensures
