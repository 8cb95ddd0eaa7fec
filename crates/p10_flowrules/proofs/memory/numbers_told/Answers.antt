use Rattle.std.proofs.Common.{◌∙◌, ap, map, subst, sym}
use Rattle.std.specs.List.{list_any}
use Rattle.std.proofs.lemmas.Result.{IfOk-weaker}
use Rattle.p10_core.specs.Views.{plain_function, plain_program}
use Rattle.p10_flowrules.specs.private.MemoryGraphs.{TellsMemory, has_memory}
use Rattle.p10_flowrules.proofs.LateCalls.{tells_memory, tells_none}
use Rattle.p10_flowrules.proofs.memory.numbers_told.Goals as goal

pub returns-then-some : goal.returns-then-some
returns-then-some c = IfOk-weaker c.memory_numbers.result _ _ (λ numbers is. tells_memory (plain_program c.args.program.now) numbers.items is) c.memory_numbers.ensures

pub returns : goal.returns
returns c =
    subst (TellsMemory (plain_program c.args.program.now)) (sym c.new.ensures.items)
    (tells_none (plain_program c.args.program.now) (ap (λ functions. list_any has_memory (map plain_function functions)) (sym c.as_slice.ensures) ∙ sym c.in_ok-some.ensures ∙ c.if-some.false))
