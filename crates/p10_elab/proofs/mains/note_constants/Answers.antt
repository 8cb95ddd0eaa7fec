use Rattle.std.proofs.Common.{◌++◌, ◌∙◌, ap, map}
use Rattle.p10_syn.specs.Built.{identifier_of}
use Rattle.p10_elab.specs.Outer.{main_constants}
use Rattle.p10_elab.proofs.mains.note_constants.Goals as goal

pub returns : goal.returns
returns c =
    c.in_ok-note_mains.ensures
    ∙ ap (λ names. c.args.mains.now.items ++ main_constants names) (ap (map identifier_of) c.deref.ensures.value ∙ c.in_ok-names.ensures)
