-- A number or a pointer.
use Rattle.std.proofs.Common.{◌∙◌, sym, ap, rules}
use Rattle.std.specs.Int.{w128}
use Rattle.std.proofs.lemmas.Int.{to_z-of_z}
use Rattle.std.proofs.lemmas.Option.{IfSome_then}
use Rattle.p10_meaning.specs.declared.pointers.Scalar.TheVariants.{Int}
use Rattle.p10_meaning.specs.Pointers.{holding}
use Rattle.p10_meaning.specs.Values.{holds}
use Rattle.p10_machine.proofs.slots.slot_for.Goals as goal

pub returns-in-Int : goal.returns-in-Int
returns-in-Int c =
    IfSome_then c.number_slot.result c.number_slot.ensures (λ slot h at. h at ∙ (ap (λ z. holds (holding (Int z))) (to_z-of_z w128 c.in-Int.z (search rules)) ∙ ap (λ x. holds (holding x)) (sym c.in-Int.is)))

pub returns-in-Pointer : goal.returns-in-Pointer
returns-in-Pointer c = IfSome_then c.null_slot.result c.null_slot.ensures (λ slot h at. h at ∙ ap (λ x. holds (holding x)) (sym c.in-Pointer.is))
