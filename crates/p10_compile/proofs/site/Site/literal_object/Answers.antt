-- So many objects come before those of literals.
use Rattle.std.proofs.Common.{map, length, sym, ◌∙◌, ap, eqb}
use Rattle.std.proofs.lemmas.List.{length-map}
use Rattle.std.specs.List.{position_from}
use Rattle.p10_core.specs.Typed.{PlainLiteral}
use Rattle.p10_core.specs.Views.{plain_literal, plain_object}
use Rattle.p10_compile.proofs.Literals.{object_found}
use Rattle.p10_compile.proofs.site.Site.literal_object.Goals as goal

pub returns : goal.returns
returns c =
    object_found c.args.number (length c.as_slice-objects.result.now) (length (map plain_object c.args.self.now.program.now.globals)) (map plain_literal c.args.self.now.program.now.literals) c.literal_place.result c.object_after.result
    (c.literal_place.ensures ∙ ap (λ ls. position_from (λ (l : PlainLiteral). eqb l.number c.args.number) 0 (map plain_literal ls)) c.as_slice.ensures)
    (ap length c.as_slice-objects.ensures ∙ sym (length-map c.args.self.now.program.now.globals plain_object)) c.object_after.ensures
