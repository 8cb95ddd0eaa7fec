-- Each form is what the code calls it.
use Rattle.std.proofs.Common.{◌∙◌, sym, ap, subst, refl, map, option_map, Some, IfSome}
use Rattle.std.specs.Int.{w128}
use Rattle.std.proofs.lemmas.Int.{to_z-of_z}
use Rattle.p10_core.specs.declared.typed.Place.{Place}
use Rattle.p10_core.specs.declared.typed.Value.{Value}
use Rattle.p10_core.specs.Types.{plain_type}
use Rattle.p10_core.specs.Typed.{read, decay, convert, cast, logic, index, dereference}
use Rattle.p10_core.specs.Views.{plain_form, plain_value, plain_place, plain_place_form}
use Rattle.p10_meaning.specs.declared.pointers.Scalar.TheVariants.{Int}
use Rattle.p10_meaning.specs.Objects.{shift}
use Rattle.p10_interp.specs.private.Standing.{held_of}
use Rattle.p10_interp.specs.private.AtOnce.{IsFound, IsElement, read_at_place}
use Rattle.p10_interp.proofs.AtOnce.{by_form, by_place, read_by, read_settled, read_by_place, taken_settled, paid}
use Rattle.p10_interp.proofs.Starts.{index_found, element_read, element_behind}
use Rattle.p10_interp.proofs.values_at_once.+at_once.Goals as goal

pub number_at_once-returns-in-Read : goal.number_at_once-returns-in-Read
number_at_once-returns-in-Read t c = λ s e.
    by_form s (map held_of c.args.around.now.held.now) c.args.value.now.at (plain_type c.args.value.now.ty) _ _ _ _ _ _ _ (ap plain_form c.in-Read.is ∙ ap (λ (q : Place). read (plain_place q)) (sym c.deref.ensures)) (ap Int (to_z-of_z w128 c.read_number.result (record { sfits = c.read_number.type_inv }))) (c.read_number.ensures c.args.value.now.at s e)

pub number_by_form-returns-in-Convert : goal.number_by_form-returns-in-Convert
number_by_form-returns-in-Convert t c = λ s e.
    by_form s (map held_of c.args.around.now.held.now) c.args.value.now.at (plain_type c.args.value.now.ty) _ _ _ _ _ _ _ (ap plain_form c.in-Convert.is ∙ ap (λ (v : Value). convert (plain_value v)) (sym c.deref.ensures)) (ap Int (to_z-of_z w128 c.converted_at_once.result (record { sfits = c.converted_at_once.type_inv }))) (c.converted_at_once.ensures c.args.value.now.at s e)

pub number_by_form-returns-in-Cast : goal.number_by_form-returns-in-Cast
number_by_form-returns-in-Cast t c = λ s e.
    by_form s (map held_of c.args.around.now.held.now) c.args.value.now.at (plain_type c.args.value.now.ty) _ _ _ _ _ _ _ (ap plain_form c.in-Cast.is ∙ ap (λ (v : Value). cast (plain_value v)) (sym c.deref-in-Cast.ensures)) (ap Int (to_z-of_z w128 c.cast_at_once.result (record { sfits = c.cast_at_once.type_inv }))) (c.cast_at_once.ensures c.args.value.now.at s e)

pub number_by_form-returns-in-Logic : goal.number_by_form-returns-in-Logic
number_by_form-returns-in-Logic t c = λ s e.
    by_form s (map held_of c.args.around.now.held.now) c.args.value.now.at (plain_type c.args.value.now.ty) _ _ _ _ _ _ _ (ap plain_form c.in-Logic.is ∙ (ap (λ (a : Value). logic c.in-Logic.op (plain_value a) (plain_value c.in-Logic.b.value)) (sym c.deref-in-Logic.ensures) ∙
    ap (λ (b : Value). logic c.in-Logic.op (plain_value c.deref-in-Logic.result.now) (plain_value b)) (sym c.deref-in-Logic-2.ensures))) (ap Int (to_z-of_z w128 c.logic_at_once.result (record { sfits = c.logic_at_once.type_inv }))) (c.logic_at_once.ensures c.args.value.now.at s e)

pub place_at_once-returns-in-Index : goal.place_at_once-returns-in-Index
place_at_once-returns-in-Index t c = λ s e.
    by_place s (map held_of c.args.around.now.held.now) c.args.place.now.at (plain_type c.args.place.now.ty) _ _ _ _ _ _ (ap plain_place_form c.in-Index.is ∙ (ap (λ (a : Value). index (plain_value a) (plain_value c.in-Index.index.value)) (sym c.deref.ensures) ∙
    ap (λ (b : Value). index (plain_value c.deref.result.now) (plain_value b)) (sym c.deref-in-Index.ensures))) (c.index_at_once.ensures (plain_type c.args.place.now.ty) c.args.place.now.at s e)

pub place_at_once-returns-in-Deref : goal.place_at_once-returns-in-Deref
place_at_once-returns-in-Deref t c = λ s e.
    by_place s (map held_of c.args.around.now.held.now) c.args.place.now.at (plain_type c.args.place.now.ty) _ _ _ _ _ _ (ap plain_place_form c.in-Deref.is ∙ ap (λ (v : Value). dereference (plain_value v)) (sym c.deref-in-Deref.ensures)) (c.dereference_at_once.ensures (plain_type c.args.place.now.ty) c.args.place.now.at s e)

pub pointer_at_once-returns-in-Read : goal.pointer_at_once-returns-in-Read
pointer_at_once-returns-in-Read t c = λ s e.
    by_form s (map held_of c.args.around.now.held.now) c.args.value.now.at (plain_type c.args.value.now.ty) _ _ _ _ _ _ _ (ap plain_form c.in-Read.is ∙ ap (λ (q : Place). read (plain_place q)) (sym c.deref.ensures)) refl (c.read_pointer.ensures c.args.value.now.at s e)

pub pointer_at_once-returns-in-Decay : goal.pointer_at_once-returns-in-Decay
pointer_at_once-returns-in-Decay t c = λ s e.
    by_form s (map held_of c.args.around.now.held.now) c.args.value.now.at (plain_type c.args.value.now.ty) _ _ _ _ _ _ _ (ap plain_form c.in-Decay.is ∙ ap (λ (q : Place). decay (plain_place q)) (sym c.deref-in-Decay.ensures)) refl (c.decay_at_once.ensures (plain_type c.args.value.now.ty) c.args.value.now.at s e)

pub read_number-returns-in-Some : goal.read_number-returns-in-Some
read_number-returns-in-Some t c = λ at s e.
    read_by s (map held_of c.args.around.now.held.now) at (plain_type c.args.t.now) (plain_place c.args.place.now) _ _ c.pays.new.left c.pays.new.left _ _ _ (Some c.in-Some.cell.now) (ap Int (to_z-of_z w128 c.number_in.result (record { sfits = c.number_in.type_inv }))) (sym c.is_structure.ensures ∙ c.if-is_structure.false) (paid _ _ _ c.pays.ensures c.if-not-pays.false)
    (λ y h. c.in-Some.ensures (plain_type c.args.t.now) y c.pays.new.left h s e) c.number_in.ensures

pub read_number-returns-in-None : goal.read_number-returns-in-None
read_number-returns-in-None t c = λ at s e.
    read_settled s (map held_of c.args.around.now.held.now) at (plain_type c.args.t.now) (plain_place c.args.place.now) _ _ c.pays.new.left _ _ _ (ap Int (to_z-of_z w128 c.number_in_object.result (record { sfits = c.number_in_object.type_inv }))) (sym c.is_structure.ensures ∙ c.if-is_structure.false) (paid _ _ _ c.pays.ensures c.if-not-pays.false)
    (c.number_in_object.ensures (plain_type c.args.t.now) s e)

pub read_pointer-returns : goal.read_pointer-returns
read_pointer-returns t c = λ at s e.
    read_by s (map held_of c.args.around.now.held.now) at (plain_type c.args.t.now) (plain_place c.args.place.now) _ _ c.pays.new.left c.cell_at_once-cell.new.left _ _ _ (option_map (λ x. x.now) c.cell_at_once-cell.result) refl (sym c.is_structure.ensures ∙ c.if-is_structure.false) (paid _ _ _ c.pays.ensures c.if-not-pays.false)
    (λ y h. c.cell_at_once-cell.ensures (plain_type c.args.t.now) y h s e) c.pointer_in.ensures

pub index_at_once-returns-in-Some : goal.index_at_once-returns-in-Some
index_at_once-returns-in-Some t c = λ type. c.index_from.ensures (plain_value c.args.array.now) type c.in-Some.ensures

pub index_from-returns : goal.index_from-returns
index_from-returns t c = λ array type starts at s e.
    index_found s (map held_of c.args.around.now.held.now) at type array (plain_value c.args.number.now) c.args.around.now.store.now.objects c.args.left.now c.pays.new.left c.pays-2.new.left c.number_at_once-by.new.left c.moved_by.new.left c.args.start c.moved_by.result c.number_at_once-by.result
    (paid _ _ _ c.pays.ensures c.if-not-pays.false) (paid _ _ _ c.pays-2.ensures c.if-not-pays-2.false) (λ w object live. starts s e w object live) (c.number_at_once-by.ensures s e)
    (subst (λ z. IsFound (shift c.args.around.now.store.now.objects c.args.start z) c.number_at_once-by.new.left c.moved_by.result c.moved_by.new.left) (to_z-of_z w128 c.number_at_once-by.result (record { sfits = c.number_at_once-by.type_inv })) c.moved_by.ensures)

pub number_from-returns : goal.number_from-returns
number_from-returns t c = λ array at own type starts s e.
    element_read s (map held_of c.args.around.now.held.now) at own type array (plain_value c.args.number.now) c.args.around.now.store.now.objects c.args.left.now c.pays.new.left c.pays-2.new.left c.number_at_once-by.new.left _ c.args.start c.number_at_once-by.result _ _ (option_map (λ x. x.now) c.cell_from-cell.result)
    (ap Int (to_z-of_z w128 c.number_in.result (record { sfits = c.number_in.type_inv }))) (paid _ _ _ c.pays.ensures c.if-not-pays.false) (paid _ _ _ c.pays-2.ensures c.if-not-pays-2.false) (λ w object live. starts s e w object live) (c.number_at_once-by.ensures s e)
    (element_behind (λ x. x.now) c.args.around.now.store.now.objects c.args.start c.number_at_once-by.result c.cell_from-cell.result (subst (λ z. IfSome c.cell_from-cell.result (λ x. IsElement c.args.around.now.store.now.objects c.args.start z x.now)) (to_z-of_z w128 c.number_at_once-by.result (record { sfits = c.number_at_once-by.type_inv })) c.cell_from-cell.ensures))
    c.number_in.ensures

pub number_by_pointer-returns : goal.number_by_pointer-returns
number_by_pointer-returns t c = λ type s e.
    taken_settled (read_at_place (plain_place c.args.place.now) type s (map held_of c.args.around.now.held.now)) _ _ c.element_at_once-cell.new.left _ _ _ (option_map (λ x. x.now) c.element_at_once-cell.result) (ap Int (to_z-of_z w128 c.number_in.result (record { sfits = c.number_in.type_inv })))
    (λ y h. c.element_at_once-cell.ensures type y h s e) c.number_in.ensures

pub number_in_object-returns-in-Some : goal.number_in_object-returns-in-Some
number_in_object-returns-in-Some t c = λ type s e.
    read_by_place s (map held_of c.args.around.now.held.now) c.args.place.now.at (plain_type c.args.place.now.ty) type _ _ _ _ _ _ _ (ap plain_place_form c.in-Index.is ∙ (ap (λ (a : Value). index (plain_value a) (plain_value c.in-Index.number.value)) (sym c.deref.ensures) ∙ ap (λ (b : Value). index (plain_value c.deref.result.now) (plain_value b)) (sym c.deref-in-Some.ensures))) (ap Int (to_z-of_z w128 c.number_from.result (record { sfits = c.number_from.type_inv })))
    (c.number_from.ensures (plain_value c.deref.result.now) c.args.place.now.at (plain_type c.args.place.now.ty) type c.in-Some.ensures s e)
