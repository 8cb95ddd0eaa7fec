use Rattle.std.proofs.Common.{List, true, sym, subst}
use Rattle.p10_core.specs.declared.statements.Item.{Item}
use Rattle.p10_core.specs.declared.statements.Initializer.{Initializer}
use Rattle.p10_core.specs.Views.{plain_initializer}
use Rattle.p10_core.specs.WholePrograms.{IsStaticInitializer}
use Rattle.p10_whole.specs.private.Shows.{Shows}
use Rattle.p10_whole.proofs.Showing.{shows_always}
use Rattle.p10_whole.proofs.StaticItems.{AreStatic}
use Rattle.p10_whole.proofs.initializers.is_static_initializer.Goals as goal

pub returns-in-Absent : goal.returns-in-Absent
returns-in-Absent c =
    let P : Initializer → Type 0 = λ i. Shows true (IsStaticInitializer (plain_initializer i)) in
    subst P (sym c.in-Absent.is) (shows_always tt)

pub returns-in-Single : goal.returns-in-Single
returns-in-Single c =
    let P : Initializer → Type 0 = λ i. Shows c.is_static.result (IsStaticInitializer (plain_initializer i)) in
    subst P (sym c.in-Single.is) c.is_static.ensures

pub returns-in-Listed : goal.returns-in-Listed
returns-in-Listed c =
    let P : Initializer → Type 0 = λ i. Shows c.are_static_items.result (IsStaticInitializer (plain_initializer i)) in
    let Q : List Item → Type 0 = λ items. Shows c.are_static_items.result (AreStatic items) in
    subst P (sym c.in-Listed.is) (subst Q c.as_slice.ensures c.are_static_items.ensures)
