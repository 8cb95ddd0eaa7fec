use Rattle.std.proofs.Common.{List, true, sym, subst}
use Rattle.std.specs.Prelude.{map}
use Rattle.p10_core.specs.declared.statements.Item.{Item}
use Rattle.p10_core.specs.declared.statements.Initializer.{Initializer}
use Rattle.p10_core.specs.Types.{plain_type}
use Rattle.p10_core.specs.Views.{plain_item, plain_initializer}
use Rattle.p10_core.specs.WholePrograms.{IsWholeInitializer, ListsScalars}
use Rattle.p10_whole.specs.private.Shows.{Shows}
use Rattle.p10_whole.specs.private.Surroundings.{surroundings_in}
use Rattle.p10_whole.proofs.Showing.{shows_always}
use Rattle.p10_whole.proofs.initializers.is_whole_initializer.Goals as goal

pub returns-in-Absent : goal.returns-in-Absent
returns-in-Absent c =
    let P : Initializer → Type 0 = λ i. Shows true (IsWholeInitializer (surroundings_in c.args.around.now) (plain_type c.args.t.now) (plain_initializer i)) in
    subst P (sym c.in-Absent.is) (shows_always tt)

pub returns-in-Single : goal.returns-in-Single
returns-in-Single c =
    let P : Initializer → Type 0 = λ i. Shows c.is_single.result (IsWholeInitializer (surroundings_in c.args.around.now) (plain_type c.args.t.now) (plain_initializer i)) in
    subst P (sym c.in-Single.is) c.is_single.ensures

pub returns-in-Copied : goal.returns-in-Copied
returns-in-Copied c =
    let P : Initializer → Type 0 = λ i. Shows c.copies_structure.result (IsWholeInitializer (surroundings_in c.args.around.now) (plain_type c.args.t.now) (plain_initializer i)) in
    subst P (sym c.in-Copied.is) c.copies_structure.ensures

pub returns-in-Listed : goal.returns-in-Listed
returns-in-Listed c =
    let P : Initializer → Type 0 = λ i. Shows c.lists_scalars.result (IsWholeInitializer (surroundings_in c.args.around.now) (plain_type c.args.t.now) (plain_initializer i)) in
    let Q : List Item → Type 0 = λ items. Shows c.lists_scalars.result (ListsScalars (surroundings_in c.args.around.now) (plain_type c.args.t.now) (map plain_item items)) in
    subst P (sym c.in-Listed.is) (subst Q c.as_slice.ensures c.lists_scalars.ensures)
