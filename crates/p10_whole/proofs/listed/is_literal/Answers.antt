use Rattle.std.proofs.Common.{List, subst}
use Rattle.std.specs.Prelude.{Contains, map}
use Rattle.p10_core.specs.declared.program.Literal.{Literal}
use Rattle.p10_core.specs.Types.{plain_type}
use Rattle.p10_core.specs.Views.{plain_literal}
use Rattle.p10_whole.specs.private.Shows.{Shows}
use Rattle.p10_whole.proofs.Listing.{literal_shown, small_bytes}
use Rattle.p10_whole.proofs.listed.is_literal.Goals as goal

pub returns : goal.returns
returns c =
    let P : List Literal → Type 0 = λ all. Shows c.is_listed.result (Contains (map plain_literal all) (record { number = c.args.number; bytes = c.args.bytes.now })) in
    literal_shown c.args.around.now c.args.number c.args.bytes.now (plain_type c.args.t.now) c.is_char_array.result c.is_listed.result (small_bytes c.args.bytes.now c.type_inv.bytes) c.is_char_array.ensures
    (subst P c.as_slice.ensures c.is_listed.ensures)
