use Rattle.std.proofs.Common.{ℕ, List, drop, sym, subst}
use Rattle.p10_core.specs.declared.statements.Written.{Written}
use Rattle.p10_core.specs.Types.{plain_type}
use Rattle.p10_core.specs.Sizes.{scalars_of}
use Rattle.p10_core.specs.Views.{plain_types, plain_written}
use Rattle.p10_core.specs.WholePrograms.{IsWholeWritten, IsScalarText}
use Rattle.p10_whole.specs.private.Shows.{Shows}
use Rattle.p10_whole.specs.private.Surroundings.{surroundings_in}
use Rattle.p10_whole.proofs.items.is_whole_written.Goals as goal

pub returns-in-Scalar : goal.returns-in-Scalar
returns-in-Scalar c =
    let P : Written → Type 0 = λ w. Shows c.is_scalar_value.result (IsWholeWritten (surroundings_in c.args.around.now) (drop c.args.place (scalars_of (plain_types c.args.around.now.program.now.types) (plain_type c.args.t.now))) (plain_written w)) in
    subst P (sym c.in-Scalar.is) c.is_scalar_value.ensures

pub returns-in-Text : goal.returns-in-Text
returns-in-Text c =
    let P : Written → Type 0 = λ w. Shows c.is_scalar_text.result (IsWholeWritten (surroundings_in c.args.around.now) (drop c.args.place (scalars_of (plain_types c.args.around.now.program.now.types) (plain_type c.args.t.now))) (plain_written w)) in
    let Q : List ℕ → Type 0 = λ bytes. Shows c.is_scalar_text.result (IsScalarText (drop c.args.place (scalars_of (plain_types c.args.around.now.program.now.types) (plain_type c.args.t.now))) bytes) in
    subst P (sym c.in-Text.is) (subst Q c.as_slice.ensures c.is_scalar_text.ensures)
