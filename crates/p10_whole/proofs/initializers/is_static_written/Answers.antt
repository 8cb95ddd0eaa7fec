use Rattle.std.proofs.Common.{true, sym, subst}
use Rattle.p10_core.specs.declared.statements.Written.{Written}
use Rattle.p10_core.specs.Views.{plain_written}
use Rattle.p10_core.specs.WholePrograms.{IsStaticWritten}
use Rattle.p10_whole.specs.private.Shows.{Shows}
use Rattle.p10_whole.proofs.Showing.{shows_always}
use Rattle.p10_whole.proofs.initializers.is_static_written.Goals as goal

pub returns-in-Scalar : goal.returns-in-Scalar
returns-in-Scalar c =
    let P : Written → Type 0 = λ w. Shows c.is_static.result (IsStaticWritten (plain_written w)) in
    subst P (sym c.in-Scalar.is) c.is_static.ensures

pub returns-in-Text : goal.returns-in-Text
returns-in-Text c =
    let P : Written → Type 0 = λ w. Shows true (IsStaticWritten (plain_written w)) in
    subst P (sym c.in-Text.is) (shows_always tt)
