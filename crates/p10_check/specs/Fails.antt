-- What the failing conditions of the code are.
use Rattle.std.specs.Prelude.{List, map}
use Rattle.p10_pass.specs.declared.left.Fail.{Fail}
use Rattle.p10_pass.specs.Passing.{Failing}
use Rattle.p10_pass.specs.Leaving.{failing_of}

-- failing conditions of the code
abbrev pub failures_of : List Fail → List Failing
failures_of fails = map failing_of fails
