-- The lines that report a generated program.
use Rattle.std.specs.Prelude.{ℕ, ◌+◌, ℤ, List, codes}
use Rattle.p10_base.specs.declared.report.Bounds.{Bounds}
use Rattle.p10_report.specs.Lines.{depths_part, labelled, labelled_signed}
use Rattle.p10_report.specs.Stops.{◌then◌}
use Rattle.p10_gen_command.specs.declared.answer.Stage.{Stage}
use Rattle.p10_gen_command.specs.declared.answer.Stage.TheVariants.{Reading, Deriving, Verifying, Running}

-- what stands before the number of functions
unfoldable pub functions_label : List ℕ
functions_label = codes ": functions "

-- how many functions there are, which ends a line
unfoldable pub functions_part : ℕ → List ℕ
functions_part count = labelled functions_label count then codes "\n"

-- which program it is, and how many functions it has, `main` included: gen N: functions F
unfoldable pub generated_line : ℕ → List ℕ
generated_line n = labelled (codes "gen ") n then functions_part (n + 1)

-- what stands before the steps of a derived certificate
unfoldable pub derived_label : List ℕ
derived_label = codes "derived: prefix "

-- the total of the derived certificate: derived: prefix P calls C bytes B
unfoldable pub derived_line : Bounds → List ℕ
derived_line b = labelled derived_label b.prefix then depths_part b.calls b.bytes

-- the text of the certificate was verified
unfoldable pub verified_line : List ℕ
verified_line = codes "verified: accepted\n"

-- `main` has returned, in a run within the certificate: returned V
unfoldable pub value_line : ℤ → List ℕ
value_line value = labelled_signed (codes "returned ") value then codes "\n"

-- what came of the certificate
unfoldable pub used_part : ℤ → List ℕ
used_part value = verified_line then value_line value

-- the certificate, and what came of it
unfoldable pub certified_part : Bounds → ℤ → List ℕ
certified_part b value = derived_line b then used_part value

-- the program of n functions has a certificate with these bounds, and returns this value
unfoldable pub shown_text : ℕ → Bounds → ℤ → List ℕ
shown_text n b value = generated_line n then certified_part b value

-- the program fails at a stage
unfoldable pub failing_line : Stage → List ℕ
failing_line Reading = codes "p10: gen.c is no program\n"
failing_line Deriving = codes "p10: gen.c has no certificate\n"
failing_line Verifying = codes "p10: the certificate of gen.c is refused\n"
failing_line Running = codes "p10: gen.c doesn't return\n"
