use Rattle.std.proofs.Common.{◌≡◌, ◌++◌, drop, map}
use Rattle.p10_core.specs.Views.{plain_function, plain_program}
use Rattle.p10_cert.specs.Claims.{claims_of}
use Rattle.p10_clean.specs.Clean.{flaws_in_functions}
use Rattle.p10_clean.proofs.cleaning.push_functions.Given as goal

-- what is put and what is left are what the whole gives
abbrev pub invariant-loop-n : goal.invariant-loop-n
invariant-loop-n l =
    l.flaws.items ++ flaws_in_functions (plain_program l.p) (claims_of l.c) l.n (map plain_function (drop l.n l.functions)) ≡ l.initial.flaws.items ++ flaws_in_functions (plain_program l.p) (claims_of l.c) 0 (map plain_function l.functions)
