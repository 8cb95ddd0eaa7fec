-- The first `main` is the first of those that weren't looked at yet.
use Rattle.std.proofs.Common.{◌≡◌, map, drop}
use Rattle.std.specs.List.{position_from}
use Rattle.p10_core.specs.Typed.{PlainFunction}
use Rattle.p10_core.specs.Views.{plain_function}
use Rattle.p10_linkage.specs.Linkage.{is_main_name}
use Rattle.p10_elab.proofs.settling.main_among.Given as goal

abbrev pub invariant-loop-place : goal.invariant-loop-place
invariant-loop-place l =
    position_from (λ (f : PlainFunction). is_main_name f.name) 0 (map plain_function l.functions)
    ≡ position_from (λ (f : PlainFunction). is_main_name f.name) l.place (map plain_function (drop l.place l.functions))
