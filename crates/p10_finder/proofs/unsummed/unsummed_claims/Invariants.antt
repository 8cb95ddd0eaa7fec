-- The claims so far.
use Rattle.std.proofs.Common.{◌≡◌, ℕ, ◌<◌, length, map, Some}
use Rattle.std.specs.Prelude.{slice_get}
use Rattle.std.specs.List.{slice_index}
use Rattle.p10_core.specs.Typed.{PlainFunction}
use Rattle.p10_core.specs.Views.{plain_function, plain_program}
use Rattle.p10_cert.specs.Claims.{func_of, claims_of}
use Rattle.p10_finder.specs.private.Counting.{unsummed}
use Rattle.p10_approach.specs.Offers.{offers_if}
use Rattle.p10_finder.proofs.unsummed.unsummed_claims.Given as goal

abbrev pub invariant-loop-n : goal.invariant-loop-n
invariant-loop-n l = record {
  each : length l.funcs.items ≡ l.n;
  claims : (k : ℕ) (f : PlainFunction) → k < l.n → slice_get (map plain_function l.functions) k ≡ Some f →
      slice_get (map func_of l.funcs.items) k ≡ Some (unsummed (offers_if l.approaching) (plain_program l.program) (claims_of l.results) k (slice_index l.ranks k) f);
}
