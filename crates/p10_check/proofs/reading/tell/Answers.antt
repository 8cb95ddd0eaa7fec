-- Each part of what is told goes on with the record.
use Rattle.std.proofs.Common.{◌∙◌, length, map, sym, ap}
use Rattle.std.proofs.lemmas.List.{length-map}
use Rattle.std.proofs.lemmas.Result.{on_ok_weaker}
use Rattle.std.specs.Prelude.{option_map}
use Rattle.p10_core.specs.Views.{plain_program}
use Rattle.p10_cert.specs.Claims.{Func, func_of, loop_of}
use Rattle.p10_check.specs.Texts.{digests_of}
use Rattle.p10_check.specs.private.Readings.{stale_of}
use Rattle.p10_check.specs.private.Keeping.{claims_kept, lines_kept}
use Rattle.p10_check.proofs.Telling.{count_told, turn_told, stale_told, misfit_told}
use Rattle.p10_check.proofs.reading.tell.Goals as goal

pub returns : goal.returns
returns c =
    let p = plain_program c.args.program.now in
    let digests = digests_of c.args.found.now in
    let before = c.args.told.now in
    let own = func_of c.in_ok-own.own in
    on_ok_weaker c.keep.result
    (λ keeps given e sealed told good exact.
    let is = c.in_ok-own.ensures e sealed good exact in
    let at = count_told given (claims_kept before.kept) (lines_kept before.kept) (length c.as_slice-number.result.now) (ap length c.as_slice-number.ensures ∙ sym (length-map before.kept.certificate.funcs func_of)) told.kept in
    record {
      kept = keeps given e told.kept is exact;
      turn = c.turn_or-told.ensures ∙ turn_told p given e _ before.turn _ at (ap (map loop_of) c.as_slice.ensures ∙ ap (λ (f : Func). f.loops) is) told.turn;
      stale = c.stale_or-told.ensures e sealed good exact ∙ stale_told digests given e _ (option_map stale_of before.stale) at told.stale;
      unfit = c.in_ok-told.ensures ∙ misfit_told p given e own _ before.unfit at is told.unfit;
    })
    c.keep.ensures
