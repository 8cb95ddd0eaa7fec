-- After all claims what is told is so of the certificate.
use Rattle.std.proofs.Common.{◌∙◌, length, sym, ap}
use Rattle.std.specs.Prelude.{option_map}
use Rattle.std.proofs.lemmas.Option.{same_Some}
use Rattle.std.proofs.lemmas.List.{length-map}
use Rattle.p10_core.specs.Views.{plain_program}
use Rattle.p10_cert.specs.Claims.{func_of}
use Rattle.p10_cert.specs.Records.{statement_from}
use Rattle.p10_cert.specs.Statements.{Entry, Ending}
use Rattle.p10_check.specs.Texts.{funcs_in}
use Rattle.p10_check.specs.private.Keeping.{claims_kept, lines_kept}
use Rattle.p10_check.proofs.Telling.{misfits_told}
use Rattle.p10_check.proofs.Keeping.{same_length}
use Rattle.p10_check.proofs.reading.finish.Goals as goal

pub returns : goal.returns
returns c =
    let given = c.args.records.now.given in
    let before = c.args.told.now in
    λ digests told. record {
      statement = statement_from given c.requires.ending;
      good = c.requires.good;
      exact = c.requires.exact;
      tells = record {
        kept = told.kept;
        turn = told.turn;
        stale = told.stale;
        unfit = c.misfit_at_end-told.ensures
            ∙ misfits_told (plain_program c.args.program.now) (funcs_in given) _ before.unfit
            (ap length c.as_slice-count.ensures ∙ sym (length-map before.kept.certificate.funcs func_of) ∙ same_length given (claims_kept before.kept) (lines_kept before.kept) told.kept ∙ sym (length-map given (λ (e : Entry). e.func))) told.unfit;
        total = same_Some _ _ (sym c.unwrap-told.ensures ∙ c.total.ensures ∙ ap (option_map (λ (e : Ending). e.total)) c.requires.over);
      };
    }
