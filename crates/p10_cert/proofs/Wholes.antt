-- What was collected of a text is the whole certificate.
use Rattle.std.proofs.Common.{◌≡◌, ℕ, true, List, map, codes, Option, Some, None, Ok, refl, sym, ap, subst, ◌∙◌}
use Rattle.p10_base.specs.declared.digest.Digest.{Digest}
use Rattle.p10_cert.specs.declared.claims.FuncClaim.{FuncClaim}
use Rattle.p10_cert.specs.declared.record.FuncRecord.{FuncRecord}
use Rattle.p10_cert.specs.Claims.{func_of}
use Rattle.p10_cert.specs.Reading.{Fits, begins_with}
use Rattle.p10_cert.specs.Records.{Progress, GivesNext, statement_from}
use Rattle.p10_cert.specs.Statements.{Entry, Ending, IsStatement, statement_text}
use Rattle.p10_cert.specs.private.Whole.{IsWhole, IsWholeFirst}
use Rattle.p10_cert.proofs.Collecting.{AreRead, first_read, read_entries, version_of_text}

-- what the end of a text gives
pub record IsEnd (old new : Progress) : Type 0 where
  pub ending : Ending
  pub good : IsStatement (statement_from old.given ending)
  pub exact : old.text ≡ statement_text (statement_from old.given ending)
  pub text : new.text ≡ old.text
  pub given : new.given ≡ old.given
  pub over : new.ending ≡ Some ending

pub is_end : (old new : Progress) (next : Option FuncRecord) → GivesNext old new (Ok next) → next ≡ None → IsEnd old new
is_end old new next gives is =
    let (ending, good, exact, now) = subst (λ next. GivesNext old new (Ok next)) is gives in
    record { ending = ending; good = good; exact = exact; text = ap (λ p. p.text) now; given = ap (λ p. p.given) now; over = ap (λ p. p.ending) now }

pub whole_first : (old new : Progress) (next : Option FuncRecord) (text : List ℕ) (funcs : List FuncClaim) → GivesNext old new (Ok next) → next ≡ None → old.text ≡ text → map func_of funcs ≡ map (λ e. e.func) old.given
    → begins_with (codes "p10cert 1\n") text ≡ true → Fits text → IsWholeFirst new funcs
whole_first old new next text funcs gives is same given begun fits =
    let end = is_end old new next gives is in
    let read = first_read text old.given end.ending funcs end.ending.total begun end.good (sym same ∙ end.exact) given refl in
    record {
      ending = end.ending;
      over = end.over;
      fits = subst Fits (sym same ∙ sym end.text) fits;
      good = read.1;
      exact = end.text ∙ same ∙ read.0;
    }

pub whole_sealed : (old new : Progress) (next : Option FuncRecord) (text : List ℕ) (funcs : List FuncClaim) (digests : List Digest) → GivesNext old new (Ok next) → next ≡ None → old.text ≡ text → AreRead funcs digests old.given
    → begins_with (codes "p10cert 2\n") text ≡ true → Fits text → IsWhole new funcs digests
whole_sealed old new next text funcs digests gives is same read begun fits =
    let end = is_end old new next gives is in
    let entries = read_entries funcs digests old.given read in
    let P : List Entry → Type 0 = λ given. IsStatement (statement_from given end.ending) in
    record {
      ending = end.ending;
      over = end.over;
      fits = subst Fits (sym same ∙ sym end.text) fits;
      good = subst P (sym end.given) end.good;
      exact = end.text ∙ end.exact ∙ ap (λ given. statement_text (statement_from given end.ending)) (sym end.given);
      outside = version_of_text true text (statement_from old.given end.ending) begun (sym same ∙ end.exact);
      entries = entries.0 ∙ sym end.given;
      each = entries.1;
    }
