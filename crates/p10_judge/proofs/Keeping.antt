-- What is read of a certificate, function by function.
use Rattle.std.proofs.Common.{◌≡◌, ℕ, ◌++◌, Bool, List, [], ◌∷◌, map, Option, Some, Result, Ok, Err, sym, ap, subst, ◌∙◌}
use Rattle.std.specs.Prelude.{OnOk, option_map}
use Rattle.std.proofs.lemmas.Option.{same_Some}
use Rattle.p10_base.specs.declared.digest.Digest.{Digest}
use Rattle.p10_base.specs.declared.report.Bounds.{Bounds}
use Rattle.p10_cert.specs.declared.claims.FuncClaim.{FuncClaim}
use Rattle.p10_cert.specs.Records.{Progress, statement_from}
use Rattle.p10_cert.specs.Statements.{Ending, Entry, IsEntry, entry_text}
use Rattle.p10_cert.proofs.Collecting.{map-append}
use Rattle.p10_diff_evidence.specs.declared.evidence.DiffEvidence.{DiffEvidence}
use Rattle.p10_diff_evidence.specs.Reading.{ranks_in}
use Rattle.p10_diff_evidence.specs.Standing.{diff_lines, AreRanks}
use Rattle.p10_judge.specs.declared.reading.Text.TheVariants.{Whole}
use Rattle.p10_judge.specs.Kept.{kept_of, IsReadFrom, IsWhole}
use Rattle.p10_judge.specs.Ranks.{SayRanks}

-- what holds anyway holds where there is no error
pub always : {T E : Type 0} (r : Result T E) (P : Type 0) → P → OnOk r P
always (Ok x) P p = p
always (Err e) P p = tt

pub pushed_kept : {T E : Type 0} (r : Result T E) (text : List ℕ) (old new : List (Option Digest)) (d : Option Digest) → OnOk r (new ≡ old ++ d ∷ []) → ((e : Entry) (sealed : Bool) → IsEntry sealed e → text ≡ entry_text e → kept_of d ≡ e.digest)
    → OnOk r ((e : Entry) (sealed : Bool) → IsEntry sealed e → text ≡ entry_text e → map kept_of new ≡ map kept_of old ++ e.digest ∷ [])
pushed_kept (Ok x) text old new d pushed told = λ e sealed good exact. ap (map kept_of) pushed ∙ map-append kept_of old d ∙ ap (λ k. map kept_of old ++ k ∷ []) (told e sealed good exact)
pushed_kept (Err x) text old new d pushed told = tt

pub whole_read : (p : Progress) (funcs : List FuncClaim) (kept : List (Option Digest)) (given : Option Bounds) (total : Bounds) (evidence : Option DiffEvidence) → (w : IsWhole p funcs kept) → given ≡ option_map (λ e. e.total) p.ending → given ≡ Some total
    → AreRanks (diff_lines (statement_from p.given w.ending)) (option_map ranks_in evidence) → IsReadFrom p.text (Whole (record { funcs = funcs; total = total }) kept evidence)
whole_read p funcs kept given total evidence w told some are =
    let bounds : total ≡ w.ending.total = same_Some total w.ending.total (sym some ∙ told ∙ ap (λ (e : Option Ending). option_map (λ (x : Ending). x.total) e) w.over) in
    record {
      statement = statement_from p.given w.ending;
      good = w.good;
      exact = w.exact;
      claims_are = λ i. record { funcs = w.claims i; total = bounds i };
      kept_are = w.kept_are;
      ranks_are = are;
    }

-- the same by the ranks that are found in the text
pub whole_said : (p : Progress) (funcs : List FuncClaim) (kept : List (Option Digest)) (given : Option Bounds) (total : Bounds) (evidence : Option DiffEvidence) (bytes : List ℕ) → p.text ≡ bytes → (w : IsWhole p funcs kept) → given ≡ option_map (λ e. e.total) p.ending → given ≡ Some total
    → SayRanks bytes (option_map ranks_in evidence) → IsReadFrom bytes (Whole (record { funcs = funcs; total = total }) kept evidence)
whole_said p funcs kept given total evidence bytes same w told some say =
    subst (λ t. IsReadFrom t (Whole (record { funcs = funcs; total = total }) kept evidence)) same (
    whole_read p funcs kept given total evidence w told some (say (statement_from p.given w.ending) w.good (sym same ∙ w.exact)))
