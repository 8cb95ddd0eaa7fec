-- What the reader of records answers, from what is found at its place.
use Rattle.std.proofs.Common.{◌≡◌, ℕ, List, [], Ok, ap, subst}
use Rattle.p10_cert.specs.declared.cursor.Cursor.{Cursor}
use Rattle.p10_cert.specs.declared.cursor.End.{End as CodeEnd}
use Rattle.p10_cert.specs.declared.cursor.Found.{Found}
use Rattle.p10_cert.specs.declared.cursor.Found.TheVariants.{Function, End}
use Rattle.p10_cert.specs.declared.record.FuncRecord.{FuncRecord}
use Rattle.p10_cert.specs.Statements.{IsStatement, statement_text}
use Rattle.p10_cert.specs.Records.{statement_from}
use Rattle.p10_cert.specs.private.Places.{IsPlace, lines_in, gather, entries_in, Place, Opens, HasFunction}
use Rattle.p10_cert.specs.private.Found.{place_of, ending_of, HasNext, Finds}
use Rattle.p10_cert.specs.private.States as next
use Rattle.p10_cert.proofs.Finding.{IsFound, is_given, func_found, end_found}

-- nothing is given at the beginning
pub none_given : (text : List ℕ) (lines : ℕ) → lines ≡ 0 → entries_in lines text ≡ []
unfolding entries_in lines_in gather
none_given text lines none = ap (λ n. (gather (lines_in n next.First text)).entries) none

-- a record that is found
pub next_function : (text : List ℕ) (from : Place) (found : Found) (r : FuncRecord) (after : Cursor) → IsPlace text from.here from.rest from.lines → Finds from (Ok found) → found ≡ Function r after
    → IsFound text (entries_in from.lines text) r.text.now r.line (place_of after)
next_function text from found r after place finds is =
    let start : Place = finds.0 in
    let opens : Opens from start = finds.1 in
    let has : HasFunction start r.text.now r.line (place_of after) = subst (HasNext start) is finds.2 in
    func_found text start (place_of after) (entries_in from.lines text) r.text.now r.line (is_given text from start place opens) has

-- the end that is found
pub next_end : (text : List ℕ) (from : Place) (found : Found) (end : CodeEnd) → IsPlace text from.here from.rest from.lines → Finds from (Ok found) → found ≡ End end
    → IsStatement (statement_from (entries_in from.lines text) (ending_of end)) × (text ≡ statement_text (statement_from (entries_in from.lines text) (ending_of end)))
next_end text from found end place finds is =
    let start : Place = finds.0 in
    let opens : Opens from start = finds.1 in
    end_found text start (entries_in from.lines text) (ending_of end) (is_given text from start place opens) (subst (HasNext start) is finds.2)
