-- Claims that are kept of a text: without loops, and of each function the lines that claim.
use Rattle.std.specs.Prelude.{◌≡◌, ℕ, List, map, slice_set}
use Rattle.p10_cert.specs.declared.record.FuncRecord.{FuncRecord}
use Rattle.p10_cert.specs.Claims.{Func, Claims, func_of}
use Rattle.p10_cert.specs.Statements.{Entry, entry_text}
use Rattle.p10_loopless.specs.Loopless.{all_without_loops}
use Rattle.p10_check.specs.declared.kept.Kept.{Kept}
use Rattle.p10_check.specs.Texts.{funcs_in}

-- the claims that are kept
abbrev pub claims_kept : Kept → List Func
claims_kept k = map func_of k.certificate.funcs

-- the lines of a function
abbrev pub lines_of : FuncRecord → List ℕ
lines_of r = r.text.now

-- the lines of each function
abbrev pub lines_kept : Kept → List (List ℕ)
lines_kept k = map lines_of k.lines

-- these claims and lines are kept of what a text says of functions
pub record AreKept (entries : List Entry) (claims : List Func) (lines : List (List ℕ)) : Type 0 where
  pub loopless : claims ≡ all_without_loops (funcs_in entries)
  pub told : lines ≡ map entry_text entries

-- claims in which this one stands for the function with a number
abbrev pub claims_with : Claims → ℕ → Func → Claims
claims_with c number claim = record { funcs = slice_set c.funcs number claim; total = c.total }
