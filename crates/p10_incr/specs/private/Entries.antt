-- What certificates of version 2 say of one function, as the code has it.
use Rattle.std.specs.Prelude.{ℕ, List, Option, Some, None}
use Rattle.p10_base.specs.declared.digest.Digest.{Digest}
use Rattle.p10_cert.specs.declared.claims.FuncClaim.{FuncClaim}
use Rattle.p10_cert.specs.declared.sealed.Section.{Section}
use Rattle.p10_cert.specs.Sealed.{bytes_of, entry_of}
use Rattle.p10_cert.specs.Statements.{Entry}
use Rattle.p10_check.specs.Texts.{StaleAt}
use Rattle.p10_incr.specs.declared.edit.Edit.{Edit as CodeEdit}
use Rattle.p10_incr.specs.declared.edit.Entry.{Entry as CodeEntry}
use Rattle.p10_incr.specs.declared.stale.Stale.{Stale}
use Rattle.p10_incr.specs.Edits.{Edit, edit_of}

-- a claim with its digest, where both are there
abbrev pub entry_at : Option FuncClaim → Option Digest → Option Entry
entry_at (Some f) (Some d) = Some (entry_of f d)
entry_at f d = None

-- what the code found
abbrev pub stale_of : Stale → StaleAt
stale_of s = record { number = s.number; kept = bytes_of s.kept; found = bytes_of s.found }

-- the lines of a section that may be lacking
abbrev pub lines_in : Option Section → Option (List (List ℕ))
lines_in None = None
lines_in (Some s) = Some s.lines

-- what the code says of one function
abbrev pub known_entry : CodeEntry → Entry
known_entry e = entry_of e.func.now e.digest.now

-- the code's edit
abbrev pub known_edit : CodeEdit → Edit
known_edit e = edit_of e.found.now e.old.now e.new.now
