-- Lines that were read, without where their names stand in memory.
use Rattle.p10_cert.specs.Claims.{value_of, var_of}
use Rattle.p10_cert.specs.Lines.{FuncHead, LoopHead, SectionHead, Line, FirstLine, FuncLine, ParamLine, ResultLine, LoopLine, VarLine, TotalLine, LastLine, SealedLine, DigestLine, OutsideLine, SectionLine, BodyLine}
use Rattle.p10_cert.specs.declared.line.Head.{Head}
use Rattle.p10_cert.specs.declared.line.LoopStart.{LoopStart}
use Rattle.p10_cert.specs.declared.line.SectionStart.{SectionStart}
use Rattle.p10_cert.specs.declared.line.Row.{Row}
use Rattle.p10_cert.specs.declared.line.Row.TheVariants.{First, Func, Param, Result, Loop, Var, Total, Last, Sealed, Digest, Outside, Section, Body}
use Rattle.p10_cert.specs.Sealed.{bytes_of}

abbrev pub plain_head : Head → FuncHead
plain_head f = record { name = f.name.now; rank = f.rank; steps = f.steps; calls = f.calls; bytes = f.bytes; alloc = f.alloc }

abbrev pub plain_start : LoopStart → LoopHead
plain_start l = record { depth = l.depth; rank = l.rank; turns = l.turns }

abbrev pub plain_section : SectionStart → SectionHead
plain_section s = record { name = s.name.now; count = s.count }

-- the line that was read
abbrev pub plain_line : Row → Line
plain_line First = FirstLine
plain_line (Func f) = FuncLine (plain_head f)
plain_line (Param v) = ParamLine (value_of v)
plain_line (Result v) = ResultLine (value_of v)
plain_line (Loop l) = LoopLine (plain_start l)
plain_line (Var v) = VarLine (var_of v)
plain_line (Total b) = TotalLine b
plain_line Last = LastLine
plain_line Sealed = SealedLine
plain_line (Digest d) = DigestLine (bytes_of d)
plain_line (Outside d) = OutsideLine (bytes_of d)
plain_line (Section s) = SectionLine (plain_section s)
plain_line (Body bytes) = BodyLine bytes.now
