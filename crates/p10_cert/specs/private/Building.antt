-- How what is claimed of a function, and its digest, are built from its lines, one after the other.
use Rattle.std.specs.Prelude.{ℕ, false, List, [], ◌∷◌, ◌++◌, Option, Some, None}
use Rattle.std.specs.Option.{option_map}
use Rattle.p10_cert.specs.Claims.{Value, Nothing, Var, Loop, Func}
use Rattle.p10_cert.specs.Lines.{FuncHead, LoopHead, Line, FuncLine, ParamLine, ResultLine, LoopLine, VarLine, DigestLine}

-- what was read of a function: the loop that was read last is kept apart, since variables may still come
pub record Part : Type 0 where
  pub head : FuncHead
  pub digest : Option (List ℕ)
  pub params : List Value
  pub result : Value
  pub loops : List Loop
  pub last : Option Loop

-- a loop of which no variables were read
abbrev pub bare_loop : LoopHead → Loop
bare_loop h = record { depth = h.depth; rank = h.rank; turns = h.turns; vars = [] }

-- a loop with one variable more
abbrev pub with_var : Var → Loop → Loop
with_var v l = record l { vars = l.vars ++ v ∷ [] }

-- the loops so far
abbrev pub closed : List Loop → Option Loop → List Loop
closed loops None = loops
closed loops (Some l) = loops ++ l ∷ []

-- one line more
abbrev pub build : Part → Line → Part
build p (FuncLine h) = record p { head = h }
build p (DigestLine d) = record p { digest = Some d }
build p (ParamLine v) = record p { params = p.params ++ v ∷ [] }
build p (ResultLine v) = record p { result = v }
build p (LoopLine h) = record p { loops = closed p.loops p.last; last = Some (bare_loop h) }
build p (VarLine v) = record p { last = option_map (with_var v) p.last }
build p _ = p

-- lines more
abbrev pub build_all : Part → List Line → Part
build_all p [] = p
build_all p (line ∷ lines) = build_all (build p line) lines

-- the function of a part
abbrev pub finish : Part → Func
finish p = record {
  name = p.head.name;
  rank = p.head.rank;
  steps = p.head.steps;
  calls = p.head.calls;
  bytes = p.head.bytes;
  alloc = p.head.alloc;
  params = p.params;
  result = p.result;
  loops = closed p.loops p.last;
}

-- before the first line
abbrev pub no_part : Part
no_part = record {
  head = record { name = []; rank = 0; steps = 0; calls = 0; bytes = 0; alloc = false };
  digest = None;
  params = [];
  result = Nothing;
  loops = [];
  last = None;
}
