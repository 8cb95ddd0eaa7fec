-- A store with the objects of static lifetime and the string literals of a program.
use Rattle.std.specs.Prelude.{◌≡◌, ℕ, ◌+◌, List, [], ◌++◌, length, is_none}
use Rattle.p10_core.specs.Typed.{PlainObject, PlainProgram}
use Rattle.p10_meaning.specs.declared.pointers.Cell.{Cell}
use Rattle.p10_meaning.specs.States.{State}
use Rattle.p10_meaning.specs.Opening.{static_objects, literal_objects}
use Rattle.p10_store.specs.Stores.{Held}
use Rattle.p10_interp.specs.private.Machines.{Around}

-- a store has the objects of static lifetime, with these cells, and the string literals
pub record HasStatics (p : PlainProgram) (cells : PlainObject → List Cell) (s : Held) : Type 0 where
  pub objects : s.objects ≡ static_objects cells 0 p.objects ++ literal_objects (length p.objects) p.literals
  pub opened : s.opened ≡ length p.objects + length p.literals

-- a state with these objects, in which nothing was executed
abbrev pub starting : PlainProgram → Held → List ℕ → ℕ → Around → State
starting p s denied left io = record {
  objects = s.objects;
  opened = s.opened;
  input = io.rest;
  sensors = [];
  denied = denied;
  requests = 0;
  output = io.out;
  left = left;
  calls = 0;
  bytes = 0;
  marked = is_none p.mark;
  after_mark = 0;
}
