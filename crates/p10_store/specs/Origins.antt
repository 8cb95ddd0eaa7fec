-- Where an object comes from, and the cells that it begins with.
use Rattle.std.specs.Prelude.{◌≡◌, ℕ, List, length, map, replicate, pos}
use Rattle.p10_int.specs.declared.types.IntType.TheVariants.{Char}
use Rattle.p10_int.specs.Conversion.{converted}
use Rattle.p10_meaning.specs.declared.pointers.Scalar.TheVariants.{Int}
use Rattle.p10_meaning.specs.declared.pointers.Cell.{Cell}
use Rattle.p10_meaning.specs.Pointers.{unset, holding}
use Rattle.p10_meaning.specs.Objects.{Origin as Source, declared, allocated, literal}
use Rattle.p10_store.specs.declared.shape.Origin.{Origin}
use Rattle.p10_store.specs.declared.shape.Origin.TheVariants.{Declared, Allocated, Literal, DeclaredWith, AllocatedWith}

-- what an origin is in the meaning
abbrev pub origin_of : Origin → Source
origin_of Declared = declared
origin_of Allocated = allocated
origin_of (Literal bytes) = literal
origin_of (DeclaredWith cells) = declared
origin_of (AllocatedWith cells) = allocated

-- a byte of a string literal as a value of `char` (C99 6.4.5p5)
abbrev pub character : ℕ → Cell
character byte = holding (Int (converted Char (pos byte)))

-- the cells that an object of n scalars begins with: a string literal has its bytes, others are unset where no cells are given (C99 6.7.8p10)
abbrev pub first_cells : Origin → ℕ → List Cell
first_cells Declared n = replicate n unset
first_cells Allocated n = replicate n unset
first_cells (Literal bytes) n = map character bytes.now
first_cells (DeclaredWith cells) n = cells.now
first_cells (AllocatedWith cells) n = cells.now

-- a string literal has as many scalars as bytes, and another object as many as cells, where these are given
abbrev pub Fills : Origin → ℕ → Type 0
Fills Declared n = Unit {0}
Fills Allocated n = Unit {0}
Fills (Literal bytes) n = length bytes.now ≡ n
Fills (DeclaredWith cells) n = length cells.now ≡ n
Fills (AllocatedWith cells) n = length cells.now ≡ n
