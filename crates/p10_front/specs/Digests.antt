-- The digests of the words that files are read as.
use Rattle.std.specs.Prelude.{ℕ, List, [], map, Option, Some, None}
use Rattle.p10_base.specs.declared.at.At.{At}
use Rattle.p10_base.specs.declared.digest.Digests.{Digests}
use Rattle.p10_syn.specs.Trees.{External}
use Rattle.p10_digests.specs.Digests.{function_digests, outside_digest}
use Rattle.p10_front.specs.Readings.{PlainReading}

-- the digests of a program's words, as bytes: of each function, in program order, and of all words outside their bodies
pub record PlainDigests : Type 0 where
  pub funcs : List (List ℕ)
  pub outside : List ℕ

-- what the code gives, as bytes
abbrev pub plain_digests : Digests → PlainDigests
plain_digests found = record { funcs = map (λ d. d.0) found.funcs; outside = found.outside.0 }

-- the trees of a reading; there are none of words that are refused
abbrev pub trees_in : Option (List (External At)) → List (External At)
trees_in None = []
trees_in (Some trees) = trees

-- the digests of the words of a reading
abbrev pub reading_digests : PlainReading → PlainDigests
reading_digests reading = record {
  funcs = function_digests reading.expansion.roots (trees_in reading.units);
  outside = outside_digest reading.expansion.roots (trees_in reading.units);
}
