-- What follows for the words of a file: they are slices of it, in order.
use Rattle.std.specs.Prelude.{ℕ, ◌≡◌, ◌<◌, ◌≤◌, List, [], ◌∷◌, length, slice_range}
use Rattle.p10_lex.specs.declared.fault.LexFault.{LexFault}
use Rattle.p10_lex.specs.declared.fault.LexFault.TheVariants.{Refused, Over, Memory}
use Rattle.p10_base.specs.Words.{PlainWord}

-- the word is the slice of a file's bytes at its span
pub record IsSlice (file : ℕ) (bytes : List ℕ) (word : PlainWord) : Type 0 where
  pub of_file : word.at.file ≡ file
  pub some : word.at.start < word.at.end
  pub within : word.at.end ≤ length bytes
  pub slice : word.text ≡ slice_range bytes word.at.start word.at.end

-- The words are slices of a file's bytes, each after the one before it, and the first not before `place`.
abbrev pub AreSlices : ℕ → List ℕ → ℕ → List PlainWord → Type 0
AreSlices file bytes place [] = Unit {0}
AreSlices file bytes place (word ∷ words) = (place ≤ word.at.start) × IsSlice file bytes word × AreSlices file bytes word.at.end words

-- A refusal has its place in the file.
abbrev pub IsPlaced : ℕ → List ℕ → LexFault → Type 0
IsPlaced file bytes (Refused refusal) = (refusal.span.file ≡ file) × (refusal.span.start < length bytes)
IsPlaced file bytes (Over limit) = Unit {0}
IsPlaced file bytes Memory = Unit {0}
