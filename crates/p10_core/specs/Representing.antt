-- Which structures stand for others (C99 6.2.7).
use Rattle.std.specs.Prelude.{ℕ, List, [], ◌∷◌, map}
use Rattle.p10_core.specs.Types.{PlainStructure}

-- the numbers of the structures that stand for structures
abbrev pub representatives : List PlainStructure → List ℕ
representatives structures = map (λ (s : PlainStructure). s.representative) structures

-- the structures, where those with these numbers stand for them, in order
abbrev pub represented : List PlainStructure → List ℕ → List PlainStructure
represented [] numbers = []
represented (s ∷ rest) [] = s ∷ rest
represented (s ∷ rest) (n ∷ numbers) = record s { representative = n } ∷ represented rest numbers
