-- Files by their names, and what reading one gives.
use Rattle.std.specs.Prelude.{◌≡◌, ℕ, ◌+◌, ◌≤◌, List, [], ◌∷◌, ◌++◌, length, take, bytes_eq, Option, None, Some, IfSome, IsSomeAnd, if◌then◌else◌}

-- a file as it is told: its name and its bytes
pub record Named : Type 0 where
  pub name : List ℕ
  pub bytes : List ℕ

-- the bytes of the first file of that name, if there is one
abbrev pub file_of : List ℕ → List Named → Option (List ℕ)
file_of name [] = None
file_of name (file ∷ files) = if bytes_eq file.name name then Some file.bytes else file_of name files

-- where files are told, none has the name
abbrev pub Lacks : Option (List Named) → List ℕ → Type 0
Lacks held name = IfSome held (λ files. file_of name files ≡ None)

-- where files are told, one has the name, and the buffer grew by its first `limit` bytes, or by all of them if it is shorter
abbrev pub GrowsByFile : Option (List Named) → List ℕ → ℕ → List ℕ → List ℕ → Type 0
GrowsByFile held name limit old new =
    IfSome held (λ files. IsSomeAnd (file_of name files) (λ bytes. new ≡ old ++ take limit bytes))

-- the buffer kept what it held and grew by at most `limit` bytes
pub record GrowsAtMost (limit : ℕ) (old new : List ℕ) : Type 0 where
  pub begins : take (length old) new ≡ old
  pub grows : length new ≤ length old + limit
