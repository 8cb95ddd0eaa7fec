-- Marks that are lent as a slice.
use Rattle.std.proofs.Common.{◌≡◌, ℕ, Bool, List, ap, ◌∙◌}
use Rattle.p10_pass.specs.Marks.{is_marked, AreMarks}

pub marks_shown : (test : ℕ → Bool) (count : ℕ) (marks shown : List Bool) → shown ≡ marks → AreMarks test count marks → AreMarks test count shown
marks_shown test count marks shown same m = record { each = λ n l. ap (λ bs. is_marked bs n) same ∙ m.each n l }
