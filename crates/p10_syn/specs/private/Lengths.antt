-- Signs by the lengths of their spellings.
use Rattle.std.specs.Prelude.{ℕ, ◌≡◌, ◌==◌, List, length}
use Rattle.std.specs.List.{filter}
use Rattle.p10_base.specs.Words.{Text}
use Rattle.p10_syn.specs.declared.sign.Sign.{Sign}
use Rattle.p10_syn.specs.Signs.{spelling, keywords, sign_among}

-- those of the signs that are written with `bytes` bytes
abbrev pub of_length : ℕ → List Sign → List Sign
of_length bytes signs = filter (λ s. length (spelling s) == bytes) signs

-- among these signs a text of `bytes` bytes is looked for as among all keywords
abbrev pub DoForLength : ℕ → List Sign → Type 0
DoForLength bytes signs = (text : Text) → length text ≡ bytes → sign_among signs text ≡ sign_among keywords text
