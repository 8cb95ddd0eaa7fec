-- What holds of where names are defined.
use Rattle.std.specs.Prelude.{◌≡◌, List, ◌∷◌, Some, None, bytes_eq, true}
use Rattle.p10_base.specs.Words.{Text}
use Rattle.p10_base.specs.declared.at.At.{At}
use Rattle.p10_heads.specs.Heads.{Outline, is_fully, is_tentative, first_outline, site_of}

-- a name is defined at its first declaration with a body or an initialiser; where it has none, at the first tentative one; and nowhere
-- where it has neither (C99 6.9.2)
pub record NamesAreDefinedOnce : Type 0 where
  pub fully : (name : Text) (all : List Outline) (at : At) → first_outline is_fully name all ≡ Some at → site_of name all ≡ Some at
  pub tentatively : (name : Text) (all : List Outline) → first_outline is_fully name all ≡ None → site_of name all ≡ first_outline is_tentative name all
  pub first : (name : Text) (o : Outline) (rest : List Outline) → bytes_eq o.name name ≡ true → is_fully o ≡ true → site_of name (o ∷ rest) ≡ Some o.at
