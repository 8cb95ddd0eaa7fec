-- Where names are defined.
use Rattle.std.specs.Prelude.{◌≡◌, true, ◌&&◌, if◌then◌else◌, List, ◌∷◌, Some, bytes_eq}
use Rattle.std.proofs.Common.{ap, ◌∙◌}
use Rattle.p10_base.specs.Words.{Text}
use Rattle.p10_heads.specs.Heads.{Outline, is_fully, is_tentative, first_outline, at_or, site_of}
use Rattle.p10_heads.specs.Laws.{NamesAreDefinedOnce}

found_first : (name : Text) (o : Outline) (rest : List Outline) → bytes_eq o.name name ≡ true → is_fully o ≡ true → site_of name (o ∷ rest) ≡ Some o.at
found_first name o rest same full =
    ap (λ b. at_or (if b && is_fully o then Some o.at else first_outline is_fully name rest) (first_outline is_tentative name (o ∷ rest))) same
    ∙ ap (λ b. at_or (if b then Some o.at else first_outline is_fully name rest) (first_outline is_tentative name (o ∷ rest))) full

pub names_are_defined_once : NamesAreDefinedOnce
names_are_defined_once = record {
  fully = λ name all at e. ap (λ found. at_or found (first_outline is_tentative name all)) e;
  tentatively = λ name all e. ap (λ found. at_or found (first_outline is_tentative name all)) e;
  first = found_first;
}
