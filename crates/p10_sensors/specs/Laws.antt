-- What holds of texts of values.
use Rattle.std.specs.Prelude.{◌≡◌, ℕ, List, ℤ, pos, neg_ℤ, [], ◌∷◌, codes}
use Rattle.p10_sensors.specs.Texts.{values_text, IsTextOf, IsFirstOther}

-- a text is that of one list of values at most
abbrev pub TextsTellValues : Type 0
TextsTellValues = (text : List ℕ) (some others : List ℤ) → IsTextOf text some → IsTextOf text others → some ≡ others

-- a text with a line of another form has one first such line, and is no text of values
abbrev pub OneFirstOther : Type 0
OneFirstOther = (text : List ℕ) (line other : ℕ) → IsFirstOther text line → IsFirstOther text other → line ≡ other

abbrev pub OtherIsNoText : Type 0
OtherIsNoText = (text : List ℕ) (line : ℕ) (values : List ℤ) → IsFirstOther text line → IsTextOf text values → ⊥

-- the text of some values, written out
abbrev pub SmallText : Type 0
SmallText = values_text (pos 300 ∷ neg_ℤ (pos 7) ∷ pos 0 ∷ []) ≡ codes "300\n-7\n0\n"
