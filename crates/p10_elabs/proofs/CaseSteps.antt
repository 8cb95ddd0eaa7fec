-- Labels of a `switch`, one after the other.
use Rattle.std.specs.Prelude.{◌≡◌, ℕ, ℤ, Option, Some, None, refl}
use Rattle.std.proofs.Common.{◌∙◌, ap}
use Rattle.p10_base.specs.declared.at.At.{At}
use Rattle.p10_syn.specs.Trees.{Expression}
use Rattle.p10_core.specs.Typed.{PlainValue}
use Rattle.p10_elabx.specs.First.{only_first}
use Rattle.p10_elabs.specs.Locals.{Local, Done}
use Rattle.p10_elabs.specs.Statements.{Block', Labelled, Switched, case_noted, case_done}
use Rattle.p10_elabs.specs.private.Cases.{case_number}
use Rattle.p10_elabs.proofs.StatementParts.{as_done}

-- what the body has before the number of the `case` doesn't count
noted_alike : (at : At) (n : ℕ) (k : Labelled) (m l : Local) (z : Option ℤ) → case_noted only_first at n (record k { after = m }) z l ≡ case_noted only_first at n k z l
noted_alike at n k m l None = refl
noted_alike at n k m l (Some z) = refl

pub case_made : (at : At) (n : ℕ) (v : Option PlainValue) (k0 k : Labelled) (l : Local) (z : Option ℤ) (e : Expression At) →
    as_done z l ≡ case_number only_first v k0.after e → k ≡ case_noted only_first at n (record k0 { after = l }) z l → k ≡ case_done only_first at n v k0 e
case_made at n v k0 k l z e number is =
    is ∙ noted_alike at n k0 l l z ∙ ap (λ (d : Done ℤ). case_noted only_first at n k0 d.made d.after) number

-- items with their labels
abbrev pub with_both : Block' → Labelled → Switched
with_both b k = record { items = b; labels = k }

pub switched_is : (b0 b : Block') (k0 k : Labelled) → b0 ≡ b → k0 ≡ k → with_both b0 k0 ≡ with_both b k
switched_is b0 b k0 k items labels = ap (λ x. with_both x k0) items ∙ ap (with_both b) labels
