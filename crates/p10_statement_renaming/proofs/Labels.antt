-- Labels of a `switch` are the same in both bodies.
use Rattle.std.proofs.Common.{◌≡◌, ℕ, ℤ, Bool, true, false, List, Option, Some, None, Ok, Err, refl}
use Rattle.std.specs.Prelude.{if◌then◌else◌}
use Rattle.p10_base.specs.declared.at.At.{At}
use Rattle.p10_base.specs.declared.codes.SubsetCode.TheVariants as subset
use Rattle.p10_int.specs.Conversion.{converted as converted_to}
use Rattle.p10_syn.specs.Trees.{Expression, Statement, Case, Default}
use Rattle.p10_core.specs.declared.statements.Label.{Label as CaseLabel}
use Rattle.p10_core.specs.Typed.{PlainValue}
use Rattle.p10_elabx.specs.First.{Keep, Ruled}
use Rattle.p10_elabd.specs.Expressions.{value_by, constant_number}
use Rattle.p10_elabs.specs.Locals.{Local, Done, done_in, refusing_in}
use Rattle.p10_elabs.specs.Statements.{Labelled, is_labelled, label_added, case_noted, number_for, case_value, case_done, default_done, labels_noted}
use Rattle.p10_renaming.specs.Renaming.{Pairing, SameValue}
use Rattle.p10_expression_renaming.specs.Mapped.{mapped_expression}
use Rattle.p10_expression_renaming.specs.MappedStatements.{mapped_statement}
use Rattle.p10_expression_renaming.specs.Knowing.{Ruling, IsOneToOne}
use Rattle.p10_expression_renaming.proofs.Finding.{ruled_both}
use Rattle.p10_expression_renaming.proofs.Types.{integer_of_same}
use Rattle.p10_expression_renaming.proofs.Values.{type_same}
use Rattle.p10_expression_renaming.proofs.TypeNames.{left, right}
use Rattle.p10_declaration_renaming.specs.Standings.{Both}
use Rattle.p10_declaration_renaming.proofs.Expressions.{constant_number_both}
use Rattle.p10_statement_renaming.proofs.Values.{value_by_both}
use Rattle.p10_statement_renaming.proofs.Quiet.{Quiet, so, stands, refused_here, refused_there, unquiet}

-- the same labels
abbrev pub SameLabels : Labelled → Labelled → Type 0
SameLabels k j = (k.cases ≡ j.cases) × (k.otherwise ≡ j.otherwise)

abbrev pub Labels : Pairing → ℕ → Type 0 → Labelled → Labelled → Type 0
Labels R last B k j = Quiet R last (B × SameLabels k j) k.after j.after

-- ## Constants

abbrev Equal : ℤ → ℤ → Type 0
Equal x y = x ≡ y

-- numbers are equal where what is switched on is the same
abbrev Numbered : Pairing → Option PlainValue → Option PlainValue → ℤ → ℤ → Type 0
Numbered R o q x y = Both (SameValue R) o q → x ≡ y

number_both : (R : Pairing) (o q : Option PlainValue) (f g : Ruled ℤ) → Ruling Equal f g → Ruling (Numbered R o q) (number_for o f) (number_for q g)
number_both R (Some v) (Some w) f g a = ruled_both Equal (Numbered R (Some v) (Some w)) f g _ _ a (λ x y e same. λ i. converted_to (integer_of_same R (type_same R same) i) (e i))
number_both R None None (Ok x) (Ok y) a = λ same. a
number_both R None None (Ok x) (Err None) a = absurd a
number_both R None None (Ok x) (Err (Some r)) a = tt
number_both R None None (Err None) (Ok y) a = absurd a
number_both R None None (Err None) (Err r) a = tt
number_both R None None (Err (Some r)) g a = tt
number_both R None (Some w) (Ok x) (Ok y) a = λ same. absurd same
number_both R None (Some w) (Ok x) (Err None) a = absurd a
number_both R None (Some w) (Ok x) (Err (Some r)) a = tt
number_both R None (Some w) (Err None) (Ok y) a = absurd a
number_both R None (Some w) (Err None) (Err r) a = tt
number_both R None (Some w) (Err (Some r)) g a = tt
number_both R (Some v) None (Ok x) (Ok y) a = λ same. absurd same
number_both R (Some v) None (Ok x) (Err None) a = absurd a
number_both R (Some v) None (Ok x) (Err (Some r)) a = tt
number_both R (Some v) None (Err None) (Ok y) a = absurd a
number_both R (Some v) None (Err None) (Err r) a = tt
number_both R (Some v) None (Err (Some r)) g a = tt

-- a label more, unless one of them has its value
case_where : {B : Type 0} (R : Pairing) (last : ℕ) (h : Keep) (at to : At) (n : ℕ) (k j : Labelled) (z y : ℤ) (l i : Local) (b c : Bool) → Quiet R last ((B × SameLabels k j) × (z ≡ y)) l i
    → Labels R last B (if b then record k { cases = None; after = refusing_in h true subset.BadJump at l } else record k { cases = label_added k.cases z n; after = l })
    (if c then record j { cases = None; after = refusing_in h true subset.BadJump to i } else record j { cases = label_added j.cases y n; after = i })
case_where R last h at to n k j z y l i false false a = so R last l i (λ x. (x.0.0, ((λ e. label_added (x.0.1.0 e) (x.1 e) n), x.0.1.1))) a
case_where R last h at to n k j z y l i false true a = λ quiet. refused_there last h subset.BadJump to l.standing i quiet
case_where R last h at to n k j z y l i true c a = λ quiet. absurd (unquiet h l.standing.problems (record { code = subset.BadJump; at = at }) quiet.left)

-- where a label is refused on one side alone, that is told
label_alone : {B C : Type 0} (R : Pairing) (last : ℕ) (h : Keep) (at : At) (n : ℕ) (k : Labelled) (z : ℤ) (l i : Local) (b : Bool) → Quiet R last (B × ⊥) l i
    → Quiet R last C (if b then record k { cases = None; after = refusing_in h true subset.BadJump at l } else record k { cases = label_added k.cases z n; after = l }).after i
label_alone R last h at n k z l i true a = λ quiet. refused_here last h subset.BadJump at l i.standing quiet
label_alone R last h at n k z l i false a = λ quiet. absurd (a quiet).0.1

alone_there : {B C : Type 0} (R : Pairing) (last : ℕ) (h : Keep) (to : At) (n : ℕ) (j : Labelled) (y : ℤ) (l i : Local) (c : Bool) → Quiet R last (B × ⊥) l i
    → Quiet R last C l (if c then record j { cases = None; after = refusing_in h true subset.BadJump to i } else record j { cases = label_added j.cases y n; after = i }).after
alone_there R last h to n j y l i true a = λ quiet. refused_there last h subset.BadJump to l.standing i quiet
alone_there R last h to n j y l i false a = λ quiet. absurd (a quiet).0.1

noted_both : {B : Type 0} (R : Pairing) (last : ℕ) (h : Keep) (at to : At) (n : ℕ) (k j : Labelled) (m p : Option ℤ) (l i : Local) → Quiet R last ((B × SameLabels k j) × Both Equal m p) l i
    → Labels R last B (case_noted h at n k m l) (case_noted h to n j p i)
noted_both R last h at to n k j None None l i a = so R last l i (λ x. (x.0.0, (refl, x.0.1.1))) a
noted_both R last h at to n k j (Some z) (Some y) l i a = case_where R last h at to n k j z y l i (is_labelled z k.cases) (is_labelled y j.cases) a
noted_both R last h at to n k j (Some z) None l i a = label_alone R last h at n k z l i (is_labelled z k.cases) a
noted_both R last h at to n k j None (Some y) l i a = alone_there R last h to n j y l i (is_labelled y j.cases) a

-- numbers that are equal, where it is known what is switched on
equal_both : (R : Pairing) (o q : Option PlainValue) → Both (SameValue R) o q → (m p : Option ℤ) → Both (Numbered R o q) m p → Both Equal m p
equal_both R o q same None None a = tt
equal_both R o q same (Some x) (Some y) a = a same
equal_both R o q same None (Some y) a = absurd a
equal_both R o q same (Some x) None a = absurd a

case_both : {B : Type 0} (R : Pairing) → IsOneToOne R → (last : ℕ) (h : Keep) (at to : At) (n : ℕ) (o q : Option PlainValue) → (B → Both (SameValue R) o q) → (k j : Labelled) → Labels R last B k j → (e : Expression (At × At))
    → Labels R last B (case_done h at n o k (mapped_expression left e)) (case_done h to n q j (mapped_expression right e))
case_both R one last h at to n o q see k j a e =
    let d : Done ℤ = done_in k.after (value_by h k.after.standing (mapped_expression left e) (case_value o)) in
    let g : Done ℤ = done_in j.after (value_by h j.after.standing (mapped_expression right e) (case_value q)) in
    noted_both R last h at to n k j d.made g.made d.after g.after
    (so R last d.after g.after (λ x. (x.0, equal_both R o q (see x.0.0) d.made g.made x.1))
    (stands R last k.after j.after d.after.standing g.after.standing a
    (value_by_both R one last h (Numbered R o q) k.after.standing j.after.standing e (case_value o) (case_value q) (λ v w same. number_both R o q (constant_number v) (constant_number w) (constant_number_both R v w same)))))

-- ## `default`

default_with : {B : Type 0} (R : Pairing) (last : ℕ) (h : Keep) (at to : At) (n : ℕ) (cases others : Option (List CaseLabel)) (o q : Option ℕ) (l i : Local) → Quiet R last (B × ((cases ≡ others) × (o ≡ q))) l i
    → Labels R last B (default_done h at n (record { cases = cases; otherwise = o; after = l })) (default_done h to n (record { cases = others; otherwise = q; after = i }))
default_with R last h at to n cases others None None l i a = so R last l i (λ x. (x.0, (x.1.0, refl))) a
default_with R last h at to n cases others None (Some m) l i a = λ quiet. refused_there last h subset.BadJump to l.standing i quiet
default_with R last h at to n cases others (Some m) q l i a = λ quiet. absurd (unquiet h l.standing.problems (record { code = subset.BadJump; at = at }) quiet.left)

-- ## All labels of an item

pub labels_both : {B : Type 0} (R : Pairing) → IsOneToOne R → (last : ℕ) (h : Keep) (n : ℕ) (o q : Option PlainValue) → (B → Both (SameValue R) o q) → (k j : Labelled) → Labels R last B k j → (s : Statement (At × At))
    → Labels R last B (labels_noted h n o k (mapped_statement left s)) (labels_noted h n q j (mapped_statement right s))
labels_both R one last h n o q see k j a (Case at e s) =
    labels_both R one last h n o q see (case_done h at.0 n o k (mapped_expression left e)) (case_done h at.1 n q j (mapped_expression right e)) (case_both R one last h at.0 at.1 n o q see k j a e) s
labels_both R one last h n o q see k j a (Default at s) =
    labels_both R one last h n o q see (default_done h at.0 n k) (default_done h at.1 n j) (default_with R last h at.0 at.1 n k.cases j.cases k.otherwise j.otherwise k.after j.after a) s
labels_both R one last h n o q see k j a s = a
