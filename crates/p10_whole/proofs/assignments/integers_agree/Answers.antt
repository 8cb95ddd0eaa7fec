use Rattle.std.proofs.Common.{◌≡◌, false, ap, subst, inl, inr}
use Rattle.p10_core.specs.Types.{integer, plain_type}
use Rattle.p10_core.specs.Rows.{binary_row}
use Rattle.p10_whole.specs.private.Shows.{Shows}
use Rattle.p10_whole.proofs.Updating.{usual_agrees, shift_agrees}
use Rattle.p10_whole.proofs.assignments.integers_agree.Goals as goal

pub returns-in-Add : goal.returns-in-Add
returns-in-Add c = λ ss mark. elim c.in-Add.is [ inl e ↦ usual_agrees ss _ mark _ _ _ _ (ap (λ op. binary_row ss op false false (integer false c.args.left) (integer false c.args.right)) e) c.are_usual.ensures | inr e ↦ usual_agrees ss _ mark _ _ _ _ (ap (λ op. binary_row ss op false false (integer false c.args.left) (integer false c.args.right)) e) c.are_usual.ensures ]

pub returns-in-Mul : goal.returns-in-Mul
returns-in-Mul c = λ ss mark. elim c.in-Mul.is [ inl e ↦ usual_agrees ss _ mark _ _ _ _ (ap (λ op. binary_row ss op false false (integer false c.args.left) (integer false c.args.right)) e) c.are_usual-in-Mul.ensures | inr e ↦ usual_agrees ss _ mark _ _ _ _ (ap (λ op. binary_row ss op false false (integer false c.args.left) (integer false c.args.right)) e) c.are_usual-in-Mul.ensures ]

pub returns-in-Rem : goal.returns-in-Rem
returns-in-Rem c = λ ss mark. elim c.in-Rem.is [ inl e ↦ usual_agrees ss _ mark _ _ _ _ (ap (λ op. binary_row ss op false false (integer false c.args.left) (integer false c.args.right)) e) c.are_usual-in-Rem.ensures | inr e ↦ usual_agrees ss _ mark _ _ _ _ (ap (λ op. binary_row ss op false false (integer false c.args.left) (integer false c.args.right)) e) c.are_usual-in-Rem.ensures ]

pub returns-in-And : goal.returns-in-And
returns-in-And c = λ ss mark. elim c.in-And.is [ inl e ↦ usual_agrees ss _ mark _ _ _ _ (ap (λ op. binary_row ss op false false (integer false c.args.left) (integer false c.args.right)) e) c.are_usual-in-And.ensures | inr e ↦ usual_agrees ss _ mark _ _ _ _ (ap (λ op. binary_row ss op false false (integer false c.args.left) (integer false c.args.right)) e) c.are_usual-in-And.ensures ]

pub returns-in-Shl : goal.returns-in-Shl
returns-in-Shl c = λ ss mark.
    let left = subst (λ i. Shows c.is_integer_of.result (plain_type c.args.t.now ≡ integer false i)) c.promote.ensures c.is_integer_of.ensures in
    let right = subst (λ i. Shows c.is_kind.result (c.args.right ≡ i)) c.promote-in-Shl.ensures c.is_kind.ensures in
    elim c.in-Shl.is [ inl e ↦ shift_agrees ss _ mark _ _ _ _ _ (ap (λ op. binary_row ss op false false (integer false c.args.left) (integer false c.args.right)) e) left right | inr e ↦ shift_agrees ss _ mark _ _ _ _ _ (ap (λ op. binary_row ss op false false (integer false c.args.left) (integer false c.args.right)) e) left right ]
