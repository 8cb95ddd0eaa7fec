-- Each line that may be is read from its text, whatever stands after it.
use Rattle.std.proofs.Common.{◌≡◌, ℕ, Bool, true, false, List, ◌++◌, codes, Some, refl, sym, ap, ◌∙◌, arith}
use Rattle.p10_cert.specs.declared.claims.Rank.{Rank}
use Rattle.p10_cert.specs.declared.claims.Rank.TheVariants.{Up, Down, One, Task}
use Rattle.p10_cert.specs.Lines.{Line, FirstLine, FuncLine, ParamLine, ResultLine, LoopLine, VarLine, TotalLine, LastLine, SealedLine, DigestLine, OutsideLine, SectionLine, BodyLine, loop_then, line_then, IsLoopHead, IsLine}
use Rattle.p10_cert.specs.private.Reading.{after_front, param_at, result_at, func_at, loop_at, task_at, var_at, total_at, after_first, after_total, function_digest_at, outside_at, section_at, body_at, sealed_at, inner_at, outer_at, line_at}
use Rattle.p10_cert.proofs.Steps.{bind_is}
use Rattle.p10_cert.proofs.HexLaws.{digest_again}
use Rattle.p10_cert.proofs.SectionLaws.{start_again, body_again}
use Rattle.p10_cert.proofs.LineLaws.{func_then, param_again, result_again, func_again, loop_again, task_again, var_again, total_again}

-- ---- the first words of a line say which line it is

in_var : (rest : List ℕ) → inner_at (codes "var " ++ rest) ≡ var_at rest
unfolding inner_at after_front
in_var rest = refl

in_loop : (rest : List ℕ) → inner_at (codes "loop " ++ rest) ≡ loop_at rest
unfolding inner_at after_front
in_loop rest = refl

in_task : (rest : List ℕ) → inner_at (codes "task steps " ++ rest) ≡ task_at rest
unfolding inner_at after_front
in_task rest = refl

in_param : (rest : List ℕ) → inner_at (codes "param " ++ rest) ≡ param_at rest
unfolding inner_at after_front
in_param rest = refl

in_result : (rest : List ℕ) → inner_at (codes "result " ++ rest) ≡ result_at rest
unfolding inner_at after_front
in_result rest = refl

in_func : (rest : List ℕ) → line_at (codes "func " ++ rest) ≡ func_at rest
unfolding line_at inner_at outer_at after_front
in_func rest = refl

in_first : (rest : List ℕ) → line_at (codes "p10cert 1\n" ++ rest) ≡ Some (FirstLine, rest)
unfolding line_at inner_at outer_at after_first after_front
in_first rest = refl

in_total : (rest : List ℕ) → line_at (codes "total prefix " ++ rest) ≡ total_at rest
unfolding line_at inner_at outer_at after_first after_total after_front
in_total rest = refl

in_last : (rest : List ℕ) → line_at (codes "end\n" ++ rest) ≡ Some (LastLine, rest)
unfolding line_at inner_at outer_at after_first after_total after_front
in_last rest = refl

in_sealed : (rest : List ℕ) → line_at (codes "p10cert 2\n" ++ rest) ≡ Some (SealedLine, rest)
unfolding line_at inner_at outer_at after_first after_total sealed_at after_front
in_sealed rest = refl

in_digest : (rest : List ℕ) → line_at (codes "digest " ++ rest) ≡ function_digest_at rest
unfolding line_at inner_at outer_at after_first after_total sealed_at after_front
in_digest rest = refl

in_outside : (rest : List ℕ) → line_at (codes "outside " ++ rest) ≡ outside_at rest
unfolding line_at inner_at outer_at after_first after_total sealed_at after_front
in_outside rest = refl

in_section : (rest : List ℕ) → line_at (codes "section " ++ rest) ≡ section_at rest
unfolding line_at inner_at outer_at after_first after_total sealed_at after_front
in_section rest = refl

-- ---- lines

inner_line : (text : List ℕ) (r : Line × List ℕ) → inner_at text ≡ Some r → line_at text ≡ Some r
unfolding line_at
inner_line text r e = rw e refl

loop_line_again : (depth : ℕ) (rank : Rank) (turns : ℕ) (rest : List ℕ) → IsLoopHead (record { depth = depth; rank = rank; turns = turns })
    → inner_at (loop_then depth rank turns (codes "\n" ++ rest)) ≡ Some (LoopLine (record { depth = depth; rank = rank; turns = turns }), rest)
loop_line_again depth (Up var bound) turns rest fits = in_loop _ ∙ loop_again depth (Up var bound) turns rest (omega (arith, fits.depth.small)) fits.rank fits.turns.small
loop_line_again depth (Down var bound) turns rest fits = in_loop _ ∙ loop_again depth (Down var bound) turns rest (omega (arith, fits.depth.small)) fits.rank fits.turns.small
loop_line_again depth One turns rest fits = in_loop _ ∙ loop_again depth One turns rest (omega (arith, fits.depth.small)) tt fits.turns.small
loop_line_again depth Task turns rest fits =
    in_task _ ∙ task_again turns rest fits.turns.small ∙ ap (λ depth. Some (LoopLine (record { depth = depth; rank = Task; turns = turns }), rest)) (sym fits.rank)

-- whether a line is one of a section
abbrev pub is_body : Line → Bool
is_body (BodyLine bytes) = true
is_body _ = false

-- a line that may be is read from its text, where it is none of a section
pub line_again : (l : Line) (rest : List ℕ) → IsLine l → is_body l ≡ false → line_at (line_then l rest) ≡ Some (l, rest)
unfolding line_then function_digest_at outside_at section_at
line_again FirstLine rest fits plain = in_first rest
line_again (FuncLine f) rest fits plain = in_func (func_then f rest) ∙ func_again f rest fits
line_again (ParamLine v) rest fits plain = inner_line _ _ (in_param _ ∙ param_again v rest fits)
line_again (ResultLine v) rest fits plain = inner_line _ _ (in_result _ ∙ result_again v rest fits)
line_again (LoopLine l) rest fits plain = inner_line _ _ (loop_line_again l.depth l.rank l.turns rest fits)
line_again (VarLine v) rest fits plain = inner_line _ _ (in_var _ ∙ var_again v rest fits)
line_again (TotalLine b) rest fits plain = in_total _ ∙ total_again b rest fits
line_again LastLine rest fits plain = in_last rest
line_again SealedLine rest fits plain = in_sealed rest
line_again (DigestLine d) rest fits plain = in_digest _ ∙ bind_is _ (d, rest) _ _ (digest_again d rest fits) refl
line_again (OutsideLine d) rest fits plain = in_outside _ ∙ bind_is _ (d, rest) _ _ (digest_again d rest fits) refl
line_again (SectionLine s) rest fits plain = in_section _ ∙ bind_is _ (s, rest) _ _ (start_again s rest fits) refl
line_again (BodyLine b) rest fits plain = absurd cc

-- a line of a section is read from its text
pub body_line_again : (l : Line) (rest : List ℕ) → IsLine l → is_body l ≡ true → body_at (line_then l rest) ≡ Some (l, rest)
unfolding line_then body_at
body_line_again (BodyLine b) rest fits body = bind_is _ (b, rest) _ _ (body_again b rest fits) refl
body_line_again l rest fits body = absurd cc
