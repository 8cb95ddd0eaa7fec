-- The parts of the text of a certificate of version 2.
use Rattle.std.proofs.Common.{◌≡◌, ℕ, zero, suc, ◌+◌, ◌<◌, ◌≤◌, List, [], ◌∷◌, ◌++◌, map, length, take, drop, get_or, codes, decimal, refl, sym, ap, ◌∙◌, arith, append_assoc, append-nil}
use Rattle.std.proofs.lemmas.List.{take_all}
use Rattle.std.specs.List.{flat_map}
use Rattle.p10_base.specs.declared.digest.Digest.{Digest}
use Rattle.p10_cert.specs.declared.claims.FuncClaim.{FuncClaim}
use Rattle.p10_cert.specs.declared.sealed.Cert2.{Cert2}
use Rattle.p10_cert.specs.declared.sealed.Section.{Section as CodeSection}
use Rattle.p10_cert.specs.Claims.{func_of, loop_of, value_of}
use Rattle.p10_cert.specs.Lines.{SectionHead, Line, ParamLine, ResultLine, FuncLine, TotalLine, LastLine, SealedLine, DigestLine, OutsideLine, SectionLine, BodyLine, line_then, text_of}
use Rattle.p10_cert.specs.Certificate.{loop_lines, func_head}
use Rattle.p10_cert.specs.Sealed.{bytes_of, section_of, entry_of, entries_of, statement_of}
use Rattle.p10_cert.specs.Statements.{Entry, inner_lines, entry_lines, entry_text, section_head, section_lines, ending_lines, statement_text}
use Rattle.p10_cert.specs.private.Pieces.{digest_text}
use Rattle.p10_cert.proofs.LineTexts.{text_of-append}
use Rattle.p10_cert.proofs.PieceTexts.{head_text, params_part, result_text, loops_part, params_text, loops_text}

-- ---- lines

digest_line : (d : List ℕ) → text_of (DigestLine d ∷ []) ≡ digest_text (codes "digest ") d
unfolding text_of line_then
digest_line d = refl

outside_line : (d : List ℕ) → text_of (OutsideLine d ∷ []) ≡ digest_text (codes "outside ") d
unfolding text_of line_then
outside_line d = refl

sealed_line : (lines : List Line) → text_of (SealedLine ∷ lines) ≡ codes "p10cert 2\n" ++ text_of lines
unfolding text_of line_then
sealed_line lines = refl

last_line : text_of (LastLine ∷ []) ≡ codes "end\n"
unfolding text_of line_then
last_line = refl

pub section_is : (h : SectionHead) → codes "section " ++ (h.name ++ (codes " " ++ (decimal h.count ++ codes "\n"))) ≡ text_of (SectionLine h ∷ [])
unfolding text_of line_then
section_is h = refl

-- the lines that are counted
pub counted : (name : List ℕ) (xs ys : List (List ℕ)) → xs ≡ ys → codes "section " ++ (name ++ (codes " " ++ (decimal (length xs) ++ codes "\n"))) ≡ codes "section " ++ (name ++ (codes " " ++ (decimal (length ys) ++ codes "\n")))
counted name xs ys e = ap (λ ls. codes "section " ++ (name ++ (codes " " ++ (decimal (length ls) ++ codes "\n")))) e

pub body_is : (b : List ℕ) → text_of (BodyLine b ∷ []) ≡ b ++ codes "\n"
unfolding text_of line_then
body_is b = refl

no_lines : [] ≡ text_of []
unfolding text_of
no_lines = refl

-- ---- functions

pub inner_parts : (f : FuncClaim) → text_of (inner_lines (func_of f)) ≡ params_part f ++ (result_text f ++ loops_part f)
inner_parts f =
    let params : List Line = map ParamLine (map value_of f.params) in
    let loops : List Line = flat_map loop_lines (map loop_of f.loops) in
    text_of-append params (ResultLine (value_of f.result) ∷ loops)
    ∙ ap (λ t. text_of params ++ t) (text_of-append (ResultLine (value_of f.result) ∷ []) loops)
    ∙ ap (λ t. t ++ (result_text f ++ text_of loops)) (sym (params_text f.params))
    ∙ ap (λ t. params_part f ++ (result_text f ++ t)) (sym (loops_text f.loops))

pub entry_parts : (f : FuncClaim) (d : Digest) → entry_text (entry_of f d) ≡ head_text f ++ (digest_text (codes "digest ") (bytes_of d) ++ text_of (inner_lines (func_of f)))
unfolding entry_text
entry_parts f d =
    let inner : List Line = inner_lines (func_of f) in
    text_of-append (FuncLine (func_head (func_of f)) ∷ []) (DigestLine (bytes_of d) ∷ inner)
    ∙ ap (λ t. head_text f ++ t) (text_of-append (DigestLine (bytes_of d) ∷ []) inner ∙ ap (λ t. t ++ text_of inner) (digest_line (bytes_of d)))

entries_text : (entries : List Entry) → flat_map entry_text entries ≡ text_of (flat_map entry_lines entries)
unfolding entry_text
entries_text [] = no_lines
entries_text (e ∷ entries) = ap (λ t. text_of (entry_lines e) ++ t) (entries_text entries) ∙ sym (text_of-append (entry_lines e) (flat_map entry_lines entries))

pub entries_size : (funcs : List FuncClaim) (digests : List Digest) → length digests ≡ length funcs → length (entries_of funcs digests) ≡ length funcs
entries_size [] digests each = refl
entries_size (x ∷ funcs) [] each = absurd (omega (arith, each))
entries_size (x ∷ funcs) (y ∷ digests) each = omega (arith, entries_size funcs digests (omega (arith, each)))

-- the texts of functions before one, its own and those after it
pub entries_at : (funcs : List FuncClaim) (digests : List Digest) (i : ℕ) (f : FuncClaim) (d : Digest) → length digests ≡ length funcs → i < length funcs
    → flat_map entry_text (entries_of funcs digests) ≡ flat_map entry_text (take i (entries_of funcs digests)) ++ (entry_text (entry_of (get_or funcs i f) (get_or digests i d)) ++ flat_map entry_text (drop (suc i) (entries_of funcs digests)))
entries_at [] digests i f d each within = absurd (omega (arith, within))
entries_at (x ∷ funcs) [] i f d each within = absurd (omega (arith, each))
entries_at (x ∷ funcs) (y ∷ digests) zero f d each within = refl
entries_at (x ∷ funcs) (y ∷ digests) (suc i) f d each within =
    ap (λ t. entry_text (entry_of x y) ++ t) (entries_at funcs digests i f d (omega (arith, each)) (omega (arith, within)))
    ∙ sym (append_assoc (entry_text (entry_of x y)) (flat_map entry_text (take i (entries_of funcs digests))) (entry_text (entry_of (get_or funcs i f) (get_or digests i d)) ++ flat_map entry_text (drop (suc i) (entries_of funcs digests))))

-- the texts of one function more
pub entries_next : (funcs : List FuncClaim) (digests : List Digest) (i : ℕ) (f : FuncClaim) (d : Digest) → length digests ≡ length funcs → i < length funcs
    → flat_map entry_text (take i (entries_of funcs digests)) ++ entry_text (entry_of (get_or funcs i f) (get_or digests i d)) ≡ flat_map entry_text (take (i + 1) (entries_of funcs digests))
entries_next [] digests i f d each within = absurd (omega (arith, within))
entries_next (x ∷ funcs) [] i f d each within = absurd (omega (arith, each))
entries_next (x ∷ funcs) (y ∷ digests) zero f d each within = sym (append-nil (entry_text (entry_of x y)))
entries_next (x ∷ funcs) (y ∷ digests) (suc i) f d each within =
    let next : suc i + 1 ≡ suc (i + 1) = omega arith in
    append_assoc (entry_text (entry_of x y)) (flat_map entry_text (take i (entries_of funcs digests))) (entry_text (entry_of (get_or funcs i f) (get_or digests i d)))
    ∙ ap (λ t. entry_text (entry_of x y) ++ t) (entries_next funcs digests i f d (omega (arith, each)) (omega (arith, within)))
    ∙ ap (λ n. flat_map entry_text (take n (entry_of x y ∷ entries_of funcs digests))) (sym next)

-- the same, where the function has a name
pub entry_at : (funcs : List FuncClaim) (digests : List Digest) (i : ℕ) (f : FuncClaim) (d : Digest) → length digests ≡ length funcs → i < length funcs → f ≡ get_or funcs i f
    → flat_map entry_text (entries_of funcs digests) ≡ flat_map entry_text (take i (entries_of funcs digests)) ++ (entry_text (entry_of f (get_or digests i d)) ++ flat_map entry_text (drop (suc i) (entries_of funcs digests)))
entry_at funcs digests i f d each within is =
    entries_at funcs digests i f d each within
    ∙ ap (λ x. flat_map entry_text (take i (entries_of funcs digests)) ++ (entry_text (entry_of x (get_or digests i d)) ++ flat_map entry_text (drop (suc i) (entries_of funcs digests)))) (sym is)

pub entry_next : (funcs : List FuncClaim) (digests : List Digest) (i : ℕ) (f : FuncClaim) (d : Digest) → length digests ≡ length funcs → i < length funcs → f ≡ get_or funcs i f
    → flat_map entry_text (take i (entries_of funcs digests)) ++ entry_text (entry_of f (get_or digests i d)) ≡ flat_map entry_text (take (i + 1) (entries_of funcs digests))
entry_next funcs digests i f d each within is =
    ap (λ x. flat_map entry_text (take i (entries_of funcs digests)) ++ entry_text (entry_of x (get_or digests i d))) is ∙ entries_next funcs digests i f d each within

-- the texts of all functions
pub entries_all : (funcs : List FuncClaim) (digests : List Digest) (i : ℕ) → length digests ≡ length funcs → length funcs ≤ i → flat_map entry_text (take i (entries_of funcs digests)) ≡ flat_map entry_text (entries_of funcs digests)
entries_all funcs digests i each over = ap (flat_map entry_text) (take_all i (entries_of funcs digests) (omega (arith, over, entries_size funcs digests each)))

-- ---- what stands after them

bodies_text : (lines : List (List ℕ)) → flat_map (λ b. text_of (BodyLine b ∷ [])) lines ≡ text_of (map BodyLine lines)
bodies_text [] = no_lines
bodies_text (b ∷ lines) = ap (λ t. text_of (BodyLine b ∷ []) ++ t) (bodies_text lines) ∙ sym (text_of-append (BodyLine b ∷ []) (map BodyLine lines))

pub section_parts : (s : CodeSection) → text_of (section_lines (section_of s)) ≡ text_of (SectionLine (section_head (section_of s)) ∷ []) ++ flat_map (λ b. text_of (BodyLine b ∷ [])) s.lines
section_parts s =
    text_of-append (SectionLine (section_head (section_of s)) ∷ []) (map BodyLine s.lines) ∙ ap (λ t. text_of (SectionLine (section_head (section_of s)) ∷ []) ++ t) (sym (bodies_text s.lines))

sections_text : (sections : List CodeSection) → flat_map (λ s. text_of (section_lines (section_of s))) sections ≡ text_of (flat_map section_lines (map section_of sections))
sections_text [] = no_lines
sections_text (s ∷ sections) = ap (λ t. text_of (section_lines (section_of s)) ++ t) (sections_text sections) ∙ sym (text_of-append (section_lines (section_of s)) (flat_map section_lines (map section_of sections)))

-- the texts of sections
abbrev pub sections_part : Cert2 → List ℕ
sections_part c = flat_map (λ s. text_of (section_lines (section_of s))) c.sections

abbrev pub outside_text : Cert2 → List ℕ
outside_text c = digest_text (codes "outside ") (bytes_of c.outside)

abbrev pub bounds_text : Cert2 → List ℕ
bounds_text c = text_of (TotalLine c.base.total ∷ [])

pub ending_parts : (c : Cert2) → text_of (ending_lines (statement_of c).ending) ≡ outside_text c ++ (bounds_text c ++ (sections_part c ++ codes "end\n"))
ending_parts c =
    let sections : List Line = flat_map section_lines (map section_of c.sections) in
    text_of-append (OutsideLine (bytes_of c.outside) ∷ []) (TotalLine c.base.total ∷ (sections ++ LastLine ∷ []))
    ∙ ap (λ t. t ++ text_of (TotalLine c.base.total ∷ (sections ++ LastLine ∷ []))) (outside_line (bytes_of c.outside))
    ∙ ap (λ t. outside_text c ++ t) (
    text_of-append (TotalLine c.base.total ∷ []) (sections ++ LastLine ∷ [])
    ∙ ap (λ t. bounds_text c ++ t) (text_of-append sections (LastLine ∷ []) ∙ ap (λ t. t ++ text_of (LastLine ∷ [])) (sym (sections_text c.sections)) ∙ ap (λ t. sections_part c ++ t) last_line))

-- ---- the whole

-- the texts of functions
abbrev pub entries_part : Cert2 → List ℕ
entries_part c = flat_map entry_text (entries_of c.base.funcs c.digests)

pub statement_parts : (c : Cert2) → statement_text (statement_of c) ≡ codes "p10cert 2\n" ++ (entries_part c ++ text_of (ending_lines (statement_of c).ending))
unfolding statement_text
statement_parts c =
    let entries : List Entry = entries_of c.base.funcs c.digests in
    let ending : List Line = ending_lines (statement_of c).ending in
    sealed_line (flat_map entry_lines entries ++ ending)
    ∙ ap (λ t. codes "p10cert 2\n" ++ t) (text_of-append (flat_map entry_lines entries) ending ∙ ap (λ t. t ++ text_of ending) (sym (entries_text entries)))
