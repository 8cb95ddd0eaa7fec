-- A text has one first bad line, and a certificate one list of ranks.
use Rattle.std.proofs.Common.{◌≡◌, ℕ, ◌+◌, List, length, Option, Some, None, refl, sym, ap, subst, ◌∙◌}
use Rattle.std.proofs.lemmas.Option.{same_Some, none-some}
use Rattle.p10_cert.specs.Statements.{Statement, IsStatement, statement_text}
use Rattle.p10_cert.specs.WrongLines.{IsFirstWrong}
use Rattle.p10_cert.proofs.TextLaws.{text_tells_statement, one_wrong_line_of_both, no_wrong_statement}
use Rattle.p10_diff.specs.Evidence.{Rank}
use Rattle.p10_diff_evidence.specs.Sections.{IsSection, IsFirstOther}
use Rattle.p10_diff_evidence.specs.Standing.{diff_lines, AreRanks}
use Rattle.p10_diff_evidence.specs.Placing.{lines_before, IsOtherRank, IsBad, no_line, no_rank, IsRanked}
use Rattle.p10_diff_evidence.proofs.Whole.{section_tells, one_first_other, no_other}

pub same_ranks : (lines : Option (List (List ℕ))) (some others : Option (List Rank)) → AreRanks lines some → AreRanks lines others → some ≡ others
same_ranks None None None these those = refl
same_ranks None None (Some others) these those = absurd those
same_ranks None (Some some) others these those = absurd these
same_ranks (Some lines) None others these those = absurd these
same_ranks (Some lines) (Some some) None these those = absurd those
same_ranks (Some lines) (Some some) (Some others) these those = ap Some (section_tells lines some others these those)

-- the lines of ranks have no line of another form
no_rank_wrong : (lines : Option (List (List ℕ))) (ranks : Option (List Rank)) (these : List (List ℕ)) (number : ℕ) → AreRanks lines ranks → lines ≡ Some these → IsFirstOther these number → ⊥
no_rank_wrong None ranks these number are is other = none-some these is
no_rank_wrong (Some lines) None these number are is other = are
no_rank_wrong (Some lines) (Some ranks) these number are is other = no_other these ranks number (subst (λ (ls : List (List ℕ)). IsSection ls ranks) (same_Some lines these is) are) other

pub no_bad : (s : Statement) (line : ℕ) → IsStatement s → IsRanked s → IsBad (statement_text s) line → ⊥
no_bad s line good ranked (no_line wrong) = no_wrong_statement s line good wrong
no_bad s line good ranked (no_rank t also exact other) =
    let same : t ≡ s = text_tells_statement t s also good (sym exact) in
    no_rank_wrong (diff_lines s) ranked.ranks other.lines other.number ranked.are (ap diff_lines (sym same) ∙ other.there) other.other

same_other : (s t : Statement) (m n : ℕ) → s ≡ t → IsOtherRank s m → IsOtherRank t n → m ≡ n
same_other s t m n same this that =
    let here : IsOtherRank t m = subst (λ (u : Statement). IsOtherRank u m) same this in
    let lines : here.lines ≡ that.lines = same_Some here.lines that.lines (sym here.there ∙ that.there) in
    let number : here.number ≡ that.number = one_first_other that.lines here.number that.number (subst (λ (ls : List (List ℕ)). IsFirstOther ls here.number) lines here.other) that.other in
    here.is ∙ ap (λ (k : ℕ). length (lines_before t) + k) number ∙ sym that.is

pub one_bad : (text : List ℕ) (m n : ℕ) → IsBad text m → IsBad text n → m ≡ n
one_bad text m n (no_line this) (no_line that) = one_wrong_line_of_both text m n this that
one_bad text m n (no_line this) (no_rank s good exact other) = absurd (no_wrong_statement s m good (subst (λ (b : List ℕ). IsFirstWrong b m) exact this))
one_bad text m n (no_rank s good exact other) (no_line that) = absurd (no_wrong_statement s n good (subst (λ (b : List ℕ). IsFirstWrong b n) exact that))
one_bad text m n (no_rank s good exact other) (no_rank t well same that) = same_other s t m n (text_tells_statement s t good well (sym exact ∙ same)) other that
