-- The words of roots, and what they and files are read as.
use Rattle.std.proofs.Common.{◌≡◌, List, [], ◌∷◌, map, refl, sym, ◌∙◌, ap, subst, Some, None, IfSome, Result, Ok, Err, IfOk, IfErr, Vec, Global}
use Rattle.p10_base.specs.declared.word.Word.{Word}
use Rattle.p10_base.specs.declared.at.At.{At}
use Rattle.p10_base.specs.declared.report.Limit.{Limit}
use Rattle.p10_base.specs.declared.report.Refusal.{Refusal}
use Rattle.p10_base.specs.declared.report.TheConstants.Limit.{OBJECT_BYTES}
use Rattle.p10_base.specs.Gathered.{Gathered}
use Rattle.p10_base.specs.Words.{plain_word, plain_words}
use Rattle.p10_core.specs.Views.{plain_program}
use Rattle.p10_core.specs.WholePrograms.{IsWholeProgram}
use Rattle.p10_syn.specs.declared.statement.Unit as whole
use Rattle.p10_syn.specs.BuiltStatements.{external_of}
use Rattle.p10_syn.specs.Spells.{Spells}
use Rattle.p10_syn.specs.Trees.{External}
use Rattle.p10_elab.specs.Answers.{refusal_of}
use Rattle.p10_expand.specs.declared.expanded.Expanded.{Expanded}
use Rattle.p10_expand.specs.declared.expansion.fault.ExpandFault.{ExpandFault}
use Rattle.p10_expand.specs.declared.expansion.fault.ExpandFault.TheVariants as expanding
use Rattle.p10_expand.specs.Answers.{IsExpansion, IsFault as IsExpandFault, lists_of, expansion_of}
use Rattle.p10_expand.specs.Expands.{Expansion, ExpandsTo}
use Rattle.p10_pexpr.specs.declared.fault.ParseFault.{ParseFault}
use Rattle.p10_pexpr.specs.declared.fault.ParseFault.TheVariants as parsing
use Rattle.p10_parse.specs.Units.{AllFit, FirstFault, HaveFault}
use Rattle.p10_front.specs.declared.fault.FrontFault.{FrontFault}
use Rattle.p10_front.specs.declared.fault.FrontFault.TheVariants as front
use Rattle.p10_front.specs.declared.reading.Reading.{Reading}
use Rattle.p10_front.specs.Readings.{PlainReading, refused_reading, untyped_reading, typed_reading, Elaborates, untyped, oversized, typed, Parses, unexpanded, nested_over, unspelled, spelled, Reads, expanded_over, expanded}
use Rattle.p10_front.specs.Answers.{reading_of, IsFault}
use Rattle.p10_front.specs.private.Parsing.{reading_without, fault_of, IsParsed, IsUnparsed}
use Rattle.p10_front.specs.private.Typing.{IsTyped, IsUntyped}

-- ## What words are read as

-- the words of the roots, in one step and in two
pub same_roots : (all : List (Vec Word Global)) → map (λ root. plain_words root.items) all ≡ map (map plain_word) (lists_of all)
same_roots [] = refl
same_roots (words ∷ all) = ap (λ rest. plain_words words.items ∷ rest) (same_roots all)

pub parsed_unexpanded : (e : Expanded) (r : Refusal) (reading : Reading) → e.refusal ≡ Some r → reading ≡ record { expanded = e; units = None; program = None; refusal = Some r } → IsParsed e reading
parsed_unexpanded e r reading some is = unexpanded r some (ap (λ (x : Reading). Ok (reading_of x)) is)

module _ (e : Expanded) (all : List (Vec Word Global)) (none : e.refusal ≡ None) (same : all ≡ e.roots) where
  here : map (λ root. plain_words root.items) all ≡ (expansion_of e).roots
  here = same_roots all ∙ ap (λ xs. map (map plain_word) (lists_of xs)) same

  without_is_parsed : (fault : ParseFault) → HaveFault (map (λ root. plain_words root.items) all) fault → IfOk (reading_without e fault) (IsParsed e)
  without_is_parsed (parsing.Refused r) fault = unspelled r none (subst (λ roots. FirstFault roots (parsing.Refused r)) here fault) refl
  without_is_parsed (parsing.Over l) fault = tt
  without_is_parsed parsing.Memory fault = tt

  without_is_unparsed : (fault : ParseFault) → HaveFault (map (λ root. plain_words root.items) all) fault → IfErr (reading_without e fault) (IsUnparsed e)
  without_is_unparsed (parsing.Refused r) fault = tt
  without_is_unparsed (parsing.Over l) fault = nested_over l none (subst (λ roots. FirstFault roots (parsing.Over l)) here fault) refl
  without_is_unparsed parsing.Memory fault = tt

  pub parsed_without : (fault : ParseFault) (r : Result Reading FrontFault) → HaveFault (map (λ root. plain_words root.items) all) fault → r ≡ reading_without e fault → IfOk r (IsParsed e)
  parsed_without fault r has is = subst (λ (r : Result Reading FrontFault). IfOk r (IsParsed e)) (sym is) (without_is_parsed fault has)

  pub unparsed_without : (fault : ParseFault) (r : Result Reading FrontFault) → HaveFault (map (λ root. plain_words root.items) all) fault → r ≡ reading_without e fault → IfErr r (IsUnparsed e)
  unparsed_without fault r has is = subst (λ (r : Result Reading FrontFault). IfErr r (IsUnparsed e)) (sym is) (without_is_unparsed fault has)

  module _ (items units : List whole.Unit) (fit : AllFit (map (λ root. plain_words root.items) all)) (spell : Spells (map (λ root. plain_words root.items) all) (map external_of items)) (of : units ≡ items) where
    spelled_by : (answer : Result PlainReading Limit) → Elaborates (expansion_of e) (map external_of units) answer → Parses (expansion_of e) answer
    spelled_by answer elaborates =
        spelled (map external_of units) none (subst AllFit here fit)
        (subst (λ rs. Spells rs (map external_of units)) here (subst (λ (us : List whole.Unit). Spells (map (λ root. plain_words root.items) all) (map external_of us)) (sym of) spell))
        elaborates

    pub parsed_spelled : (r : Result Reading FrontFault) → IfOk r (IsTyped e units) → IfOk r (IsParsed e)
    parsed_spelled (Ok reading) elaborates = spelled_by (Ok (reading_of reading)) elaborates
    parsed_spelled (Err fault) elaborates = tt

    pub unparsed_spelled : (r : Result Reading FrontFault) → IfErr r (IsUntyped e units) → IfErr r (IsUnparsed e)
    unparsed_spelled (Ok reading) elaborates = tt
    unparsed_spelled (Err (front.Over limit)) elaborates = spelled_by (Err limit) elaborates
    unparsed_spelled (Err front.Memory) elaborates = tt

without_has_none : (e : Expanded) (fault : ParseFault) → IfOk (reading_without e fault) (λ reading. IfSome reading.program (λ p. IsWholeProgram (plain_program p)))
without_has_none e (parsing.Refused r) = tt
without_has_none e (parsing.Over l) = tt
without_has_none e parsing.Memory = tt

pub without_is_whole : (e : Expanded) (fault : ParseFault) (r : Result Reading FrontFault) → r ≡ reading_without e fault → IfOk r (λ reading. IfSome reading.program (λ p. IsWholeProgram (plain_program p)))
without_is_whole e fault r is =
    subst (λ (r : Result Reading FrontFault). IfOk r (λ reading. IfSome reading.program (λ p. IsWholeProgram (plain_program p)))) (sym is) (without_has_none e fault)

-- ## What files are read as

pub read_parsed : (g : Gathered) (e : Expanded) (r : Result Reading FrontFault) → IsExpansion g e → IfOk r (IsParsed e) → IfOk r (λ reading. Reads g (Ok (reading_of reading)))
read_parsed g e (Ok reading) is parsed = expanded (expansion_of e) is parsed
read_parsed g e (Err fault) is parsed = tt

pub read_unparsed : (g : Gathered) (e : Expanded) (r : Result Reading FrontFault) → IsExpansion g e → IfErr r (IsUnparsed e) → IfErr r (IsFault g)
read_unparsed g e (Ok reading) is unparsed = tt
read_unparsed g e (Err (front.Over limit)) is unparsed = expanded (expansion_of e) is unparsed
read_unparsed g e (Err front.Memory) is unparsed = tt

pub read_over : (g : Gathered) (fault : ExpandFault) (given : FrontFault) → IsExpandFault g fault → given ≡ fault_of fault → IsFault g given
read_over g fault given is same = subst (IsFault g) (sym same) (by_fault fault is)
  where
    by_fault : (fault : ExpandFault) → IsExpandFault g fault → IsFault g (fault_of fault)
    by_fault (expanding.Over limit) is = expanded_over limit is refl
    by_fault expanding.Memory is = tt

-- ## What is read has expanded

pub same_reading : (a b : PlainReading) → ◌≡◌ {A = Result PlainReading Limit} (Ok a) (Ok b) → a ≡ b
same_reading a b same = cc

pub no_limit : (a : PlainReading) (l : Limit) → ◌≡◌ {A = Result PlainReading Limit} (Ok a) (Err l) → ⊥
no_limit a l same = cc

elaborated_expansion : (e : Expansion) (trees : List (External At)) (reading : PlainReading) → Elaborates e trees (Ok reading) → reading.expansion ≡ e
elaborated_expansion e trees reading (untyped problem is same) = ap (λ (x : PlainReading). x.expansion) (same_reading reading (untyped_reading e trees (refusal_of problem)) same)
elaborated_expansion e trees reading (oversized is same) = absurd (no_limit reading OBJECT_BYTES same)
elaborated_expansion e trees reading (typed p is same) = ap (λ (x : PlainReading). x.expansion) (same_reading reading (typed_reading e trees p) same)

parsed_expansion : (e : Expansion) (reading : PlainReading) → Parses e (Ok reading) → reading.expansion ≡ e
parsed_expansion e reading (unexpanded r some is) = ap (λ (x : PlainReading). x.expansion) (same_reading reading (refused_reading e r) is)
parsed_expansion e reading (nested_over l none fault is) = absurd (no_limit reading l is)
parsed_expansion e reading (unspelled r none fault is) = ap (λ (x : PlainReading). x.expansion) (same_reading reading (refused_reading e r) is)
parsed_expansion e reading (spelled trees none fit spell elaborates) = elaborated_expansion e trees reading elaborates

pub reads_expand : (g : Gathered) (reading : PlainReading) → Reads g (Ok reading) → ExpandsTo g (Ok reading.expansion)
reads_expand g reading (expanded_over l over is) = absurd (no_limit reading l is)
reads_expand g reading (expanded e expands parses) = subst (λ (x : Expansion). ExpandsTo g (Ok x)) (sym (parsed_expansion e reading parses)) expands
