-- What is reported of sources: what breaks Holzmann's rules ("The Power of Ten", 2006), and the refusal.
use Rattle.std.specs.Prelude.{◌≡◌, ◌↔◌, List, [], Some, Ok}
use Rattle.std.specs.List.{Contains}
use Rattle.std.specs.List.Sorted.{IsStrictlySortedBy}
use Rattle.p10_base.specs.declared.at.At.{At}
use Rattle.p10_base.specs.declared.report.Refusal.{Refusal}
use Rattle.p10_base.specs.declared.report.Violation.{Violation}
use Rattle.p10_base.specs.Gathered.{Gathered}
use Rattle.p10_base.specs.Order.{violation_cmp}
use Rattle.p10_syn.specs.Trees.{External}
use Rattle.p10_core.specs.Typed.{PlainProgram}
use Rattle.p10_cert.specs.Claims.{Claims}
use Rattle.p10_front.specs.Readings.{PlainReading, Reads}
use Rattle.p10_pprules.specs.Violations as directives
use Rattle.p10_synrules.specs.Violations as trees
use Rattle.p10_userules.specs.Violations as uses
use Rattle.p10_flowrules.specs.FlowRows as flow
use Rattle.p10_approach.specs.Offers.{no_offers}
use Rattle.p10_finder.specs.Answers.{HaveResults, LacksBoundAt, bound_row}
use Rattle.p10_warn.specs.Violations as warnings
use Rattle.p10_check_command.specs.declared.report.Report.{Report}

-- a row on programs is violated by a program
pub data BreaksProgramRow (p : PlainProgram) (v : Violation) : Type 0 where
  -- 1.3, 2.2 and 3.1: calls, the task loop, and allocation
  by_flow : flow.ViolatesFlow p v.sub v.span → BreaksProgramRow p v
  -- 2.1: a loop other than the task loop of which no bound is found, where of each function the result is claimed that is found
  by_bound : (c : Claims) → HaveResults no_offers p c → LacksBoundAt no_offers p c v.span → v.sub ≡ bound_row → BreaksProgramRow p v
  -- 6.1 to 7.2: how objects and results are used
  by_use : uses.Violates p v.sub v.span → BreaksProgramRow p v
  -- 10.1 to 10.8: what compilers warn of
  by_warning : warnings.Violates p v.sub v.span → BreaksProgramRow p v

-- A violation stands in what files were read as. Those of trees and programs stand only where there are some: a refusal of
-- directives or of the grammar leaves no trees, and any refusal leaves no program. The obeyed directives end with the refused one.
pub data IsReported (g : Gathered) (reading : PlainReading) (v : Violation) : Type 0 where
  -- rule 8, and 9.2
  in_directives : directives.Violates reading.expansion.obeyed v.sub v.span → IsReported g reading v
  -- 1.1, 1.2, 4.1 to 5.5, 9.1, 9.3 and 9.4
  in_trees : (all : List (External At)) → reading.units ≡ Some all → trees.Violates g all v.sub v.span → IsReported g reading v
  in_program : (p : PlainProgram) → reading.program ≡ Some p → BreaksProgramRow p v → IsReported g reading v

-- the violations that stand, in their order, each once
pub record AreViolations (g : Gathered) (reading : PlainReading) (violations : List Violation) : Type 0 where
  pub sorted : IsStrictlySortedBy violation_cmp violations
  pub exact : (v : Violation) → Contains violations v ↔ IsReported g reading v

-- what is reported of gathered files: the first refusal, if there is one, and the violations that stand
pub record IsReport (g : Gathered) (report : Report) : Type 0 where
  pub reading : PlainReading
  pub reads : Reads g (Ok reading)
  pub refused : report.refusal ≡ reading.refusal
  pub violated : AreViolations g reading report.violations

-- what is reported of files that aren't all cut into words
abbrev pub refused_report : Refusal → Report
refused_report refusal = record { violations = []; refusal = Some refusal }
