-- The outcomes of `client/specs/Packed.antt` are those of the exported functions' own contracts: what a function's `ensures` says of its result and of
-- what it leaves is that the outcome is allowed. An exported function has the clauses of the function of `recorder` that it calls, so each lemma here
-- is that of `client/proofs/Cited.antt`.
-- Assumes nothing.
use seplogic.Ra.Ura.{Ura}
use types.Logic.{Logic}
use contract.Running.{Running}
use prog.Model.{Model}
use Rattle.recorder_c.specs.contracts.coppicetune_scan as idle
use Rattle.recorder_c.specs.contracts.engine.coppicetune_open as c-open
use Rattle.recorder_c.specs.contracts.engine.coppicetune_admit as c-admit
use Rattle.recorder_c.specs.contracts.engine.coppicetune_step as c-step
use Rattle.recorder_c.specs.contracts.engine.coppicetune_report as c-report
use Rattle.recorder_c.specs.contracts.engine.coppicetune_collect as c-collect
use Rattle.recorder_c.specs.contracts.engine.coppicetune_check as c-check
use Rattle.recorder_c.specs.contracts.engine.coppicetune_start as c-start
use Rattle.recorder_c.specs.contracts.engine.coppicetune_rebuild as c-rebuild
use Rattle.client.proofs.Cited.{Says, OpenAllows, AdmitAllows, StepAllows, ReportAllows, CollectAllows, CheckAllows, StartAllows, RebuildAllows, IdleAllows}
use Rattle.client.proofs.Cited as client

module _ {M : Type 1} {𝓤 : Ura M} (𝓛 : Logic 𝓤) (𝓜 : Model 𝓤 𝓛.H) (𝓡 : Running 𝓤 𝓛.H 𝓜) where
  pub c_open_cited : Says 𝓛 𝓜 𝓡 c-open.ended (c-open.clauses 𝓛 𝓜.mem 𝓡.run) OpenAllows
  c_open_cited = client.c_open_cited 𝓛 𝓜 𝓡

  pub c_admit_cited : Says 𝓛 𝓜 𝓡 c-admit.ended (c-admit.clauses 𝓛 𝓜.mem 𝓡.run) AdmitAllows
  c_admit_cited = client.c_admit_cited 𝓛 𝓜 𝓡

  pub c_step_cited : Says 𝓛 𝓜 𝓡 c-step.ended (c-step.clauses 𝓛 𝓜.mem 𝓡.run) StepAllows
  c_step_cited = client.c_step_cited 𝓛 𝓜 𝓡

  pub c_report_cited : Says 𝓛 𝓜 𝓡 c-report.ended (c-report.clauses 𝓛 𝓜.mem 𝓡.run) ReportAllows
  c_report_cited = client.c_report_cited 𝓛 𝓜 𝓡

  pub c_collect_cited : Says 𝓛 𝓜 𝓡 c-collect.ended (c-collect.clauses 𝓛 𝓜.mem 𝓡.run) CollectAllows
  c_collect_cited = client.c_collect_cited 𝓛 𝓜 𝓡

  pub c_check_cited : Says 𝓛 𝓜 𝓡 c-check.ended (c-check.clauses 𝓛 𝓜.mem 𝓡.run) CheckAllows
  c_check_cited = client.c_check_cited 𝓛 𝓜 𝓡

  pub c_start_cited : Says 𝓛 𝓜 𝓡 c-start.ended (c-start.clauses 𝓛 𝓜.mem 𝓡.run) StartAllows
  c_start_cited = client.c_start_cited 𝓛 𝓜 𝓡

  pub c_rebuild_cited : Says 𝓛 𝓜 𝓡 c-rebuild.ended (c-rebuild.clauses 𝓛 𝓜.mem 𝓡.run) RebuildAllows
  c_rebuild_cited = client.c_rebuild_cited 𝓛 𝓜 𝓡

  -- ---- the scan of an array with nothing open

  pub idle_cited : Says 𝓛 𝓜 𝓡 idle.ended (idle.clauses 𝓛 𝓜.mem 𝓡.run) IdleAllows
  idle_cited = client.idle_cited 𝓛 𝓜 𝓡
