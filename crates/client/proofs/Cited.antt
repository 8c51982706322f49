-- The outcomes of specs/Lent.antt and specs/Packed.antt are those of the functions' own contracts: what a function's `ensures` says of its
-- result and of what it leaves is that the outcome is allowed. (That the function's code meets its contract is proved beside the function.)
-- Assumes nothing.
use Prim.Native.Nat.{ℕ}
use mathlib.Core.Bool.{not}
use mathlib.Core.List.{List, []}
use mathlib.Core.Path.{◌≡◌}
use seplogic.Ra.Ura.{Ura}
use lib.Dec.{eqb}
use base.Logic.{ent}
use types.Logic.{Logic}
use contract.Lifetimes.{Lfts}
use contract.Monad.{fact, fact_mono}
use contract.Running.{Running}
use denote.Triple.Clauses.{Clauses, Ended, Lasts, at_exit}
use denote.Triple.Entry.{Args, Res}
use prog.Model.{Model}
use Rattle.terms.specs.Reply.{done_reply, value_reply}
use Rattle.geometry.specs.Report.{state_reply}
use Rattle.geometry.specs.declared.State.{State}
use Rattle.parity.specs.Scan.{idle_scan_reply}
use Rattle.record.specs.declared.Record.{Record}
use Rattle.array.specs.Answers.{stepped_reply}
use Rattle.array.specs.Outcomes.{opened_state}
use Rattle.calls.specs.contracts.open as opens
use Rattle.calls.specs.contracts.admit as admit
use Rattle.calls.specs.contracts.step as step
use Rattle.calls.specs.contracts.report as report
use Rattle.calls.specs.contracts.collect as collect
use Rattle.calls.specs.contracts.scan as scan
use Rattle.calls.specs.contracts.start as start
use Rattle.calls.specs.contracts.rebuild as rebuild
use Rattle.recorder.specs.contracts.coppicetune_scan as idle
use Rattle.recorder.specs.contracts.engine.coppicetune_open as c-open
use Rattle.recorder.specs.contracts.engine.coppicetune_admit as c-admit
use Rattle.recorder.specs.contracts.engine.coppicetune_step as c-step
use Rattle.recorder.specs.contracts.engine.coppicetune_report as c-report
use Rattle.recorder.specs.contracts.engine.coppicetune_collect as c-collect
use Rattle.recorder.specs.contracts.engine.coppicetune_check as c-check
use Rattle.recorder.specs.contracts.engine.coppicetune_start as c-start
use Rattle.recorder.specs.contracts.engine.coppicetune_rebuild as c-rebuild
use Rattle.recorder.specs.Packing.{packed}
use Rattle.history.specs.World.{World}
use Rattle.history.specs.World as event
use Rattle.client.specs.Lent.{left, OpenedByCall, ByCalls}
use Rattle.client.specs.Lent as call
use Rattle.client.specs.Packed.{unpacked, OpenedByFunction, ByFunctions}
use Rattle.client.specs.Packed as function

-- the world of what is lent
abbrev lent : State → List Record → List ℕ → List ℕ → World
lent state table work image = record { state = state; table = table; work = work; image = image }

-- what a function's contract may say: a fact of the arguments a, of what is left, ws, and of the result r
abbrev pub Fact : Ended → Type 1
Fact T = (κs : Lfts T.signature.lifetimes) (a : Args T.signature κs) → Lasts T κs a → Res T.signature κs → Type 0

-- ---- what the contracts of the C functions say: the outcome is allowed, with the answer read as docs/C-INTERFACE.md says

abbrev pub OpenAllows : Fact c-open.ended
OpenAllows κs (state, (table, (work, (image, (cards, (stripes, (block, (records, (layout, (out, _)))))))))) (state', (table', (_, (_, (_, (_, (_, (_, (_, (_, _)))))))))) r =
    OpenedByFunction (record { cards = cards; stripes = stripes; block = block; records = records; layout = layout }) out table.now work.now image.now
    (record { reply = unpacked r; state = state'; table = table' })

abbrev pub AdmitAllows : Fact c-admit.ended
AdmitAllows κs (state, (table, (work, (image, (write, (s, (mask, (payload, _)))))))) (_, (table', (work', (_, (_, (_, (_, (_, _)))))))) r =
    ByFunctions (lent state.now table.now work.now image.now) (event.admit (not (eqb write 0)) s mask payload.now) (left (unpacked r) state.now table' work' image.now [])

abbrev pub StepAllows : Fact c-step.ended
StepAllows κs (state, (table, (work, (image, (i, (k, _)))))) (_, (table', (work', (image', (_, (_, _)))))) r =
    ByFunctions (lent state.now table.now work.now image.now) (event.step i k) (left (unpacked r) state.now table' work' image' [])

abbrev pub ReportAllows : Fact c-report.ended
ReportAllows κs (state, (card, _)) (state', (_, _)) r =
    (table : List Record) (work image : List ℕ) → ByFunctions (lent state.now table work image) (event.report card) (left (unpacked r) state' table work image [])

abbrev pub CollectAllows : Fact c-collect.ended
CollectAllows κs (state, (table, (work, (i, (result, _))))) (_, (table', (_, (_, (result', _))))) r =
    (image : List ℕ) → ByFunctions (lent state.now table.now work.now image) (event.collect i result.now) (left (unpacked r) state.now table' work.now image result')

abbrev pub CheckAllows : Fact c-check.ended
CheckAllows κs (state, (table, (image, _))) (_, (_, (_, _))) r =
    (work : List ℕ) → ByFunctions (lent state.now table.now work image.now) event.scan (left (unpacked r) state.now table.now work image.now [])

abbrev pub StartAllows : Fact c-start.ended
StartAllows κs (state, _) (state', _) r =
    (table : List Record) (work image : List ℕ) → ByFunctions (lent state.now table work image) event.start (left (unpacked r) state' table work image [])

abbrev pub RebuildAllows : Fact c-rebuild.ended
RebuildAllows κs (state, (table, (image, _))) (state', (_, (image', _))) r =
    (work : List ℕ) → ByFunctions (lent state.now table.now work image.now) event.rebuild (left (unpacked r) state' table.now work image' [])

abbrev pub IdleAllows : Fact idle.ended
IdleAllows κs (cards, (stripes, (block, (records, (layout, (out, (lost, (fill, (image, _))))))))) (_, (_, (_, (_, (_, (_, (_, (_, (_, _))))))))) r =
    r ≡ packed (idle_scan_reply (record { cards = cards; stripes = stripes; block = block; records = records; layout = layout; out = out; lost = lost; fill = fill }) image.now)

module _ {M : Type 1} {𝓤 : Ura M} (𝓛 : Logic 𝓤) (𝓜 : Model 𝓤 𝓛.H) (𝓡 : Running 𝓤 𝓛.H 𝓜) where
  -- a contract says this
  abbrev pub Says : (T : Ended) → Clauses 𝓤 T → Fact T → Type 1
  Says T said φ =
      (κs : Lfts T.signature.lifetimes) (a : Args T.signature κs) (ws : Lasts T κs a) (r : Res T.signature κs) (g : (said κs a).ghost)
      → ent 𝓤 ((said κs a).ensures g r (at_exit T κs a ws)) (fact 𝓤 (φ κs a ws r))

  -- ---- the calls that are lent the table

  pub open_cited : Says opens.ended (opens.clauses 𝓛 𝓜.mem 𝓡.run) (λ κs (geometry, (out, (table, (work, (image, _))))) (_, (_, (table', (_, (_, _))))) r.
      OpenedByCall geometry out table.now work.now image.now (record { reply = state_reply r; state = opened_state r; table = table' }))
  open_cited κs a ws r g = fact_mono 𝓤 _ _ (λ h. call.opens _ _ h)

  pub admit_cited : Says admit.ended (admit.clauses 𝓛 𝓜.mem 𝓡.run) (λ κs (state, (table, (work, (image, (write, (s, (mask, (payload, _)))))))) (_, (table', (work', (_, (_, (_, (_, (_, _)))))))) r.
      ByCalls (lent state table.now work.now image.now) (event.admit write s mask payload.now) (left (value_reply r) state table' work' image.now []))
  admit_cited κs a ws r g = fact_mono 𝓤 _ _ (λ h. call.admits _ _ _ _ _ _ _ h)

  pub step_cited : Says step.ended (step.clauses 𝓛 𝓜.mem 𝓡.run) (λ κs (state, (table, (work, (image, (i, (k, _)))))) (_, (table', (work', (image', (_, (_, _)))))) r.
      ByCalls (lent state table.now work.now image.now) (event.step i k) (left (stepped_reply r) state table' work' image' []))
  step_cited κs a ws r g = fact_mono 𝓤 _ _ (λ h. call.steps _ _ _ _ _ _ h)

  pub report_cited : Says report.ended (report.clauses 𝓛 𝓜.mem 𝓡.run) (λ κs (state, (card, _)) (state', (_, _)) r.
      (table : List Record) (work image : List ℕ) → ByCalls (lent state.now table work image) (event.report card) (left (done_reply r) state' table work image []))
  report_cited κs a ws r g = fact_mono 𝓤 _ _ (λ h table work image. call.reports _ _ _ h)

  pub collect_cited : Says collect.ended (collect.clauses 𝓛 𝓜.mem 𝓡.run) (λ κs (state, (table, (work, (i, (result, _))))) (_, (table', (_, (_, (result', _))))) r.
      (image : List ℕ) → ByCalls (lent state table.now work.now image) (event.collect i result.now) (left (value_reply r) state table' work.now image result'))
  collect_cited κs a ws r g = fact_mono 𝓤 _ _ (λ h image. call.collects _ _ _ _ _ h)

  pub scan_cited : Says scan.ended (scan.clauses 𝓛 𝓜.mem 𝓡.run) (λ κs (state, (table, (image, _))) (_, (_, (_, _))) r.
      (work : List ℕ) → ByCalls (lent state table.now work image.now) event.scan (left (done_reply r) state table.now work image.now []))
  scan_cited κs a ws r g = fact_mono 𝓤 _ _ (λ h work. call.scans _ h)

  pub start_cited : Says start.ended (start.clauses 𝓛 𝓜.mem 𝓡.run) (λ κs (state, _) (state', _) r.
      (table : List Record) (work image : List ℕ) → ByCalls (lent state.now table work image) event.start (left (done_reply r) state' table work image []))
  start_cited κs a ws r g = fact_mono 𝓤 _ _ (λ h table work image. call.starts _ _ h)

  pub rebuild_cited : Says rebuild.ended (rebuild.clauses 𝓛 𝓜.mem 𝓡.run) (λ κs (state, (table, (image, _))) (state', (_, (image', _))) r.
      (work : List ℕ) → ByCalls (lent state.now table.now work image.now) event.rebuild (left (value_reply r) state' table.now work image' []))
  rebuild_cited κs a ws r g = fact_mono 𝓤 _ _ (λ h work. call.rebuilds _ _ _ h)

  -- ---- the C functions

  pub c_open_cited : Says c-open.ended (c-open.clauses 𝓛 𝓜.mem 𝓡.run) OpenAllows
  c_open_cited κs a ws r g = fact_mono 𝓤 _ _ (λ h. function.opens _ _ _ _ h)

  pub c_admit_cited : Says c-admit.ended (c-admit.clauses 𝓛 𝓜.mem 𝓡.run) AdmitAllows
  c_admit_cited κs a ws r g = fact_mono 𝓤 _ _ (λ h. function.admits a.1.1.1.1.0 a.1.1.1.1.1.0 a.1.1.1.1.1.1.0 a.1.1.1.1.1.1.1.0.now _ _ _ h)

  pub c_step_cited : Says c-step.ended (c-step.clauses 𝓛 𝓜.mem 𝓡.run) StepAllows
  c_step_cited κs a ws r g = fact_mono 𝓤 _ _ (λ h. function.steps _ _ _ _ _ _ h)

  pub c_report_cited : Says c-report.ended (c-report.clauses 𝓛 𝓜.mem 𝓡.run) ReportAllows
  c_report_cited κs a ws r g = fact_mono 𝓤 _ _ (λ h table work image. function.reports _ _ _ h)

  pub c_collect_cited : Says c-collect.ended (c-collect.clauses 𝓛 𝓜.mem 𝓡.run) CollectAllows
  c_collect_cited κs a ws r g = fact_mono 𝓤 _ _ (λ h image. function.collects _ _ _ _ _ h)

  pub c_check_cited : Says c-check.ended (c-check.clauses 𝓛 𝓜.mem 𝓡.run) CheckAllows
  c_check_cited κs a ws r g = fact_mono 𝓤 _ _ (λ h work. function.checks _ h)

  pub c_start_cited : Says c-start.ended (c-start.clauses 𝓛 𝓜.mem 𝓡.run) StartAllows
  c_start_cited κs a ws r g = fact_mono 𝓤 _ _ (λ h table work image. function.starts _ _ h)

  pub c_rebuild_cited : Says c-rebuild.ended (c-rebuild.clauses 𝓛 𝓜.mem 𝓡.run) RebuildAllows
  c_rebuild_cited κs a ws r g = fact_mono 𝓤 _ _ (λ h work. function.rebuilds _ _ _ h)

  -- ---- the scan of an array with nothing open

  pub idle_cited : Says idle.ended (idle.clauses 𝓛 𝓜.mem 𝓡.run) IdleAllows
  idle_cited κs a ws r g = fact_mono 𝓤 _ _ (λ h. h)
