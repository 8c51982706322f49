-- Any two outcomes that the contract of one of the engine's C functions allows are equal. (The others answer one number, by an equation.)
-- Assumes nothing.
use Prim.Native.Nat.{ℕ}
use mathlib.Core.List.{List}
use mathlib.Core.Path.{◌≡◌}
use Rattle.geometry.specs.Fill.{Starting}
use Rattle.geometry.specs.Report.{Reporting}
use Rattle.geometry.specs.declared.State.{State}
use Rattle.record.specs.declared.Record.{Record}
use Rattle.array.specs.Admission.{Admission}
use Rattle.array.specs.Collection.{Collection}
use Rattle.array.specs.Opening.{Opening}
use Rattle.array.specs.Rebuilding.{Rebuilding}
use Rattle.array.specs.Stepping.{Stepping}
use Rattle.recorder.specs.Engine.{OpeningPacked, AdmissionPacked, SteppingPacked, ReportingPacked, StartingPacked, CollectionPacked, RebuildingPacked}

module _ {d : Opening} {old : State} {a b : ℕ} {s z : State} {t u : List Record} where
  pub open_one : OpeningPacked d old a s t → OpeningPacked d old b z u → (a ≡ b) × (s ≡ z) × (t ≡ u)
  open_one p q = (cc, cc, cc)

module _ {d : Admission} {a b : ℕ} {t u : List Record} {v w : List ℕ} where
  pub admit_one : AdmissionPacked d a t v → AdmissionPacked d b u w → (a ≡ b) × (t ≡ u) × (v ≡ w)
  admit_one p q = (cc, cc, cc)

module _ {d : Stepping} {a b : ℕ} {t u : List Record} {v w m n : List ℕ} where
  pub step_one : SteppingPacked d a t v m → SteppingPacked d b u w n → (a ≡ b) × (t ≡ u) × (v ≡ w) × (m ≡ n)
  step_one p q = (cc, cc, cc, cc)

module _ {d : Reporting} {a b : ℕ} {s z : State} where
  pub report_one : ReportingPacked d a s → ReportingPacked d b z → (a ≡ b) × (s ≡ z)
  report_one p q = (cc, cc)

module _ {d : Starting} {a b : ℕ} {s z : State} where
  pub start_one : StartingPacked d a s → StartingPacked d b z → (a ≡ b) × (s ≡ z)
  start_one p q = (cc, cc)

module _ {d : Collection} {a b : ℕ} {t u : List Record} {m n : List ℕ} where
  pub collect_one : CollectionPacked d a t m → CollectionPacked d b u n → (a ≡ b) × (t ≡ u) × (m ≡ n)
  collect_one p q = (cc, cc, cc)

module _ {d : Rebuilding} {a b : ℕ} {s z : State} {m n : List ℕ} where
  pub rebuild_one : RebuildingPacked d a s m → RebuildingPacked d b z n → (a ≡ b) × (s ≡ z) × (m ≡ n)
  rebuild_one p q = (cc, cc, cc)
