-- Any two outcomes that a contract allows are equal: of each call, lent the table and by a survey, and of each function below them whose contract
-- gives its answer by a reply. docs/OUTCOMES.md lists them.
-- Assumes nothing.
use Prim.Native.Nat.{ℕ}
use mathlib.Core.List.{List}
use mathlib.Core.Path.{◌≡◌, refl, sym, ap, ◌∙◌}
use borrow.Author.Tests.{eqb-false}
use native.Mathlib.Omega.{arith}
use Rattle.std.specs.Prelude.{Option, Some, None, Result, Ok, Err, ⊤, IfOk, cond, eqb, ◌≤◌, ◌<◌}
use Rattle.std.specs.Result.{result_unwrap_or}
use Rattle.terms.specs.Reply.{Reply, accepted, number_of, reply_of, done_reply}
use Rattle.terms.specs.declared.refusal.Refusal.{Refusal}
use Rattle.terms.proofs.Answers.{number_not_0, refusal_named, done_named, value_named}
use Rattle.geometry.specs.Answers.{placed_reply, held_reply}
use Rattle.geometry.specs.Fill.{Starting, StartingIs, StartedIs}
use Rattle.geometry.specs.Report.{Reporting, ReportingIs, ReportedIs}
use Rattle.geometry.specs.declared.Held.{Held}
use Rattle.geometry.specs.declared.Placed.{Placed}
use Rattle.geometry.specs.declared.State.{State}
use Rattle.geometry.proofs.Single.{placed_one, held_one}
use Rattle.graph.specs.Asked.{action_step}
use Rattle.graph.specs.Named.{number_of_graph, Numbered}
use Rattle.graph.specs.Steps.{Step, rd, xr, wr, nil}
use Rattle.graph.specs.declared.named.Graph.{Graph}
use Rattle.graph.specs.declared.named.Graph.TheVariants as graph
use Rattle.graph.specs.declared.named.UnknownGraph.{UnknownGraph}
use Rattle.graph.specs.declared.steps.Action.{Action}
use Rattle.graph.specs.declared.steps.Action.TheVariants as action
use Rattle.record.specs.declared.Record.{Record}
use Rattle.array.specs.Admission.{AdmissionBy, Admission}
use Rattle.array.specs.Answers.{step_values}
use Rattle.array.specs.Collection.{CollectionBy, Collection}
use Rattle.array.specs.Opening.{OpeningBy, Opening}
use Rattle.array.specs.Outcomes.{opened_state, state_after, OpeningIs, AdmissionIs, SteppingIs, CollectionIs, RebuildingSaid, RebuildingIs}
use Rattle.array.specs.Rebuilding.{Rebuilding}
use Rattle.array.specs.Stepping.{SteppingBy, Stepping}
use Rattle.array.specs.declared.answers.Changed.{Changed}
use Rattle.array.specs.declared.answers.Filled.{Filled}
use Rattle.array.specs.declared.answers.Stepped.{Stepped}
use Rattle.array.specs.declared.answers.Stepped.TheVariants as stepped
use Rattle.calls.specs.Lent.{OpeningLent, AdmissionLent, SteppingLent, CollectionLent, RebuildingLent}

-- two answers of one reply are equal where accepted ones are of which something more is known
module _ {A : Type 0} {said : A → Reply} (accepts : (a : A) → (said a).number ≡ 0) {P : A → Type 0} (one : (a b : A) → said a ≡ said b → P a → P b → a ≡ b) where
  apart : (a : A) (r : Refusal) → (said a).number ≡ number_of r → ⊥
  apart a r e = eqb-false (number_of r) 0 (number_not_0 r) (sym e ∙ accepts a)

  same : (a b : Result A Refusal) {r : Reply} → reply_of said a ≡ r → reply_of said b ≡ r → IfOk a P → IfOk b P → a ≡ b
  same (Ok a) (Ok b) e f p q = ap Ok (one a b (e ∙ sym f) p q)
  same (Ok a) (Err s) e f p q = absurd (apart a s (ap (λ (x : Reply). x.number) (e ∙ sym f)))
  same (Err r) (Ok b) e f p q = absurd (apart b r (ap (λ (x : Reply). x.number) (f ∙ sym e)))
  same (Err r) (Err s) e f p q = ap Err (refusal_named r s (e ∙ sym f))

step_accepts : (a : Stepped) → (step_values a).number ≡ 0
step_accepts stepped.Done = refl
step_accepts (stepped.Chosen g) = refl

-- the same state, the same record at the same place after the same answer, and the same state after the same stripe
state_one : {s : State} (a b : State) → accepted 0 0 ≡ accepted 0 0 → a ≡ s → b ≡ s → a ≡ b
state_one a b e p q = p ∙ sym q

opened : (a : Result State Refusal) {s : State} → opened_state a ≡ s → IfOk a (λ b. b ≡ s)
unfolding opened_state
opened (Ok a) e = e
opened (Err r) e = tt

left : (a : Result State Refusal) (old : State) {s : State} → result_unwrap_or a old ≡ s → IfOk a (λ b. b ≡ s)
left (Ok a) old e = e
left (Err r) old e = tt

module _ {A : Type 0} where
  three : (made : A → ℕ → Record → Changed A) {u v : A} {i j : ℕ} {r s : Record} → u ≡ v → i ≡ j → r ≡ s → made u i r ≡ made v j s
  three made e p q = cc

  changed : (a b : Changed A) → a.answer ≡ b.answer → a.place ≡ b.place → a.«record» ≡ b.«record» → a ≡ b
  changed a b e p q = three (λ x i r. record { answer = x; place = i; «record» = r }) e p q

value_changed : {i : ℕ} {r : Record} (a b : Changed ℕ) → accepted a.answer 0 ≡ accepted b.answer 0
    → (a.place ≡ i) × (a.«record» ≡ r) → (b.place ≡ i) × (b.«record» ≡ r) → a ≡ b
value_changed a b e p q = changed a b (ap (λ (x : Reply). x.first) e) (p.0 ∙ sym q.0) (p.1 ∙ sym q.1)

-- ---- the calls, lent the table

module _ {d : Opening} {a b : Result State Refusal} {t u : List Record} where
  pub open_one : OpeningLent d a t → OpeningLent d b u → (a ≡ b) × (t ≡ u)
  open_one p q = (same (λ a. refl) state_one a b p.reply q.reply (opened a p.new_state) (opened b q.new_state), cc)

module _ {d : Admission} {a b : Result ℕ Refusal} {t u : List Record} {v w : List ℕ} where
  pub admit_one : AdmissionLent d a t v → AdmissionLent d b u w → (a ≡ b) × (t ≡ u) × (v ≡ w)
  admit_one p q = (value_named a b (p.reply ∙ sym q.reply), cc, cc)

module _ {d : Stepping} {a b : Result Stepped Refusal} {t u : List Record} {v w m n : List ℕ} where
  pub step_one : SteppingLent d a t v m → SteppingLent d b u w n → (a ≡ b) × (t ≡ u) × (v ≡ w) × (m ≡ n)
  step_one p q = (same step_accepts (λ a b e f g. f ∙ sym g) a b p.reply q.reply p.answered q.answered, cc, cc, cc)

module _ {d : Collection} {a b : Result ℕ Refusal} {t u : List Record} {m n : List ℕ} where
  pub collect_one : CollectionLent d a t m → CollectionLent d b u n → (a ≡ b) × (t ≡ u) × (m ≡ n)
  collect_one p q = (value_named a b (p.reply ∙ sym q.reply), cc, cc)

module _ {d : Rebuilding} {a b : Result ℕ Refusal} {s z : State} {m n : List ℕ} where
  pub rebuild_one : RebuildingLent d a s m → RebuildingLent d b z n → (a ≡ b) × (s ≡ z) × (m ≡ n)
  rebuild_one p q = (value_named a b (p.reply ∙ sym q.reply), cc, cc)

-- report and start, lent the state
module _ {d : Reporting} {a b : Result ⊤ Refusal} {s z : State} where
  pub report_one : ReportingIs d a s → ReportingIs d b z → (a ≡ b) × (s ≡ z)
  report_one p q = (done_named a b (p.reply ∙ sym q.reply), cc)

module _ {d : Starting} {a b : Result ⊤ Refusal} {s z : State} where
  pub start_one : StartingIs d a s → StartingIs d b z → (a ≡ b) × (s ≡ z)
  start_one p q = (done_named a b (p.reply ∙ sym q.reply), cc)

-- a scan: of an open array, of one with nothing open, and with stripes to pass over
module _ {r : Reply} {a b : Result ⊤ Refusal} where
  pub scan_one : done_reply a ≡ r → done_reply b ≡ r → a ≡ b
  scan_one p q = done_named a b (p ∙ sym q)

-- ---- the calls by a survey, and report and start by value

module _ {d : OpeningBy} {a b : Result State Refusal} where
  pub open_value_one : OpeningIs d a → OpeningIs d b → a ≡ b
  open_value_one p q = same (λ a. refl) state_one a b p.reply q.reply (opened a p.state) (opened b q.state)

module _ {d : Reporting} {old : State} {a b : Result State Refusal} where
  pub report_value_one : ReportedIs d old a → ReportedIs d old b → a ≡ b
  report_value_one p q = same (λ a. refl) state_one a b p.reply q.reply (left a old p.state_left) (left b old q.state_left)

module _ {d : Starting} {old : State} {a b : Result State Refusal} where
  pub start_value_one : StartedIs d old a → StartedIs d old b → a ≡ b
  start_value_one p q = same (λ a. refl) state_one a b p.reply q.reply (left a old p.state_left) (left b old q.state_left)

module _ {d : AdmissionBy} {a b : Result (Changed ℕ) Refusal} {v w : List ℕ} where
  pub admit_value_one : AdmissionIs d a v → AdmissionIs d b w → (a ≡ b) × (v ≡ w)
  admit_value_one p q = (same (λ a. refl) value_changed a b p.reply q.reply p.changed q.changed, cc)

module _ {d : SteppingBy} {a b : Result (Changed Stepped) Refusal} {v w m n : List ℕ} where
  pub step_value_one : SteppingIs d a v m → SteppingIs d b w n → (a ≡ b) × (v ≡ w) × (m ≡ n)
  step_value_one p q = (
    same (λ a. step_accepts a.answer) (λ a b e f g. changed a b (f.0 ∙ sym g.0) (f.1.0 ∙ sym g.1.0) (f.1.1 ∙ sym g.1.1))
        a b p.reply q.reply (both a _ _ p.answered p.changed) (both b _ _ q.answered q.changed),
    cc,
    cc,
  )
    where
      both : (a : Result (Changed Stepped) Refusal) (P Q : Changed Stepped → Type 0) → IfOk a P → IfOk a Q → IfOk a (λ c. P c × Q c)
      both (Ok c) P Q x y = (x, y)
      both (Err r) P Q x y = tt

module _ {d : CollectionBy} {a b : Result (Changed ℕ) Refusal} {m n : List ℕ} where
  pub collect_value_one : CollectionIs d a m → CollectionIs d b n → (a ≡ b) × (m ≡ n)
  collect_value_one p q = (same (λ a. refl) value_changed a b p.reply q.reply p.changed q.changed, cc)

-- a rebuild step, and then its block written
filled : (made : ℕ → State → Filled) {s z : ℕ} {t u : State} → s ≡ z → t ≡ u → made s t ≡ made z u
filled made p q = cc

state_filled : (st : State) (a : Result Filled Refusal) {s : State} → state_after st a ≡ s → IfOk a (λ f. f.state ≡ s)
state_filled st (Ok f) e = e
state_filled st (Err r) e = tt

-- before the block is written and with it
module _ {d : Rebuilding} {st : State} {image : List ℕ} {a b : Result Filled Refusal} where
  pub rebuild_said_one : RebuildingSaid d st image a → RebuildingSaid d st image b → a ≡ b
  rebuild_said_one p q =
      same (λ a. refl) (λ a b e f g. filled (λ s t. record { stripe = s; state = t }) (ap (λ (x : Reply). x.first) e) (f ∙ sym g))
      a b p.reply q.reply (state_filled st a p.state_left) (state_filled st b q.state_left)

module _ {d : Rebuilding} {st : State} {m n : List ℕ} {a b : Result Filled Refusal} where
  pub rebuild_value_one : RebuildingIs d st a m → RebuildingIs d st b n → (a ≡ b) × (m ≡ n)
  rebuild_value_one p q =
      let answers : a ≡ b =
      same (λ a. refl) (λ a b e f g. filled (λ s t. record { stripe = s; state = t }) (ap (λ (x : Reply). x.first) e) (f ∙ sym g))
      a b p.reply q.reply (state_filled st a p.state_left) (state_filled st b q.state_left) in
      (answers, p.image_left ∙ sym q.image_left)

-- ---- placement, and what a step does

module _ {r : Reply} where
  pub place_one : (a b : Result Placed Refusal) → placed_reply a ≡ r → placed_reply b ≡ r → a ≡ b
  place_one a b p q = placed_one a b (p ∙ sym q)

  pub block_at_one : (a b : Result Held Refusal) → held_reply a ≡ r → held_reply b ≡ r → a ≡ b
  block_at_one a b p q = held_one a b (p ∙ sym q)

-- the choice of a graph, and the graph of a number
abbrev graph_of : ℕ → Graph
graph_of g =
    cond (eqb g 1) graph.PlainRead (
    cond (eqb g 2) graph.DegradedRead (
    cond (eqb g 3) graph.SmallWrite (
    cond (eqb g 4) graph.ReconstructWrite (
    cond (eqb g 5) graph.LargeWrite graph.ParityFailed))))

graph_named : (a : Graph) → graph_of (number_of_graph a) ≡ a
graph_named graph.PlainRead = refl
graph_named graph.DegradedRead = refl
graph_named graph.SmallWrite = refl
graph_named graph.ReconstructWrite = refl
graph_named graph.LargeWrite = refl
graph_named graph.ParityFailed = refl

pub choose_one : {g : ℕ} (a b : Graph) → number_of_graph a ≡ g → number_of_graph b ≡ g → a ≡ b
choose_one a b p q = sym (graph_named a) ∙ ap graph_of (p ∙ sym q) ∙ graph_named b

six : (a : Graph) → (1 ≤ number_of_graph a) × (number_of_graph a ≤ 6)
six graph.PlainRead = (omega arith, omega arith)
six graph.DegradedRead = (omega arith, omega arith)
six graph.SmallWrite = (omega arith, omega arith)
six graph.ReconstructWrite = (omega arith, omega arith)
six graph.LargeWrite = (omega arith, omega arith)
six graph.ParityFailed = (omega arith, omega arith)

none : {g : ℕ} (a : Graph) → number_of_graph a ≡ g → (1 ≤ g → 6 < g) → ⊥
none a p q =
    let s = six a in
    let h = q (omega (arith, s.0, p)) in
    omega (arith, s.1, p, h)

pub graph_one : (g : ℕ) (a b : Result Graph UnknownGraph) → Numbered g a → Numbered g b → a ≡ b
graph_one g (Ok a) (Ok b) p q = ap Ok (choose_one a b p q)
graph_one g (Ok a) (Err e) p q = absurd (none a p q.1)
graph_one g (Err e) (Ok b) p q = absurd (none b q p.1)
graph_one g (Err e) (Err f) p q = ap Err (ap (λ (n : ℕ). record { 0 = n }) (p.0 ∙ sym q.0))

-- what a step does, of the graphs
abbrev action_of : Step → Option Action
action_of (rd p) = Some (action.Read p)
action_of xr = Some action.Sum
action_of (wr p) = Some (action.Write p)
action_of nil = None

action_named : (a : Option Action) → action_of (action_step a) ≡ a
unfolding action_step
action_named (Some (action.Read p)) = refl
action_named (Some action.Sum) = refl
action_named (Some (action.Write p)) = refl
action_named None = refl

pub step_of_one : {s : Step} (a b : Option Action) → action_step a ≡ s → action_step b ≡ s → a ≡ b
step_of_one a b p q = sym (action_named a) ∙ ap action_of (p ∙ sym q) ∙ action_named b
