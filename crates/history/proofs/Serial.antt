-- THE SERIAL THEOREM: the finished requests, taken singly in the order of their last steps, give the same reads on the plain row. What
-- "finished", "taken singly" and "give" mean stands in specs/Serial.antt. It holds of every engine that keeps the promise, and so of ours: the
-- account keeps the books of the replay, whatever the engine, and the promise says that the array is as the account says.
-- Assumes nothing.
use Prim.Native.Nat.{ℕ, ◌+◌, ◌*◌, ◌-◌}
use mathlib.Core.Bool.{Bool, true, false, cond, not, ◌&&◌}
use mathlib.Core.List.{List, [], ◌∷◌, ◌++◌}
use mathlib.Core.Logic.{◌⊎◌, inl, inr}
use mathlib.Core.Path.{◌≡◌, refl, sym, ap, ap₂, subst, ◌∙◌}
use native.Mathlib.Omega.{arith}
use borrow.Author.Tests.{eqb-true, eqb-false, eq-eqb, ne_eqb}
use lib.Dec.{ltb, eqb}
use lib.ListN.{length, drop}
use Rattle.terms.specs.Lists.{part}
use Rattle.terms.specs.Sets.{bit}
use Rattle.terms.proofs.Rows.{truth}
use Rattle.geometry.specs.Limits.{none, no_fill}
use Rattle.geometry.specs.Placement.{stripe_of, unit_of, block_of}
use Rattle.geometry.specs.Report.{with_out, with_lost, with_fill}
use Rattle.geometry.specs.declared.State.{State}
use Rattle.record.specs.Life.{is_finished}
use Rattle.array.specs.Lent.{rank}
use Rattle.stripe.specs.Blocks.{changed}
use Rattle.stripe.proofs.Sums.{changed_same, changed_other}
use Rattle.history.specs.Account.{Account, Entry, vacant, requested, counted, with_entry, step_noted, reported, filled_at, entered, noted}
use Rattle.history.specs.History.{History, opened, next, decayed, opened_account, Whole}
use Rattle.history.specs.Promise.{Promise, Keeps}
use Rattle.history.specs.Row.{gathered, units_of_row, unit_in, written_row}
use Rattle.history.specs.Serial.{Request, row_after, bytes_of, Gave, replay, latest, request_at, finishes, finished_of, replay_of, HandsOver, HandedOver, Serial, first_of, seen_of}
use Rattle.history.specs.World.{World, Event, admit, step, report, collect, scan, start, rebuild, Outcome, Engine, play, record_at}
use Rattle.history.proofs.Books.{whole_call}
use Rattle.history.proofs.Demand3.{demand_3}

-- ---- rows depend on the geometry alone

module _ (st st' : State) {row row' : ℕ → List ℕ} (cards : st.cards ≡ st'.cards) (block : st.block ≡ st'.block) (same : row ≡ row') where
  units_same : (s mask : ℕ) → units_of_row st row s mask ≡ units_of_row st' row' s mask
  unfolding units_of_row
  units_same s mask = ap₂ (λ (N : ℕ) (r : ℕ → List ℕ). gathered (N - 1) mask (λ u. r (block_of N s u))) cards same

  written_same : (s mask : ℕ) (payload : List ℕ) → written_row st row s mask payload ≡ written_row st' row' s mask payload
  unfolding written_row unit_in
  written_same s mask payload =
      ap₂ (λ (N : ℕ) (r : ℕ → List ℕ). made N st.block r) cards same ∙ ap (λ (B : ℕ). made st'.cards B row') block
    where
      made : ℕ → ℕ → (ℕ → List ℕ) → ℕ → List ℕ
      made N B r L = cond (eqb (stripe_of N L) s && bit (unit_of N L) mask) (part (rank mask (unit_of N L) * B) B payload) (r L)

-- ---- the account keeps the books of the replay

-- an entry and what the latest request of its record gave: nothing is due of a write, and of a finished request that
pub record Due (e : Entry) (given : List ℕ) : Type 0 where
  pub of_write : e.write ≡ true → e.due ≡ []
  pub of_finished : e.phase ≡ 2 → e.due ≡ given

-- the account a after these finished requests, from the account at the start
pub record Books (first a : Account) (rs : List Request) : Type 0 where
  pub same_cards : a.state.cards ≡ first.state.cards
  pub same_block : a.state.block ≡ first.state.block
  pub same_row : a.row ≡ (replay first.state first.row rs).row
  pub same_due : (i : ℕ) → Due (a.entry i) (latest i (replay first.state first.row rs).gave)

module _ (first a : Account) (rs : List Request) (books : Books first a rs) where
  abbrev gave : List Gave
  gave = (replay first.state first.row rs).gave

  -- an entry of which nothing is due, at any record
  enters : (i : ℕ) (e : Entry) → e.due ≡ [] → ¬ (e.phase ≡ 2) → Books first (with_entry a i e) rs
  unfolding with_entry
  enters i e none-due unfinished =
      record {
        same_cards = books.same_cards;
        same_block = books.same_block;
        same_row = books.same_row;
        same_due = λ j. go j (truth (eqb j i));
      }
    where
      go : (j : ℕ) → (eqb j i ≡ true) ⊎ (eqb j i ≡ false) → Due (changed a.entry i e j) (latest j gave)
      go j (inl h) = rw (changed_same a.entry i e j (eqb-true j i h)) (record { of_write = λ _. none-due; of_finished = λ f. absurd (unfinished f) })
      go j (inr h) = rw (changed_other a.entry i e j (eqb-false j i h)) (books.same_due j)

  -- another state of the same geometry
  restated : (st : State) → st.cards ≡ a.state.cards → st.block ≡ a.state.block → Books first (record { state = st; row = a.row; entry = a.entry }) rs
  restated st cards block =
      record {
        same_cards = cards ∙ books.same_cards;
        same_block = block ∙ books.same_block;
        same_row = books.same_row;
        same_due = books.same_due;
      }

  -- a step that is not the last one of its request
  steps_on : (i : ℕ) → Books first (step_noted a i false) rs
  unfolding step_noted counted
  steps_on i =
      record {
        same_cards = books.same_cards;
        same_block = books.same_block;
        same_row = books.same_row;
        same_due = λ j. go j (truth (eqb j i));
      }
    where
      e : Entry
      e = counted a.state a.row (a.entry i) false

      go : (j : ℕ) → (eqb j i ≡ true) ⊎ (eqb j i ≡ false) → Due (changed a.entry i e j) (latest j gave)
      go j (inl h) =
          let d = subst (λ (k : ℕ). Due (a.entry i) (latest k gave)) (sym (eqb-true j i h)) (books.same_due i) in
          rw (changed_same a.entry i e j (eqb-true j i h)) (record { of_write = d.of_write; of_finished = d.of_finished })
      go j (inr h) = rw (changed_other a.entry i e j (eqb-false j i h)) (books.same_due j)

  -- the last one
  finishing : (i : ℕ) → Books first (step_noted a i true) (request_at a i ∷ rs)
  unfolding step_noted counted replay row_after bytes_of latest request_at
  finishing i =
      record {
        same_cards = books.same_cards;
        same_block = books.same_block;
        same_row = row_there (a.entry i).write;
        same_due = λ j. go j (truth (eqb j i));
      }
    where
      st : State
      st = first.state

      row : ℕ → List ℕ
      row = (replay first.state first.row rs).row

      x : Entry
      x = a.entry i

      row_there : (t : Bool)
          → cond (true && t) (written_row a.state a.row x.stripe x.mask x.payload) a.row
          ≡ cond t (written_row st row x.stripe x.mask x.payload) row
      row_there true = written_same a.state first.state books.same_cards books.same_block books.same_row x.stripe x.mask x.payload
      row_there false = books.same_row

      bytes_there : (t : Bool) → (t ≡ true → x.due ≡ [])
          → cond (true && not t) (units_of_row a.state a.row x.stripe x.mask) x.due
          ≡ cond t [] (units_of_row st row x.stripe x.mask)
      bytes_there true d = d refl
      bytes_there false d = units_same a.state first.state books.same_cards books.same_block books.same_row x.stripe x.mask

      none_of_write : (t : Bool) → (t ≡ true → x.due ≡ []) → t ≡ true
          → cond (true && not t) (units_of_row a.state a.row x.stripe x.mask) x.due ≡ []
      none_of_write true d e = d refl
      none_of_write false d e = absurd (let z : ◌≡◌ {A = ℕ} 0 1 = ap (λ (b : Bool). cond b 1 0) e in omega arith)

      go : (j : ℕ) → (eqb j i ≡ true) ⊎ (eqb j i ≡ false)
          → Due (changed a.entry i (counted a.state a.row x true) j) (cond (eqb i j) (cond x.write [] (units_of_row st row x.stripe x.mask)) (latest j gave))
      go j (inl h) =
          rw (changed_same a.entry i (counted a.state a.row x true) j (eqb-true j i h), eq-eqb i j (sym (eqb-true j i h)))
          (record { of_write = none_of_write x.write (books.same_due i).of_write; of_finished = λ _. bytes_there x.write (books.same_due i).of_write })
      go j (inr h) =
          rw (changed_other a.entry i (counted a.state a.row x true) j (eqb-false j i h), ne_eqb i j (λ e. eqb-false j i h (sym e)))
          (books.same_due j)

  -- a step, its last or not
  steps : (i : ℕ) (last : Bool) → Books first (step_noted a i last) (cond last (request_at a i ∷ []) [] ++ rs)
  steps i true = finishing i
  steps i false = steps_on i

  -- a report
  reports : (c : ℕ) → Books first (record { state = reported a.state c; row = a.row; entry = a.entry }) rs
  unfolding reported
  reports c = go (eqb a.state.out none) (eqb c a.state.out)
    where
      go : (t u : Bool) → Books first (record { state = cond t (with_out a.state c) (cond u (with_fill a.state no_fill) (with_lost a.state)); row = a.row; entry = a.entry }) rs
      go true u = restated (with_out a.state c) refl refl
      go false true = restated (with_fill a.state no_fill) refl refl
      go false false = restated (with_lost a.state) refl refl

  -- a rebuild step that answers stripe s
  fills : (s : ℕ) → Books first (record { state = filled_at a.state s; row = a.row; entry = a.entry }) rs
  unfolding filled_at
  fills s = go (ltb (s + 1) a.state.stripes)
    where
      go : (t : Bool) → Books first (record { state = cond t (with_fill a.state (s + 1)) (with_out (with_fill a.state no_fill) none); row = a.row; entry = a.entry }) rs
      go true = restated (with_fill a.state (s + 1)) refl refl
      go false = restated (with_out (with_fill a.state no_fill) none) refl refl

  -- an accepted call may alter the books, and a refused one does not
  answered : (t : Bool) (made : Account) → Books first made rs → Books first (cond t made a) rs
  answered true made b = b
  answered false made b = books

  step_answered : (t : Bool) (i : ℕ) (last : Bool)
      → Books first (cond t (step_noted a i last) a) (cond t (cond last (request_at a i ∷ []) []) [] ++ rs)
  step_answered true i last = steps i last
  step_answered false i last = books

  call_books : (e : Event) (o : Outcome) → Books first (cond (eqb o.reply.number 0) (entered a e o) a) (finishes a e o ++ rs)
  unfolding entered finishes
  call_books (admit write s mask payload) o =
      answered (eqb o.reply.number 0) _
      (enters o.reply.first (requested write s mask payload) (unfold requested in refl) (unfold requested in (λ f. omega arith)))
  call_books (step i k) o = step_answered (eqb o.reply.number 0) i (is_finished (record_at o.world i))
  call_books (report c) o = answered (eqb o.reply.number 0) _ (reports c)
  call_books (collect i result) o =
      answered (eqb o.reply.number 0) _ (enters i vacant (unfold vacant in refl) (unfold vacant in (λ f. omega arith)))
  call_books scan o = answered (eqb o.reply.number 0) _ books
  call_books start o = answered (eqb o.reply.number 0) _ (restated (with_fill a.state 0) refl refl)
  call_books rebuild o = answered (eqb o.reply.number 0) _ (fills o.reply.first)

-- at the end of every history, of any engine
pub kept_books : {engine : Engine} {w : World} {a : Account} (h : History engine w a) → Books (first_of h) a (finished_of (seen_of h))
unfolding finished_of first_of seen_of noted
kept_books (opened g out table work image ok) =
    record {
      same_cards = refl;
      same_block = refl;
      same_row = unfold replay in refl;
      same_due = λ i. unfold opened_account vacant in (record { of_write = λ _. refl; of_finished = λ f. absurd (omega arith) });
    }
kept_books {engine} (next {w} {a} h e) = call_books (first_of h) a (finished_of (seen_of h)) (kept_books h) e (engine w e)
kept_books (decayed h image d) = kept_books h

-- ---- and the promise says the rest

module _ (engine : Engine) (keeps : Keeps engine) where
  promised : {w : World} {a : Account} → History engine w a → Whole a → Promise engine w a
  unfolding Keeps
  promised {w} {a} h whole = keeps w a h whole

  -- a collect at the end of a history
  hands_over : {w : World} {a : Account} (h : History engine w a) → Whole a → (e : Event) → HandsOver (replay_of (first_of h) (seen_of h)).gave e (engine w e)
  unfolding HandsOver replay_of
  hands_over h whole (admit write s mask payload) = tt
  hands_over h whole (step i k) = tt
  hands_over h whole (report c) = tt
  hands_over h whole (collect i result) =
      λ ok.
      let p = promised h whole in
      p.collects i result ok
      ∙ ap (λ (l : List ℕ). l ++ drop (length l) result) (((kept_books h).same_due i).of_finished (p.collects_finished i result ok).1)
  hands_over h whole scan = tt
  hands_over h whole start = tt
  hands_over h whole rebuild = tt

  handed_over : {w : World} {a : Account} (h : History engine w a) → Whole a → HandedOver (first_of h) (seen_of h)
  unfolding HandedOver first_of seen_of noted
  handed_over (opened g out table work image ok) whole = tt
  handed_over (next {w} {a} h e) whole = let before = whole_call engine w a e whole in (handed_over h before, hands_over h before e)
  handed_over (decayed h image d) whole = handed_over h whole

  pub serial : {w : World} {a : Account} (h : History engine w a) → Whole a → Serial (first_of h) (seen_of h) w a
  unfolding replay_of
  serial {w} {a} h whole =
      let p = promised h whole in
      let b = kept_books h in
      let row : (L : ℕ) → a.row L ≡ (replay (first_of h).state (first_of h).row (finished_of (seen_of h))).row L = λ L. ap (λ (r : ℕ → List ℕ). r L) b.same_row in
      record {
        collects = handed_over h whole;
        reads = λ i f r. p.reads i f r ∙ (b.same_due i).of_finished f.1;
        row = row;
        units = λ L hL idle works. p.units L hL idle works ∙ row L;
        inferred = λ L hL idle out. p.inferred L hL idle out ∙ row L;
      }

-- of ours
pub play_serial : {w : World} {a : Account} (h : History play w a) → Whole a → Serial (first_of h) (seen_of h) w a
play_serial h whole = serial play demand_3 h whole
