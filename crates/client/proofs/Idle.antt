-- coppicetune_scan, which is lent no table: of an array with nothing open, no card out and not lost it answers 0.
-- Assumes nothing.
use Prim.Native.Nat.{ℕ, ◌<◌}
use mathlib.Core.Bool.{true, false, not}
use mathlib.Core.List.{List, []}
use mathlib.Core.Path.{◌≡◌, refl, sym, ap, ◌∙◌}
use native.Mathlib.Omega.{arith}
use borrow.Author.Tests.{eq-eqb, ne_eqb}
use lib.Dec.{eqb}
use lib.ListN.{length, get_or}
use Rattle.terms.specs.Reply.{first_row}
use Rattle.terms.proofs.Rows.{first_row_skip}
use Rattle.geometry.specs.Limits.{none, beyond_state, is_lost}
use Rattle.geometry.specs.Store.{image_size, image_wrong}
use Rattle.geometry.specs.declared.State.{State}
use Rattle.parity.specs.Parity.{right_parity}
use Rattle.parity.specs.Scan.{nothing_held, idle_scan_refusal, idle_scan_reply}
use Rattle.record.specs.Life.{free, is_open}
use Rattle.record.specs.Sound.{holds, held}
use Rattle.record.specs.declared.Record.{Record}
use Rattle.history.proofs.Demand3.{demand_3}
use Rattle.history.proofs.Events.{history_sure}
use Rattle.history.proofs.Parities.{right_intro}
use Rattle.history.proofs.Stripes.{parity_right}
use Rattle.record.proofs.SoundTables.{held_intro}
use Rattle.history.specs.Account.{Account}
use Rattle.history.specs.History.{History, Whole}
use Rattle.history.specs.Promise.{Open, Keeps}
use Rattle.history.specs.World.{World, record_at, play}
use Rattle.recorder.specs.Packing.{packed}
use Rattle.client.specs.Run.{functions, Run}
use Rattle.client.proofs.Runs.{functions_history}

-- where no record is open, no stripe is held
none_held : (table : List Record) (K : ℕ) → length table ≡ K → ((i : ℕ) → i < K → is_open (get_or table i free) ≡ false) → (s : ℕ) → held table s ≡ false
unfolding holds
none_held table K long closed s = held_intro table s (λ i h. rw (closed i (omega arith)))

-- the limits hold, the image is as long as it should be, the array is not lost, none is out and parity is right everywhere: the scan without a
-- table is accepted
module _ (st : State) (image : List ℕ) where
  accepted : beyond_state st ≡ false → length image ≡ image_size st.cards st.stripes st.block → st.lost ≡ 0 → st.out ≡ none
      → right_parity st.cards st.stripes st.block image nothing_held ≡ true → idle_scan_refusal st image ≡ 0
  unfolding idle_scan_refusal image_wrong
  accepted limits long whole out all =
      first_row_skip (beyond_state st) 1 _ limits
      ∙ first_row_skip (image_wrong st image) 2 _ (ap not (eq-eqb (length image) (image_size st.cards st.stripes st.block) long))
      ∙ first_row_skip (is_lost st) 4 _ (ap not (eq-eqb st.lost 0 whole))
      ∙ first_row_skip (not (eqb st.out none)) 12 _ (ap not (eq-eqb st.out none out))
      ∙ first_row_skip (not (right_parity st.cards st.stripes st.block image nothing_held)) 13 [] (ap not all)
      ∙ (unfold first_row in refl)

-- at the end of a history, whatever answer the contract of coppicetune_scan allows for the state's eight numbers and the image
module _ {w : World} {a : Account} (h : History play w a) (whole : Whole a) (closed : (i : ℕ) → ¬ Open a i) where
  -- the records are not open, as the account says
  none_open : (i : ℕ) → i < w.state.records → is_open (record_at w i) ≡ false
  unfolding Keeps
  none_open i below =
      let p = demand_3 w a h whole in
      let there : i < a.state.records = rw p.same_state at below in
      ne_eqb (record_at w i).phase 1 (λ e. closed i (there, sym (p.agrees i there).same_phase ∙ e))

  pub idle_scan : a.state.out ≡ none → (answer : ℕ) → answer ≡ packed (idle_scan_reply w.state w.image) → answer ≡ 0
  unfolding idle_scan_reply packed Keeps
  idle_scan out answer e =
      let st : State = w.state in
      let none_out : st.out ≡ none = ap (λ (s : State). s.out) (demand_3 w a h whole).same_state ∙ out in
      let sure = history_sure h whole in
      let idle = none_held w.table st.records sure.right.table_right none_open in
      let all = right_intro st.cards st.stripes st.block w.image nothing_held (λ s b hs hb _. parity_right w a sure s hs (idle s) none_out b hb) in
      e ∙ rw (accepted st w.image sure.right.limits sure.right.image_right sure.right.whole none_out all)

-- and so at the end of a run of the C functions
pub functions_idle_scan : {w : World} {a : Account} → Run functions w a → Whole a → ((i : ℕ) → ¬ Open a i) → a.state.out ≡ none
    → (answer : ℕ) → answer ≡ packed (idle_scan_reply w.state w.image) → answer ≡ 0
functions_idle_scan r = idle_scan (functions_history r).history
