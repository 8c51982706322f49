-- What scan answers, as the code meets its tests: the look that parity's code takes is the one that the call asks for.
-- Assumes nothing.
use Prim.Native.Nat.{ℕ, ◌≤◌}
use mathlib.Core.Bool.{Bool, true, false, not, ◌||◌}
use mathlib.Core.List.{List, [], ◌∷◌}
use mathlib.Core.Logic.{⊎_elim}
use mathlib.Core.Path.{◌≡◌, refl, sym, ap, ◌∙◌}
use native.Mathlib.Omega.{arith}
use lib.Dec.{leb}
use borrow.Author.Tests.{eq-eqb, ne_eqb, eqb-false, leb-true}
use Rattle.terms.specs.Lists.{among, every}
use Rattle.terms.specs.Reply.{Reply, row, first_row, accepted, refused, refusal_reply, number_of}
use Rattle.terms.specs.declared.refusal.Refusal.{Refusal}
use Rattle.terms.proofs.Answers.{number_not_0}
use Rattle.terms.proofs.Refusals.{giving, given}
use Rattle.terms.proofs.Rows.{or_false_left}
use Rattle.geometry.specs.Limits.{none, beyond_state}
use Rattle.geometry.specs.Store.{image_wrong}
use Rattle.geometry.specs.declared.State.{State}
use Rattle.parity.specs.Parity.{right_parity, disagreement, looked}
use Rattle.parity.specs.Scan.{look_reply}
use Rattle.parity.proofs.Replies.{look_all, last_row}
use Rattle.record.specs.Survey.{held_in}
use Rattle.record.specs.declared.Survey.{Survey}
use Rattle.array.specs.Lent.{table_wrong, lent_rows}
use Rattle.array.specs.Refusals.{scan_rows, scan_refusal}
use Rattle.array.specs.Scan.{scan_reply_by}
use Rattle.array.proofs.LentRows.{beyond_refuses, lent_refuses, lent_passes, lent_long}

module _ (st : State) (v : Survey) (image : List ℕ) where
  abbrev wrong : Bool
  wrong = image_wrong st image || table_wrong st v.len

  -- refused by a number that is no 13
  refused_by : (k : ℕ) → scan_refusal st v image ≡ k → ¬ (k ≡ 0) → k ≤ 12 → refused k ≡ scan_reply_by st v image
  unfolding scan_reply_by
  refused_by k e h small =
      let no_accept = ne_eqb k 0 h in
      let no_values = ne_eqb k 13 (λ q. omega arith) in
      sym (rw e (simp (no_accept, no_values)))

  pub scan_beyond : beyond_state st ≡ true → refused 1 ≡ scan_reply_by st v image
  unfolding scan_refusal
  scan_beyond e = refused_by 1 (beyond_refuses st wrong v.sound (scan_rows st v image) e) (λ z. omega arith) (omega arith)

  -- by one of the rows 1 to 4
  pub scan_lent : (r : Refusal) → refusal_reply r ≡ refused (first_row (lent_rows st wrong v.sound)) → refusal_reply r ≡ scan_reply_by st v image
  unfolding scan_refusal giving every lent_rows
  scan_lent r e =
      let first : ℕ = first_row (lent_rows st wrong v.sound) in
      let number : number_of r ≡ first = ap (λ (p : Reply). p.number) e in
      let some : ¬ (number_of r ≡ 0) = eqb-false (number_of r) 0 (number_not_0 r) in
      let small : first ≤ 4 = ⊎_elim (λ z. omega arith) (λ t. leb-true first 4 t) (given (λ k. leb k 4) (lent_rows st wrong v.sound) refl) in
      e ∙ refused_by first (sym (ap (λ (p : Reply). p.number) (lent_refuses st wrong v.sound (scan_rows st v image) r e)) ∙ number) (λ z. some (number ∙ z)) (omega arith)

  module _ (passed : accepted 0 0 ≡ refused (first_row (lent_rows st wrong v.sound))) where
    own : scan_refusal st v image ≡ first_row (scan_rows st v image)
    unfolding scan_refusal
    own = lent_passes st wrong v.sound (scan_rows st v image) passed

    pub scan_out : ¬ (st.out ≡ none) → refused 12 ≡ scan_reply_by st v image
    unfolding scan_rows first_row
    scan_out h = refused_by 12 (own ∙ simp (ne_eqb st.out none h)) (λ z. omega arith) (omega arith)

    -- nothing else is refused: the look at the stripes that are not held
    pub scan_all : beyond_state st ≡ false → st.out ≡ none → look_reply st image (among v.held) ≡ scan_reply_by st v image
    unfolding scan_reply_by scan_rows first_row looked held_in among
    scan_all b o =
        let right : Bool = right_parity st.cards st.stripes st.block image (held_in v) in
        let number : scan_refusal st v image ≡ first_row (row (not right) 13 ∷ []) = own ∙ simp (eq-eqb st.out none o) in
        let whole = or_false_left (image_wrong st image) (table_wrong st v.len) (lent_long st wrong v.sound [] passed) in
        sym (look_all st image (among v.held) b whole)
        ∙ last_row right (disagreement st.cards st.stripes st.block image (held_in v))
        ∙ sym (rw number)

pub ruleset scan_tests = (scan_beyond, scan_lent, scan_out, scan_all)
