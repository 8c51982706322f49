-- The records that calls make are sound: at admission, after a done step, after a fresh choice.
-- Assumes nothing.
use Prim.Native.Nat.{ℕ, ◌+◌, ◌*◌, ◌^◌, ◌<◌}
use mathlib.Core.Bool.{Bool, true, false, cond, not, ◌&&◌, ◌||◌}
use mathlib.Core.Logic.{◌⊎◌, inl, inr, ⊎_elim}
use mathlib.Core.Path.{◌≡◌, refl, sym, ap, ◌∙◌}
use native.Mathlib.Omega.{arith}
use borrow.Author.Tests.{eq-eqb, eqb-false, ltb-true, le-leb, not-true}
use lib.Dec.{ltb, leb, eqb}
use Rattle.terms.specs.Sets.{within}
use Rattle.terms.proofs.Rows.{and_left, and_right, and_both}
use Rattle.geometry.proofs.Missing.{out_legal}
use Rattle.geometry.specs.Limits.{none, beyond_state}
use Rattle.geometry.specs.Placement.{out_in}
use Rattle.geometry.specs.declared.State.{State}
use Rattle.graph.proofs.Laws.{closed_none}
use Rattle.graph.specs.Choice.{choose}
use Rattle.graph.specs.Order.{after, complete}
use Rattle.record.specs.Life.{is_open, is_write, units_of, chosen_at, missing_in, admitted, stepped, afresh}
use Rattle.record.specs.Sound.{legal_mask, legal_chosen, right_graph, right_steps, lacks_none, right_count}
use Rattle.record.specs.declared.Record.{Record}
use Rattle.stripe.proofs.Chosen.{Chosen, degraded_read, plain_read, parity_failed, large_write, reconstruct_out, small_out, small_none, reconstruct_none, chosen}
use Rattle.stripe.proofs.Heart.{numbers}
use Rattle.stripe.specs.Invariant.{Proper}
use Rattle.stripe.specs.Request.{begun, advanced, chosen_afresh}
use Rattle.history.proofs.Invariant.{request_of}
use Rattle.record.proofs.Clauses.{Fit, chosen_none, chosen_missing, chosen_any, open_chosen}

-- a legal mask as facts
pub mask_some : (n mask : ℕ) → legal_mask n mask ≡ true → ¬ (mask ≡ 0)
unfolding legal_mask
mask_some n mask e = eqb-false mask 0 (not-true (eqb mask 0) (and_left (not (eqb mask 0)) (ltb mask (2 ^ n)) e))

pub mask_units : (n mask : ℕ) → legal_mask n mask ≡ true → mask < 2 ^ n
unfolding legal_mask
mask_units n mask e = ltb-true mask (2 ^ n) (and_right (not (eqb mask 0)) (ltb mask (2 ^ n)) e)

-- the table chooses one of the six graphs
module _ (n mask x : ℕ) where
  legal_row : {w : Bool} {g : ℕ} → Chosen n mask x w g → within 1 6 g ≡ true
  unfolding within
  legal_row (degraded_read m) = refl
  legal_row (plain_read m) = refl
  legal_row (parity_failed e) = refl
  legal_row (large_write e f) = refl
  legal_row (reconstruct_out e) = refl
  legal_row (small_out e) = refl
  legal_row (small_none e f) = refl
  legal_row (reconstruct_none e) = refl

  choice_legal : (write : Bool) → within 1 6 (choose n write mask x) ≡ true
  choice_legal write = legal_row (chosen n mask x write)

-- the same requests, as a stripe's theory has them
pub request_begun : (st : State) (write : Bool) (s mask : ℕ)
    → request_of st (admitted st write s mask) ≡ begun (units_of st) write mask (missing_in st s)
unfolding admitted begun
request_begun st true s mask = refl
request_begun st false s mask = refl

pub request_advanced : (st : State) (r : Record) (k : ℕ) → request_of st (stepped st r k) ≡ advanced (request_of st r) k
unfolding stepped advanced
request_advanced st r k = refl

pub request_afresh : (st : State) (r : Record)
    → request_of st (afresh st r) ≡ chosen_afresh (units_of st) (request_of st r) (missing_in st r.stripe)
unfolding afresh chosen_afresh
request_afresh st r = refl

pub admitted_fit : (st : State) (write : Bool) (s mask : ℕ) → s < st.stripes → legal_mask (units_of st) mask ≡ true
    → Fit st (admitted st write s mask)
unfolding admitted begun right_graph right_steps right_count lacks_none
admitted_fit st write s mask h m =
    record {
      going = refl;
      kind = kind write;
      stripe_below = h;
      mask_legal = m;
      graph_legal = choice_legal (units_of st) mask (missing_in st s) write;
      chosen_legal = chosen_missing st (admitted st write s mask) refl refl;
      right_graph_law = eq-eqb (choose (units_of st) write mask (missing_in st s)) _ (ap (λ (w : Bool). choose (units_of st) w mask (missing_in st s)) (sym (same write)));
      right_steps_law = closed_none (units_of st) (choose (units_of st) write mask (missing_in st s)) mask (missing_in st s);
      right_count_law = and_both _ (leb 0 (2 * units_of st + 2))
          (ap not wanting)
          (le-leb 0 (2 * units_of st + 2) (omega arith));
    }
  where
    n : ℕ
    n = units_of st

    x : ℕ
    x = missing_in st s

    wanting : complete n (choose n write mask x) mask x 0 ≡ false
    wanting = (numbers n).starts_wanting x (begun n write mask x) ((numbers n).started x write mask (mask_some n mask m) (mask_units n mask m)) refl

    kind : (w : Bool) → within 0 1 (cond w 1 0) ≡ true
    kind true = unfold within in refl
    kind false = unfold within in refl

    same : (w : Bool) → eqb (cond w 1 0) 1 ≡ w
    same true = refl
    same false = refl

pub stepped_fit : (st : State) (r : Record) (k x : ℕ) → beyond_state st ≡ false → is_open r ≡ true → Fit st r
    → Proper (units_of st) x (request_of st (stepped st r k)) → Fit st (stepped st r k)
unfolding stepped right_graph right_steps right_count lacks_none
stepped_fit st r k x limits o f p =
    record {
      going = going (complete (units_of st) r.graph r.mask (chosen_at st r) (after r.done k));
      kind = f.kind;
      stripe_below = f.stripe_below;
      mask_legal = f.mask_legal;
      graph_legal = f.graph_legal;
      chosen_legal = known (complete (units_of st) r.graph r.mask (chosen_at st r) (after r.done k)) (open_chosen st r o f.chosen_legal);
      right_graph_law = f.right_graph_law;
      right_steps_law = p.in_order;
      right_count_law = counted (complete (units_of st) r.graph r.mask (chosen_at st r) (after r.done k)) refl;
    }
  where
    -- the record after it, finished or not
    next : Bool → Record
    next t =
        record {
          phase = cond t 2 1;
          write = r.write;
          stripe = r.stripe;
          mask = r.mask;
          graph = r.graph;
          chosen = r.chosen;
          done = after r.done k;
          count = r.count + 1;
        }

    -- a finished one's card is any that was out
    known : (t : Bool) → (r.chosen ≡ none) ⊎ (r.chosen ≡ out_in st r.stripe) → legal_chosen st (next t) ≡ true
    known t (inl e) = chosen_none st (next t) e
    known false (inr e) = chosen_missing st (next false) refl e
    known true (inr e) =
        ⊎_elim (λ l. chosen_any st (next true) refl (omega (arith, e, l))) (λ z. chosen_none st (next true) (e ∙ z)) (out_legal st limits r.stripe)

    going : (t : Bool) → (eqb (cond t 2 1) 1 || eqb (cond t 2 1) 2) ≡ true
    going true = refl
    going false = refl

    counted : (t : Bool) → complete (units_of st) r.graph r.mask (chosen_at st r) (after r.done k) ≡ t
        → cond (eqb (cond t 2 1) 1) (not t && leb (r.count + 1) (2 * units_of st + 2)) (eqb (cond t 2 1) 2 && (t && leb (r.count + 1) (2 * units_of st + 3))) ≡ true
    counted true e = le-leb (r.count + 1) (2 * units_of st + 3) ((numbers (units_of st)).at_most x (request_of st (stepped st r k)) p)
    counted false e = le-leb (r.count + 1) (2 * units_of st + 2) ((numbers (units_of st)).at_most_open x (request_of st (stepped st r k)) p e)

pub afresh_fit : (st : State) (r : Record) (x : ℕ) → Fit st r → Proper (units_of st) x (request_of st (afresh st r)) → Fit st (afresh st r)
unfolding afresh right_graph right_steps right_count lacks_none
afresh_fit st r x f p =
    let y = missing_in st r.stripe in
    let wanting = (numbers (units_of st)).starts_wanting x (request_of st (afresh st r)) p refl in
    record {
      going = refl;
      kind = f.kind;
      stripe_below = f.stripe_below;
      mask_legal = f.mask_legal;
      graph_legal = choice_legal (units_of st) r.mask y (is_write r);
      chosen_legal = chosen_missing st (afresh st r) refl refl;
      right_graph_law = eq-eqb (choose (units_of st) (is_write r) r.mask y) (choose (units_of st) (is_write r) r.mask y) refl;
      right_steps_law = closed_none (units_of st) (choose (units_of st) (is_write r) r.mask y) r.mask y;
      right_count_law = and_both _ (leb (r.count + 1) (2 * units_of st + 2)) (ap not wanting)
          (le-leb (r.count + 1) (2 * units_of st + 2) ((numbers (units_of st)).at_most_open x (request_of st (afresh st r)) p wanting));
    }
