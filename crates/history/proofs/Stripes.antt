-- The promise's part on stripes: a stripe with no open request holds the row and its parity on working cards, a missing unit is the exclusive
-- or of the rest, and a scan finds parity right.
-- Assumes nothing.
use Prim.Native.Nat.{ℕ, suc, ◌*◌, ◌≤◌, ◌<◌}
use mathlib.Core.Bool.{Bool, true, false, cond}
use mathlib.Core.List.{List}
use mathlib.Core.Path.{◌≡◌, refl, sym, ap, ◌∙◌}
use native.Mathlib.Omega.{arith}
use borrow.Author.Tests.{eqb-false}
use lib.Dec.{eqb}
use lib.ListN.{length, get_or}
use lib.Seq.{ext_get_or}
use Rattle.terms.specs.Reply.{accepted}
use Rattle.terms.specs.Sets.{xor_to}
use Rattle.terms.proofs.Lists.{length_tabulate, get_d_tabulate}
use Rattle.terms.proofs.Sets.{xor_to_cong}
use Rattle.block.proofs.Sums.{others, sum_zero_term}
use Rattle.geometry.proofs.Bounds.{Bounds}
use Rattle.geometry.specs.Limits.{none}
use Rattle.geometry.proofs.Missing.{out_none}
use Rattle.geometry.proofs.Placing.{placed_in, missing_none, missing_position, position_missing}
use Rattle.geometry.specs.Placement.{card_of_position, position_of_card, card_of_block, Missing, out_in, stripe_of, unit_of, block_of}
use Rattle.geometry.specs.Placing.{Placing}
use Rattle.geometry.specs.declared.State.{State}
use Rattle.parity.specs.Parity.{parity_byte}
use Rattle.parity.specs.Rest.{rest_of}
use Rattle.record.specs.Life.{units_of}
use Rattle.record.specs.Sound.{held}
use Rattle.stripe.proofs.Bytes.{sum_xor}
use Rattle.stripe.specs.Invariant.{IsRow}
use Rattle.history.specs.Account.{Account}
use Rattle.history.specs.Row.{block_at, parity_of_row}
use Rattle.history.specs.World.{World, scan, play}
use Rattle.history.proofs.Facts.{bounds}
use Rattle.history.proofs.Invariant.{Sure, cells_of}
use Rattle.history.proofs.Parities.{right_intro}
use Rattle.history.proofs.Places.{block_back, unit_below, stripe_below}
use Rattle.history.proofs.Positions.{parity_sum}
use Rattle.history.proofs.ReadOff.{block_byte, block_size, rest_byte, rest_size}
use Rattle.history.proofs.Replies.{scan_grants}
use Rattle.history.proofs.Rows.{unit_byte, row_of, row_unit, row_parity}

module _ (w : World) (a : Account) (sure : Sure w a) where
  abbrev st : State
  st = w.state

  abbrev N : ℕ
  N = st.cards

  limits : Bounds N st.stripes st.block st.records
  limits = bounds sure.right

  some_card : 0 < N
  some_card = omega (arith, limits.cards_low)

  some_unit : 1 < N
  some_unit = omega (arith, limits.cards_low)

  placing : Placing N (card_of_position st) (position_of_card st)
  placing = placed_in st some_card

  -- ---- at an idle stripe

  module _ (s : ℕ) (hs : s < st.stripes) (idle : held w.table s ≡ false) where
    -- the block of a working position is what the row says at each byte
    held_block : (p : ℕ) → p ≤ units_of st → ¬ Missing st (card_of_position st s p) s → (l : List ℕ) → length l ≡ st.block
        → ((b : ℕ) → b < st.block → row_of st a.row s b p ≡ get_or l b 0) → block_at st w.image (card_of_position st s p) s ≡ l
    held_block p hp works l size same =
        let long = block_size st w.image some_unit placing sure.right.image_right (card_of_position st s p) s (placing.card_below s p (omega (arith, some_card))) hs in
        ext_get_or 0 (block_at st w.image (card_of_position st s p) s) l (long ∙ sym size)
        (λ b h.
        let hb : b < st.block = omega (arith, long) in
        block_byte st w.image some_unit placing sure.right.image_right (card_of_position st s p) s b hb
        ∙ (sure.resting s hs idle b hb).holds p hp
        (λ e. works (position_missing st placing s p (omega (arith, some_card)) e))
        ∙ same b hb)

    -- the row sums to nothing at each byte
    row_none : (b : ℕ) → b < st.block → xor_to N (row_of st a.row s b) ≡ 0
    unfolding IsRow
    row_none b hb =
        ap (λ (k : ℕ). xor_to k (row_of st a.row s b)) (let e : N ≡ suc (units_of st) = omega (arith, some_card) in e)
        ∙ sym (sum_xor (suc (units_of st)) (row_of st a.row s b)) ∙ (sure.resting s hs idle b hb).row

    unit_block : (u : ℕ) → u < units_of st → length (a.row (block_of N s u)) ≡ st.block → ¬ Missing st (card_of_position st s u) s
        → block_at st w.image (card_of_position st s u) s ≡ a.row (block_of N s u)
    unit_block u hu size works =
        held_block u (omega arith) works (a.row (block_of N s u)) size (λ b hb. row_unit st a.row s b u hu)

    parity_block : ¬ Missing st (card_of_position st s (units_of st)) s → block_at st w.image (card_of_position st s (units_of st)) s ≡ parity_of_row st a.row s
    unfolding parity_of_row
    parity_block works =
        held_block (units_of st) (omega arith) works _ (length_tabulate st.block _)
        (λ b hb. row_parity st a.row s b ∙ sym (get_d_tabulate st.block (λ c. xor_to (units_of st) (unit_byte st a.row s c)) b 0 hb))

    -- the missing unit is the sum of the others
    unit_inferred : (u : ℕ) → u < units_of st → length (a.row (block_of N s u)) ≡ st.block → Missing st (card_of_position st s u) s
        → rest_of st w.image (card_of_position st s u) s ≡ a.row (block_of N s u)
    unit_inferred u hu size out =
        let long = rest_size st w.image some_unit placing sure.right.image_right (card_of_position st s u) s in
        ext_get_or 0 (rest_of st w.image (card_of_position st s u) s) (a.row (block_of N s u)) (long ∙ sym size)
        (λ b h.
        let hb : b < st.block = omega (arith, long) in
        let R : ℕ → ℕ = row_of st a.row s b in
        rest_byte st w.image some_unit placing sure.right.image_right s u b (omega arith) hb
        ∙ xor_to_cong N (others u (cells_of st w.image s b)) (others u R) (λ p l. same b hb p l (eqb p u) refl)
        ∙ sym (sum_zero_term N u R (omega arith) (row_none b hb))
        ∙ row_unit st a.row s b u hu)
      where
        same : (b : ℕ) → b < st.block → (p : ℕ) → p < N → (t : Bool) → eqb p u ≡ t
            → cond (eqb p u) 0 (cells_of st w.image s b p) ≡ cond (eqb p u) 0 (row_of st a.row s b p)
        same b hb p l true e = rw e
        same b hb p l false e =
            rw e
            ((sure.resting s hs idle b hb).holds p (omega arith)
            (λ f. eqb-false p u e (f ∙ sym (missing_position st placing s u (omega arith) out))))

    -- and with none missing the parity is right
    pub parity_right : st.out ≡ none → (b : ℕ) → b < st.block → parity_byte N st.stripes st.block w.image s b ≡ 0
    parity_right out b hb =
        parity_sum N st.stripes st.block placing w.image s b
        ∙ xor_to_cong N (cells_of st w.image s b) (row_of st a.row s b)
        (λ p l. (sure.resting s hs idle b hb).holds p (omega arith)
        (λ e. omega (arith, missing_none st s (out_in st s) (omega (arith, out_none st s out, limits.cards_high)))))
        ∙ row_none b hb

  -- ---- by block number

  module _ (L : ℕ) (h : L < units_of st * st.stripes) (idle : held w.table (stripe_of N L) ≡ false) where
    pub promised_unit : ¬ Missing st (card_of_block st L) (stripe_of N L) → block_at st w.image (card_of_block st L) (stripe_of N L) ≡ a.row L
    promised_unit works =
        unit_block (stripe_of N L) (stripe_below N L st.stripes h) idle (unit_of N L) (unit_below N L st.stripes h)
        (ap (λ (k : ℕ). length (a.row k)) (block_back N L) ∙ sure.row_size L h) works
        ∙ ap a.row (block_back N L)

    pub promised_inferred : Missing st (card_of_block st L) (stripe_of N L) → rest_of st w.image (card_of_block st L) (stripe_of N L) ≡ a.row L
    promised_inferred out =
        unit_inferred (stripe_of N L) (stripe_below N L st.stripes h) idle (unit_of N L) (unit_below N L st.stripes h)
        (ap (λ (k : ℕ). length (a.row k)) (block_back N L) ∙ sure.row_size L h) out
        ∙ ap a.row (block_back N L)

  pub promised_parity : (s : ℕ) → s < st.stripes → held w.table s ≡ false → ¬ Missing st (card_of_position st s (units_of st)) s
      → block_at st w.image (card_of_position st s (units_of st)) s ≡ parity_of_row st a.row s
  promised_parity s hs idle works = parity_block s hs idle works

  pub promised_scan : st.out ≡ none → (play w scan).reply ≡ accepted 0 0
  promised_scan out =
      scan_grants w sure.right out
      (right_intro N st.stripes st.block w.image (held w.table) (λ s b hs hb idle. parity_right s hs idle out b hb))
