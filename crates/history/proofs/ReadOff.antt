-- The row that an image gives, a missing unit as the exclusive or of the rest: every stripe rests on it whose parity is right or of which a
-- position is missing.
-- Assumes nothing.
use Prim.Native.Nat.{ℕ, suc, ◌*◌, ◌≤◌, ◌<◌}
use mathlib.Core.Bool.{Bool, true, false, cond}
use mathlib.Core.List.{List}
use mathlib.Core.Path.{◌≡◌, refl, sym, ap, ◌∙◌}
use native.Mathlib.Decide.{dec_lt}
use native.Mathlib.Omega.{arith}
use borrow.Author.Tests.{eqb-true, eqb-false, eq-eqb, ne_eqb}
use lib.Bits.{bit_xor}
use lib.Dec.{eqb}
use lib.ListN.{length, get_or}
use Rattle.terms.specs.Sets.{xor_to}
use Rattle.terms.proofs.Lists.{length_part, get_d_part, length_tabulate, get_d_tabulate}
use Rattle.terms.proofs.Sets.{xor_to_cong}
use Rattle.block.proofs.Sums.{changed_to, others, term_sum_zero}
use Rattle.block.proofs.Xor.{xor_zero_eq}
use Rattle.geometry.proofs.Apart.{cell_inside}
use Rattle.geometry.proofs.Placing.{out_position, out_card}
use Rattle.geometry.specs.Placement.{card_of_position, position_of_card, card_of_block, out_in, stripe_of, unit_of}
use Rattle.geometry.specs.Placing.{Placing}
use Rattle.geometry.specs.Store.{cell_at, image_size}
use Rattle.geometry.specs.declared.State.{State}
use Rattle.parity.specs.Parity.{byte_at, parity_byte}
use Rattle.parity.specs.Rest.{rest_of}
use Rattle.record.specs.Life.{units_of, missing_in}
use Rattle.stripe.proofs.Bytes.{bytes}
use Rattle.stripe.specs.Invariant.{Idle}
use Rattle.history.specs.Row.{block_at, opened_row}
use Rattle.history.proofs.Invariant.{cells_of}
use Rattle.history.proofs.Places.{block_stripe, block_unit, unit_below, stripe_below}
use Rattle.history.proofs.Positions.{parity_sum, rest_sum}
use Rattle.history.proofs.Rows.{unit_byte, row_of, row_unit, row_parity, row_is_row}

module _ (st : State) (image : List ℕ) (some_unit : 1 < st.cards)
    (placing : Placing st.cards (card_of_position st) (position_of_card st))
    (long : length image ≡ image_size st.cards st.stripes st.block) where
  abbrev N : ℕ
  N = st.cards

  -- a block of the image, and the sum of the rest, byte by byte
  pub block_byte : (c s b : ℕ) → b < st.block → get_or (block_at st image c s) b 0 ≡ byte_at st.stripes st.block image c s b
  unfolding block_at byte_at
  block_byte c s b hb = get_d_part (cell_at st.stripes st.block c s) st.block image b 0 hb

  pub block_size : (c s : ℕ) → c < N → s < st.stripes → length (block_at st image c s) ≡ st.block
  unfolding block_at
  block_size c s hc hs =
      length_part (cell_at st.stripes st.block c s) st.block image (omega (arith, long, cell_inside N st.stripes st.block c s hc hs))

  pub rest_byte : (s u b : ℕ) → u < N → b < st.block
      → get_or (rest_of st image (card_of_position st s u) s) b 0 ≡ xor_to N (others u (cells_of st image s b))
  unfolding rest_of
  rest_byte s u b hu hb = get_d_tabulate st.block _ b 0 hb ∙ rest_sum N st.stripes st.block placing image s b u hu

  pub rest_size : (c s : ℕ) → length (rest_of st image c s) ≡ st.block
  unfolding rest_of
  rest_size c s = length_tabulate st.block _

  -- ---- at byte b of stripe s

  module _ (s b : ℕ) (hb : b < st.block) where
    abbrev x : ℕ
    x = missing_in st s

    abbrev cells : ℕ → ℕ
    cells = cells_of st image s b

    -- the positions, the missing one as the sum of the others
    abbrev whole : ℕ → ℕ
    whole = changed_to x (xor_to N (others x cells)) cells

    whole_there : (p : ℕ) → ¬ (p ≡ x) → whole p ≡ cells p
    whole_there p d = rw (ne_eqb p x d)

    whole_here : whole x ≡ xor_to N (others x cells)
    whole_here = rw (eq-eqb x x refl)

    -- their sum is nothing
    whole_none : (N ≤ x → parity_byte N st.stripes st.block image s b ≡ 0) → xor_to N whole ≡ 0
    whole_none right = go (dec_lt x N)
      where
        same : (p : ℕ) (t : Bool) → eqb p x ≡ t → others x cells p ≡ others x whole p
        same p true e = rw e
        same p false e = rw e

        go : Dec (x < N) → xor_to N whole ≡ 0
        go (yes h) = term_sum_zero N x whole h (whole_here ∙ xor_to_cong N (others x cells) (others x whole) (λ p l. same p (eqb p x) refl))
        go (no h) =
            xor_to_cong N whole cells (λ p l. whole_there p (λ e. omega arith))
            ∙ sym (parity_sum N st.stripes st.block placing image s b)
            ∙ right (omega arith)

    -- the row read off has these units
    opened_unit : (u : ℕ) → u < units_of st → unit_byte st (opened_row st image) s b u ≡ whole u
    unfolding opened_row
    opened_unit u hu =
        rw (block_stripe N s u hu, block_unit N s u hu) (go (eqb (card_of_position st s u) (out_in st s)) refl)
      where
        small : u < N
        small = omega arith

        go : (t : Bool) → eqb (card_of_position st s u) (out_in st s) ≡ t
            → get_or (cond t (rest_of st image (card_of_position st s u) s) (block_at st image (card_of_position st s u) s)) b 0 ≡ whole u
        go true e =
            let here = out_position st placing s u small (out_in st s) (eqb-true (card_of_position st s u) (out_in st s) e) in
            rest_byte s u b small hb ∙ ap (λ (v : ℕ). xor_to N (others v cells)) here ∙ sym (rw (eq-eqb u x here))
        go false e =
            block_byte (card_of_position st s u) s b hb
            ∙ sym (whole_there u (λ f. eqb-false (card_of_position st s u) (out_in st s) e (out_card st placing s u small (out_in st s) f)))

    pub opened_rests : (N ≤ x → parity_byte N st.stripes st.block image s b ≡ 0)
        → Idle bytes (units_of st) x (row_of st (opened_row st image) s b) cells
    opened_rests right =
        record { row = row_is_row st (opened_row st image) s b; holds = λ p l d. go p d (dec_lt p (units_of st)) l }
      where
        units : xor_to (units_of st) (unit_byte st (opened_row st image) s b) ≡ xor_to (units_of st) whole
        units = xor_to_cong (units_of st) _ whole opened_unit

        sum : bit_xor (xor_to (units_of st) whole) (whole (units_of st)) ≡ 0
        sum = unfold xor_to in
            ap (λ (k : ℕ). xor_to k whole) (let e : suc (units_of st) ≡ N = omega arith in e) ∙ whole_none right

        go : (p : ℕ) → ¬ (p ≡ x) → Dec (p < units_of st) → p ≤ units_of st → cells p ≡ row_of st (opened_row st image) s b p
        go p d (yes h) l = sym (row_unit st (opened_row st image) s b p h ∙ opened_unit p h ∙ whole_there p d)
        go p d (no h) l =
            let e : p ≡ units_of st = omega arith in
            rw e
            (sym (row_parity st (opened_row st image) s b ∙ units ∙ xor_zero_eq _ _ sum ∙ whole_there (units_of st) (λ f. d (e ∙ f))))

  -- ---- its blocks are of B bytes

  pub opened_size : (L : ℕ) → L < units_of st * st.stripes → length (opened_row st image L) ≡ st.block
  unfolding opened_row
  opened_size L h = go (eqb (card_of_block st L) (out_in st (stripe_of N L)))
    where
      go : (t : Bool) → length (cond t (rest_of st image (card_of_block st L) (stripe_of N L)) (block_at st image (card_of_block st L) (stripe_of N L))) ≡ st.block
      go true = rest_size (card_of_block st L) (stripe_of N L)
      go false = block_size (card_of_block st L) (stripe_of N L) (placing.card_below (stripe_of N L) (unit_of N L) (omega (arith, unit_below N L st.stripes h))) (stripe_below N L st.stripes h)
