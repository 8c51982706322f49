-- What the code of a done step carries and adds up is what the step leaves.
-- Assumes nothing.
use Prim.Native.Nat.{ℕ, ◌+◌, ◌-◌, ◌*◌, ◌≤◌, ◌<◌}
use mathlib.Core.Bool.{Bool, true, false, cond}
use mathlib.Core.List.{List, []}
use mathlib.Core.Path.{◌≡◌, refl, sym, ap, ap₂, ◌∙◌, subst}
use native.Mathlib.Nat.{zero-add}
use native.Mathlib.Omega.{arith}
use lib.Bits.{bit_xor, xor_zero_l}
use lib.Dec.{leb, eqb}
use lib.ListN.{length, get_or, length-replicate, get_or-replicate}
use borrow.Author.Tests.{le-leb, leb-true}
use borrow.Rule.Slice.PartMut.{put_mid, mid_of}
use Rattle.terms.specs.Lists.{part, put}
use Rattle.terms.specs.Sets.{set_of, xor_to}
use Rattle.terms.proofs.Bits.{bit_set_of}
use Rattle.terms.proofs.Lists.{is_tabulate, length_part, get_d_part}
use Rattle.terms.proofs.Sets.{xor_to_cong}
use Rattle.block.specs.Blocks.{copied, carried, summed, zeros}
use Rattle.block.proofs.Blocks.{length_summed, get_d_summed, copied_whole}
use Rattle.block.proofs.Carried.{carried_whole, put_mid_is, mid_part}
use Rattle.geometry.specs.Placement.{card_of_position, card_in}
use Rattle.geometry.specs.Store.{cell_at, write_at, read_at}
use Rattle.geometry.specs.declared.State.{State}
use Rattle.geometry.proofs.Asked.{BoundsOf}
use Rattle.geometry.proofs.Apart.{cell_inside, read_inside, write_inside}
use Rattle.geometry.proofs.Bounds.{legal_bounds}
use Rattle.geometry.proofs.Placing.{placed_in, card_in_is}
use Rattle.graph.specs.Asked.{few_units}
use Rattle.graph.specs.Steps.{Step, rd, xr, wr, nil, step_of}
use Rattle.graph.specs.Sums.{takes_new, sums_to_read}
use Rattle.record.specs.Life.{chosen_at, units_of}
use Rattle.record.specs.declared.Record.{Record}
use Rattle.array.specs.Premises.{Standing, Within, read_by}
use Rattle.array.specs.Stepping.{work_after, image_after, sum_byte, sum_at}
use Rattle.array.specs.Sums.{taken_if, block_sum}

-- a record's blocks stand one behind the other
pub read_row : (N B i p : ℕ) → read_at N B i 0 + p * B ≡ read_at N B i p
unfolding read_at
read_row N B i p = omega arith

pub write_row : (N B i p : ℕ) → write_at N B i 0 + p * B ≡ write_at N B i p
unfolding write_at
write_row N B i p = omega arith

-- a block copied to a middle part of a list, which is as long
copied_part : (dst : List ℕ) (at size : ℕ) (src b : List ℕ) → at + size ≤ length dst → length src ≡ size
    → b ≡ copied (mid_of at (at + size - at) dst) src → put_mid at (at + size - at) dst b ≡ put at src dst
copied_part dst at size src b h long moved =
    let is : b ≡ src =
    moved ∙ rw (mid_part at size dst) (copied_whole (part at size dst) src (length_part at size dst h ∙ sym long)) in
    put_mid_is at size dst b (ap length is ∙ long) ∙ ap (λ (l : List ℕ). put at l dst) is

module _ (st : State) (i : ℕ) (r : Record) (work image : List ℕ) (k : Standing st work image i r) where
  pub standing_bounds : BoundsOf st
  standing_bounds = legal_bounds st.cards st.stripes st.block st.records k.limits

  -- the card of a position, as the code finds it
  pub card_found : (p card : ℕ) → p < st.cards → card ≡ card_in st.cards st.layout r.stripe p → card ≡ card_of_position st r.stripe p
  card_found p card h e = e ∙ card_in_is st.cards st.layout r.stripe p h

  pub card_below : (p card : ℕ) → p < st.cards → card ≡ card_in st.cards st.layout r.stripe p → card < st.cards
  card_below p card h e = rw (card_found p card h e) ((placed_in st (omega (arith, standing_bounds))).card_below r.stripe p h)

  -- the blocks of a position lie within the image and the work store
  pub cell_room : (p card at : ℕ) → p < st.cards → card ≡ card_in st.cards st.layout r.stripe p → at ≡ cell_at st.stripes st.block card r.stripe
      → at + st.block ≤ length image
  cell_room p card at h e is =
      omega (arith, k.image_right, cell_inside st.cards st.stripes st.block card r.stripe (card_below p card h e) k.stripe_below)

  pub read_room : (p at : ℕ) → p < st.cards → at ≡ read_at st.cards st.block i p → at + st.block ≤ length work
  read_room p at h is = omega (arith, k.work_right, read_inside st.cards st.block st.records i p k.record_below h)

  pub write_room : (p at : ℕ) → p < st.cards → at ≡ write_at st.cards st.block i p → at + st.block ≤ length work
  write_room p at h is = omega (arith, k.work_right, write_inside st.cards st.block st.records i p k.record_below h)

  pub performed_read : (p card at : ℕ) (cell b : List ℕ) → p < st.cards → card ≡ card_in st.cards st.layout r.stripe p
      → at ≡ read_at st.cards st.block i p → cell ≡ part (cell_at st.stripes st.block card r.stripe) st.block image
      → b ≡ copied (mid_of at (at + st.block - at) work) cell → put_mid at (at + st.block - at) work b ≡ work_after st i r (rd p) work image
  unfolding work_after
  performed_read p card at cell b h card-is at-is cell-is moved =
      let from = cell_at st.stripes st.block card r.stripe in
      copied_part work at st.block cell b (read_room p at h at-is)
      (ap length cell-is ∙ length_part from st.block image (cell_room p card from h card-is refl)) moved
      ∙ ap₂ (λ (a : ℕ) (l : List ℕ). put a l work) at-is
      (cell-is ∙ ap (λ (c : ℕ). part (cell_at st.stripes st.block c r.stripe) st.block image) (card_found p card h card-is))

  pub performed_write : (p card at from : ℕ) (m : List ℕ) → p < st.cards → card ≡ card_in st.cards st.layout r.stripe p
      → at ≡ cell_at st.stripes st.block card r.stripe → from ≡ write_at st.cards st.block i p → m ≡ carried image at work from st.block
      → m ≡ image_after st i r (wr p) work image
  unfolding image_after
  performed_write p card at from m h card-is at-is from_is moved =
      moved
      ∙ carried_whole image at work from st.block (cell_room p card at h card-is at-is) (write_room p from h from_is)
      ∙ ap₂ (λ (a f : ℕ). put a (part f st.block work) image)
      (at-is ∙ ap (λ (c : ℕ). cell_at st.stripes st.block c r.stripe) (card_found p card h card-is)) from_is

  few : few_units (units_of st) ≡ true
  unfolding few_units
  few = le-leb (units_of st) 7 (omega (arith, standing_bounds))

  -- the sets that the sum takes, as the code makes them
  abbrev reads : ℕ
  reads = read_by st r

  abbrev news : ℕ
  news = set_of (units_of st + 1) (takes_new (units_of st) r.graph r.mask)

  pub news_are : (set : ℕ) → set ≡ cond (few_units (units_of st)) news 0 → set ≡ news
  news_are set e = rw few at e

  -- a byte of a block that it takes, or 0 where it takes none
  taken_byte : (f : ℕ → Bool) (first at p b : ℕ) → p < st.cards → b < st.block → first + p * st.block ≡ at
      → get_or (taken_if (set_of (units_of st + 1) f) first st.block work p) b 0 ≡ cond (f p) (get_or work (at + b) 0) 0
  taken_byte f first at p b h hb e =
      rw (bit_set_of (units_of st + 1) f p (omega (arith, standing_bounds)), e) (go (f p))
    where
      go : (t : Bool) → get_or (cond t (part at st.block work) []) b 0 ≡ cond t (get_or work (at + b) 0) 0
      go true = get_d_part at st.block work b 0 hb
      go false = refl

  abbrev sum : List ℕ
  sum = block_sum st i reads news work

  sum_length : length sum ≡ 512
  unfolding block_sum
  sum_length = length_summed _ _ _ ∙ length_summed _ _ _ ∙ length-replicate {A = ℕ} 512 0

  sum_byte_law : (b : ℕ) → b < st.block → get_or sum b 0 ≡ sum_byte st i r work b
  unfolding block_sum sum_byte
  sum_byte_law b hb =
      let N = st.cards in
      let B = st.block in
      let small : b < 512 = omega (arith, standing_bounds) in
      let old = taken_if reads (read_at N B i 0) B work in
      let new = taken_if news (write_at N B i 0) B work in
      let long : length (zeros 512) ≡ 512 = length-replicate {A = ℕ} 512 0 in
      get_d_summed N new (summed N old (zeros 512)) b (omega (arith, length_summed N old (zeros 512)))
      ∙ ap₂ bit_xor
      (get_d_summed N old (zeros 512) b (omega arith)
      ∙ ap (λ (z : ℕ). bit_xor z (xor_to N (λ p. get_or (old p) b 0))) (get_or-replicate 512 b 0 0 small)
      ∙ xor_zero_l _
      ∙ xor_to_cong N _ _ (λ p h. taken_byte _ (read_at N B i 0) (read_at N B i p) p b h hb (read_row N B i p)))
      (xor_to_cong N _ _ (λ p h. taken_byte _ (write_at N B i 0) (write_at N B i p) p b h hb (write_row N B i p)))

  -- the block that it goes to has room
  pub sum_room : sum_at st i r + st.block ≤ length work
  unfolding sum_at
  sum_room = go (sums_to_read r.graph) refl
    where
      go : (t : Bool) → sums_to_read r.graph ≡ t
          → cond t (read_at st.cards st.block i (chosen_at st r)) (write_at st.cards st.block i (units_of st)) + st.block ≤ length work
      go true e = omega (arith, k.work_right, read_inside st.cards st.block st.records i (chosen_at st r) k.record_below (k.x_below e))
      go false e =
          omega (arith, k.work_right, write_inside st.cards st.block st.records i (units_of st) k.record_below (omega (arith, standing_bounds)))

  pub performed_sum : (at : ℕ) (w : List ℕ) → at ≡ sum_at st i r → at + st.block ≤ length work → w ≡ carried work at sum 0 st.block
      → w ≡ work_after st i r xr work image
  unfolding work_after
  performed_sum at w at-is room moved =
      let whole : 0 + st.block ≤ length sum = omega (arith, standing_bounds, sum_length) in
      moved
      ∙ carried_whole work at sum 0 st.block room whole
      ∙ ap₂ (λ (a : ℕ) (b : List ℕ). put a b work) at-is
      (is_tabulate (part 0 st.block sum) st.block (sum_byte st i r work) 0 (length_part 0 st.block sum whole)
      (λ b h. get_d_part 0 st.block sum b 0 h ∙ ap (λ (j : ℕ). get_or sum j 0) (zero-add b) ∙ sum_byte_law b h))

-- ---- a step by its kind

-- a step's position is one of the stripe's, whatever its number
pub step_within : (N k : ℕ) → 0 < N → Within N (step_of (N - 1) k)
unfolding step_of
step_within N k h = reads (leb k (N - 1)) refl
  where
    writes : (b : Bool) → leb k (2 * (N - 1) + 2) ≡ b → Within N (cond b (wr (k - ((N - 1) + 2))) nil)
    writes true e = omega (arith, leb-true k (2 * (N - 1) + 2) e)
    writes false e = tt

    sums : (b : Bool) → Within N (cond b xr (cond (leb k (2 * (N - 1) + 2)) (wr (k - ((N - 1) + 2))) nil))
    sums true = tt
    sums false = writes (leb k (2 * (N - 1) + 2)) refl

    reads : (b : Bool) → leb k (N - 1) ≡ b
        → Within N (cond b (rd k) (cond (eqb k ((N - 1) + 1)) xr (cond (leb k (2 * (N - 1) + 2)) (wr (k - ((N - 1) + 2))) nil)))
    reads true e = omega (arith, leb-true k (N - 1) e)
    reads false e = sums (eqb k ((N - 1) + 1))

-- the step that an action tells is within
pub told_within : (N k : ℕ) (s : Step) → 0 < N → step_of (N - 1) k ≡ s → Within N s
told_within N k s h e = subst (Within N) e (step_within N k h)
