-- A call of two worlds that differ at most in the bytes of the card that is out: the answers are the same, and the worlds that it leaves differ at
-- most there too. No invariant is needed: it holds of every world.
-- Assumes nothing.
use Prim.Native.Nat.{ℕ, ◌+◌, ◌≤◌, ◌<◌}
use mathlib.Core.Bool.{true, false}
use mathlib.Core.List.{List}
use mathlib.Core.Logic.{◌⊎◌, inl, inr}
use mathlib.Core.Path.{◌≡◌, refl, sym, ◌∙◌}
use native.Mathlib.Omega.{arith}
use borrow.Author.Tests.{eqb-true, eqb-false}
use lib.Dec.{eqb}
use lib.ListN.{length, get_or}
use Rattle.terms.specs.Lists.{part, put}
use Rattle.terms.proofs.Lists.{length_part, part_cong}
use Rattle.terms.proofs.Rows.{truth}
use Rattle.geometry.proofs.Apart.{cell_inside, write_inside}
use Rattle.geometry.proofs.Placing.{missing_position}
use Rattle.geometry.specs.Placement.{card_of_position, position_of_card, Missing}
use Rattle.geometry.specs.Placing.{Placing}
use Rattle.geometry.specs.Store.{write_at, image_size, work_size}
use Rattle.geometry.specs.declared.State.{State}
use Rattle.graph.specs.Steps.{Step, rd, xr, wr, nil}
use Rattle.parity.specs.Parity.{byte_at}
use Rattle.record.specs.Life.{missing_in}
use Rattle.record.specs.declared.Record.{Record}
use Rattle.array.proofs.Frames.{cell_put_length, cell_put_same, cell_put_other}
use Rattle.array.specs.Premises.{Within}
use Rattle.array.specs.Stepping.{cell_of, meets_out, work_after, image_after}
use Rattle.history.specs.History.{Decayed}

-- ---- a step, of two images

module _ (st : State) (work image image' : List ℕ) (same : Decayed st image image') (r : Record) (i : ℕ)
    (placing : Placing st.cards (card_of_position st) (position_of_card st))
    (long : length image ≡ image_size st.cards st.stripes st.block) (stripe_below : r.stripe < st.stripes) where
  abbrev N : ℕ
  N = st.cards

  abbrev x : ℕ
  x = missing_in st r.stripe

  -- the step's card works
  card_works : (p : ℕ) → p < N → ¬ (p ≡ x) → ¬ Missing st (card_of_position st r.stripe p) r.stripe
  card_works p hp d m = d (missing_position st placing r.stripe p hp m)

  cell_room : (p : ℕ) → p < N → cell_of st r p + st.block ≤ image_size N st.stripes st.block
  cell_room p hp = cell_inside N st.stripes st.block (card_of_position st r.stripe p) r.stripe (placing.card_below r.stripe p hp) stripe_below

  -- a read step reads the same block of both
  block_same : (p : ℕ) → p < N → ¬ (p ≡ x) → part (cell_of st r p) st.block image' ≡ part (cell_of st r p) st.block image
  unfolding byte_at
  block_same p hp d =
      part_cong (cell_of st r p) st.block image' (cell_of st r p) image 0
      (omega (arith, cell_room p hp, same.same_length)) (omega (arith, cell_room p hp))
      (λ b hb. same.same_bytes (card_of_position st r.stripe p) r.stripe b (placing.card_below r.stripe p hp) stripe_below hb (card_works p hp d))

  pub work_same : (s : Step) → Within N s → meets_out x s ≡ false → work_after st i r s work image' ≡ work_after st i r s work image
  unfolding work_after meets_out
  work_same (rd p) hp e = rw (block_same p hp (eqb-false p x e))
  work_same xr hp e = refl
  work_same (wr p) hp e = refl
  work_same nil hp e = refl

  -- a block put into both, in one cell
  put_same : (p : ℕ) → p < N → (block : List ℕ) → length block ≡ st.block → Decayed st (put (cell_of st r p) block image) (put (cell_of st r p) block image')
  put_same p hp block size =
      record {
        same_length = put_length image' (same.same_length ∙ long) ∙ same.same_length ∙ sym (put_length image long);
        same_bytes = λ d t b hd ht hb works. go d t b hd ht hb works (truth (eqb c d)) (truth (eqb r.stripe t));
      }
    where
      c : ℕ
      c = card_of_position st r.stripe p

      put_length : (l : List ℕ) → length l ≡ image_size N st.stripes st.block → length (put (cell_of st r p) block l) ≡ length l
      put_length l h =
          cell_put_length N st.stripes st.block l h c r.stripe (placing.card_below r.stripe p hp) stripe_below block size

      here : (l : List ℕ) → length l ≡ image_size N st.stripes st.block → (d t b : ℕ) → c ≡ d → r.stripe ≡ t → b < st.block
          → byte_at st.stripes st.block (put (cell_of st r p) block l) d t b ≡ get_or block b 0
      here l h d t b e f hb =
          rw (← e, ← f) (cell_put_same N st.stripes st.block l h c r.stripe (placing.card_below r.stripe p hp) stripe_below block size b hb)

      there : (l : List ℕ) → length l ≡ image_size N st.stripes st.block → (d t b : ℕ) → (c ≡ d → r.stripe ≡ t → ⊥) → t < st.stripes → b < st.block
          → byte_at st.stripes st.block (put (cell_of st r p) block l) d t b ≡ byte_at st.stripes st.block l d t b
      there l h d t b differ ht hb =
          cell_put_other N st.stripes st.block l h c r.stripe (placing.card_below r.stripe p hp) stripe_below block size d t b ht hb differ

      elsewhere : (d t b : ℕ) → d < N → t < st.stripes → b < st.block → ¬ Missing st d t → (c ≡ d → r.stripe ≡ t → ⊥)
          → byte_at st.stripes st.block (put (cell_of st r p) block image') d t b ≡ byte_at st.stripes st.block (put (cell_of st r p) block image) d t b
      elsewhere d t b hd ht hb works differ =
          there image' (same.same_length ∙ long) d t b differ ht hb ∙ same.same_bytes d t b hd ht hb works ∙ sym (there image long d t b differ ht hb)

      go : (d t b : ℕ) → d < N → t < st.stripes → b < st.block → ¬ Missing st d t
          → (eqb c d ≡ true) ⊎ (eqb c d ≡ false) → (eqb r.stripe t ≡ true) ⊎ (eqb r.stripe t ≡ false)
          → byte_at st.stripes st.block (put (cell_of st r p) block image') d t b ≡ byte_at st.stripes st.block (put (cell_of st r p) block image) d t b
      go d t b hd ht hb works (inl e) (inl f) =
          here image' (same.same_length ∙ long) d t b (eqb-true c d e) (eqb-true r.stripe t f) hb
          ∙ sym (here image long d t b (eqb-true c d e) (eqb-true r.stripe t f) hb)
      go d t b hd ht hb works (inl e) (inr f) = elsewhere d t b hd ht hb works (λ g k. eqb-false r.stripe t f k)
      go d t b hd ht hb works (inr e) f = elsewhere d t b hd ht hb works (λ g k. eqb-false c d e g)

  -- a write step leaves the same block on both, and every other as it was
  pub image_same : (s : Step) → Within N s → i < st.records → length work ≡ work_size N st.block st.records
      → Decayed st (image_after st i r s work image) (image_after st i r s work image')
  unfolding image_after
  image_same (rd p) hp hi large = same
  image_same xr hp hi large = same
  image_same (wr p) hp hi large =
      put_same p hp (part (write_at N st.block i p) st.block work)
      (length_part (write_at N st.block i p) st.block work (omega (arith, write_inside N st.block st.records i p hi hp)))
  image_same nil hp hi large = same
