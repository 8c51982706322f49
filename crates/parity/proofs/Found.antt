-- What a scan has found: a stripe that is right or passed over, the lowest that is wrong, or none.
-- Assumes nothing.
use Prim.Native.Nat.{ℕ, ◌+◌, ◌≤◌, ◌<◌}
use mathlib.Core.Bool.{Bool, true, false, cond, not, ◌&&◌}
use mathlib.Core.List.{List}
use mathlib.Core.Path.{◌≡◌, refl, sym, ap, ◌∙◌}
use native.Mathlib.Omega.{arith}
use borrow.Author.Tests.{eq-eqb, ne_eqb, eqb-true, lt-ltb, le-ltb, ltb-true, ltb-false}
use lib.Dec.{ltb, eqb}
use lib.ListN.{length, get_or}
use lib.Seq.{ext_get_or}
use Rattle.terms.specs.Lists.{part}
use Rattle.terms.specs.Reply.{Reply, accepted}
use Rattle.terms.specs.Sets.{lowest}
use Rattle.terms.proofs.Lists.{get_d_part}
use Rattle.terms.proofs.Sets.{all_below_elim, lowest_is, lowest_none, xor_to_cong}
use Rattle.block.specs.Blocks.{summed, zeros, all_zero}
use Rattle.block.proofs.Blocks.{length_zeros, get_d_zeros, length_summed, get_d_summed_zeros, get_d_summed_beyond}
use Rattle.geometry.specs.Store.{cell_at}
use Rattle.parity.specs.Fitting.{Fitting}
use Rattle.parity.specs.Parity.{cell, byte_at, parity_byte, wrong_byte, wrong_stripe, right_parity, disagreement, looked}
use Rattle.parity.proofs.Inside.{length_cell}

-- what is looked at: N, S, B, the image, and the stripes that are passed over
pub record Looking : Type 0 where
  pub cards : ℕ
  pub stripes : ℕ
  pub block : ℕ
  pub image : List ℕ
  pub pass : ℕ → Bool

-- the sum of a stripe's blocks, its parity byte at b, and its lowest wrong byte
abbrev pub sum_in : Looking → ℕ → List ℕ
sum_in l s = summed l.cards (cell l.stripes l.block l.image s) (zeros 512)

abbrev pub parity_in : Looking → ℕ → ℕ → ℕ
parity_in l s b = parity_byte l.cards l.stripes l.block l.image s b

abbrev pub wrong_in : Looking → ℕ → ℕ
wrong_in l s = wrong_byte l.cards l.stripes l.block l.image s

-- what is answered
abbrev pub answer_of : Looking → Reply
answer_of l = looked l.cards l.stripes l.block l.image l.pass

-- stripe s is one to report: it is not passed over, and parity disagrees
pub reports : Looking → ℕ → Bool
reports l s = not (l.pass s) && ltb (wrong_in l s) l.block

module _ (l : Looking) where
  -- ---- by parity bytes

  -- the lowest wrong byte of a stripe
  byte_found : (s b : ℕ) → b < l.block → (parity_in l s b ≡ 0 → ⊥) → ((k : ℕ) → k < b → parity_in l s k ≡ 0) → wrong_in l s ≡ b
  unfolding wrong_byte
  byte_found s b h e z =
      lowest_is l.block (λ k. not (eqb (parity_in l s k) 0)) b h (rw (ne_eqb (parity_in l s b) 0 e))
      (λ k m. rw (eq-eqb (parity_in l s k) 0 (z k m)))

  -- a stripe that has none
  byte_none : (s : ℕ) → ((k : ℕ) → k < l.block → parity_in l s k ≡ 0) → wrong_in l s ≡ l.block
  unfolding wrong_byte
  byte_none s z = lowest_none l.block (λ k. not (eqb (parity_in l s k) 0)) (λ k m. rw (eq-eqb (parity_in l s k) 0 (z k m)))

  -- ---- by stripes

  pub reports_passed : (s : ℕ) → l.pass s ≡ true → reports l s ≡ false
  unfolding reports
  reports_passed s e = rw e

  pub reports_right : (s : ℕ) → wrong_in l s ≡ l.block → reports l s ≡ false
  unfolding reports
  reports_right s e = rw e (both (not (l.pass s)) (le-ltb l.block l.block (omega arith)))
    where
      both : (a : Bool) {b : Bool} → b ≡ false → (a && b) ≡ false
      both true e = e
      both false e = refl

  pub reports_wrong : (s : ℕ) → l.pass s ≡ false → wrong_in l s < l.block → reports l s ≡ true
  unfolding reports
  reports_wrong s p h = rw p (lt-ltb (wrong_in l s) l.block h)

  -- ---- by the sum of a stripe's blocks

  -- a byte of the sum is the parity byte
  sum_byte_law : (s b : ℕ) → l.block ≤ 512 → b < l.block → get_or (sum_in l s) b 0 ≡ parity_in l s b
  unfolding parity_byte byte_at cell
  sum_byte_law s b h m =
      get_d_summed_zeros l.cards (cell l.stripes l.block l.image s) 512 b (omega arith)
      ∙ xor_to_cong l.cards (λ c. get_or (part (cell_at l.stripes l.block c s) l.block l.image) b 0)
      (λ c. get_or l.image (cell_at l.stripes l.block c s + b) 0)
      (λ c n. get_d_part (cell_at l.stripes l.block c s) l.block l.image b 0 m)

  -- the sum after a stripe that began with zero bytes
  module _ (fit : Fitting l.cards l.stripes l.block l.image) (s : ℕ) (hs : s < l.stripes) (old sum : List ℕ) (clear : old ≡ zeros 512)
      (new : sum ≡ summed l.cards (cell l.stripes l.block l.image s) old) where
    is : sum ≡ sum_in l s
    is = new ∙ ap (summed l.cards (cell l.stripes l.block l.image s)) clear

    sum_length : length sum ≡ 512
    sum_length = ap length is ∙ length_summed l.cards (cell l.stripes l.block l.image s) (zeros 512)

    at : (k : ℕ) → k < l.block → get_or sum k 0 ≡ parity_in l s k
    at k m = ap (λ (t : List ℕ). get_or t k 0) is ∙ sum_byte_law s k fit.block m

    -- its bytes are zero: the stripe is right, and beyond its block the sum was never touched, so that the next stripe begins with zero bytes too
    pub sum_right : ((k : ℕ) → k < l.block → get_or sum k 0 ≡ 0) → (wrong_in l s ≡ l.block) × (sum ≡ zeros 512)
    sum_right z = (
      byte_none s (λ k m. sym (at k m) ∙ z k m),
      ext_get_or 0 sum (zeros 512) (sum_length ∙ sym (length_zeros 512))
          (λ k m. place k (omega (arith, sum_length, length_zeros 512)) (ltb k l.block) refl),
    )
      where
        place : (k : ℕ) → k < length (zeros 512) → (b : Bool) → ltb k l.block ≡ b → get_or sum k 0 ≡ get_or (zeros 512) k 0
        place k m true t = z k (ltb-true k l.block t) ∙ sym (get_d_zeros 512 k)
        place k m false t =
            let beyond : l.block ≤ k = ltb-false k l.block t in
            ap (λ (t : List ℕ). get_or t k 0) is
            ∙ get_d_summed_beyond l.cards (cell l.stripes l.block l.image s) (zeros 512) k m
            (λ c hc. omega (arith, length_cell fit s c hs hc))

    pub sum_clear : all_zero l.block sum ≡ true → (wrong_in l s ≡ l.block) × (sum ≡ zeros 512)
    unfolding all_zero
    sum_clear e = sum_right (λ k m. eqb-true (get_or sum k 0) 0 (all_below_elim l.block (λ i. eqb (get_or sum i 0) 0) e k m))

    -- byte b is the first that is not
    pub sum_wrong_byte : (b : ℕ) → b < l.block → (get_or sum b 0 ≡ 0 → ⊥) → ((k : ℕ) → k < b → get_or sum k 0 ≡ 0) → wrong_in l s ≡ b
    sum_wrong_byte b h e z =
        byte_found s b h (λ q. e (at b h ∙ q))
        (λ k m.
        let n : k < l.block = omega arith in
        sym (at k n) ∙ z k m)

  -- ---- by all stripes

  -- none is to be reported: parity is right
  pub looked_right : ((s : ℕ) → s < l.stripes → reports l s ≡ false) → accepted 0 0 ≡ answer_of l
  unfolding looked right_parity wrong_stripe reports
  looked_right z =
      sym (ap (λ (b : Bool). cond b (accepted 0 0) (disagreement l.cards l.stripes l.block l.image l.pass))
      (eq-eqb (lowest l.stripes (reports l)) l.stripes (lowest_none l.stripes (reports l) z)))

  -- the lowest that is, with its lowest byte
  pub looked_wrong : (s b : ℕ) → s < l.stripes → reports l s ≡ true → ((j : ℕ) → j < s → reports l j ≡ false) → wrong_in l s ≡ b
      → ◌≡◌ {A = Reply} (record { number = 13; first = s; second = b }) (answer_of l)
  unfolding looked right_parity disagreement wrong_stripe reports
  looked_wrong s b h e z w =
      let found : lowest l.stripes (reports l) ≡ s = lowest_is l.stripes (reports l) s h e z in
      rw (found, ne_eqb s l.stripes (omega arith), w)
