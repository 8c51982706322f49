-- Bytes stay bytes: where all that a call is lent are bytes, all that it leaves are.
-- Assumes nothing.
use Prim.Native.Nat.{ℕ, zero, suc, ◌+◌, ◌*◌, ◌<◌}
use mathlib.Core.Bool.{Bool, true, false, cond}
use mathlib.Core.List.{List, [], ◌∷◌, ◌++◌}
use native.Mathlib.Omega.{arith}
use lib.Dec.{eqb}
use lib.ListN.{length, get_or, take, drop}
use Rattle.terms.specs.Lists.{tabulate, part, put, changes}
use Rattle.terms.specs.Sets.{bit}
use Rattle.block.proofs.Sums.{sum_lt}
use Rattle.block.proofs.Xor.{xor_byte}
use Rattle.geometry.specs.Store.{cell_at, write_at, read_at}
use Rattle.geometry.specs.declared.State.{State}
use Rattle.graph.specs.Steps.{Step, rd, xr, wr, nil}
use Rattle.graph.specs.Sums.{takes_read, takes_new}
use Rattle.parity.specs.Parity.{byte_at}
use Rattle.parity.specs.Rest.{rest_of, restored}
use Rattle.record.specs.Life.{units_of, chosen_at}
use Rattle.record.specs.declared.Record.{Record}
use Rattle.array.specs.Admission.{keep_units}
use Rattle.array.specs.Collection.{hand_over}
use Rattle.array.specs.Lent.{rank}
use Rattle.array.specs.Stepping.{cell_of, sum_byte, sum_at, work_after, image_after}

-- every element is a byte
pub data Bytes : List ℕ → Type 0 where
  none : Bytes []
  more : {b : ℕ} {l : List ℕ} → b < 256 → Bytes l → Bytes (b ∷ l)

-- ---- parts, and lists put together

append_bytes : {a b : List ℕ} → Bytes a → Bytes b → Bytes (a ++ b)
append_bytes none q = q
append_bytes (more h p) q = more h (append_bytes p q)

take_bytes : (n : ℕ) {l : List ℕ} → Bytes l → Bytes (take n l)
take_bytes zero p = none
take_bytes (suc n) none = none
take_bytes (suc n) (more h p) = more h (take_bytes n p)

drop_bytes : (n : ℕ) {l : List ℕ} → Bytes l → Bytes (drop n l)
drop_bytes zero p = p
drop_bytes (suc n) none = none
drop_bytes (suc n) (more h p) = drop_bytes n p

pub byte_at_law : {l : List ℕ} (i : ℕ) → Bytes l → get_or l i 0 < 256
byte_at_law i none = omega arith
byte_at_law zero (more h p) = h
byte_at_law (suc i) (more h p) = byte_at_law i p

tabulate_bytes : (n : ℕ) (f : ℕ → ℕ) → ((i : ℕ) → f i < 256) → Bytes (tabulate n f)
unfolding tabulate
tabulate_bytes zero f h = none
tabulate_bytes (suc n) f h = more (h zero) (tabulate_bytes n (λ i. f (suc i)) (λ i. h (suc i)))

part_bytes : (at size : ℕ) {l : List ℕ} → Bytes l → Bytes (part at size l)
unfolding part
part_bytes at size p = take_bytes size (drop_bytes at p)

put_bytes : (at : ℕ) {b l : List ℕ} → Bytes b → Bytes l → Bytes (put at b l)
unfolding put
put_bytes at {b} p q = append_bytes (take_bytes at q) (append_bytes p (drop_bytes (at + length b) q))

either_bytes : (t : Bool) {a b : List ℕ} → Bytes a → Bytes b → Bytes (cond t a b)
either_bytes true p q = p
either_bytes false p q = q

changes_bytes : (n : ℕ) (f : ℕ → List ℕ → List ℕ) {l : List ℕ} → ((i : ℕ) (m : List ℕ) → Bytes m → Bytes (f i m)) → Bytes l → Bytes (changes n f l)
unfolding changes
changes_bytes zero f h p = p
changes_bytes (suc n) f h p = h n (changes n f _) (changes_bytes n f h p)

-- ---- the calls

module _ (st : State) (i : ℕ) where
  -- a sum of bytes is a byte
  sum_bytes : (r : Record) {work : List ℕ} → Bytes work → (b : ℕ) → sum_byte st i r work b < 256
  unfolding sum_byte
  sum_bytes r {work} p b =
      xor_byte _ _
      (sum_lt 8 st.cards _ (λ q h. pick (takes_read (units_of st) r.graph r.mask (chosen_at st r) q) (read_at st.cards st.block i q + b)))
      (sum_lt 8 st.cards _ (λ q h. pick (takes_new (units_of st) r.graph r.mask q) (write_at st.cards st.block i q + b)))
    where
      pick : (t : Bool) (at : ℕ) → cond t (get_or work at 0) 0 < 256
      pick true at = byte_at_law at p
      pick false at = omega arith

  pub work_bytes : (r : Record) (s : Step) {work image : List ℕ} → Bytes work → Bytes image → Bytes (work_after st i r s work image)
  unfolding work_after
  work_bytes r (rd p) w m = put_bytes (read_at st.cards st.block i p) (part_bytes (cell_of st r p) st.block m) w
  work_bytes r xr {work} w m = put_bytes (sum_at st i r) (tabulate_bytes st.block (sum_byte st i r work) (sum_bytes r w)) w
  work_bytes r (wr p) w m = w
  work_bytes r nil w m = w

  pub image_bytes : (r : Record) (s : Step) {work image : List ℕ} → Bytes work → Bytes image → Bytes (image_after st i r s work image)
  unfolding image_after
  image_bytes r (rd p) w m = m
  image_bytes r xr w m = m
  image_bytes r (wr p) w m = put_bytes (cell_of st r p) (part_bytes (write_at st.cards st.block i p) st.block w) m
  image_bytes r nil w m = m

  pub kept_bytes : (mask : ℕ) {payload work : List ℕ} → Bytes payload → Bytes work → Bytes (keep_units st i mask payload work)
  unfolding keep_units
  kept_bytes mask p w =
      changes_bytes (units_of st) _
      (λ u m q. either_bytes (bit u mask) (put_bytes (write_at st.cards st.block i u) (part_bytes (rank mask u * st.block) st.block p) q) q)
      w

  pub handed_bytes : (mask : ℕ) {work result : List ℕ} → Bytes work → Bytes result → Bytes (hand_over st i mask work result)
  unfolding hand_over
  handed_bytes mask w p =
      changes_bytes (units_of st) _
      (λ u m q. either_bytes (bit u mask) (put_bytes (rank mask u * st.block) (part_bytes (read_at st.cards st.block i u) st.block w) q) q)
      p

-- a block that is restored is a sum of bytes
pub restored_bytes : (st : State) (c s : ℕ) {image : List ℕ} → Bytes image → Bytes (restored st image c s)
unfolding restored rest_of byte_at
restored_bytes st c s {image} m =
    put_bytes (cell_at st.stripes st.block c s)
    (tabulate_bytes st.block _ (λ b. sum_lt 8 st.cards _ (λ d h. pick (eqb d c) (cell_at st.stripes st.block d s + b))))
    m
  where
    pick : (t : Bool) (at : ℕ) → cond t 0 (get_or image at 0) < 256
    pick true at = omega arith
    pick false at = byte_at_law at m
