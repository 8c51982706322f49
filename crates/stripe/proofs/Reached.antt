-- Document 01, "Checked examples", the last: N = 3, a full write whose last step meets a dead data card. 3 done, 1 to choose afresh, 3 more:
-- 7 = 2n+3, so the bound on a request's count is reached.
-- Assumes nothing.
use Prim.Native.Nat.{ℕ}
use mathlib.Core.Bool.{true}
use mathlib.Core.Path.{◌≡◌, refl}
use native.Mathlib.Omega.{arith}
use Rattle.graph.specs.Steps.{xr, wr}
use Rattle.stripe.specs.Blocks.{Blocks, On, by_write}
use Rattle.stripe.specs.Group.{sum_to}
use Rattle.stripe.specs.Invariant.{Idle, IsRow}
use Rattle.stripe.specs.Request.{Request, finished, begun}
use Rattle.stripe.specs.Run.{Run, admitted, stepped, afresh, failed}
use Rattle.stripe.proofs.Bytes.{bytes}
use Rattle.stripe.proofs.Computing.{computing}

-- the exclusive or is on no position, and a write on its own alone
sum_apart : (x : ℕ) → ¬ On x xr
sum_apart x = elim [ ]

write_at_law : {x p : ℕ} → On x (wr p) → p ≡ x
write_at_law by_write = refl

abbrev zeros : ℕ → ℕ
zeros p = 0

idle : Idle bytes 2 3 zeros zeros
unfolding IsRow sum_to
idle = record { row = refl; holds = λ p l h. refl }

-- the exclusive or and the writes of unit 0 and of parity; unit 1's card goes out, and its write chooses afresh; then the same three again
pub seven : (new : ℕ → ℕ)
    → (q : Request) × (b : Blocks ℕ) × Run bytes 2 true 3 zeros new 1 q b × (finished 2 q ≡ true) × (q.count ≡ 7)
unfolding computing
seven new =
    let start : Run bytes 2 true 3 zeros new 3 (begun 2 true 3 3) (record { cell = zeros; got = zeros; new = new }) = admitted 3 zeros zeros idle in
    let summed = stepped start 3 refl (sum_apart 3) in
    let wrote = stepped summed 4 refl (λ o. omega (arith, write_at_law o)) in
    let three = stepped wrote 6 refl (λ o. omega (arith, write_at_law o)) in
    let four = afresh (failed three (omega arith) 1) 5 refl by_write (omega arith) in
    let summed' = stepped four 3 refl (sum_apart 1) in
    let wrote' = stepped summed' 4 refl (λ o. omega (arith, write_at_law o)) in
    let seven = stepped wrote' 6 refl (λ o. omega (arith, write_at_law o)) in
    (_, _, seven, refl, refl)
