-- Laws of answers and their replies: a refusal's number is not 0, and an answer is the one that its reply names.
-- Assumes nothing.
use Prim.Native.Nat.{ℕ}
use mathlib.Core.Bool.{false, cond}
use mathlib.Core.Path.{◌≡◌, refl, ap, sym, ◌∙◌}
use borrow.Author.Tests.{eqb-false}
use Rattle.std.specs.Prelude.{Result, Ok, Err, ⊤, eqb}
use Rattle.terms.specs.Reply.{Reply, refused, on_accept, refusal_reply, number_of, done_reply, value_reply}
use Rattle.terms.specs.declared.refusal.Refusal.{Refusal}
use Rattle.terms.specs.declared.refusal.Refusal.TheVariants as refusal

-- a refusal's number is not 0
pub number_not_0 : (r : Refusal) → eqb (number_of r) 0 ≡ false
number_not_0 refusal.BeyondLimits = refl
number_not_0 refusal.WrongLength = refl
number_not_0 refusal.UnsoundTable = refl
number_not_0 refusal.ArrayLost = refl
number_not_0 refusal.OutOfRange = refl
number_not_0 refusal.WrongMask = refl
number_not_0 refusal.WrongPayload = refl
number_not_0 refusal.StripeHeld = refl
number_not_0 refusal.NoFreeRecord = refl
number_not_0 refusal.WrongPhase = refl
number_not_0 refusal.StepNotReady = refl
number_not_0 refusal.CardOut = refl
number_not_0 (refusal.ParityDisagrees s b) = refl
number_not_0 refusal.NoFill = refl
number_not_0 refusal.FillUnderWay = refl

-- the refusal of a reply
refusal_of : Reply → Refusal
refusal_of r =
    cond (eqb r.number 1) refusal.BeyondLimits (
    cond (eqb r.number 2) refusal.WrongLength (
    cond (eqb r.number 3) refusal.UnsoundTable (
    cond (eqb r.number 4) refusal.ArrayLost (
    cond (eqb r.number 5) refusal.OutOfRange (
    cond (eqb r.number 6) refusal.WrongMask (
    cond (eqb r.number 7) refusal.WrongPayload (
    cond (eqb r.number 8) refusal.StripeHeld (
    cond (eqb r.number 9) refusal.NoFreeRecord (
    cond (eqb r.number 10) refusal.WrongPhase (
    cond (eqb r.number 11) refusal.StepNotReady (
    cond (eqb r.number 12) refusal.CardOut (
    cond (eqb r.number 13) (refusal.ParityDisagrees r.first r.second) (
    cond (eqb r.number 14) refusal.NoFill (refusal.FillUnderWay))))))))))))))

of_reply : (r : Refusal) → refusal_of (refusal_reply r) ≡ r
unfolding refusal_of
of_reply refusal.BeyondLimits = refl
of_reply refusal.WrongLength = refl
of_reply refusal.UnsoundTable = refl
of_reply refusal.ArrayLost = refl
of_reply refusal.OutOfRange = refl
of_reply refusal.WrongMask = refl
of_reply refusal.WrongPayload = refl
of_reply refusal.StripeHeld = refl
of_reply refusal.NoFreeRecord = refl
of_reply refusal.WrongPhase = refl
of_reply refusal.StepNotReady = refl
of_reply refusal.CardOut = refl
of_reply (refusal.ParityDisagrees s b) = refl
of_reply refusal.NoFill = refl
of_reply refusal.FillUnderWay = refl

-- two refusals of one reply are the same
pub refusal_named : (r q : Refusal) → refusal_reply r ≡ refusal_reply q → r ≡ q
refusal_named r q e = sym (of_reply r) ∙ ap refusal_of e ∙ of_reply q

-- what a refused call leaves: the old thing
pub left_refused : {A : Type 0} (r : Refusal) (number : ℕ) (new old : A) → refusal_reply r ≡ refused number → on_accept number new old ≡ old
left_refused r number new old e = rw (sym (ap (λ (p : Reply). p.number) e)) (rw (number_not_0 r) refl)

-- 0 is not a refusal's number
zero_refused : (r : Refusal) → 0 ≡ number_of r → ⊥
zero_refused r e = eqb-false (number_of r) 0 (number_not_0 r) (sym e)

-- an answer that is accepted with no value is the one that its reply names, and so is one that is with a number
pub done_named : (a b : Result ⊤ Refusal) → done_reply a ≡ done_reply b → a ≡ b
done_named (Ok a) (Ok b) e = refl
done_named (Ok a) (Err r) e = absurd (zero_refused r (ap (λ (p : Reply). p.number) e))
done_named (Err r) (Ok b) e = absurd (zero_refused r (ap (λ (p : Reply). p.number) (sym e)))
done_named (Err r) (Err q) e = ap Err (refusal_named r q e)

pub value_named : (a b : Result ℕ Refusal) → value_reply a ≡ value_reply b → a ≡ b
value_named (Ok a) (Ok b) e = ap (λ (p : Reply). Ok p.first) e
value_named (Ok a) (Err r) e = absurd (zero_refused r (ap (λ (p : Reply). p.number) e))
value_named (Err r) (Ok b) e = absurd (zero_refused r (ap (λ (p : Reply). p.number) (sym e)))
value_named (Err r) (Err q) e = ap Err (refusal_named r q e)
