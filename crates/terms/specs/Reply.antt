-- How an answer is set out: its number, with its values, and the table of refusals that gives the number.
-- Assumes nothing.
use Rattle.std.specs.Prelude.{ℕ, Bool, cond, List, [], ◌∷◌, eqb, Result, Ok, Err, ⊤}
use Rattle.terms.specs.declared.refusal.Refusal.{Refusal}
use Rattle.terms.specs.declared.refusal.Refusal.TheVariants as refusal

-- an answer's number, 0 where the call is accepted, and its two values, 0 where it has none
pub record Reply : Type 0 where
  pub number : ℕ
  pub first : ℕ
  pub second : ℕ

-- accepted, with these values
abbrev pub accepted : ℕ → ℕ → Reply
accepted v w = record { number = 0; first = v; second = w }

-- refused by this number, with no value
abbrev pub refused : ℕ → Reply
refused k = record { number = k; first = 0; second = 0 }

-- a refusal's reply; that of 13 has the lowest stripe and the lowest byte in it where parity disagrees
abbrev pub refusal_reply : Refusal → Reply
refusal_reply refusal.BeyondLimits = refused 1
refusal_reply refusal.WrongLength = refused 2
refusal_reply refusal.UnsoundTable = refused 3
refusal_reply refusal.ArrayLost = refused 4
refusal_reply refusal.OutOfRange = refused 5
refusal_reply refusal.WrongMask = refused 6
refusal_reply refusal.WrongPayload = refused 7
refusal_reply refusal.StripeHeld = refused 8
refusal_reply refusal.NoFreeRecord = refused 9
refusal_reply refusal.WrongPhase = refused 10
refusal_reply refusal.StepNotReady = refused 11
refusal_reply refusal.CardOut = refused 12
refusal_reply (refusal.ParityDisagrees stripe byte) = record { number = 13; first = stripe; second = byte }
refusal_reply refusal.NoFill = refused 14
refusal_reply refusal.FillUnderWay = refused 15

-- a refusal's number
abbrev pub number_of : Refusal → ℕ
number_of r = (refusal_reply r).number

-- an answer's reply: what is said of its value where the call is accepted, or the refusal's
abbrev pub reply_of : {A : Type 0} → (A → Reply) → Result A Refusal → Reply
reply_of said (Ok a) = said a
reply_of said (Err r) = refusal_reply r

-- the reply of an answer that is accepted with no value, and of one that is with one number
abbrev pub done_reply : Result ⊤ Refusal → Reply
done_reply = reply_of (λ done. accepted 0 0)

abbrev pub value_reply : Result ℕ Refusal → Reply
value_reply = reply_of (λ v. accepted v 0)

-- a row of a table: what is given where the test holds
pub record Row : Type 0 where
  pub test : Bool
  pub gives : ℕ

-- the row of this test and this number
abbrev pub row : Bool → ℕ → Row
row t k = record { test = t; gives = k }

-- what the first row gives whose test holds, and 0 where none does
unfoldable pub first_row : List Row → ℕ
first_row [] = 0
first_row (r ∷ rs) = cond r.test r.gives (first_row rs)

-- what a call leaves: the new thing where it is accepted, its number 0, and the old where it is refused
abbrev pub on_accept {ℓ} : {A : Type ℓ} → ℕ → A → A → A
on_accept number new old = cond (eqb number 0) new old

-- a refusal's reply, where 13 also gives values
abbrev pub refused_or13 : ℕ → Reply → Reply
refused_or13 number r = cond (eqb number 13) r (refused number)
