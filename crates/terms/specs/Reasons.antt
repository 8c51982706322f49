-- Why a call was refused, in words: what a refusal prints.
-- Assumes nothing.
use Rattle.std.specs.Prelude.{ℕ, List, codes}
use Rattle.terms.specs.declared.refusal.Refusal.{Refusal}
use Rattle.terms.specs.declared.refusal.Refusal.TheVariants as refusal

abbrev pub reason : Refusal → List ℕ
reason refusal.BeyondLimits = codes "beyond the limits"
reason refusal.WrongLength = codes "lent a wrong length"
reason refusal.UnsoundTable = codes "the table is not sound"
reason refusal.ArrayLost = codes "the array is lost"
reason refusal.OutOfRange = codes "out of range"
reason refusal.WrongMask = codes "no units, or none such"
reason refusal.WrongPayload = codes "a payload or result of a wrong length"
reason refusal.StripeHeld = codes "the stripe is held"
reason refusal.NoFreeRecord = codes "no record is free"
reason refusal.WrongPhase = codes "the record is not open, or not finished"
reason refusal.StepNotReady = codes "that step is not ready"
reason refusal.CardOut = codes "a card is out"
reason (refusal.ParityDisagrees s b) = codes "parity disagrees"
reason refusal.NoFill = codes "no card is out, or no fill is begun"
reason refusal.FillUnderWay = codes "a fill is under way"
