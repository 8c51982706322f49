-- What a step answers where it is accepted, by document 01's values.
-- Assumes nothing.
use Rattle.std.specs.Prelude.{ℕ, cond, eqb, Result}
use Rattle.terms.specs.Reply.{Reply, accepted, reply_of}
use Rattle.terms.specs.declared.refusal.Refusal.{Refusal}
use Rattle.array.specs.declared.answers.Stepped.{Stepped}

-- 0 where it is done, the new graph's number where one is chosen afresh
abbrev pub step_values : Stepped → Reply
step_values Stepped.Done = accepted 0 0
step_values (Stepped.Chosen g) = accepted g 0

abbrev pub stepped_reply : Result Stepped Refusal → Reply
stepped_reply = reply_of step_values

-- the answer that has this value: a graph's number is not 0
unfoldable pub stepped_of : ℕ → Stepped
stepped_of g = cond (eqb g 0) Stepped.Done (Stepped.Chosen g)
