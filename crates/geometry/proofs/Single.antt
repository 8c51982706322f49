-- An answer about placement can be read off its number and values, so any two answers that a contract allows are equal.
-- Assumes nothing.
use mathlib.Core.Path.{◌≡◌, refl, ap, sym, ◌∙◌}
use native.Mathlib.Omega.{arith}
use borrow.Author.Tests.{eqb-false}
use Rattle.std.specs.Prelude.{Result, Ok, Err}
use Rattle.terms.specs.Reply.{Reply, reply_of, number_of}
use Rattle.terms.specs.declared.refusal.Refusal.{Refusal}
use Rattle.terms.proofs.Answers.{refusal_named, number_not_0}
use Rattle.geometry.specs.Answers.{placed_reply, held_reply, said_of_held}
use Rattle.geometry.specs.declared.Held.{Held}
use Rattle.geometry.specs.declared.Held.TheVariants as held
use Rattle.geometry.specs.declared.Placed.{Placed}

-- where an accepted answer has the number 0 and is the one that its reply names, so is every answer
module _ {A : Type 0} (said : A → Reply) (accepts : (a : A) → (said a).number ≡ 0) (named : (a b : A) → said a ≡ said b → a ≡ b) where
  apart : (a : A) (r : Refusal) → said a ≡ reply_of said (Err r) → ⊥
  apart a r e = eqb-false (number_of r) 0 (number_not_0 r) (sym (ap (λ (p : Reply). p.number) e) ∙ accepts a)

  pub answer_named : (a b : Result A Refusal) → reply_of said a ≡ reply_of said b → a ≡ b
  answer_named (Ok a) (Ok b) e = ap Ok (named a b e)
  answer_named (Ok a) (Err r) e = absurd (apart a r e)
  answer_named (Err r) (Ok b) e = absurd (apart b r (sym e))
  answer_named (Err r) (Err q) e = ap Err (refusal_named r q e)

pub placed_one : (a b : Result Placed Refusal) → placed_reply a ≡ placed_reply b → a ≡ b
placed_one =
    answer_named _ (λ a. refl) (λ a b e. ap (λ (r : Reply). record { card = r.first; stripe = r.second }) e)

held_number : (a : Held) → (said_of_held a).number ≡ 0
held_number (held.Block L) = refl
held_number held.Parity = refl

held_named : (a b : Held) → said_of_held a ≡ said_of_held b → a ≡ b
held_named (held.Block L) (held.Block M) e = ap (λ (r : Reply). held.Block r.second) e
held_named (held.Block L) held.Parity e = absurd (let f = ap (λ (r : Reply). r.first) e in omega arith)
held_named held.Parity (held.Block M) e = absurd (let f = ap (λ (r : Reply). r.first) e in omega arith)
held_named held.Parity held.Parity e = refl

pub held_one : (a b : Result Held Refusal) → held_reply a ≡ held_reply b → a ≡ b
held_one = answer_named said_of_held held_number held_named
