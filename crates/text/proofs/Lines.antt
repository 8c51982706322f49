-- The line of a stripe: what a card's answer shows, how long its parts are, and how it grows by a card.
-- Assumes nothing.
use Prim.Native.Nat.{ℕ, zero, suc, ◌+◌, ◌-◌, ◌*◌, ◌≤◌, ◌<◌}
use mathlib.Core.Path.{◌≡◌, refl, sym, ap, ◌∙◌}
use mathlib.Core.Bool.{true, false, ◌||◌}
use mathlib.Core.Logic.{⊎_elim}
use mathlib.Core.List.{List, [], ◌∷◌, ◌++◌, append_assoc}
use native.Mathlib.Numerals.{add-one}
use native.Mathlib.Omega.{arith}
use lib.Dec.{eqb, ltb, leb}
use lib.ListN.{length, set, length-append, length-set}
use lib.Seq.{append_snoc}
use borrow.Author.Tests.{eqb-true, eqb-false, lt-ltb, le-ltb, le-leb, lt-leb, ltb-false, leb-false}
use Rattle.terms.specs.Lists.{put}
use Rattle.std.specs.Prelude.{Result, Ok, Err}
use Rattle.terms.specs.Reply.{Reply, accepted, number_of}
use Rattle.terms.specs.declared.refusal.Refusal.{Refusal}
use Rattle.terms.proofs.Answers.{number_not_0}
use Rattle.terms.proofs.Lists.{length_put}
use Rattle.terms.proofs.Rows.{truth, or_false_left, or_false_right}
use Rattle.geometry.specs.Answers.{beyond_places, block_at_reply, held_reply}
use Rattle.geometry.specs.Placement.{position_of, block_of}
use Rattle.geometry.specs.declared.Held.{Held}
use Rattle.geometry.specs.declared.Held.TheVariants as held
use Rattle.geometry.proofs.Answered.{places_bounds, blocks_few, block_at_parity, block_at_found}
use Rattle.geometry.proofs.Placing.{placed}
use Rattle.text.specs.Decimal.{decimal}
use Rattle.text.specs.Input.{space, newline}
use Rattle.text.specs.Line.{letter_p, shown, held_text, answer_text, cards_text, line_text, line_room, written}
use Rattle.text.proofs.Decimal.{decimal_length}
use Rattle.text.proofs.Put.{put_behind, put_next, put_nothing}

-- a refusal is not accepted
not_accepted : (r : Refusal) → number_of r ≡ 0 → ⊥
not_accepted r e = eqb-false (number_of r) 0 (number_not_0 r) e

-- an answer with these values shows this
shown_parity : (h : Result Held Refusal) → held_reply h ≡ accepted 1 0 → answer_text h ≡ letter_p ∷ []
unfolding answer_text held_text
shown_parity (Ok (held.Block L)) e = absurd (omega (arith, ap (λ (r : Reply). r.first) e))
shown_parity (Ok held.Parity) e = refl
shown_parity (Err r) e = absurd (not_accepted r (ap (λ (r : Reply). r.number) e))

shown_block : (h : Result Held Refusal) (L : ℕ) → held_reply h ≡ accepted 0 L → answer_text h ≡ decimal L
unfolding answer_text held_text
shown_block (Ok (held.Block M)) L e = ap (λ (r : Reply). decimal r.second) e
shown_block (Ok held.Parity) L e = absurd (omega (arith, ap (λ (r : Reply). r.first) e))
shown_block (Err r) L e = absurd (not_accepted r (ap (λ (r : Reply). r.number) e))

-- where writing stands once k cards are put into l from a place on: the place behind them, and the list
pub record Upto (N s at : ℕ) (l : List ℕ) (k end : ℕ) (out : List ℕ) : Type 0 where
  pub few : k ≤ N
  pub place : end ≡ at + length (cards_text N s k)
  pub text : out ≡ put at (cards_text N s k) l

pub upto_none : (N s at : ℕ) (l : List ℕ) → Upto N s at l 0 at l
unfolding cards_text
upto_none N s at l = record { few = omega arith; place = omega arith; text = sym (put_nothing l at) }

module _ (N S s : ℕ) (legal : beyond_places N S 5 ≡ false) (below : s < S) where
  -- what placement answers of a card is what the card shows
  pub held_shown : (c : ℕ) → c < N → (h : Result Held Refusal) → held_reply h ≡ block_at_reply N S 5 c s → answer_text h ≡ shown N s c
  unfolding shown
  held_shown c less h e = ⊎_elim parity block (truth (eqb (position_of N 5 s c) (N - 1)))
    where
      parity : eqb (position_of N 5 s c) (N - 1) ≡ true → answer_text h ≡ shown N s c
      parity t = rw t (shown_parity h (e ∙ block_at_parity N S 5 c s legal less below (eqb-true _ _ t)))

      block : eqb (position_of N 5 s c) (N - 1) ≡ false → answer_text h ≡ shown N s c
      block t = rw t (shown_block h _ (e ∙ block_at_found N S 5 c s legal less below (eqb-false _ _ t)))

  -- which is P or at most four digits
  shown_size : (c : ℕ) → c < N → length (shown N s c) ≤ 4
  unfolding shown
  shown_size c less = ⊎_elim parity block (truth (eqb (position_of N 5 s c) (N - 1)))
    where
      parity : eqb (position_of N 5 s c) (N - 1) ≡ true → length (shown N s c) ≤ 4
      parity t = rw t (omega arith)

      block : eqb (position_of N 5 s c) (N - 1) ≡ false → length (shown N s c) ≤ 4
      block t =
          let b = places_bounds N S 5 legal in
          rw t (decimal_length (block_of N s (position_of N 5 s c)) (omega (arith, (placed N 5 (omega arith)).position_below s c less, blocks_few N S 5 legal s (omega arith))))

  -- k cards take at most five bytes each
  pub cards_size : (k : ℕ) → k ≤ N → length (cards_text N s k) ≤ 5 * k
  unfolding cards_text
  cards_size zero h = omega arith
  cards_size (suc k) h = rw length-append (omega (arith, cards_size k (omega arith), shown_size k (omega arith)))

  module _ (at : ℕ) (l : List ℕ) (room : at + 5 * N ≤ length l) {k end : ℕ} {out : List ℕ} (u : Upto N s at l k end out) where
    -- writing keeps the length
    pub upto_length : length out ≡ length l
    upto_length = ap length u.text ∙ length_put at (cards_text N s k) l (omega (arith, cards_size k u.few))

    -- there is room for the next card
    pub upto_room : k < N → end + 5 ≤ length out
    upto_room less = omega (arith, u.place, cards_size k u.few, upto_length)

    -- the card's text, as placement answers it, fits behind a space
    pub upto_fits : k < N → (h : Result Held Refusal) → held_reply h ≡ block_at_reply N S 5 k s → end + 1 + length (answer_text h) ≤ length (set out end space)
    upto_fits less h e = simp length-set (omega (arith, upto_room less, ap length (held_shown k less h e), shown_size k less))

    -- and is put there
    pub upto_next : k < N → (h : Result Held Refusal) {r : ℕ} {out' : List ℕ} → held_reply h ≡ block_at_reply N S 5 k s → r ≡ end + 1 + length (answer_text h)
        → out' ≡ put (end + 1) (answer_text h) (set out end space) → Upto N s at l (k + 1) r out'
    unfolding cards_text
    upto_next less h e p q =
        let before = cards_text N s k in
        let small = cards_size k u.few in
        let more = shown_size k less in
        let spaced = put_next l at before space (omega arith) in
        let size = length-append before (space ∷ []) in
        let size-all = length-append before (space ∷ shown N s k) in
        let shows = held_shown k less h e in
        let end_is : at + length before + 1 ≡ at + length (before ++ (space ∷ [])) = omega arith in
        record {
          few = omega arith;
          place = rw add-one (omega (arith, ap length shows, u.place));
          text = rw add-one (q ∙ rw (shows, u.text, u.place, spaced, end_is) (put_behind l at (before ++ (space ∷ [])) (shown N s k) (omega arith) ∙ ap (λ (t : List ℕ). put at t l) (append_snoc before space (shown N s k))));
        }

  -- all the cards
  pub upto_all : (at : ℕ) (l : List ℕ) {k end : ℕ} {out : List ℕ} → Upto N s at l k end out → N ≤ k → (end ≡ at + length (cards_text N s N)) × (out ≡ put at (cards_text N s N) l)
  upto_all at l {k} u h =
      let all : k ≡ N = omega arith in
      (u.place ∙ ap (λ (j : ℕ). at + length (cards_text N s j)) all, u.text ∙ ap (λ (j : ℕ). put at (cards_text N s j) l) all)

  -- the stripe has at most four digits
  pub stripe_size : length (decimal s) ≤ 4
  stripe_size = let b = places_bounds N S 5 legal in decimal_length s (omega arith)

  -- the stripe and the cards leave room for the newline
  pub line_short : length (decimal s) + length (cards_text N s N) < line_room
  line_short = let b = places_bounds N S 5 legal in omega (arith, stripe_size, cards_size N (omega arith))

  -- the line is what is written where there is room
  written_line : (room : ℕ) → line_room ≤ room → written N S s room ≡ line_text N s
  unfolding written
  written_line room h = simp (le-ltb room line_room h, legal, lt-leb S s below)

  -- the stripe, the cards and the newline, one behind the other, are the line
  line_put : (l : List ℕ) → line_room ≤ length l
      → set (put (0 + length (decimal s)) (cards_text N s N) (put 0 (decimal s) l)) (0 + length (decimal s) + length (cards_text N s N)) newline ≡ put 0 (line_text N s) l
  unfolding line_text
  line_put l room =
      let short = line_short in
      let front = decimal s ++ cards_text N s N in
      let size = length-append (decimal s) (cards_text N s N) in
      let end : 0 + length (decimal s) + length (cards_text N s N) ≡ 0 + length front = omega arith in
      rw (put_behind l 0 (decimal s) (cards_text N s N) (omega arith), end)
      (put_next l 0 front newline (omega arith) ∙ ap (λ (t : List ℕ). put 0 t l) (append_assoc (decimal s) (cards_text N s N) (newline ∷ [])))

  line_size : 0 + length (decimal s) + length (cards_text N s N) + 1 ≡ length (line_text N s)
  unfolding line_text
  line_size = omega (arith, length-append (decimal s) (cards_text N s N ++ (newline ∷ [])), length-append (cards_text N s N) (newline ∷ []))

  -- so the line is written, from what its three parts leave
  pub line_written : (l : List ℕ) → line_room ≤ length l → {at end : ℕ} {l₁ l₂ : List ℕ} → at ≡ 0 + length (decimal s) → l₁ ≡ put 0 (decimal s) l
      → end ≡ at + length (cards_text N s N) → l₂ ≡ put at (cards_text N s N) l₁
      → (end + 1 ≡ length (written N S s (length l))) × (set l₂ end newline ≡ put 0 (written N S s (length l)) l)
  line_written l room p q e r =
      let w = written_line (length l) room in
      (omega (arith, ap length w, line_size), rw (r, e, p, q, w) (line_put l room))

-- what is written where something is refused
pub written_small : (N S s room : ℕ) → room < line_room → written N S s room ≡ []
unfolding written
written_small N S s room h = simp (lt-ltb room line_room h)

pub written_beyond : (N S s room : ℕ) → line_room ≤ room → beyond_places N S 5 ≡ true → written N S s room ≡ []
unfolding written
written_beyond N S s room h e = simp (le-ltb room line_room h, e)

pub written_range : (N S s room : ℕ) → line_room ≤ room → beyond_places N S 5 ≡ false → S ≤ s → written N S s room ≡ []
unfolding written
written_range N S s room h e g = simp (le-ltb room line_room h, e, le-leb S s g)

-- and then nothing is altered
pub nothing : (t l : List ℕ) → t ≡ [] → (0 ≡ length t) × (l ≡ put 0 t l)
nothing t l e = (sym (ap length e), sym (put_nothing l 0) ∙ ap (λ (u : List ℕ). put 0 u l) (sym e))

-- what is written fits in the room
pub written_fits : (N S s room : ℕ) → length (written N S s room) ≤ room
unfolding written
written_fits N S s room = ⊎_elim (λ t. rw t (omega arith)) line (truth (ltb room line_room || (beyond_places N S 5 || leb S s)))
  where
    line : (ltb room line_room || (beyond_places N S 5 || leb S s)) ≡ false → length (written N S s room) ≤ room
    line t =
        let rest = or_false_right (ltb room line_room) (beyond_places N S 5 || leb S s) t in
        let legal = or_false_left (beyond_places N S 5) (leb S s) rest in
        let below = leb-false S s (or_false_right (beyond_places N S 5) (leb S s) rest) in
        let large = ltb-false room line_room (or_false_left (ltb room line_room) (beyond_places N S 5 || leb S s) t) in
        omega (arith, ap length (written_line N S s legal below room large), line_size N S s legal below, line_short N S s legal below)
