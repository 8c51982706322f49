-- The impostors of document 01, "What the contracts must settle", each an engine of its own. The first two are told from ours by an answer, as
-- the contracts ask for; the others break the promise itself, in a run that is shown by computation.
-- Assumes nothing.
use Prim.Native.Nat.{ℕ, ◌+◌, ◌-◌, ◌*◌}
use mathlib.Core.Bool.{false, cond, not, ◌&&◌}
use mathlib.Core.List.{List, [], ◌∷◌}
use mathlib.Core.Path.{◌≡◌, refl, sym, ap}
use native.Mathlib.Omega.{arith}
use lib.Dec.{eqb, lit<}
use lib.ListN.{length, get_or, set, replicate}
use Rattle.terms.specs.Reply.{Reply, accepted, refused}
use Rattle.record.specs.Life.{units_of}
use Rattle.history.specs.Examples.{fill, kept, with_work}
use Rattle.history.specs.Promise.{Keeps}
use Rattle.history.specs.World.{World, Event, admit, step, Outcome, Engine, play}
use Rattle.history.proofs.Compute.{computed}
use Rattle.history.proofs.Runs.{start, book, begun, run, one_write, two_writes, idle_of_two, bookkeeping, kind_of, record_of, accepts, leaving, unwritten}

-- ---- one that refuses everything, by whichever number: an admission to a free stripe is accepted

pub refuser : ℕ → Engine
refuser k w e = record { reply = refused k; world = w; result = [] }

pub refuser_told : (k : ℕ) → ¬ (k ≡ 0) → ¬ ((play start (admit false 0 1 [])).reply ≡ (refuser k start (admit false 0 1 [])).reply)
unfolding computed refuser
refuser_told k d e = d (sym (ap (λ (r : Reply). r.number) e))

-- ---- one with a constant answer: that admission is accepted, and a step of a free record is not

pub constant : Reply → Engine
constant c w e = record { reply = c; world = w; result = [] }

pub constant_told : (c : Reply) → ¬ ((e : Event) → (play start e).reply ≡ (constant c start e).reply)
unfolding computed constant
constant_told c same =
    let yes-number : 0 ≡ c.number = ap (λ (r : Reply). r.number) (same (admit false 0 1 [])) in
    let no_number : 10 ≡ c.number = ap (λ (r : Reply). r.number) (same (step 0 0)) in
    omega arith

-- ---- one that finishes requests and writes nothing

unfoldable pub idler : Engine
idler w e = let o = play w e in cond (eqb (kind_of e) 2) (unwritten w o) o

pub idler_told : ¬ Keeps idler
unfolding bookkeeping idler kind_of
idler_told keeps =
    wrong
    ((keeps _ _ (run idler one_write (begun idler)) refl).units 1 (lit< tt) (idle_of_two (kept idler start book one_write) refl (λ e. omega arith) (λ e. omega arith) 0)
    (λ e. omega arith))
  where
    wrong : ◌≡◌ {A = List ℕ} (fill 0x22) (fill 0x33) → ⊥
    wrong e = let z : ◌≡◌ {A = ℕ} 0x22 0x33 = ap (λ (l : List ℕ). get_or l 0 0) e in omega arith

-- ---- one that works for the first request and pretends later. Its own mark is the last byte of the work store: 0 before the first admission,
-- i+1 while record i has the first request, 255 after that one is collected

unfoldable pub mark_in : World → ℕ
mark_in w = get_or w.work (length w.work - 1) 0

unfoldable pub next_mark : ℕ → Event → Outcome → ℕ
next_mark mark e o =
    cond (accepts 1 e o && eqb mark 0)
    (o.reply.first + 1)
    (cond (accepts 4 e o && eqb mark (record_of e + 1)) 255 mark)

unfoldable pub marking : ℕ → Outcome → Outcome
marking mark o = leaving o (with_work o.world (set o.world.work (length o.world.work - 1) mark))

unfoldable pub beginner : Engine
beginner w e =
    let o = play w e in
    marking (next_mark (mark_in w) e o) (cond (eqb (kind_of e) 2 && not (eqb (mark_in w) (record_of e + 1))) (unwritten w o) o)

-- the first write is served; the second one, at the same record, is not
pub beginner_told : ¬ Keeps beginner
unfolding bookkeeping beginner mark_in next_mark marking kind_of record_of
beginner_told keeps =
    wrong
    ((keeps _ _ (run beginner two_writes (begun beginner)) refl).units 0 (lit< tt) (idle_of_two (kept beginner start book two_writes) refl (λ e. omega arith) (λ e. omega arith) 0)
    (λ e. omega arith))
  where
    wrong : ◌≡◌ {A = List ℕ} (fill 0x11) (fill 0x55) → ⊥
    wrong e = let z : ◌≡◌ {A = ℕ} 0x11 0x55 = ap (λ (l : List ℕ). get_or l 0 0) e in omega arith

-- ---- one whose step count is invented: it answers 2n+3 to every collect

unfoldable pub inventor : Engine
inventor w e =
    let o = play w e in
    cond (accepts 4 e o) (record { reply = accepted (2 * units_of w.state + 3) 0; world = o.world; result = o.result }) o

-- a read of unit 0 takes one step
pub inventor_told : ¬ Keeps inventor
unfolding bookkeeping inventor kind_of
inventor_told keeps =
    wrong ((keeps _ _ (run inventor (admit false 0 1 [] ∷ step 0 0 ∷ []) (begun inventor)) refl).counts 0 (replicate 16 0) refl)
  where
    wrong : accepted 9 0 ≡ accepted 1 0 → ⊥
    wrong e = let z : ◌≡◌ {A = ℕ} 9 1 = ap (λ (r : Reply). r.first) e in omega arith
