-- A call of one of the table's functions in a walk by hand of whoever holds the table as a `&mut [Record]`, in any context that begins with the token and what the table owns.
--     counts, looks_over, picks    the table is lent as `&` for the call, and comes back as it was: the answer is the length, the survey, or the record at i
--     puts, frees_all      the table is given up for good: what is left says its last value, with the record r at i, or with every record free where that was asked
-- It comes with the proof that the environment of the run is wired to the function's code. Assumes `Logic`.
use denote.Ref.{Bor, MutBor}
use denote.Struct.Laws as LL
use Rattle.record.proofs.Record.TheLaws as TL
use Rattle.walk.proofs.Words.{refl, ℕ, ◌<◌, ◌^◌, List, [], ◌∷◌, length, get_or, set, replicate, full_share, Lifetime, named, w64, Operand, Place, Body, seq, call, Val, vint, vunit, SProp, id⊢, Lft, Share, Fml, flft, Env, Item, ‵, raw, Post, runs, lands, Seq, Step, step, ◌$◌, move, drop, rewrite, fsplit, Opds, Is, Wired, slice_val}
use Rattle.walk.proofs.Words.{number, truth, nothing, Machine, given_of, calls_of_law, loops_of, nil, had, made, gives, lend, unlend, Callee, calls, answers}
use mathlib.Core.Bool.{Bool, cond}
use denote.Slice.{MutSlice, finally}
use Rattle.geometry.specs.declared.State.{State}
use Rattle.record.specs.Life.{free}
use Rattle.record.specs.Survey.{survey_but}
use Rattle.record.specs.declared.Record.{Record}
use Rattle.geometry.specs.contracts.State as S
use Rattle.record.specs.contracts.Record as T
use Rattle.record.specs.contracts.Survey as Sv
use Rattle.table.proofs.Records.{request, array_state, survey}
use Rattle.table.specs.contracts.count as count
use Rattle.table.proofs.count.Symbol as count_symbol
use Rattle.table.proofs.count.Met as count_met
use Rattle.table.specs.contracts.at as at
use Rattle.table.proofs.at.Symbol as at_symbol
use Rattle.table.proofs.at.Met as at_met
use Rattle.table.specs.contracts.surveyed as surveyed
use Rattle.table.proofs.surveyed.Symbol as surveyed_symbol
use Rattle.table.proofs.surveyed.Met as surveyed_met
use Rattle.table.specs.contracts.replace as replace
use Rattle.table.proofs.replace.Symbol as replace_symbol
use Rattle.table.proofs.replace.Met as replace_met
use Rattle.table.specs.contracts.freed as freed
use Rattle.table.proofs.freed.Symbol as freed_symbol
use Rattle.table.proofs.freed.Met as freed_met

abbrev pub counting : Callee
counting = record { name = count_symbol.name; code = count_symbol.code; subject = record { ended = count.ended; clauses = count.clauses }; met = λ {M}. count_met.met {M = M} }

abbrev pub looking_over : Callee
looking_over = record { name = surveyed_symbol.name; code = surveyed_symbol.code; subject = record { ended = surveyed.ended; clauses = surveyed.clauses }; met = λ {M}. surveyed_met.met {M = M} }

abbrev pub picking : Callee
picking = record { name = at_symbol.name; code = at_symbol.code; subject = record { ended = at.ended; clauses = at.clauses }; met = λ {M}. at_met.met {M = M} }

abbrev pub putting : Callee
putting = record { name = replace_symbol.name; code = replace_symbol.code; subject = record { ended = replace.ended; clauses = replace.clauses }; met = λ {M}. replace_met.met {M = M} }

abbrev pub freeing : Callee
freeing = record { name = freed_symbol.name; code = freed_symbol.code; subject = record { ended = freed.ended; clauses = freed.clauses }; met = λ {M}. freed_met.met {M = M} }

-- the table where it stands, and the machine that the caller runs on
module _ (m : Machine) (ℓ : Lifetime) (κ : Lft) (q : Share) (x : MutBor (List Record)) where
  abbrev ys : List Record
  ys = x.now

  abbrev s : Val
  s = slice_val x.ref_ptr (length ys)

  abbrev shown : Bor (List Record)
  shown = record { ref_ptr = x.ref_ptr; now = ys }

  abbrev Own : Fml
  Own = (MutSlice ℓ κ T.the_row).own_val x (s ∷ [])

  module _ {K : Type 0} {E : Env m.𝓤 m.𝓛.H} {z : Post m.𝓤 m.𝓛.H} {xs : List Operand} {p : Place} {rest : Body} {Γ : List (Item m.𝓤)} where
    pub counts : K → Wired m.𝓡.env counting.code → ((P : SProp m.𝓤) (i : Item m.𝓤) → Opds K (given_of m) (raw P ∷ i ∷ Γ) E xs (s ∷ []))
        → Step K (given_of m) (‵ (flft κ q) ∷ ‵ Own ∷ Γ) (lands (calls_of_law m m.𝓡.env) (loops_of m m.𝓡.env) E p (vint w64 (length ys)) rest z) (‵ (flft κ q) ∷ ‵ Own ∷ Γ) (runs (calls_of_law m m.𝓡.env) (loops_of m m.𝓡.env) E (seq (call counting.name xs p) rest) z)
    counts t key os = step (λ k.
        lend T.the_row κ q x.ref_ptr.0 x.ref_ptr.1 x.ghost_name ys ℓ (named 0) t tt (λ α. (LL.copied T.the_type TL.the_copy m.𝓛).shares full_share (α ∷ [])) (λ α.
        answers m counting key (((α ∷ [], tt), (full_share, tt), tt, (shown, tt), (s ∷ [], tt)), tt) t (id⊢ m.𝓤 _) number (length ys) (λ _ _. id⊢ m.𝓤 _) (had nil) (os _ _) (λ _ _.
        unlend T.the_row κ q x.ref_ptr.0 x.ref_ptr.1 x.ghost_name ys ℓ (named 0) t tt α $ k)))

    pub looks_over : K → Wired m.𝓡.env looking_over.code → (st : State) → Is S.the_row st (array_state.val st ∷ []) → (but : ℕ) → but < 2 ^ 64 → ((P : SProp m.𝓤) (i : Item m.𝓤) → Opds K (given_of m) (raw P ∷ i ∷ Γ) E xs (s ∷ array_state.val st ∷ vint w64 but ∷ []))
        → (Is Sv.the_row (survey_but st ys but) (survey.val (survey_but st ys but) ∷ []) → Seq K (given_of m) (‵ (flft κ q) ∷ ‵ Own ∷ Γ) (lands (calls_of_law m m.𝓡.env) (loops_of m m.𝓡.env) E p (survey.val (survey_but st ys but)) rest z))
        → Seq K (given_of m) (‵ (flft κ q) ∷ ‵ Own ∷ Γ) (runs (calls_of_law m m.𝓡.env) (loops_of m m.𝓡.env) E (seq (call looking_over.name xs p) rest) z)
    looks_over t key st is but fits os k =
        lend T.the_row κ q x.ref_ptr.0 x.ref_ptr.1 x.ghost_name ys ℓ (named 0) t tt (λ α. (LL.copied T.the_type TL.the_copy m.𝓛).shares full_share (α ∷ [])) (λ α.
        answers m looking_over key (((α ∷ [], tt), (full_share, tt), tt, (shown, (st, (but, tt))), (s ∷ [], (array_state.val st ∷ [], (vint w64 but ∷ [], tt)))), tt) t (id⊢ m.𝓤 _) survey (survey_but st ys but) (λ _ _. id⊢ m.𝓤 _) (had (made (gives m array_state st is) (made (gives m number but (refl, fits)) nil))) (os _ _) (λ _ is-survey.
        unlend T.the_row κ q x.ref_ptr.0 x.ref_ptr.1 x.ghost_name ys ℓ (named 0) t tt α $ k is-survey))

    pub picks : K → Wired m.𝓡.env picking.code → (i : ℕ) → i < 2 ^ 64 → ((P : SProp m.𝓤) (j : Item m.𝓤) → Opds K (given_of m) (raw P ∷ j ∷ Γ) E xs (s ∷ vint w64 i ∷ []))
        → (Is T.the_row (get_or ys i free) (request.val (get_or ys i free) ∷ []) → Seq K (given_of m) (‵ (flft κ q) ∷ ‵ Own ∷ Γ) (lands (calls_of_law m m.𝓡.env) (loops_of m m.𝓡.env) E p (request.val (get_or ys i free)) rest z))
        → Seq K (given_of m) (‵ (flft κ q) ∷ ‵ Own ∷ Γ) (runs (calls_of_law m m.𝓡.env) (loops_of m m.𝓡.env) E (seq (call picking.name xs p) rest) z)
    picks t key i fits os k =
        lend T.the_row κ q x.ref_ptr.0 x.ref_ptr.1 x.ghost_name ys ℓ (named 0) t tt (λ α. (LL.copied T.the_type TL.the_copy m.𝓛).shares full_share (α ∷ [])) (λ α.
        answers m picking key (((α ∷ [], tt), (full_share, tt), tt, (shown, (i, tt)), (s ∷ [], (vint w64 i ∷ [], tt))), tt) t (id⊢ m.𝓤 _) request (get_or ys i free) (λ _ _. id⊢ m.𝓤 _) (had (made (gives m number i (refl, fits)) nil)) (os _ _) (λ _ is-r.
        unlend T.the_row κ q x.ref_ptr.0 x.ref_ptr.1 x.ghost_name ys ℓ (named 0) t tt α $ k is-r))

    pub puts : K → Wired m.𝓡.env putting.code → (i : ℕ) (r : Record) → i < 2 ^ 64 → Is T.the_row r (request.val r ∷ []) → ((P : SProp m.𝓤) → Opds K (given_of m) (raw P ∷ Γ) E xs (s ∷ vint w64 i ∷ request.val r ∷ []))
        → Step K (given_of m) (‵ (flft κ q) ∷ ‵ (finally T.the_row x.ghost_name (set ys i r)) ∷ Γ) (lands (calls_of_law m m.𝓡.env) (loops_of m m.𝓡.env) E p vunit rest z) (‵ (flft κ q) ∷ ‵ Own ∷ Γ) (runs (calls_of_law m m.𝓡.env) (loops_of m m.𝓡.env) E (seq (call putting.name xs p) rest) z)
    puts t key i r fits is os = step (λ k.
        calls m putting key (((κ, tt), (q, tt), tt, (x, (i, (r, tt))), (s ∷ [], (vint w64 i ∷ [], (request.val r ∷ [], tt)))), tt) t (id⊢ m.𝓤 _) nothing (λ _ _. id⊢ m.𝓤 _) (had (made (gives m number i (refl, fits)) (made (gives m request r is) nil))) (os _) (λ _ ws same _.
        move t (1 ∷ []) $ fsplit t $ move t (1 ∷ []) $ drop t $ fsplit t $ move t (1 ∷ []) $ drop t $ rewrite t 0 (λ (zs : List Record). ‵ (finally T.the_row x.ghost_name zs)) same refl $ move t (1 ∷ 0 ∷ []) $ k))

    pub frees_all : K → Wired m.𝓡.env freeing.code → (asked : Bool) → ((P : SProp m.𝓤) → Opds K (given_of m) (raw P ∷ Γ) E xs (s ∷ truth.val asked ∷ []))
        → Step K (given_of m) (‵ (flft κ q) ∷ ‵ (finally T.the_row x.ghost_name (cond asked (replicate (length ys) free) ys)) ∷ Γ) (lands (calls_of_law m m.𝓡.env) (loops_of m m.𝓡.env) E p vunit rest z) (‵ (flft κ q) ∷ ‵ Own ∷ Γ) (runs (calls_of_law m m.𝓡.env) (loops_of m m.𝓡.env) E (seq (call freeing.name xs p) rest) z)
    frees_all t key asked os = step (λ k.
        calls m freeing key (((κ, tt), (q, tt), tt, (x, (asked, tt)), (s ∷ [], (truth.val asked ∷ [], tt))), tt) t (id⊢ m.𝓤 _) nothing (λ _ _. id⊢ m.𝓤 _) (had (made (gives m truth asked refl) nil)) (os _) (λ _ ws same _.
        move t (1 ∷ []) $ fsplit t $ move t (1 ∷ []) $ drop t $ fsplit t $ move t (1 ∷ []) $ drop t $ rewrite t 0 (λ (zs : List Record). ‵ (finally T.the_row x.ghost_name zs)) same refl $ move t (1 ∷ 0 ∷ []) $ k))
