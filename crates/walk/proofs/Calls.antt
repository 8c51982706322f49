-- A call in a walk by hand, the same for every callee whose contract says a fact, and whose result is plain data.
--     Callee       a function that is called: its key, the code that its theorem asks of the environment, its contract and its theorem. The call is read over the run's own environment, where that has the code
--     Called       what is chosen for the call: the callee's lifetimes with the shares of their tokens, its arguments and their machine values
--     calls        the context begins with the callee's tokens and what its parameters own (`From`). Once it has returned, its tokens are there again, with an entry that says the last value of each `&mut` and holds its borrow (`lefts`), and the fact is known of the result
--     answers      the same of a contract that says which one answer r₀ there is
-- Assumes `Logic`.
use mathlib.Core.Path.{◌≡◌, sym, subst, ap}
use Prim.Native.Nat.{ℕ}
use mathlib.Core.List.{List, [], ◌∷◌, ◌++◌}
use seplogic.Ra.Ura.{Ura}
use mir.Syntax.{Callee as Symbol, Place, Opd as Operand, Body, seq, call}
use mir.Val.{Val}
use base.Logic.{SProp, ent, sep, emp, id⊢, via, comm∗, assoc∗, assoc', mono_l, mono_r, fst∗, emp∗}
use prog.Wp.{Env, Calls, Loops}
use types.Logic.{Logic, sem}
use sound.WpLaws.{FmC}
use contract.Lifetimes.{Lfts, toks}
use contract.Monad.{fact}
use types.Kit.{Item, ‵, raw, ◌⊛◌, some, later, ⋆, push, pop, Post, runs, lands, Seq, ◌$◌, by, move, use1, split, pick, await}
use types.Run.{Opds}
use denote.Exit.{Exit, unchanged, leaves, Last, left}
use denote.RattleType.{Denots, owns}
use denote.Laws.{Is, Tells, shows}
use denote.Signature.{Slot, type_at, types_at}
use denote.Steps.{only, heard, facts}
use denote.Triple.Entry.{Args, Res}
use denote.Triple.End.{Kepts, Fins, lasts_of}
use denote.Triple.Bound.{passed}
use denote.Triple.Call.{calls_at}
use denote.Triple.Clauses.{Clauses, Ended, Lasts, at_exit, lasts, ensured, closing}
use denote.Triple.Spec.{Meets, triple_of}
use denote.Triple.Statement.{Contract, Triple}
use prog.Model.{Model}
use prog.Wired.{Code, Wired}
use contract.Running.{Running}
use Rattle.walk.proofs.Data.{Data}
use Rattle.walk.proofs.Walk.{Machine, Subject, given_of, clauses_of, calls_of_law, loops_of, framed, tokens, tokens_in, tokens_out, From, from_out}

module _ {M : Type 1} {𝓤 : Ura M} (𝓛 : Logic 𝓤) (T : Ended) (c : Clauses 𝓤 T) where
  -- the callee's contract
  open 𝓛 use {H}

  abbrev pub Told : Contract 𝓤
  Told = triple_of 𝓛 T.signature (closing 𝓛 T c)

  module _ (y : Told.Ghost) where
    abbrev κs : Lfts T.signature.lifetimes
    κs = y.0.0

    abbrev a : Args T.signature κs
    a = y.0.3

    -- the entries that the callee's tokens are
    abbrev pub its_tokens : List (Item 𝓤)
    its_tokens = tokens 𝓛 T.signature.lifetimes κs y.0.1

    module _ {K : Type 0} {E : Env 𝓤 H} {C : Calls 𝓤 H} {Λ : Loops 𝓤 H} {q : Post 𝓤 H} {f : Symbol} {xs : List Operand} {d : Place} {rest : Body} {Γ Δ : List (Item 𝓤)} where
      pub calls_told : K → FmC 𝓤 H 𝓛.laws C → Triple 𝓤 (C f) Told → ent 𝓤 (emp 𝓤) ((c κs a).requires y.1)
          → (val : Res T.signature κs → Val) → Tells (type_at T.signature.result κs) (Is (type_at T.signature.result κs)) (λ r. val r ∷ [])
          → (φ : Res T.signature κs → Lasts T κs a → Type 0) → ((r : Res T.signature κs) (ws : Lasts T κs a) → ent 𝓤 ((c κs a).ensures y.1 r (at_exit T κs a ws)) (fact 𝓤 (φ r ws)))
          → From 𝓛 (owns (types_at T.signature.params κs) a y.0.4) Γ Δ
          → Opds K 𝓛 (raw (Told.pre y) ∷ Δ) E xs (passed 𝓛 T.signature y.0)
          → ((r : Res T.signature κs) (ws : Lasts T κs a) → φ r ws → Is (type_at T.signature.result κs) r (val r ∷ []) → Seq K 𝓛 (its_tokens ++ (‵ (lasts T κs a ws) ∷ Δ)) (lands C Λ E d (val r) rest q))
          → Seq K 𝓛 (its_tokens ++ Γ) (runs C Λ E (seq (call f xs d) rest) q)
      calls_told t fm known asks val tl φ says from os k =
          let X : SProp 𝓤 = toks 𝓛 T.signature.lifetimes κs y.0.1 in
          let O : SProp 𝓤 = sem 𝓛 (owns (types_at T.signature.params κs) a y.0.4) in
          let D : SProp 𝓤 = ⋆ 𝓛 Δ in
          by t (via 𝓤 (⋆ 𝓛 (raw (Told.pre y) ∷ Δ))
          (via 𝓤 (sep 𝓤 (sep 𝓤 X O) D) (via 𝓤 (sep 𝓤 X (sep 𝓤 O D)) (via 𝓤 _ (tokens_in 𝓛 T.signature.lifetimes κs y.0.1 Γ) (mono_r 𝓤 X (from_out 𝓛 from))) (assoc' 𝓤 X O D))
          (via 𝓤 _ (mono_l 𝓤 D (via 𝓤 _ (emp∗ 𝓤 (sep 𝓤 X O)) (via 𝓤 _ (comm∗ 𝓤 (emp 𝓤) (sep 𝓤 X O)) (mono_r 𝓤 (sep 𝓤 X O) asks)))) (push 𝓛 (raw (Told.pre y)) Δ)))
          (calls_at {𝓛 = 𝓛} {K = K} t fm Told known y os (λ v.
          use1 𝓛 (later (some (λ (r : Res T.signature κs). (raw X ⊛ ‵ ((type_at T.signature.result κs).own_val r (v ∷ []))) ⊛ raw (ensured 𝓛 T c κs a y.1 r)))) (id⊢ 𝓤 _) $ await t tt $ pick t (λ r.
          split t $ move t (1 ∷ []) $ use1 𝓛 (some (λ (ws : Lasts T κs a). ‵ (lasts T κs a ws) ⊛ raw ((c κs a).ensures y.1 r (at_exit T κs a ws)))) (id⊢ 𝓤 _) $ pick t (λ ws.
          split t $ move t (1 ∷ []) $ use1 𝓛 (raw (fact 𝓤 (φ r ws))) (says r ws) $ heard t (φ r ws) (λ h.
          -- [the tokens and the result; what says the last values; …]
          move t (1 ∷ []) $ split t $ move t (1 ∷ []) $ facts t (type_at T.signature.result κs) (Is (type_at T.signature.result κs)) (shows 𝓛 (type_at T.signature.result κs)) r (v ∷ []) (λ is.
          subst (λ (u : Val). Seq K 𝓛 (raw X ∷ ‵ (lasts T κs a ws) ∷ Δ) (lands C Λ E d u rest q)) (sym (ap only (tl r (v ∷ []) is)))
          (by t (via 𝓤 _ (tokens_out 𝓛 T.signature.lifetimes κs y.0.1 (‵ (lasts T κs a ws) ∷ Δ)) (k r ws h (subst (Is (type_at T.signature.result κs) r) (tl r (v ∷ []) is) is)).prf)))))))).prf)

-- what says the last values, as entries of the context: one for each parameter that has one
module _ {M : Type 1} {𝓤 : Ura M} (𝓛 : Logic 𝓤) where
  abbrev entry : {X : Type 0} (e : Exit X) (x : X) → Last e x → List (Item 𝓤) → List (Item 𝓤)
  entry unchanged x w Γ = Γ
  entry (leaves L l S s r₀) x w Γ = ‵ (l x w) ∷ Γ

  entry_out : {X : Type 0} (e : Exit X) (x : X) (w : Last e x) (Γ : List (Item 𝓤)) → ent 𝓤 (sep 𝓤 (sem 𝓛 (left e x w)) (⋆ 𝓛 Γ)) (⋆ 𝓛 (entry e x w Γ))
  entry_out unchanged x w Γ = via 𝓤 _ (comm∗ 𝓤 (emp 𝓤) (⋆ 𝓛 Γ)) (fst∗ 𝓤 (⋆ 𝓛 Γ) (emp 𝓤))
  entry_out (leaves L l S s r₀) x w Γ = push 𝓛 (‵ (l x w)) Γ

  module _ {n : ℕ} (κs : Lfts n) where
    abbrev pub lefts : (ss : List (Slot n)) (ks : Kepts ss) (a : Denots (types_at ss κs)) → Fins κs ss ks a → List (Item 𝓤) → List (Item 𝓤)
    lefts [] ks a ws Γ = Γ
    lefts (s ∷ ss) ks a ws Γ = entry ((s.row κs).exit ks.0) a.0 ws.0 (lefts ss ks.1 a.1 ws.1 Γ)

    lefts_out : (ss : List (Slot n)) (ks : Kepts ss) (a : Denots (types_at ss κs)) (ws : Fins κs ss ks a) (Γ : List (Item 𝓤)) → ent 𝓤 (sep 𝓤 (sem 𝓛 (lasts_of κs ss ks a ws)) (⋆ 𝓛 Γ)) (⋆ 𝓛 (lefts ss ks a ws Γ))
    lefts_out [] ks a ws Γ = via 𝓤 _ (comm∗ 𝓤 (emp 𝓤) (⋆ 𝓛 Γ)) (fst∗ 𝓤 (⋆ 𝓛 Γ) (emp 𝓤))
    lefts_out (s ∷ ss) ks a ws Γ =
        let e : Exit (s.row κs).Denot = (s.row κs).exit ks.0 in
        via 𝓤 _ (assoc∗ 𝓤 (sem 𝓛 (left e a.0 ws.0)) (sem 𝓛 (lasts_of κs ss ks.1 a.1 ws.1)) (⋆ 𝓛 Γ))
        (via 𝓤 _ (mono_r 𝓤 (sem 𝓛 (left e a.0 ws.0)) (lefts_out ss ks.1 a.1 ws.1 Γ)) (entry_out e a.0 ws.0 (lefts ss ks.1 a.1 ws.1 Γ)))

module _ {M : Type 1} {𝓤 : Ura M} (𝓛 : Logic 𝓤) (T : Ended) (c : Clauses 𝓤 T) (y : (Told 𝓛 T c).Ghost) {K : Type 0} {E : Env 𝓤 𝓛.H} {C : Calls 𝓤 𝓛.H} {Λ : Loops 𝓤 𝓛.H} {q : Post 𝓤 𝓛.H} {f : Symbol} {xs : List Operand} {d : Place} {rest : Body} {Γ Δ : List (Item 𝓤)} where
  open 𝓛 use {H}

  pub calls_said : K → FmC 𝓤 H 𝓛.laws C → Triple 𝓤 (C f) (Told 𝓛 T c) → ent 𝓤 (emp 𝓤) ((c y.0.0 y.0.3).requires y.1)
      → (val : Res T.signature y.0.0 → Val) → Tells (type_at T.signature.result y.0.0) (Is (type_at T.signature.result y.0.0)) (λ r. val r ∷ [])
      → (φ : Res T.signature y.0.0 → Lasts T y.0.0 y.0.3 → Type 0)
      → ((r : Res T.signature y.0.0) (ws : Lasts T y.0.0 y.0.3) → ent 𝓤 ((c y.0.0 y.0.3).ensures y.1 r (at_exit T y.0.0 y.0.3 ws)) (fact 𝓤 (φ r ws)))
      → From 𝓛 (owns (types_at T.signature.params y.0.0) y.0.3 y.0.4) Γ Δ
      → Opds K 𝓛 (raw ((Told 𝓛 T c).pre y) ∷ Δ) E xs (passed 𝓛 T.signature y.0)
      → ((r : Res T.signature y.0.0) (ws : Lasts T y.0.0 y.0.3) → φ r ws → Is (type_at T.signature.result y.0.0) r (val r ∷ [])
      → Seq K 𝓛 (its_tokens 𝓛 T c y ++ lefts 𝓛 y.0.0 T.signature.params T.kept y.0.3 ws Δ) (lands C Λ E d (val r) rest q))
      → Seq K 𝓛 (its_tokens 𝓛 T c y ++ Γ) (runs C Λ E (seq (call f xs d) rest) q)
  calls_said t fm known asks val tl φ says from os k = calls_told 𝓛 T c y t fm known asks val tl φ says from os (λ r ws h is. by t
      (via 𝓤 _ (tokens_in 𝓛 T.signature.lifetimes y.0.0 y.0.1 (‵ (lasts T y.0.0 y.0.3 ws) ∷ Δ))
      (via 𝓤 _ (mono_r 𝓤 (toks 𝓛 T.signature.lifetimes y.0.0 y.0.1) (via 𝓤 _ (pop 𝓛 (‵ (lasts T y.0.0 y.0.3 ws)) Δ) (lefts_out 𝓛 y.0.0 T.signature.params T.kept y.0.3 ws Δ)))
      (via 𝓤 _ (tokens_out 𝓛 T.signature.lifetimes y.0.0 y.0.1 (lefts 𝓛 y.0.0 T.signature.params T.kept y.0.3 ws Δ)) (k r ws h is).prf))))

pub record Callee : Type 2 where
  pub name : Symbol
  pub code : Code
  pub subject : Subject
  pub met : {M : Type 1} (𝓤 : Ura M) (𝓛 : Logic 𝓤) (𝓜 : Model 𝓤 𝓛.H) (𝓡 : Running 𝓤 𝓛.H 𝓜) → Wired 𝓡.env code
      → Meets 𝓛 subject.ended.signature (𝓡.run (𝓡.env name)) (closing 𝓛 subject.ended (subject.clauses 𝓛 𝓜.mem 𝓡.returns))

module _ (m : Machine) (F : Callee) where
  abbrev pub Called : Type 0
  Called = (Told m.𝓛 F.subject.ended (clauses_of m F.subject)).Ghost

  module _ (wired : Wired m.𝓡.env F.code) (y : Called) {K : Type 0} {E : Env m.𝓤 m.𝓛.H} {q : Post m.𝓤 m.𝓛.H} {xs : List Operand} {d : Place} {rest : Body} {Γ Δ : List (Item m.𝓤)} where
    pub calls : K → ent m.𝓤 (emp m.𝓤) ((clauses_of m F.subject y.0.0 y.0.3).requires y.1)
        → (D : Data (type_at F.subject.ended.signature.result y.0.0))
        → {φ : Res F.subject.ended.signature y.0.0 → Lasts F.subject.ended y.0.0 y.0.3 → Type 0}
        → ((r : Res F.subject.ended.signature y.0.0) (ws : Lasts F.subject.ended y.0.0 y.0.3) → ent m.𝓤 ((clauses_of m F.subject y.0.0 y.0.3).ensures y.1 r (at_exit F.subject.ended y.0.0 y.0.3 ws)) (fact m.𝓤 (φ r ws)))
        → From m.𝓛 (owns (types_at F.subject.ended.signature.params y.0.0) y.0.3 y.0.4) Γ Δ
        → Opds K (given_of m) (raw ((Told m.𝓛 F.subject.ended (clauses_of m F.subject)).pre y) ∷ Δ) E xs (passed m.𝓛 F.subject.ended.signature y.0)
        → ((r : Res F.subject.ended.signature y.0.0) (ws : Lasts F.subject.ended y.0.0 y.0.3) → φ r ws → Is (type_at F.subject.ended.signature.result y.0.0) r (D.val r ∷ [])
        → Seq K (given_of m) (its_tokens m.𝓛 F.subject.ended (clauses_of m F.subject) y ++ lefts m.𝓛 y.0.0 F.subject.ended.signature.params F.subject.ended.kept y.0.3 ws Δ) (lands (calls_of_law m m.𝓡.env) (loops_of m m.𝓡.env) E d (D.val r) rest q))
        → Seq K (given_of m) (its_tokens m.𝓛 F.subject.ended (clauses_of m F.subject) y ++ Γ) (runs (calls_of_law m m.𝓡.env) (loops_of m m.𝓡.env) E (seq (call F.name xs d) rest) q)
    calls t asks D {φ} says from os k =
        calls_said (given_of m) F.subject.ended (clauses_of m F.subject) y t (framed m m.𝓡.env)
        (F.met m.𝓤 m.𝓛 m.𝓜 m.𝓡 wired)
        asks D.val D.tells φ says from os k

    pub answers : K → ent m.𝓤 (emp m.𝓤) ((clauses_of m F.subject y.0.0 y.0.3).requires y.1)
        → (D : Data (type_at F.subject.ended.signature.result y.0.0)) (r₀ : Res F.subject.ended.signature y.0.0)
        → ((r : Res F.subject.ended.signature y.0.0) (ws : Lasts F.subject.ended y.0.0 y.0.3) → ent m.𝓤 ((clauses_of m F.subject y.0.0 y.0.3).ensures y.1 r (at_exit F.subject.ended y.0.0 y.0.3 ws)) (fact m.𝓤 (r ≡ r₀)))
        → From m.𝓛 (owns (types_at F.subject.ended.signature.params y.0.0) y.0.3 y.0.4) Γ Δ
        → Opds K (given_of m) (raw ((Told m.𝓛 F.subject.ended (clauses_of m F.subject)).pre y) ∷ Δ) E xs (passed m.𝓛 F.subject.ended.signature y.0)
        → ((ws : Lasts F.subject.ended y.0.0 y.0.3) → Is (type_at F.subject.ended.signature.result y.0.0) r₀ (D.val r₀ ∷ [])
        → Seq K (given_of m) (its_tokens m.𝓛 F.subject.ended (clauses_of m F.subject) y ++ lefts m.𝓛 y.0.0 F.subject.ended.signature.params F.subject.ended.kept y.0.3 ws Δ) (lands (calls_of_law m m.𝓡.env) (loops_of m m.𝓡.env) E d (D.val r₀) rest q))
        → Seq K (given_of m) (its_tokens m.𝓛 F.subject.ended (clauses_of m F.subject) y ++ Γ) (runs (calls_of_law m m.𝓡.env) (loops_of m m.𝓡.env) E (seq (call F.name xs d) rest) q)
    answers t asks D r₀ says from os k =
        calls t asks D says from os (λ r ws e is.
        subst (λ (r' : Res F.subject.ended.signature y.0.0). Is (type_at F.subject.ended.signature.result y.0.0) r' (D.val r' ∷ [])
        → Seq K (given_of m) (its_tokens m.𝓛 F.subject.ended (clauses_of m F.subject) y ++ lefts m.𝓛 y.0.0 F.subject.ended.signature.params F.subject.ended.kept y.0.3 ws Δ) (lands (calls_of_law m m.𝓡.env) (loops_of m m.𝓡.env) E d (D.val r') rest q))
        (sym e) (k ws) is)
