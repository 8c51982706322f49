-- A walk by hand of a function's MIR: what the function is, what it is called with, and the two ends of the walk.
--     tokens, owneds   a token for each lifetime, and what each parameter owns, each an entry of the context
--     From P Γ Δ       how P, a list of formulas, comes out of Γ and leaves Δ: `had`, the formula stands at the head; `made`, it is had for nothing
--     Machine          whatever a theorem of the logic is for.        gives, typed, holds      plain data and facts in it
--     calls_of_law, loops_of, framed, turns        the tables of an environment; that the first is monotone under a frame; a loop, by an invariant and a measure
--     Subject, Known   a function's contract, and what is known of its parameters
--     Entry            what the function is called with, with the relations of the arguments in hand
--     Walk             what is to be walked: from the locals, with the parameters' values in theirs, the tokens and what the parameters own, the body runs to the walk's end
--     resumes, Turn    the walk goes on at a later line;  what a turn of a loop is to show
--     ends             the walk's end: at a result r of plain data, and last values ws, of which the contract's clause holds
--     proven           the function meets its contract, from such a walk
-- Assumes `Logic`.
use Prim.Native.Nat.{ℕ, zero, suc, ◌<◌}
use mathlib.Core.List.{List, [], ◌∷◌, ◌++◌}
use mathlib.Core.WellFounded.InvImage
use lib.WfN.{lt-wf_rel}
use seplogic.Ra.Ura.{Ura}
use mir.Syntax.{Callee, Fn, Body, loop}
use mir.Val.{Val}
use base.Logic.{SProp, ent, sep, emp, id⊢, via, comm∗, assoc∗, assoc', mono_l, mono_r, fst∗, emp∗}
use base.Fml.{Fml, ftrue, fsep, flft}
use prog.Wp.{Heap, Env, Calls, Loops, Wp, WpFn, Closed, after_turn, after_block, after_seq, at_return}
use prog.Model.{Model}
use prog.Memory.{Memory}
use prog.Routine.{Routine, Env as Env'}
use prog.Wired.{Code, Wired}
use contract.Monad.{Fun, fact, fact_i}
use ghost.Atoms.{Atoms}
use types.Logic.{Logic, sem}
use sound.WpLaws.{FmC, fm_of, WpFn-mono}
use contract.Running.{Running, tables, tables_of}
use contract.Lifetimes.{Lfts, Shares, AllOutlive, toks}
use types.Kit.{Item, ‵, ⋆, push, pop, prop, runs, at_ret, Post, post, any_q, Seq, Sq, Step, ◌∵◌, !, qed, by}
use types.Run.{Below, loops, exec}
use denote.RattleType.{RattleType, Denots, Valss, mirs, owns, flat}
use denote.Laws.{Is, Are, Ises, Typed, valss, all_Typed}
use denote.Signature.{Signature, type_at, types_at}
use denote.Triple.Entry.{Args, Vals, Res, on_entry}
use denote.Triple.Statement.{Contract}
use denote.Triple.Spec.{Meets, triple_of}
use denote.Triple.Table.{entered as at_entry_lem}
use denote.Triple.Clauses.{Clauses, Ended, Lasts, at_exit, closing}
use denote.Triple.Walked.{Stays, Fit, has_of, walk_of, ends_at, walked, walk_Meets}
use Rattle.walk.proofs.Data.{Data}
use Rattle.walk.proofs.Locals.{Spots, Begins, env_at, entered, enters}
use Rattle.walk.proofs.Parameters.{Params, stays, spells, tells_all, go_all, lawful_all}

module _ {M : Type 1} {𝓤 : Ura M} (𝓛 : Logic 𝓤) where
  open 𝓛 use {A}

  abbrev pub tokens : (n : ℕ) → Lfts n → Shares n → List (Item 𝓤)
  tokens zero κs qs = []
  tokens (suc n) κs qs = ‵ (flft κs.0 qs.0) ∷ tokens n κs.1 qs.1

  abbrev pub owneds : (Rs : List RattleType) → Denots Rs → Valss Rs → List (Item 𝓤)
  owneds [] a vss = []
  owneds (R ∷ Rs) a vss = ‵ (R.own_val a.0 vss.0) ∷ owneds Rs a.1 vss.1

  pub tokens_out : (n : ℕ) (κs : Lfts n) (qs : Shares n) (Γ : List (Item 𝓤)) → ent 𝓤 (sep 𝓤 (toks 𝓛 n κs qs) (⋆ 𝓛 Γ)) (⋆ 𝓛 (tokens n κs qs ++ Γ))
  tokens_out zero κs qs Γ = via 𝓤 _ (comm∗ 𝓤 (emp 𝓤) (⋆ 𝓛 Γ)) (fst∗ 𝓤 (⋆ 𝓛 Γ) (emp 𝓤))
  tokens_out (suc n) κs qs Γ =
      via 𝓤 _ (assoc∗ 𝓤 (A.lft κs.0 qs.0) (toks 𝓛 n κs.1 qs.1) (⋆ 𝓛 Γ))
      (via 𝓤 _ (mono_r 𝓤 (A.lft κs.0 qs.0) (tokens_out n κs.1 qs.1 Γ)) (push 𝓛 (‵ (flft κs.0 qs.0)) (tokens n κs.1 qs.1 ++ Γ)))

  pub tokens_in : (n : ℕ) (κs : Lfts n) (qs : Shares n) (Γ : List (Item 𝓤)) → ent 𝓤 (⋆ 𝓛 (tokens n κs qs ++ Γ)) (sep 𝓤 (toks 𝓛 n κs qs) (⋆ 𝓛 Γ))
  tokens_in zero κs qs Γ = emp∗ 𝓤 (⋆ 𝓛 Γ)
  tokens_in (suc n) κs qs Γ =
      via 𝓤 _ (pop 𝓛 (‵ (flft κs.0 qs.0)) (tokens n κs.1 qs.1 ++ Γ))
      (via 𝓤 _ (mono_r 𝓤 (A.lft κs.0 qs.0) (tokens_in n κs.1 qs.1 Γ)) (assoc' 𝓤 (A.lft κs.0 qs.0) (toks 𝓛 n κs.1 qs.1) (⋆ 𝓛 Γ)))

  owned_out : (Rs : List RattleType) (a : Denots Rs) (vss : Valss Rs) → ent 𝓤 (sem 𝓛 (owns Rs a vss)) (⋆ 𝓛 (owneds Rs a vss))
  owned_out [] a vss = id⊢ 𝓤 _
  owned_out (R ∷ Rs) a vss = via 𝓤 _ (mono_r 𝓤 (sem 𝓛 (R.own_val a.0 vss.0)) (owned_out Rs a.1 vss.1)) (push 𝓛 (‵ (R.own_val a.0 vss.0)) (owneds Rs a.1 vss.1))

  -- a list of formulas out of a context, and what is left of it
  pub data From : Fml → List (Item 𝓤) → List (Item 𝓤) → Type 2 where
    nil : {Γ : List (Item 𝓤)} → From ftrue Γ Γ
    had : {P Q : Fml} {Γ Δ : List (Item 𝓤)} → From Q Γ Δ → From (fsep P Q) (‵ P ∷ Γ) Δ
    made : {P Q : Fml} {Γ Δ : List (Item 𝓤)} → ent 𝓤 (emp 𝓤) (sem 𝓛 P) → From Q Γ Δ → From (fsep P Q) Γ Δ

  pub from_out : {P : Fml} {Γ Δ : List (Item 𝓤)} → From P Γ Δ → ent 𝓤 (⋆ 𝓛 Γ) (sep 𝓤 (sem 𝓛 P) (⋆ 𝓛 Δ))
  from_out nil = emp∗ 𝓤 _
  from_out (had {P} {Q} {Γ} {Δ} f) = via 𝓤 _ (pop 𝓛 (‵ P) Γ) (via 𝓤 _ (mono_r 𝓤 (sem 𝓛 P) (from_out f)) (assoc' 𝓤 (sem 𝓛 P) (sem 𝓛 Q) (⋆ 𝓛 Δ)))
  from_out (made {P} {Q} {Γ} {Δ} e f) = via 𝓤 _ (emp∗ 𝓤 (⋆ 𝓛 Γ)) (via 𝓤 _ (mono_l 𝓤 (⋆ 𝓛 Γ) e) (via 𝓤 _ (mono_r 𝓤 (sem 𝓛 P) (from_out f)) (assoc' 𝓤 (sem 𝓛 P) (sem 𝓛 Q) (⋆ 𝓛 Δ))))

-- ---- the machine, and a function with its contract

pub record Machine : Type 2 where
  pub M : Type 1
  pub 𝓤 : Ura M
  pub 𝓛 : Logic 𝓤
  pub 𝓜 : Model 𝓤 𝓛.H
  pub 𝓡 : Running 𝓤 𝓛.H 𝓜

pub record Subject : Type 2 where
  pub ended : Ended
  pub clauses : {M : Type 1} {𝓤 : Ura M} (𝓛 : Logic 𝓤) → (Memory → SProp 𝓤) → (Routine → Fun 𝓤) → Clauses 𝓤 ended

module _ (m : Machine) where
  abbrev pub A_of : Atoms m.𝓤
  A_of = m.𝓛.A

  abbrev pub given_of : Logic m.𝓤
  given_of = m.𝓛

  abbrev pub clauses_of : (F : Subject) → Clauses m.𝓤 F.ended
  clauses_of F = F.clauses m.𝓛 m.𝓜.mem m.𝓡.returns

  -- what plain data owns is had for nothing, and its machine value has its MIR type
  pub gives : {R : RattleType} (D : Data R) (r : R.Denot) → Is R r (D.val r ∷ []) → ent m.𝓤 (emp m.𝓤) (sem m.𝓛 (R.own_val r (D.val r ∷ [])))
  gives D r is = D.makes m.𝓛 r _ is

  pub typed : {R : RattleType} (D : Data R) (r : R.Denot) → Is R r (D.val r ∷ []) → Typed R.mir (D.val r ∷ [])
  typed D r is = (D.lawful m.𝓛).typed r _ is

  -- a fact is had for nothing
  pub holds : {φ : Type 0} → φ → ent m.𝓤 (emp m.𝓤) (fact m.𝓤 φ)
  holds h = fact_i m.𝓤 _ (emp m.𝓤) h

  module _ (γ : Env') where
    abbrev pub calls_of_law : Calls m.𝓤 m.𝓛.H
    calls_of_law = (tables m.𝓤 m.𝓛.H m.𝓜 m.𝓡 γ).C

    abbrev pub loops_of : Loops m.𝓤 m.𝓛.H
    loops_of = (tables m.𝓤 m.𝓛.H m.𝓜 m.𝓡 γ).Λ

    -- the table of calls is monotone under a frame
    pub framed : FmC m.𝓤 m.𝓛.H given_of.laws calls_of_law
    unfolding tables_of
    framed = fm_of m.𝓤 m.𝓛.H given_of.laws (tables_of m.𝓤 m.𝓛.H m.𝓜 (tables m.𝓤 m.𝓛.H m.𝓜 m.𝓡 γ))

    -- a loop, by an invariant and a measure (`Types/Run.antt`'s `loops`)
    pub turns : {K : Type 0} {X : Type 0} → K → (μ : X → ℕ) (I : X → List (Item m.𝓤)) {E : Env m.𝓤 m.𝓛.H} {b : Body} {q : Post m.𝓤 m.𝓛.H}
        → ((t : X) → Seq K given_of (I t) (runs calls_of_law loops_of E b (any_q (after_turn m.𝓤 m.𝓛.H (Below m.𝓛 (λ (y x : X). μ y < μ x) I t) (post m.𝓤 m.𝓛.H q)))))
        → (t : X) → Seq K given_of (I t) (runs calls_of_law loops_of E (loop b) q)
    unfolding tables_of
    turns k μ I turn t = loops k (tables_of m.𝓤 m.𝓛.H m.𝓜 (tables m.𝓤 m.𝓛.H m.𝓜 m.𝓡 γ)) (λ y x. μ y < μ x) (InvImage.wf μ lt-wf_rel.wf) I turn t

-- ---- a function's walk

abbrev pub Known : Subject → Type 2
Known F = Params F.ended.signature.params F.ended.kept

module _ (m : Machine) (F : Subject) (ps : Known F) where
  abbrev S : Signature
  S = F.ended.signature

  abbrev stayed : Stays S.params F.ended.kept
  stayed = stays S.params F.ended.kept ps

  abbrev the_walk : Contract m.𝓤
  the_walk = walk_of m.𝓛 F.ended stayed (clauses_of m F)

  -- what the function is called with
  pub record Entry : Type 2 where
    pub lfts : Lfts S.lifetimes
    pub shares : Shares S.lifetimes
    pub outlive : AllOutlive S.lifetimes S.outlives lfts
    pub args : Args S lfts
    pub ghosts : (clauses_of m F lfts args).ghost
    pub are : Are (types_at S.params lfts) (Ises (types_at S.params lfts)) args (valss (types_at S.params lfts) (spells S.params F.ended.kept ps lfts) args)

  module _ (e : Entry) where
    abbrev pub values : Vals S e.lfts
    values = valss (types_at S.params e.lfts) (spells S.params F.ended.kept ps e.lfts) e.args

    -- what the triple binds outside, and where the walk ends
    abbrev bound : the_walk.Ghost
    bound = ((e.lfts, e.shares, e.outlive, e.args, values), e.ghosts)

    abbrev pub End : Val → SProp m.𝓤
    End = the_walk.post bound

    -- the context where the body begins, and the body
    abbrev pub Walk : Env' → Fn → Type 1
    Walk γ f = (l : Spots f.locals)
        → Sq (given_of m) (entered m.𝓛 f.locals l (flat (types_at S.params e.lfts) values) ++ (tokens m.𝓛 S.lifetimes e.lfts e.shares ++ owneds m.𝓛 (types_at S.params e.lfts) e.args values))
        (runs (calls_of_law m γ) (loops_of m γ) (env_at m.𝓛 f.locals l) f.body (at_ret (env_at m.𝓛 f.locals l) End))

    pub ends : (D : Data (type_at S.result e.lfts)) (r : Res S e.lfts) → Is (type_at S.result e.lfts) r (D.val r ∷ []) → (ws : Lasts F.ended e.lfts e.args) → Fit F.ended stayed e.lfts e.args ws
        → ent m.𝓤 (emp m.𝓤) ((clauses_of m F e.lfts e.args).ensures e.ghosts r (at_exit F.ended e.lfts e.args ws))
        → {Γ Δ : List (Item m.𝓤)} → From m.𝓛 (has_of e.lfts S.params F.ended.kept stayed e.args ws values) Γ Δ
        → Sq (given_of m) (tokens m.𝓛 S.lifetimes e.lfts e.shares ++ Γ) (prop (End (D.val r)))
    ends D r is ws fit said {Γ} {Δ} f =
        let P : SProp m.𝓤 = sem m.𝓛 (has_of e.lfts S.params F.ended.kept stayed e.args ws values) in
        let R : SProp m.𝓤 = sem m.𝓛 ((type_at S.result e.lfts).own_val r (D.val r ∷ [])) in
        let Q : SProp m.𝓤 = (clauses_of m F e.lfts e.args).ensures e.ghosts r (at_exit F.ended e.lfts e.args ws) in
        let X : SProp m.𝓤 = toks m.𝓛 S.lifetimes e.lfts e.shares in
        by ! (via m.𝓤 (sep m.𝓤 (sep m.𝓤 X (sep m.𝓤 P R)) Q)
        (via m.𝓤 (sep m.𝓤 X (sep m.𝓤 P R))
        (via m.𝓤 (sep m.𝓤 X P) (via m.𝓤 _ (tokens_in m.𝓛 S.lifetimes e.lfts e.shares Γ) (mono_r m.𝓤 X (via m.𝓤 _ (from_out m.𝓛 f) (fst∗ m.𝓤 P (⋆ m.𝓛 Δ)))))
        (mono_r m.𝓤 X (via m.𝓤 _ (emp∗ m.𝓤 P) (via m.𝓤 _ (comm∗ m.𝓤 (emp m.𝓤) P) (mono_r m.𝓤 P (gives m D r is))))))
        (via m.𝓤 _ (emp∗ m.𝓤 (sep m.𝓤 X (sep m.𝓤 P R))) (via m.𝓤 _ (comm∗ m.𝓤 (emp m.𝓤) (sep m.𝓤 X (sep m.𝓤 P R))) (mono_r m.𝓤 (sep m.𝓤 X (sep m.𝓤 P R)) said))))
        (ends_at m.𝓛 F.ended stayed (clauses_of m F) bound (D.val r) r ws fit))

    -- the walk goes on at a later line of the body
    pub resumes : {K : Type 0} {Γ : List (Item m.𝓤)} → K → (γ : Env') (f : Fn) (l : Spots f.locals) (b : Body)
        → Step K (given_of m) Γ (runs (calls_of_law m γ) (loops_of m γ) (env_at m.𝓛 f.locals l) b (at_ret (env_at m.𝓛 f.locals l) End))
        Γ (prop (Wp m.𝓤 m.𝓛.H (calls_of_law m γ) (loops_of m γ) (env_at m.𝓛 f.locals l) b (at_return m.𝓤 m.𝓛.H (env_at m.𝓛 f.locals l) End)))
    resumes t γ f l b = exec t (calls_of_law m γ) (loops_of m γ) (env_at m.𝓛 f.locals l) b (at_ret (env_at m.𝓛 f.locals l) End)

    -- a loop that is a block of its own in the body: what follows it, from the line b on, and what a turn of it is to show, by a measure μ and an invariant I
    module _ (γ : Env') (f : Fn) (l : Spots f.locals) where
      abbrev follows : Body → Post m.𝓤 m.𝓛.H
      follows b = any_q (after_block m.𝓤 m.𝓛.H (after_seq m.𝓤 m.𝓛.H (Wp m.𝓤 m.𝓛.H (calls_of_law m γ) (loops_of m γ) (env_at m.𝓛 f.locals l) b (at_return m.𝓤 m.𝓛.H (env_at m.𝓛 f.locals l) End)) (at_return m.𝓤 m.𝓛.H (env_at m.𝓛 f.locals l) End)))

      abbrev pub Turn : Body → Body → {X : Type 0} (μ : X → ℕ) (I : X → List (Item m.𝓤)) → X → Type 1
      Turn a b {X} μ I t = Sq (given_of m) (I t) (runs (calls_of_law m γ) (loops_of m γ) (env_at m.𝓛 f.locals l) a (any_q (after_turn m.𝓤 m.𝓛.H (Below m.𝓛 (λ (y x : X). μ y < μ x) I t) (post m.𝓤 m.𝓛.H (follows b)))))

    -- the walk begins
    begins : (γ : Env') (f : Fn) → Begins (mirs (types_at S.params e.lfts)) f.locals → Walk γ f
        → ent m.𝓤 (the_walk.pre bound) (WpFn m.𝓤 m.𝓛.H (calls_of_law m γ) (loops_of m γ) f (flat (types_at S.params e.lfts) values) End)
    begins γ f same k =
        via m.𝓤 _ (fst∗ m.𝓤 (on_entry m.𝓛 S e.lfts e.shares e.args values) ((clauses_of m F e.lfts e.args).requires e.ghosts))
        (via m.𝓤 _ (mono_r m.𝓤 (toks m.𝓛 S.lifetimes e.lfts e.shares) (owned_out m.𝓛 (types_at S.params e.lfts) e.args values))
        (via m.𝓤 _ (tokens_out m.𝓛 S.lifetimes e.lfts e.shares (owneds m.𝓛 (types_at S.params e.lfts) e.args values))
        (qed (given_of m) (tokens m.𝓛 S.lifetimes e.lfts e.shares ++ owneds m.𝓛 (types_at S.params e.lfts) e.args values) ∵
        enters ! (calls_of_law m γ) (loops_of m γ) f (mirs (types_at S.params e.lfts)) (flat (types_at S.params e.lfts) values) same
        (all_Typed m.𝓛 (types_at S.params e.lfts) (lawful_all (given_of m) S.params F.ended.kept ps e.lfts) e.args values e.are) k)))

-- a function meets its contract, from its walk over the environment in which its statement reads its names, where that has the function's code c (`Prog/Wired.antt`)
pub proven : {M : Type 1} (F : Subject) (ps : Known F) (k : Callee) (f : Fn) (c : Code)
    → ((M : Type 1) (𝓤 : Ura M) (H : Heap 𝓤) (𝓜 : Model 𝓤 H) (𝓡 : Running 𝓤 H 𝓜) → Wired 𝓡.env c → Closed 𝓤 H (tables 𝓤 H 𝓜 𝓡 𝓡.env).C (tables 𝓤 H 𝓜 𝓡 𝓡.env).Λ k f)
    → ((κs : Lfts F.ended.signature.lifetimes) → Begins (mirs (types_at F.ended.signature.params κs)) f.locals)
    → ((m : Machine) → Wired m.𝓡.env c → (e : Entry m F ps) → Walk m F ps e m.𝓡.env f)
    → (𝓤 : Ura M) (𝓛 : Logic 𝓤) (𝓜 : Model 𝓤 𝓛.H) (𝓡 : Running 𝓤 𝓛.H 𝓜) → Wired 𝓡.env c
    → Meets 𝓛 F.ended.signature (𝓡.run (𝓡.env k)) (closing 𝓛 F.ended (F.clauses 𝓛 𝓜.mem 𝓡.returns))
unfolding tables_of
proven {M} F ps k f c closed same w 𝓤 𝓛 𝓜 𝓡 wired =
    let m : Machine = record { M = M; 𝓤 = 𝓤; 𝓛 = 𝓛; 𝓜 = 𝓜; 𝓡 = 𝓡 } in
    let γ : Env' = 𝓡.env in
    let S : Signature = F.ended.signature in
    let cs : Clauses 𝓤 F.ended = F.clauses 𝓛 𝓜.mem 𝓡.returns in
    at_entry_lem 𝓤 𝓛.H (triple_of 𝓛 S (closing 𝓛 F.ended cs)) (calls_of_law m γ) (loops_of m γ) k f (closed M 𝓤 𝓛.H 𝓜 𝓡 wired)
    (walk_Meets 𝓛 F.ended (stays S.params F.ended.kept ps) (go_all (given_of m) S.params F.ended.kept ps) cs
    (WpFn 𝓤 𝓛.H (calls_of_law m γ) (loops_of m γ) f) (WpFn-mono 𝓤 𝓛.H (given_of m).laws (tables_of 𝓤 𝓛.H 𝓜 (tables 𝓤 𝓛.H 𝓜 𝓡 γ)) f)
    (walked 𝓛 F.ended (stays S.params F.ended.kept ps) cs (WpFn 𝓤 𝓛.H (calls_of_law m γ) (loops_of m γ) f) (spells S.params F.ended.kept ps) (tells_all S.params F.ended.kept ps) (λ κs qs bounds a g are.
    let e : Entry m F ps = record { lfts = κs; shares = qs; outlive = bounds; args = a; ghosts = g; are = are } in
    begins m F ps e γ f (same κs) (w m wired e))))
