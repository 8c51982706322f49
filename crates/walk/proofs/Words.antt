-- The words that walks by hand are written in, passed on from one place: the logic's, the kit's and this crate's.
-- Assumes nothing.
pub use mathlib.Core.Path.{◌≡◌, refl, sym, ap, subst, ◌∙◌}
pub use mathlib.Core.List.{List, [], ◌∷◌, ◌++◌}
pub use mathlib.Core.Option.{Option, none, some}
pub use Prim.Native.Nat.{ℕ, zero, suc, ◌+◌, ◌*◌, ◌-◌, ◌<◌, ◌≤◌, ◌^◌}
pub use native.Mathlib.Omega.{arith}
pub use lib.Dec.{T as Holds, lit<, ltb→lt, nltb→le}
pub use lib.ListN.{length, get_or, set, replicate, length-set}
pub use seplogic.Ra.Ura.{Ura}
pub use base.Fraction.{full_share}
pub use mir.Syntax.{Lifetime, named, w64, ty_int, ty_ptr, deref, place, copy, rv_opd, Place, Opd as Operand, Rv as RValue, Body, seq, assign, call}
pub use mir.Val.{Val, vint, vptr, vunit, vstruct, of_list, Fits, WT, has_ty}
pub use base.Logic.{SProp, id⊢}
pub use base.Fml.{Lft, GName, Share, Fml, fat, froom, flft}
pub use prog.Routine.{Env as Env'}
pub use prog.Wired.{Wired}
pub use prog.Wp.{Heap, Env, Calls, Loops, spot_of}
pub use ghost.Atoms.{Atoms}
pub use types.Kit.{Item, ‵, raw, ◌⊛◌, nth, put, Goal, Soaks, Post, prop, runs, lands, at_ret, Seq, Sq, Step, step, ◌$◌, !, move, keep, drop, rewrite, use1, split, fsplit, fsplit3, fjoin, fjoin3, feq_i}
pub use types.Run.{Opds, Rv, again, look, look_raw, store, store_raw, init, forget, stop, fld, hop, from, load, lit, unit_lit, of_opd, bin, addr, assigns, assigns_last, first, blocks, skips, branches, and_then, no_more, returns, returns_within}
pub use types.Part.{agg, rep, whole, sub, look_in, store_in}
pub use denote.Builtin.{u8, u64, bool}
pub use denote.Laws.{Is, shows}
pub use denote.Ref.{Bor, MutBor}
pub use denote.Slice.{slice_val, Room}
pub use Rattle.walk.proofs.Data.{Data, number, truth, nothing, struct_data, enum_data}
pub use Rattle.walk.proofs.Parameters.{by_value, shared, kept, given, shared_ref, kept_ref, given_ref}
pub use Rattle.walk.proofs.Locals.{Spots, env_at, holding, aside, end, full, room, leaves}
pub use Rattle.walk.proofs.Lines.{local, big, sets, lands_in, lands_over, tests}
pub use Rattle.walk.proofs.Slices.{pointer, counted, reborrows}
pub use Rattle.walk.proofs.Lends.{lend, unlend}
pub use Rattle.walk.proofs.Passing.{twice, lasting}
pub use Rattle.walk.proofs.Arrays.{elem}
pub use Rattle.walk.proofs.Fields.{AreLows, parts}
pub use Rattle.walk.proofs.Walk.{Machine, Subject, A_of, given_of, gives, typed, holds, calls_of_law, loops_of, turns, Known, Entry, values, End, Walk, nil, had, made, ends, resumes, Turn, proven}
pub use Rattle.walk.proofs.Calls.{Callee, calls, answers}
