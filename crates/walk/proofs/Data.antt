-- Plain data, as a walk asks its laws: a type that owns only facts, and has one machine value for each denotation.
--     Data R       R is such a type.        number, truth, nothing     u64, bool and ()
--     struct_data, enum_data       a declared type, from the laws that its modules have
--     typed        the machine value has the type's MIR type.        gives     what is owned is had for nothing
-- Assumes nothing; the laws under a model take `Logic`.
use mathlib.Core.Path.{◌≡◌, refl}
use mathlib.Core.List.{[], ◌∷◌}
use seplogic.Ra.Ura.{Ura}
use mir.Syntax.{w64}
use mir.Val.{Val, vint, vbool, vunit}
use types.Logic.{Logic}
use denote.Builtin.{u64, bool}
use denote.Enum.Declared as E
use denote.Enum.Enum.{Few, Plainss}
use denote.Enum.Laws as EL
use denote.Exit.{yes, unchanged}
use denote.Laws.{Is, Tells, Lawful, Makes}
use denote.Plain.{Nothing, uint_Tells, uint_Lawful, uint_Makes, bool_Tells, bool_Lawful, bool_Makes, Nothing-Tells, Nothing-Lawful, Nothing-Makes}
use denote.RattleType.{RattleType}
use denote.Struct.Declared as D
use denote.Struct.Laws as LL
use denote.Struct.Struct.{Plains}
use denote.Lowered.{Lowered}

pub record Data (R : RattleType) : Type 2 where
  pub val : R.Denot → Val
  pub tells : Tells R (Is R) (λ x. val x ∷ [])
  pub still : R.exit yes ≡ unchanged
  pub lawful : {M : Type 1} {𝓤 : Ura M} (𝓛 : Logic 𝓤) → Lawful 𝓛 R
  pub makes : {M : Type 1} {𝓤 : Ura M} (𝓛 : Logic 𝓤) → Makes 𝓛 R (Is R)

abbrev pub number : Data u64
number = record { val = vint w64; tells = uint_Tells w64; still = refl; lawful = λ 𝓛. uint_Lawful 𝓛 w64; makes = λ 𝓛. uint_Makes 𝓛 w64 }

abbrev pub truth : Data bool
truth = record { val = vbool; tells = bool_Tells; still = refl; lawful = bool_Lawful; makes = bool_Makes }

abbrev pub nothing : Data Nothing
nothing = record { val = λ _. vunit; tells = Nothing-Tells; still = refl; lawful = Nothing-Lawful; makes = Nothing-Makes }

abbrev pub struct_data : (T : D.Declared) → LL.Laws T → Plains (D.fields T) → LL.Copyables T.parts → Lowered (D.row T) → Data (D.row T)
struct_data T L pl cs lw = record {
  val = lw.lowered;
  tells = lw.val_is;
  still = LL.still T cs yes;
  lawful = λ 𝓛. LL.lawful T L 𝓛;
  makes = λ 𝓛. LL.makes T pl 𝓛;
}

abbrev pub enum_data : (T : E.Declared) → EL.Laws T → Few (E.shape T) → Plainss (E.variants T) → EL.Copyabless T.parts → Lowered (E.row T) → Data (E.row T)
enum_data T L few pl cs lw = record {
  val = lw.lowered;
  tells = lw.val_is;
  still = EL.still T cs yes;
  lawful = λ 𝓛. EL.lawful T L 𝓛 few;
  makes = λ 𝓛. EL.makes T pl 𝓛;
}
