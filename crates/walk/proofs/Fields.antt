-- What whoever holds a struct knows of its fields: each field's relation at the machine value that lowering writes. It says nothing of the crate.
--     AreLows, fields_are      of a list of fields.        parts       of a declared struct, from its own relation
-- Assumes nothing.
use mathlib.Core.Path.{subst}
use mathlib.Core.List.{List, [], ◌∷◌}
use mir.Val.{Val}
use denote.RattleType.{Valss}
use denote.Laws.{Is}
use denote.Struct.Struct.{AreAll}
use denote.Struct.Field.{Field, rows}
use denote.Struct.Values.{Values, intos}
use denote.Struct.Declared.{row}
use denote.Struct.Record.{Record, Propositions, declared}
use denote.Struct.Laws.{Lawss, Laws}

abbrev pub AreLows : (Fs : List Field) → Lawss Fs → Values Fs → Type 0
AreLows [] ls xs = Unit {0}
AreLows (F ∷ Fs) ls xs = Is F.row (F.into xs.0) (ls.0.low xs.0 ∷ []) × AreLows Fs ls.1 xs.1

fields_are : (Fs : List Field) (ls : Lawss Fs) (xs : Values Fs) (vss : Valss (rows Fs)) → AreAll (rows Fs) (intos Fs xs) vss → AreLows Fs ls xs
fields_are [] ls xs vss h = tt
fields_are (F ∷ Fs) ls xs vss h = (subst (Is F.row (F.into xs.0)) (ls.0.low-is xs.0 vss.0 h.0) h.0, fields_are Fs ls.1 xs.1 vss.1 h.1)

pub parts : (N : Record) (gp : Propositions N) (L : Laws (declared N gp)) (d : N.D) (vs : List Val) → Is (row (declared N gp)) d vs → AreLows N.parts L (N.as_values d)
parts N gp L d vs p = fields_are N.parts L (N.as_values d) p.0 p.1.1
