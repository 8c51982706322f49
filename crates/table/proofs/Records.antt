-- A request record, a state and a table's survey, as walks by hand meet them: their laws, under short names; and where record i of a slice stands.
--     request, array_state, survey     the three as plain data
--     offset_fits  i · 64 does not wrap, for i below a slice's length
-- Assumes nothing.
use Rattle.walk.proofs.Words.{ℕ, ◌*◌, ◌<◌, ◌^◌, arith, Data, struct_data, Room}
use Rattle.geometry.specs.contracts.State as S
use Rattle.geometry.proofs.State.TheLaws as SL
use Rattle.record.specs.contracts.Record as T
use Rattle.record.proofs.Record.TheLaws as TL
use Rattle.record.specs.contracts.Survey as Sv
use Rattle.record.proofs.Survey.TheLaws as SvL

abbrev pub request : Data T.the_row
request = struct_data T.the_type TL.the_laws TL.the_plain TL.the_copy TL.lowers

abbrev pub array_state : Data S.the_row
array_state = struct_data S.the_type SL.the_laws SL.the_plain SL.the_copy SL.lowers

abbrev pub survey : Data Sv.the_row
survey = struct_data Sv.the_type SvL.the_laws SvL.the_plain SvL.the_copy SvL.lowers

pub offset_fits : (i n : ℕ) → i < n → Room T.the_row n → i * 64 < 2 ^ 64
offset_fits i n within room = let h : n * 64 < 2 ^ 63 = room.1 in omega arith
