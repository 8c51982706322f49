-- `survey` meets its contract.
-- Assumes nothing.
use Prim.Native.Nat.{ℕ, ◌/◌, ◌<◌}
use mathlib.Core.List.{List}
use mathlib.Core.Path.{◌≡◌, sym, ap, ap₂, ◌∙◌}
use native.Mathlib.Omega.{arith}
use lib.ListN.{length, get_or}
use Rattle.terms.proofs.Lists.{length_tabulate, get_d_tabulate}
use Rattle.geometry.specs.declared.State.{State}
use Rattle.graph_test.specs.Numbers.{record_from, table_from, survey_from}
use Rattle.graph_test.proofs.records.survey.Goals as goal
use Rattle.record.proofs.Surveyed.{survey_is, seen_next, to_see_most}
use Rattle.record.specs.Life.{free}
use Rattle.record.specs.Seen.{to_see, started, seen, seen_to}
use Rattle.record.specs.Survey.{survey_of}
use Rattle.record.specs.declared.Record.{Record}
use Rattle.record.specs.declared.Survey.{Survey}

-- the table has as many records as the numbers make
whole : (all : List ℕ) → length (table_from all) ≡ length all / 8
unfolding table_from
whole all = length_tabulate (length all / 8) (record_from all)

at : (all : List ℕ) (i : ℕ) → i < length all / 8 → record_from all i ≡ get_or (table_from all) i free
unfolding table_from
at all i h = sym (get_d_tabulate (length all / 8) (record_from all) i free h)

-- a record that is looked at is one of the table's, and of the first eight
passing : (st : State) (n top i : ℕ) → top ≡ to_see st n → i < top → (i < n) × (i < 8)
passing st n top i e h =
    let m = to_see_most st n in
    (omega (arith, e, h, m.0), omega (arith, e, h, m.1))

pub loop-i-init : goal.loop-i-init
unfolding seen_to
loop-i-init c = c.started-survey.ensures ∙ ap (started c.state-state.result) (sym (whole c.args.all.now))

pub record-r-requires : goal.record-r-requires
record-r-requires c =
    let p = passing c.state-state.result (length c.args.all.now / 8) c.to_see-top.result c.loop-i.i c.to_see-top.ensures c.loop-i-test.true in
    omega (arith, p.0, p.1)

pub loop-i-preserved : goal.loop-i-preserved
loop-i-preserved c =
    let s = c.state-state.result in
    let all = c.args.all.now in
    let p = passing s (length all / 8) c.to_see-top.result c.loop-i.i c.to_see-top.ensures c.loop-i-test.true in
    c.seen-survey.ensures
    ∙ ap₂ (λ (v : Survey) (r : Record). seen s v c.loop-i.i r) c.loop-i.invariant (c.record-r.ensures ∙ at all c.loop-i.i p.0)
    ∙ seen_next s (table_from all) c.loop-i.i

pub returns : goal.returns
unfolding survey_from
returns c =
    let s = c.state-state.result in
    let all = c.args.all.now in
    let e : c.loop-i.i ≡ to_see s (length all / 8) = omega (arith, c.loop-i.auto.i-end, c.loop-i-test.false, c.to_see-top.ensures) in
    c.loop-i.invariant
    ∙ ap (seen_to s (table_from all)) (e ∙ ap (to_see s) (sym (whole all)))
    ∙ survey_is s (table_from all)
    ∙ ap (λ (st : State). survey_of st (table_from all)) c.state-state.ensures
