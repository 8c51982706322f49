-- A fill does not look at what a missing block holds: of two images that agree on every block that is not missing, a rebuild step makes two that
-- agree on every block that is not missing then, the restored one among them.
-- Assumes nothing.
use Prim.Native.Nat.{ℕ, ◌<◌}
use mathlib.Core.Bool.{Bool, true, false, cond}
use mathlib.Core.List.{List}
use mathlib.Core.Path.{◌≡◌, refl, sym, ap, subst, ◌∙◌}
use native.Mathlib.Decide.{ℕ_discrete}
use borrow.Author.Tests.{eqb-false}
use lib.Dec.{eqb}
use lib.ListN.{length, get_or}
use Rattle.terms.proofs.Lists.{length_tabulate, tabulate_cong}
use Rattle.terms.proofs.Sets.{xor_to_cong}
use Rattle.geometry.proofs.Missing.{missing_one, out_started}
use Rattle.geometry.specs.Limits.{no_fill, geometry_of, state_of}
use Rattle.geometry.specs.Placement.{Missing, out_in}
use Rattle.geometry.specs.Report.{with_fill}
use Rattle.geometry.specs.Store.{image_size}
use Rattle.geometry.specs.declared.Geometry.{Geometry}
use Rattle.geometry.specs.declared.State.{State}
use Rattle.parity.specs.Parity.{byte_at}
use Rattle.parity.specs.Rest.{rest_of, restored}
use Rattle.array.proofs.Frames.{cell_put_length, cell_put_same, cell_put_other}
use Rattle.history.specs.History.{Decayed}

module _ (st : State) (image image' : List ℕ) (same : Decayed st image image') where
  -- the start of a fill leaves which blocks are missing
  pub started_same : st.fill ≡ no_fill → Decayed (with_fill st 0) image image'
  started_same still =
      record {
        same_length = same.same_length;
        same_bytes = λ c s b hc hs hb works.
            same.same_bytes c s b hc hs hb (λ m. works (record { is_card = m.is_card; is_out = m.is_out ∙ sym (out_started st s still) }));
      }

  module _ (long : length image ≡ image_size st.cards st.stripes st.block) (c s : ℕ) (hs : s < st.stripes) (missing : Missing st c s) where
    -- the other cards give the same: none of their blocks is missing there
    rest_same : rest_of st image' c s ≡ rest_of st image c s
    unfolding rest_of
    rest_same = tabulate_cong st.block _ _ (λ b hb. xor_to_cong st.cards _ _ (λ d hd. go d hd b hb (eqb d c) refl))
      where
        go : (d : ℕ) → d < st.cards → (b : ℕ) → b < st.block → (t : Bool) → eqb d c ≡ t
            → cond t 0 (byte_at st.stripes st.block image' d s b) ≡ cond t 0 (byte_at st.stripes st.block image d s b)
        go d hd b hb true f = refl
        go d hd b hb false f = same.same_bytes d s b hd hs hb (λ m. eqb-false d c f (missing_one m missing))

    size : (l : List ℕ) → length (rest_of st l c s) ≡ st.block
    unfolding rest_of
    size l = length_tabulate st.block _

    -- the restored block, and every other one
    here : (l : List ℕ) → length l ≡ image_size st.cards st.stripes st.block → (b : ℕ) → b < st.block
        → byte_at st.stripes st.block (restored st l c s) c s b ≡ get_or (rest_of st l c s) b 0
    unfolding restored
    here l whole = cell_put_same st.cards st.stripes st.block l whole c s missing.is_card hs (rest_of st l c s) (size l)

    there : (l : List ℕ) → length l ≡ image_size st.cards st.stripes st.block → (d t b : ℕ) → t < st.stripes → b < st.block → (c ≡ d → s ≡ t → ⊥)
        → byte_at st.stripes st.block (restored st l c s) d t b ≡ byte_at st.stripes st.block l d t b
    unfolding restored
    there l whole = cell_put_other st.cards st.stripes st.block l whole c s missing.is_card hs (rest_of st l c s) (size l)

    as_long : (l : List ℕ) → length l ≡ image_size st.cards st.stripes st.block → length (restored st l c s) ≡ length l
    unfolding restored
    as_long l whole = cell_put_length st.cards st.stripes st.block l whole c s missing.is_card hs (rest_of st l c s) (size l)

    long' : length image' ≡ image_size st.cards st.stripes st.block
    long' = same.same_length ∙ long

    -- with marks that leave which card is missing in every other stripe
    module _ (out lost fill : ℕ) where
      abbrev st' : State
      st' = state_of (geometry_of st) out lost fill

      marked_same : ((t : ℕ) → t < st.stripes → ¬ (t ≡ s) → out_in st' t ≡ out_in st t) → Decayed st' (restored st image c s) (restored st image' c s)
      marked_same stays =
          record {
            same_length = as_long image' long' ∙ same.same_length ∙ sym (as_long image long);
            same_bytes = λ d t b hd ht hb works. go d t b hd ht hb works (ℕ_discrete t s) (ℕ_discrete d c);
          }
        where
          other : (d t b : ℕ) → t < st.stripes → b < st.block → (c ≡ d → s ≡ t → ⊥)
              → byte_at st.stripes st.block image' d t b ≡ byte_at st.stripes st.block image d t b
              → byte_at st.stripes st.block (restored st image' c s) d t b ≡ byte_at st.stripes st.block (restored st image c s) d t b
          other d t b ht hb differ e = there image' long' d t b ht hb differ ∙ e ∙ sym (there image long d t b ht hb differ)

          go : (d t b : ℕ) → d < st.cards → t < st.stripes → b < st.block → ¬ Missing st' d t → Dec (t ≡ s) → Dec (d ≡ c)
              → byte_at st.stripes st.block (restored st image' c s) d t b ≡ byte_at st.stripes st.block (restored st image c s) d t b
          go d t b hd ht hb works (yes e) (yes f) =
              rw (e, f) (here image' long' b hb ∙ ap (λ (l : List ℕ). get_or l b 0) rest_same ∙ sym (here image long b hb))
          go d t b hd ht hb works (yes e) (no f) =
              other d t b ht hb (λ x y. f (sym x)) (same.same_bytes d t b hd ht hb (λ m. f (missing_one m (rw e missing))))
          go d t b hd ht hb works (no e) f =
              other d t b ht hb (λ x y. e (sym y))
              (same.same_bytes d t b hd ht hb (λ m. works (record { is_card = m.is_card; is_out = m.is_out ∙ sym (stays t ht e) })))

    pub restored_same : (st' : State) → geometry_of st' ≡ geometry_of st → ((t : ℕ) → t < st.stripes → ¬ (t ≡ s) → out_in st' t ≡ out_in st t)
        → Decayed st' (restored st image c s) (restored st image' c s)
    restored_same st' e =
        subst
        (λ (g : Geometry). ((t : ℕ) → t < st.stripes → ¬ (t ≡ s) → out_in (state_of g st'.out st'.lost st'.fill) t ≡ out_in st t)
        → Decayed (state_of g st'.out st'.lost st'.fill) (restored st image c s) (restored st image' c s))
        (sym e) (marked_same st'.out st'.lost st'.fill)
