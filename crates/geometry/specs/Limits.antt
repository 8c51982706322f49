-- Document 01, "The array", with the layout of document 02's Q-6: the limits of its numbers. Refusal 1 is given where they do not hold.
-- Assumes nothing.
use Rattle.std.specs.Prelude.{ℕ, ◌%◌, Bool, ◌&&◌, ◌||◌, not, ltb, eqb}
use Rattle.terms.specs.Sets.{within}
use Rattle.geometry.specs.declared.Geometry.{Geometry}
use Rattle.geometry.specs.declared.State.{State}

-- N cards, 3 to 8; S stripes, 1 to 1,024; B bytes in a block, 16 to 512, a multiple of 16; K request records, 1 to 8
unfoldable pub legal : ℕ → ℕ → ℕ → ℕ → Bool
legal N S B K = within 3 8 N && within 1 1024 S && (within 16 512 B && eqb (B % 16) 0) && within 1 8 K

-- the layout is 4 or 5
unfoldable pub legal_layout : ℕ → Bool
legal_layout layout = within 4 5 layout

-- the number that says that no card is out
abbrev pub none : ℕ
none = 255

-- the card that is out: 0 to N-1, or 255 for none
unfoldable pub legal_out : ℕ → ℕ → Bool
legal_out N out = ltb out N || eqb out none

-- refusal 1, of a geometry and the card that is out: N, S, B, K or the layout is beyond its limits, or the card out is neither below N nor 255
unfoldable pub beyond : Geometry → ℕ → Bool
beyond g out = not (legal g.cards g.stripes g.block g.records && legal_layout g.layout && legal_out g.cards out)

-- a state is a geometry and three marks: the card that is out, the mark of a lost array, and the fill place
abbrev pub geometry_of : State → Geometry
geometry_of st = record { cards = st.cards; stripes = st.stripes; block = st.block; records = st.records; layout = st.layout }

abbrev pub state_of : Geometry → ℕ → ℕ → ℕ → State
state_of g out lost fill =
    record {
      cards = g.cards;
      stripes = g.stripes;
      block = g.block;
      records = g.records;
      layout = g.layout;
      out = out;
      lost = lost;
      fill = fill;
    }

-- the number that says that no fill is under way
abbrev pub no_fill : ℕ
no_fill = 65535

-- a fill is under way: a fresh card is in the sleeve of the one that is out, and is filled stripe by stripe
abbrev pub under_way : State → Bool
under_way st = not (eqb st.fill no_fill)

-- the fill place, the stripe to be filled next: 65,535, or below S where a card is out
unfoldable pub legal_fill : ℕ → ℕ → ℕ → Bool
legal_fill S out fill = eqb fill no_fill || (ltb fill S && not (eqb out none))

-- refusal 1, of a state: also where its fill place is not legal
unfoldable pub beyond_state : State → Bool
beyond_state st = beyond (geometry_of st) st.out || not (legal_fill st.stripes st.out st.fill)

-- refusal 4: the array is lost
abbrev pub is_lost : State → Bool
is_lost st = not (eqb st.lost 0)
