-- One block put into the image or the work store: what it alters, and that every other block stays. Blocks are looked at byte by byte.
-- Assumes nothing.
use Prim.Native.Nat.{ℕ, ◌+◌, ◌≤◌, ◌<◌}
use mathlib.Core.List.{List}
use mathlib.Core.Logic.{inl, inr}
use mathlib.Core.Path.{◌≡◌}
use native.Mathlib.Omega.{arith}
use lib.ListN.{length, get_or}
use Rattle.terms.specs.Lists.{put}
use Rattle.terms.proofs.Lists.{length_put, get_d_put_in, get_d_put_before, get_d_put_after}
use Rattle.geometry.proofs.Apart.{Apart, cell_inside, cell_apart, write_inside, read_inside, write_apart, read_apart, write_read_apart}
use Rattle.geometry.specs.Store.{cell_at, write_at, read_at, image_size, work_size}
use Rattle.parity.specs.Parity.{byte_at}

-- byte b of record i's block to write, and of its block read, of position p
abbrev pub new_byte : ℕ → ℕ → List ℕ → ℕ → ℕ → ℕ → ℕ
new_byte N B work i p b = get_or work (write_at N B i p + b) 0

abbrev pub got_byte : ℕ → ℕ → List ℕ → ℕ → ℕ → ℕ → ℕ
got_byte N B work i p b = get_or work (read_at N B i p + b) 0

-- a block of B bytes put in at a place
module _ (B at : ℕ) (block l : List ℕ) (size : length block ≡ B) (room : at + B ≤ length l) where
  pub put_length : length (put at block l) ≡ length l
  put_length = length_put at block l (omega arith)

  pub put_same : (b : ℕ) → b < B → get_or (put at block l) (at + b) 0 ≡ get_or block b 0
  put_same b h = get_d_put_in at block l b 0 (omega arith) (omega arith)

  pub put_other : (other b : ℕ) → Apart B at other → b < B → get_or (put at block l) (other + b) 0 ≡ get_or l (other + b) 0
  put_other other b (inl h) k = get_d_put_after at block l (other + b) 0 (omega arith) (omega arith)
  put_other other b (inr h) k = get_d_put_before at block l (other + b) 0 (omega arith) (omega arith)

-- a block put into the image, in the cell of card c and stripe s
module _ (N S B : ℕ) (image : List ℕ) (long : length image ≡ image_size N S B) (c s : ℕ) (hc : c < N) (hs : s < S)
    (block : List ℕ) (size : length block ≡ B) where
  cell_room : cell_at S B c s + B ≤ length image
  cell_room = omega (arith, cell_inside N S B c s hc hs)

  pub cell_put_length : length (put (cell_at S B c s) block image) ≡ length image
  cell_put_length = put_length B (cell_at S B c s) block image size cell_room

  pub cell_put_same : (b : ℕ) → b < B → byte_at S B (put (cell_at S B c s) block image) c s b ≡ get_or block b 0
  unfolding byte_at
  cell_put_same b h = put_same B (cell_at S B c s) block image size cell_room b h

  pub cell_put_other : (d t b : ℕ) → t < S → b < B → (c ≡ d → s ≡ t → ⊥)
      → byte_at S B (put (cell_at S B c s) block image) d t b ≡ byte_at S B image d t b
  unfolding byte_at
  cell_put_other d t b ht h differ =
      put_other B (cell_at S B c s) block image size cell_room (cell_at S B d t) b (cell_apart S B c s d t hs ht differ) h

-- a block put into the work store
module _ (N B K : ℕ) (work : List ℕ) (long : length work ≡ work_size N B K) (i p : ℕ) (hi : i < K) (hp : p < N)
    (block : List ℕ) (size : length block ≡ B) where
  -- as record i's block read of position p
  got_room : read_at N B i p + B ≤ length work
  got_room = omega (arith, read_inside N B K i p hi hp)

  pub got_put_length : length (put (read_at N B i p) block work) ≡ length work
  got_put_length = put_length B (read_at N B i p) block work size got_room

  pub got_put_same : (b : ℕ) → b < B → got_byte N B (put (read_at N B i p) block work) i p b ≡ get_or block b 0
  got_put_same b h = put_same B (read_at N B i p) block work size got_room b h

  pub got_put_other : (j q b : ℕ) → q < N → b < B → (i ≡ j → p ≡ q → ⊥)
      → got_byte N B (put (read_at N B i p) block work) j q b ≡ got_byte N B work j q b
  got_put_other j q b hq h differ =
      put_other B (read_at N B i p) block work size got_room (read_at N B j q) b (read_apart N B i p j q hp hq differ) h

  pub got_put_new : (j q b : ℕ) → q < N → b < B → new_byte N B (put (read_at N B i p) block work) j q b ≡ new_byte N B work j q b
  got_put_new j q b hq h =
      put_other B (read_at N B i p) block work size got_room (write_at N B j q) b (flip (write_read_apart N B j q i p hq hp)) h
    where
      flip : Apart B (write_at N B j q) (read_at N B i p) → Apart B (read_at N B i p) (write_at N B j q)
      flip (inl e) = inr e
      flip (inr e) = inl e

  -- as record i's block to write of position p
  new_room : write_at N B i p + B ≤ length work
  new_room = omega (arith, write_inside N B K i p hi hp)

  pub new_put_length : length (put (write_at N B i p) block work) ≡ length work
  new_put_length = put_length B (write_at N B i p) block work size new_room

  pub new_put_same : (b : ℕ) → b < B → new_byte N B (put (write_at N B i p) block work) i p b ≡ get_or block b 0
  new_put_same b h = put_same B (write_at N B i p) block work size new_room b h

  pub new_put_other : (j q b : ℕ) → q < N → b < B → (i ≡ j → p ≡ q → ⊥)
      → new_byte N B (put (write_at N B i p) block work) j q b ≡ new_byte N B work j q b
  new_put_other j q b hq h differ =
      put_other B (write_at N B i p) block work size new_room (write_at N B j q) b (write_apart N B i p j q hp hq differ) h

  pub new_put_got : (j q b : ℕ) → q < N → b < B → got_byte N B (put (write_at N B i p) block work) j q b ≡ got_byte N B work j q b
  new_put_got j q b hq h =
      put_other B (write_at N B i p) block work size new_room (read_at N B j q) b (write_read_apart N B i p j q hp hq) h
