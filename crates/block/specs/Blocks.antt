-- What is done to blocks, as lists of bytes.
-- Assumes nothing.
use Rattle.std.specs.Prelude.{ℕ, ◌+◌, Bool, cond, ◌&&◌, List, ltb, leb, eqb, length, get_or, replicate}
use Rattle.std.specs.Int.Bits.{bit_xor}
use Rattle.terms.specs.Lists.{tabulate, part, put, changes}
use Rattle.terms.specs.Sets.{all_below}

-- block b copied to the front of a, byte by byte; a is as long as it was, and what b lacks stays: b itself where they are of one length
unfoldable pub copied : List ℕ → List ℕ → List ℕ
copied a b = tabulate (length a) (λ i. cond (ltb i (length b)) (get_or b i 0) (get_or a i 0))

-- size bytes of src, from a place there, put into dst at a place; dst itself where either has no room for them
unfoldable pub carried : List ℕ → ℕ → List ℕ → ℕ → ℕ → List ℕ
carried dst at src from size =
    cond (leb (at + size) (length dst) && leb (from + size) (length src)) (put at (part from size src) dst) dst

-- block b added to the sum a, byte by byte; a is as long as it was, and what b lacks counts as zero
unfoldable pub added : List ℕ → List ℕ → List ℕ
added a b = tabulate (length a) (λ i. bit_xor (get_or a i 0) (get_or b i 0))

-- a block of n zero bytes
abbrev pub zeros : ℕ → List ℕ
zeros n = replicate n 0

-- blocks f 0, f 1, .. f (n - 1) added to the sum a
unfoldable pub summed : ℕ → (ℕ → List ℕ) → List ℕ → List ℕ
summed n f a = changes n (λ k s. added s (f k)) a

-- the first n bytes of a are all zero
unfoldable pub all_zero : ℕ → List ℕ → Bool
all_zero n a = all_below n (λ i. eqb (get_or a i 0) 0)
