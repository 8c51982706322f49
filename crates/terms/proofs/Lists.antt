-- Laws of `tabulate`, `part`, `put`, `every` and `set`: how long each is, and what stands at each place.
-- Assumes nothing.
use Prim.Native.Nat.{ℕ, zero, suc, ◌+◌, ◌-◌, ◌≤◌, ◌<◌}
use mathlib.Core.Bool.{Bool, true}
use mathlib.Core.List.{List, [], ◌∷◌, ◌++◌}
use mathlib.Core.Logic.{◌⊎◌, inl, inr}
use mathlib.Core.Path.{◌≡◌, refl, sym, ap, ◌∙◌}
use native.Mathlib.Nat.{le_of_suc-le-suc, not-suc-le-zero}
use native.Mathlib.Omega.{arith}
use lib.ListN.{length, get_or, set, take, drop, length-append, length-take, length-drop, get_or-append}
use lib.Seq.{get_or-take, get_or-drop, get_or-append-add, length-take-le, ext_get_or}
use Rattle.terms.specs.Lists.{tabulate, part, put, every}
use Rattle.terms.proofs.Rows.{and_left, and_right, and_both}

module _ {ℓ} {A : Type ℓ} where
  pub length_tabulate : (n : ℕ) (f : ℕ → A) → length (tabulate n f) ≡ n
  unfolding tabulate
  length_tabulate zero f = refl
  length_tabulate (suc n) f = ap suc (length_tabulate n (λ i. f (suc i)))

  pub get_d_tabulate : (n : ℕ) (f : ℕ → A) (i : ℕ) (d : A) → i < n → get_or (tabulate n f) i d ≡ f i
  unfolding tabulate
  get_d_tabulate zero f i d h = absurd (not-suc-le-zero h)
  get_d_tabulate (suc n) f zero d h = refl
  get_d_tabulate (suc n) f (suc i) d h = get_d_tabulate n (λ j. f (suc j)) i d (le_of_suc-le-suc h)

  -- two rules that agree below n make the same list
  pub tabulate_cong : (n : ℕ) (f g : ℕ → A) → ((i : ℕ) → i < n → f i ≡ g i) → tabulate n f ≡ tabulate n g
  unfolding tabulate
  tabulate_cong zero f g h = refl
  tabulate_cong (suc n) f g h =
      rw (h zero (omega arith))
      (ap (λ (l : List A). g zero ∷ l) (tabulate_cong n (λ i. f (suc i)) (λ i. g (suc i)) (λ i p. h (suc i) (omega arith))))

  -- a list is made by the rule that reads it
  pub tabulate_get_d : (l : List A) (d : A) → tabulate (length l) (λ i. get_or l i d) ≡ l
  unfolding tabulate
  tabulate_get_d [] d = refl
  tabulate_get_d (a ∷ l) d = ap (λ (t : List A). a ∷ t) (tabulate_get_d l d)

  -- a list that a rule describes is what the rule makes
  pub is_tabulate : (l : List A) (n : ℕ) (f : ℕ → A) (d : A) → length l ≡ n → ((i : ℕ) → i < n → get_or l i d ≡ f i) → l ≡ tabulate n f
  is_tabulate l n f d e h =
      ext_get_or d l (tabulate n f) (e ∙ sym (length_tabulate n f))
      (λ i p. let q : i < n = omega arith in h i q ∙ sym (get_d_tabulate n f i d q))

  pub length_part : (at size : ℕ) (l : List A) → at + size ≤ length l → length (part at size l) ≡ size
  unfolding part
  length_part at size l h = simp (length-take, length-drop) (omega arith)

  pub get_d_part : (at size : ℕ) (l : List A) (i : ℕ) (d : A) → i < size → get_or (part at size l) i d ≡ get_or l (at + i) d
  unfolding part
  get_d_part at size l i d h = get_or-take size (drop at l) i d h ∙ get_or-drop at l i d

  pub length_put : (at : ℕ) (b l : List A) → at + length b ≤ length l → length (put at b l) ≡ length l
  unfolding put
  length_put at b l h = simp (length-append, length-take, length-drop) (omega arith)

  -- inside the part that was put in
  pub get_d_put_in : (at : ℕ) (b l : List A) (i : ℕ) (d : A) → at ≤ length l → i < length b → get_or (put at b l) (at + i) d ≡ get_or b i d
  unfolding put
  get_d_put_in at b l i d h p =
      ap (λ (k : ℕ). get_or (take at l ++ (b ++ drop (at + length b) l)) (k + i) d) (sym (length-take-le at l h))
      ∙ get_or-append-add (take at l) (b ++ drop (at + length b) l) i d
      ∙ get_or-append b (drop (at + length b) l) d i p

  -- before it
  pub get_d_put_before : (at : ℕ) (b l : List A) (j : ℕ) (d : A) → at ≤ length l → j < at → get_or (put at b l) j d ≡ get_or l j d
  unfolding put
  get_d_put_before at b l j d h p =
      get_or-append (take at l) (b ++ drop (at + length b) l) d j (simp length-take (omega arith))
      ∙ get_or-take at l j d p

  -- behind it
  pub get_d_put_after : (at : ℕ) (b l : List A) (j : ℕ) (d : A) → at ≤ length l → at + length b ≤ j → get_or (put at b l) j d ≡ get_or l j d
  unfolding put
  get_d_put_after at b l j d h p =
      let r : ℕ = j - (at + length b) in
      let e : j ≡ at + (length b + r) = omega arith in
      let f : j ≡ (at + length b) + r = omega arith in
      ap (λ (k : ℕ). get_or (take at l ++ (b ++ drop (at + length b) l)) k d) e
      ∙ ap (λ (k : ℕ). get_or (take at l ++ (b ++ drop (at + length b) l)) (k + (length b + r)) d) (sym (length-take-le at l h))
      ∙ get_or-append-add (take at l) (b ++ drop (at + length b) l) (length b + r) d
      ∙ get_or-append-add b (drop (at + length b) l) r d
      ∙ get_or-drop (at + length b) l r d
      ∙ ap (λ (k : ℕ). get_or l k d) (sym f)

  -- at another place than the part that was put in
  pub get_d_put_other : (at : ℕ) (b l : List A) (j : ℕ) (d : A) → at ≤ length l → (j < at) ⊎ (at + length b ≤ j)
      → get_or (put at b l) j d ≡ get_or l j d
  get_d_put_other at b l j d h (inl p) = get_d_put_before at b l j d h p
  get_d_put_other at b l j d h (inr p) = get_d_put_after at b l j d h p

  -- a part is made by the rule that reads it
  pub part_tabulate : (at size : ℕ) (l : List A) (d : A) → at + size ≤ length l → part at size l ≡ tabulate size (λ i. get_or l (at + i) d)
  part_tabulate at size l d h = is_tabulate (part at size l) size (λ i. get_or l (at + i) d) d (length_part at size l h) (λ i p. get_d_part at size l i d p)

  -- two parts that agree at each place are equal
  pub part_cong : (at size : ℕ) (l : List A) (at' : ℕ) (l' : List A) (d : A) → at + size ≤ length l → at' + size ≤ length l'
      → ((i : ℕ) → i < size → get_or l (at + i) d ≡ get_or l' (at' + i) d) → part at size l ≡ part at' size l'
  part_cong at size l at' l' d h h' e =
      ext_get_or d (part at size l) (part at' size l') (length_part at size l h ∙ sym (length_part at' size l' h'))
      (λ i p.
      let q : i < size = omega (arith, length_part at size l h) in
      get_d_part at size l i d q ∙ e i q ∙ sym (get_d_part at' size l' i d q))

  -- what was put in is what stands there
  pub part_put_same : (at : ℕ) (b l : List A) (d : A) → at + length b ≤ length l → part at (length b) (put at b l) ≡ b
  part_put_same at b l d h =
      ext_get_or d (part at (length b) (put at b l)) b (length_part at (length b) (put at b l) (omega (arith, length_put at b l h)))
      (λ i p.
      let q : i < length b = omega (arith, length_part at (length b) (put at b l) (omega (arith, length_put at b l h))) in
      get_d_part at (length b) (put at b l) i d q ∙ get_d_put_in at b l i d (omega arith) q)

  -- a part that lies wholly before or behind it is as it was
  pub part_put_other : (at : ℕ) (b l : List A) (at' size : ℕ) (d : A) → at + length b ≤ length l → at' + size ≤ length l
      → (at' + size ≤ at) ⊎ (at + length b ≤ at') → part at' size (put at b l) ≡ part at' size l
  part_put_other at b l at' size d h h' (inl p) =
      part_cong at' size (put at b l) at' l d (omega (arith, length_put at b l h)) h'
      (λ i q. get_d_put_before at b l (at' + i) d (omega arith) (omega arith))
  part_put_other at b l at' size d h h' (inr p) =
      part_cong at' size (put at b l) at' l d (omega (arith, length_put at b l h)) h'
      (λ i q. get_d_put_after at b l (at' + i) d (omega arith) (omega arith))

  -- what holds of every element holds of the one at each place
  pub every_elim : (p : A → Bool) (l : List A) (i : ℕ) (d : A) → every p l ≡ true → i < length l → p (get_or l i d) ≡ true
  unfolding every
  every_elim p [] i d e h = absurd (not-suc-le-zero h)
  every_elim p (a ∷ l) zero d e h = and_left (p a) (every p l) e
  every_elim p (a ∷ l) (suc i) d e h = every_elim p l i d (and_right (p a) (every p l) e) (le_of_suc-le-suc h)

  -- what holds at each place holds of every element
  pub every_intro : (p : A → Bool) (l : List A) (d : A) → ((i : ℕ) → i < length l → p (get_or l i d) ≡ true) → every p l ≡ true
  unfolding every
  every_intro p [] d h = refl
  every_intro p (a ∷ l) d h =
      and_both (p a) (every p l) (h zero (omega arith)) (every_intro p l d (λ i q. h (suc i) (omega arith)))

  -- past the end nothing is put
  pub set_end : (l : List A) (a : A) → set l (length l) a ≡ l
  set_end [] a = refl
  set_end (x ∷ xs) a = ap {B = List A} (λ r. x ∷ r) (set_end xs a)
