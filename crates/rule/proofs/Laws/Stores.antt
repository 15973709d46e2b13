-- RUNS OF STORES (`sets`): a store goes to the list's head or into its tail, so the laws go by the list and by the run, and hold also where the list's
-- end cuts the run off.
use mathlib.Core.Path.{◌≡◌, refl, sym, ap, ◌∙◌}
use mathlib.Core.Logic.{◌⊎◌, inl, inr}
use mathlib.Core.List.{List, [], ◌∷◌, ◌++◌, append_assoc}
use Prim.Native.Nat.{ℕ, zero, suc, ◌+◌, ◌≤◌, ◌<◌}
use native.Mathlib.Nat.{add-zero}
use native.Mathlib.Omega.{arith}
use lib.ListN.{length, set, take, drop}
use Rattle.std.proofs.lemmas.List.{length-take, take-append-drop, take-take}
use Rattle.model.proofs.Laws.Stores.{sets_append}
use lib.Seq.{append_snoc, length-sets, paste, drop_at, length-take-le, set_comm, set_out, sets, sets-eq, take-append_seam}
use Rattle.model.proofs.Laws.Stores.{sets_cons, sets_nil}

module _ {A : Type 0} where
  -- ---- one run and the next: the next may be written first
  set_before : (l : List A) (i j : ℕ) (u : A) (vs : List A) → i < j → set (sets l j vs) i u ≡ sets (set l i u) j vs
  set_before l i j u [] h = refl
  set_before l i j u (v ∷ vs) h =
      set_before (set l j v) i (suc j) u vs (omega arith) ∙ ap (λ (k : List A). sets k (suc j) vs) (set_comm l j i v u (λ e. omega arith))

  pub sets_before : (l : List A) (i : ℕ) (us vs : List A) → sets (sets l (i + length us) vs) i us ≡ sets l i (us ++ vs)
  sets_before l i [] vs = ap (λ (k : ℕ). sets l k vs) (add-zero i)
  sets_before l i (u ∷ us) vs =
      let e : i + suc (length us) ≡ suc i + length us = omega arith in
      ap (λ (k : List A). sets k (suc i) us)
      (set_before l i (i + suc (length us)) u vs (omega arith) ∙ ap (λ (k : ℕ). sets (set l i u) k vs) e)
      ∙ sets_before (set l i u) (suc i) us vs

  -- past the list's end nothing is written
  pub sets_past : (l : List A) (i : ℕ) (vs : List A) → length l ≤ i → sets l i vs ≡ l
  sets_past l i [] h = refl
  sets_past l i (v ∷ vs) h = ap (λ (k : List A). sets k (suc i) vs) (set_out l i v h) ∙ sets_past l (suc i) vs (omega arith)

  -- what stands there already
  sets_take : (l : List A) (n : ℕ) → sets l 0 (take n l) ≡ l
  sets_take l zero = refl
  sets_take [] (suc n) = refl
  sets_take (x ∷ xs) (suc n) = sets_cons x xs 0 (take n xs) ∙ ap (λ (r : List A). x ∷ r) (sets_take xs n)

  -- what was written can be read where the list's end does not cut it off
  pub take_written : (l : List A) (i : ℕ) (vs : List A) → i + length vs ≤ length l → take (length vs) (drop i (sets l i vs)) ≡ vs
  take_written l i vs h =
      ap (λ (k : List A). take (length vs) (drop i k)) (sets-eq vs l i h ∙ append_assoc (take i l) vs (drop (i + length vs) l))
      ∙ ap (take (length vs)) (drop_at (take i l) (vs ++ drop (i + length vs) l) i (length-take-le i l (omega arith)))
      ∙ take-append_seam vs (drop (i + length vs) l)

  -- ---- a run moved on, and others put before it: as if it had been written there at first
  opened_nil : (i : ℕ) (vs ws : List A) → sets (sets [] i vs) i (ws ++ take (length vs) (drop i (sets [] i vs))) ≡ sets [] i (ws ++ vs)
  opened_nil i vs ws =
      ap (λ (k : List A). sets k i (ws ++ take (length vs) (drop i k))) (sets_nil i vs)
      ∙ sets_nil i (ws ++ take (length vs) (drop i []))
      ∙ sym (sets_nil i (ws ++ vs))

  opened_front : (l vs ws : List A) → sets (sets l 0 vs) 0 (ws ++ take (length vs) (sets l 0 vs)) ≡ sets l 0 (ws ++ vs)
  opened_front [] vs ws = opened_nil 0 vs ws
  opened_front (x ∷ xs) vs [] = sets_take (sets (x ∷ xs) 0 vs) (length vs)
  opened_front (x ∷ xs) [] (w ∷ ws) = refl
  opened_front (x ∷ xs) (v ∷ vs) (w ∷ ws) =
      let old = sets xs 0 vs in
      let moved = take (length vs) old in
      ap (λ (k : List A). sets k 0 (w ∷ (ws ++ take (suc (length vs)) k))) (sets_cons v xs 0 vs)
      ∙ sets_cons w old 0 (ws ++ (v ∷ moved))
      ∙ ap (λ (r : List A). w ∷ r)
      (ap (sets old 0) (sym (append_snoc ws v moved))
      ∙ opened_front xs vs (ws ++ (v ∷ []))
      ∙ ap (sets xs 0) (append_snoc ws v vs))
      ∙ sym (sets_cons w xs 0 (ws ++ (v ∷ vs)))

  pub sets_opened : (l : List A) (i : ℕ) (vs ws : List A) → sets (sets l i vs) i (ws ++ take (length vs) (drop i (sets l i vs))) ≡ sets l i (ws ++ vs)
  sets_opened l zero vs ws = opened_front l vs ws
  sets_opened [] (suc i) vs ws = opened_nil (suc i) vs ws
  sets_opened (x ∷ xs) (suc i) vs ws =
      ap (λ (k : List A). sets k (suc i) (ws ++ take (length vs) (drop (suc i) k))) (sets_cons x xs i vs)
      ∙ sets_cons x (sets xs i vs) i (ws ++ take (length vs) (drop i (sets xs i vs)))
      ∙ ap (λ (r : List A). x ∷ r) (sets_opened xs i vs ws)
      ∙ sym (sets_cons x xs i (ws ++ vs))

  -- ---- a run written at once, as far as the list's end
  -- what lies past the list's end is lost
  sets_cut : (l : List A) (i m n : ℕ) (vs : List A) → m ≤ n → m ≤ length vs → length l ≤ i + m → sets l i (take m vs) ≡ sets l i (take n vs)
  sets_cut l i m n vs h k b =
      let head = take m (take n vs) in
      let rest = drop m (take n vs) in
      let e : length head ≡ m = length-take-le m (take n vs) (omega (arith, length-take n vs)) in
      ap (sets l i) (sym (take-take m n vs h))
      ∙ sym (sets_past (sets l i head) (i + length head) rest (omega (arith, length-sets l i head)))
      ∙ sym (sets_append l i head rest)
      ∙ ap (sets l i) (take-append-drop m (take n vs))

  pub pasted : (l : List A) (i m n : ℕ) (vs : List A) → i + m ≤ length l → m ≤ n → m ≤ length vs → (m ≡ n) ⊎ (length l ≤ i + m)
      → paste l i vs m ≡ sets l i (take n vs)
  pasted l i m n vs b h k c = written ∙ go c
    where
      size : length (take m vs) ≡ m
      size = length-take-le m vs k

      written : paste l i vs m ≡ sets l i (take m vs)
      written =
          ap (λ (j : ℕ). take i l ++ take m vs ++ drop (i + j) l) (sym size) ∙ sym (sets-eq (take m vs) l i (omega (arith, size)))

      go : (m ≡ n) ⊎ (length l ≤ i + m) → sets l i (take m vs) ≡ sets l i (take n vs)
      go (inl e) = ap (λ (j : ℕ). sets l i (take j vs)) e
      go (inr e) = sets_cut l i m n vs h k e
