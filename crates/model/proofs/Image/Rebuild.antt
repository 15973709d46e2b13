-- Words that have the length, the counts and, part by part, the sets of an assembled image are that image.
use mathlib.Core.Path.{◌≡◌, refl, sym, ap, ap₂, ◌∙◌}
use mathlib.Core.Bool.{Bool}
use mathlib.Core.List.{List, ◌∷◌, ◌++◌}
use Prim.Native.Nat.{ℕ, zero, suc, ◌+◌, ◌*◌, ◌<◌}
use native.Mathlib.Nat.{mul_comm, mul-suc, mul-zero, zero-add, zero-lt-suc}
use native.Mathlib.Omega.{arith}
use lib.ListN.{length, get_or, take, drop, length-drop, take-append-drop}
use lib.Seq.{drop-cons, drop-drop, take-add, take_all}
use Rattle.model.specs.Image.{join}
use Rattle.model.specs.Models.Sections.{back_at, back_in, chunk, Counted, depth_word, gather_at, gather_in, letters_at, letters_in, propagate_at, propagate_in, repeats_at, repeats_in, scatter_at, scatter_in, state_word, width_word}
use Rattle.model.specs.Models.LayOut.{assemble, Plane}
use Rattle.model.proofs.Image.Sections.{after_gather, after_letters, after_propagate, after_repeats, after_scatter, back_rows, backs_length, back_words_at, gather_rows, gathers_length, gather_words_at, letter_rows, letters_length, letter_words_at, loop_rows, loops_length, loop_words_at, propagate_rows, propagates_length, propagate_words_at, scatter_rows, scatters_length, scatter_words_at}

-- ---- words from their parts
join_of : (w n a : ℕ) (f : ℕ → List ℕ) (S : List ℕ) → ((k : ℕ) → k < n → chunk w k S ≡ f (a + k)) → take (w * n) S ≡ join n a f
join_of w zero a f S h = ap (λ (n : ℕ). take n S) (mul-zero w)
join_of w (suc n) a f S h =
    ap (λ (j : ℕ). take j S) (let e : w * suc n ≡ w + w * n = omega (arith, mul-suc w n) in e)
    ∙ take-add w (w * n) S
    ∙ ap₂ ◌++◌ (ap (λ (j : ℕ). take w (drop j S)) (sym (mul-zero w)) ∙ h 0 (zero-lt-suc n) ∙ (let e : a + 0 ≡ a = omega arith in ap f e))
    (join_of w n (suc a) f (drop w S)
    (λ k l. ap (take w) (drop-drop (w * k) w S ∙ (let e : w + w * k ≡ w * suc k = omega (arith, mul-suc w k) in ap (λ (j : ℕ). drop j S) e))
    ∙ h (suc k) (omega arith) ∙ (let e : a + suc k ≡ suc a + k = omega arith in ap f e)))

module _ (ws : List ℕ) (a w n : ℕ) (f : ℕ → List ℕ) (parts : (k : ℕ) → k < n → chunk w k (drop a ws) ≡ f k) where
  pub whole : take (w * n) (drop a ws) ≡ join n 0 f
  whole = join_of w n 0 f (drop a ws) (λ k l. parts k l ∙ ap f (sym (zero-add k)))

  -- a section's s words from place a on, the count of the next section, and that section
  section_on : (s c : ℕ) → s ≡ w * n → a + s < length ws → get_or ws (a + s) 0 ≡ c → drop a ws ≡ join n 0 f ++ (c ∷ drop (suc (a + s)) ws)
  section_on s c q l e =
      sym (take-append-drop s (drop a ws))
      ∙ ap₂ ◌++◌ (ap (λ (i : ℕ). take i (drop a ws)) q ∙ whole) (drop-drop s a ws ∙ drop-cons ws (a + s) 0 l ∙ ap (λ (x : ℕ). x ∷ drop (suc (a + s)) ws) e)

  section_end : length ws ≡ a + w * n → drop a ws ≡ join n 0 f
  section_end l = sym (take_all (w * n) (drop a ws) (omega (arith, length-drop a ws))) ∙ whole

-- ---- an image from its sections
module _ (ws : List ℕ) (L R : ℕ → ℕ → Bool) (B : Plane → ℕ → ℕ → Bool) where
  abbrev m : ℕ
  m = state_word ws

  abbrev W : ℕ
  W = width_word ws

  abbrev d : ℕ
  d = depth_word ws

  pub record Parts : Type 0 where
    pub counted : Counted ws W d
    pub letters : (b : ℕ) → b < 256 → chunk W b (letters_in ws) ≡ letter_words_at m W d L R B b
    pub repeats : (b : ℕ) → b < 256 → chunk W b (repeats_in ws) ≡ loop_words_at m W d L R B b
    pub scatter : (k : ℕ) → k < d → chunk (3 * W) k (scatter_in ws) ≡ scatter_words_at m W d L R B k
    pub gather : (k : ℕ) → k < d → chunk (3 * W) k (gather_in ws) ≡ gather_words_at m W d L R B k
    pub propagate : (k : ℕ) → k < suc d → chunk (3 * W) k (propagate_in ws) ≡ propagate_words_at m W d L R B k
    pub back : (k : ℕ) → k < d → chunk (2 * W) k (back_in ws) ≡ back_words_at m W d L R B k

  -- THE WORDS ARE THE IMAGE
  pub rebuild : Parts → ws ≡ assemble m W d L R B
  rebuild P =
      drop-cons ws 0 0 (omega (arith, C.long))
      ∙ ap₂ (λ (x : ℕ) (r : List ℕ). x ∷ r) C.shape_count
      (drop-cons ws 1 0 (omega (arith, C.long)) ∙ ap (λ (r : List ℕ). m ∷ r)
      (drop-cons ws 2 0 (omega (arith, C.long)) ∙ ap (λ (r : List ℕ). W ∷ r)
      (drop-cons ws 3 0 (omega (arith, C.long)) ∙ ap (λ (r : List ℕ). d ∷ r)
      (drop-cons ws 4 0 (omega (arith, C.long)) ∙ ap₂ (λ (x : ℕ) (r : List ℕ). x ∷ r) (C.letters-count ∙ sym (letters_length m W d L R B)) from_letters))))
    where
      C : Counted ws W d
      C = P.counted

      from_propagate : propagate_in ws ≡ propagate_rows m W d L R B ++ after_propagate m W d L R B
      from_propagate =
          section_on ws (propagate_at W d) (3 * W) (suc d) (propagate_words_at m W d L R B) P.propagate (3 * W * suc d) (length (back_rows m W d L R B))
          refl (omega (arith, C.long)) (C.back-count ∙ sym (backs_length m W d L R B))
          ∙ ap (λ (r : List ℕ). propagate_rows m W d L R B ++ (length (back_rows m W d L R B) ∷ r))
          (section_end ws (back_at W d) (2 * W) d (back_words_at m W d L R B) P.back C.long)

      from_gather : gather_in ws ≡ gather_rows m W d L R B ++ after_gather m W d L R B
      from_gather =
          section_on ws (gather_at W d) (3 * W) d (gather_words_at m W d L R B) P.gather (3 * W * d) (length (propagate_rows m W d L R B))
          refl (omega (arith, C.long)) (C.propagate-count ∙ sym (propagates_length m W d L R B))
          ∙ ap (λ (r : List ℕ). gather_rows m W d L R B ++ (length (propagate_rows m W d L R B) ∷ r)) from_propagate

      from_scatter : scatter_in ws ≡ scatter_rows m W d L R B ++ after_scatter m W d L R B
      from_scatter =
          section_on ws (scatter_at W) (3 * W) d (scatter_words_at m W d L R B) P.scatter (3 * W * d) (length (gather_rows m W d L R B))
          refl (omega (arith, C.long)) (C.gather-count ∙ sym (gathers_length m W d L R B))
          ∙ ap (λ (r : List ℕ). scatter_rows m W d L R B ++ (length (gather_rows m W d L R B) ∷ r)) from_gather

      from_repeats : repeats_in ws ≡ loop_rows m W d L R B ++ after_repeats m W d L R B
      from_repeats =
          section_on ws (repeats_at W) W 256 (loop_words_at m W d L R B) P.repeats (256 * W) (length (scatter_rows m W d L R B))
          (mul_comm 256 W) (omega (arith, C.long)) (C.scatter-count ∙ sym (scatters_length m W d L R B))
          ∙ ap (λ (r : List ℕ). loop_rows m W d L R B ++ (length (scatter_rows m W d L R B) ∷ r)) from_scatter

      from_letters : letters_in ws ≡ letter_rows m W d L R B ++ after_letters m W d L R B
      from_letters =
          section_on ws letters_at W 256 (letter_words_at m W d L R B) P.letters (256 * W) (length (loop_rows m W d L R B))
          (mul_comm 256 W) (omega (arith, C.long)) (C.repeats-count ∙ sym (loops_length m W d L R B))
          ∙ ap (λ (r : List ℕ). letter_rows m W d L R B ++ (length (loop_rows m W d L R B) ∷ r)) from_repeats
