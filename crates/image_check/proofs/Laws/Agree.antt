-- THE COMPARISON SECTION BY SECTION IS THE MODEL'S: a section equals the joined rows exactly if each part equals its row, and the rows are those that
-- the model lays out, since the tape's tokens are the model's but for their classes.
use mathlib.Core.Path.{◌≡◌, refl, sym, ap, ◌∙◌, subst}
use mathlib.Core.Logic.{◌⊎◌, inl, inr, ◌↔◌}
use mathlib.Core.Bool.{Bool, false}
use mathlib.Core.List.{List, [], ◌∷◌, ◌++◌}
use Prim.Native.Nat.{ℕ, zero, suc, ◌+◌, ◌*◌, ◌≤◌, ◌<◌}
use native.Mathlib.Nat.{lt_of_lt_of_le, mul-suc, mul-zero, mul-le-mul_left, zero-add}
use native.Mathlib.Omega.{arith}
use lib.Dec.{T}
use lib.Bits.{bit_and}
use lib.ListN.{drop, get_or, length, length-drop, take}
use lib.Pow.{pow_mono}
use lib.Seq.{drop-append-add, length-take-le, take_at}
use Rattle.model.specs.Bits.{bit, mask}
use Rattle.model.specs.Image.{join}
use Rattle.model.specs.Models.Apart.{any_below, tape}
use Rattle.model.specs.Models.Sections.{back_at, back_in, bit_of, chunk, depth_word, gather_at, gather_in, letter_place, letters_at, letters_in, propagate_at, propagate_in, repeats_at, repeats_in, scatter_at, scatter_in, state_word, width_word}
use Rattle.model.specs.Models.LayOut.{back-source, back-target, begin, block_of, gather-block, gather-source, gather-target, lay_out, letter-place, loop_place, scatter-block, scatter-source, scatter-target, set, source_of, target_of, three, token_letters, two, Plane}
use Rattle.model.specs.Models.Tokens.{Token}
use Rattle.model.specs.Models.Verdict.{same_words}
use Rattle.model.specs.Models.Words.{and_words, Fit, value}
use Rattle.model.proofs.Image.Compare.{tape_letters}
use Rattle.model.proofs.Image.LetterPlaces.{letter_places, letters_by_or, no_letter_at_zero, or_is_places}
use Rattle.model.proofs.Image.Rebuild.{whole}
use Rattle.model.proofs.Image.Rows.{join_same, length-set, length_three, length_two, set_same, val_words, wide}
use Rattle.model.proofs.Image.SameBits.{rows_ext}
use Rattle.model.proofs.Image.Verdict.{same-words, tape_fine, words_same}
use Rattle.model.proofs.Laws.Bits.{below_out, below_same}
use Rattle.model.proofs.Laws.Bool.{is_not, le_or_lt}
use Rattle.model.proofs.Words.Bits.{mask_lt}
use Rattle.model.proofs.Words.Holds.{Holds, set_holds}
use Rattle.tokens_masks.specs.Tables.{Table}
use Rattle.tokens_masks.specs.Tapes.{bares, is_tree, propagate_block_table, propagate_source_table, propagate_target_table, table_of, tokens_of}
use Rattle.tokens_masks.specs.declared.Tape.{Tape}
use Rattle.tokens_masks.proofs.Bare.{bares_lay, bares_length}
use Rattle.tokens_masks.proofs.FirstWords.{first_words}
use Rattle.tokens_masks.proofs.Painted.{propagate_block_is, propagate_source_is, propagate_target_is, row_is}
use Rattle.image.specs.Work.{three_rows, two_rows}
use Rattle.image_apart.specs.Work.{words_at}
use Rattle.image_check.specs.Work.{same_back, same_gather, same_propagate, same_repeats, same_scatter, same_tables}
use Rattle.model.proofs.Image.Address.{chunk_at, part_fits, part_of_part}

-- ---- a section and its parts
chunk_below : (w n a : ℕ) (g : ℕ → List ℕ) → ((k : ℕ) → k < n → length (g (a + k)) ≡ w) → (k : ℕ) → k < n → chunk w k (join n a g) ≡ g (a + k)
chunk_below w zero a g long k h = absurd (omega arith)
chunk_below w (suc n) a g long zero h =
    let e : a + 0 ≡ a = omega arith in
    ap (λ (j : ℕ). take w (drop j (g a ++ join n (suc a) g))) (mul-zero w)
    ∙ take_at (g a) (join n (suc a) g) w (ap (λ (j : ℕ). length (g j)) (sym e) ∙ long 0 h)
    ∙ ap g (sym e)
chunk_below w (suc n) a g long (suc k) h =
    let e : a + 0 ≡ a = omega arith in
    let f : suc a + k ≡ a + suc k = omega arith in
    let first : length (g a) ≡ w = ap (λ (j : ℕ). length (g j)) (sym e) ∙ long 0 (omega arith) in
    ap (λ (j : ℕ). take w (drop j (g a ++ join n (suc a) g))) (let z : w * suc k ≡ length (g a) + w * k = omega (arith, first, mul-suc w k) in z)
    ∙ ap (take w) (drop-append-add (g a) (join n (suc a) g) (w * k))
    ∙ chunk_below w n (suc a) g (λ j l. ap (λ (i : ℕ). length (g i)) (let z : suc a + j ≡ a + suc j = omega arith in z) ∙ long (suc j) (omega arith)) k (omega arith)
    ∙ ap g f

module _ (w n : ℕ) (g : ℕ → List ℕ) (long : (k : ℕ) → k < n → length (g k) ≡ w) (S : List ℕ) where
  parts_of : take (w * n) S ≡ join n 0 g → (k : ℕ) → k < n → chunk w k S ≡ g k
  parts_of e k h =
      sym (part_of_part w (w * k) (w * n) S (part_fits w h))
      ∙ ap (chunk w k) e
      ∙ chunk_below w n 0 g (λ j l. ap (λ (i : ℕ). length (g i)) (zero-add j) ∙ long j l) k h
      ∙ ap g (zero-add k)

  -- the section as the code compares it, whose rows are g's for each part that there is
  section_is : (f : ℕ → List ℕ) → ((k : ℕ) → k < n → f k ≡ g k)
      → T (same_words (take (w * n) S) (join n 0 f)) ↔ ((k : ℕ) → k < n → chunk w k S ≡ g k)
  section_is f r = (
    λ t. parts_of (same-words (take (w * n) S) (join n 0 f) t ∙ rows),
    λ h. subst (λ (l : List ℕ). T (same_words (take (w * n) S) l)) (whole S 0 w n g h ∙ sym rows) (words_same (take (w * n) S)),
  )
    where
      rows : join n 0 f ≡ join n 0 g
      rows = join_same n 0 f g (λ k l. r k (omega arith))

-- ---- the rows of a tape whose tokens are those taken from the words
module _ (ws : List ℕ) (t : Tape) (taken : tokens_of t ≡ bares (tape ws)) (tree : T (is_tree t)) (between : state_word ws ≡ suc (length (tape ws)))
    (narrow : width_word ws ≤ 8) where
  abbrev l : List Token
  l = tape ws

  abbrev m : ℕ
  m = state_word ws

  abbrev W : ℕ
  W = width_word ws

  abbrev d : ℕ
  d = depth_word ws

  abbrev B : Plane → ℕ → ℕ → Bool
  B = lay_out l begin

  -- a row that is a set which looks at no class
  laid_as : (F : List Token → ℕ → Bool) → ((x : ℕ) → F (bares l) x ≡ F l x) → {r : List ℕ} → r ≡ set (suc (length (tokens_of t))) 8 (F (tokens_of t))
      → r ≡ set m 8 (F l)
  laid_as F same e =
      e
      ∙ ap (λ (y : List Token). set (suc (length y)) 8 (F y)) taken
      ∙ ap (λ (n : ℕ). set (suc n) 8 (F (bares l))) (bares_length l)
      ∙ ap (λ (n : ℕ). set n 8 (F (bares l))) (sym between)
      ∙ set_same m 8 (F (bares l)) (F l) (λ x h. same x)

  row : (w : Plane) (k : ℕ) → k < 9 → get_or (table_of t w) k [] ≡ set m 8 (lay_out l begin w k)
  row w k h = laid_as (λ y. lay_out y begin w k) (bares_lay l begin w k) (row_is t tree w k h)

  cut : (f : ℕ → Bool) {r : List ℕ} → r ≡ set m 8 f → take W r ≡ set m W f
  cut f e = ap (take W) e ∙ first_words m W f narrow

  threes : (w v u : Plane) (k : ℕ) → k < 9
      → three_rows W (get_or (table_of t w) k []) (get_or (table_of t v) k []) (get_or (table_of t u) k []) ≡ three m W (lay_out l begin w k) (lay_out l begin v k) (lay_out l begin u k)
  threes w v u k h = λ i. cut (lay_out l begin w k) (row w k h) i ++ (cut (lay_out l begin v k) (row v k h) i ++ cut (lay_out l begin u k) (row u k h) i)

  -- ---- scatter, gather and propagate
  -- three masks for each of n depths, from a place on
  tables_is : (at n : ℕ) (block source target : Table) (f g h : ℕ → ℕ → Bool)
      → ((k : ℕ) → k < n → three_rows W (get_or block k []) (get_or source k []) (get_or target k []) ≡ three m W (f k) (g k) (h k))
      → T (same_tables ws at W n block source target) ↔ ((k : ℕ) → k < n → chunk (3 * W) k (drop at ws) ≡ three m W (f k) (g k) (h k))
  tables_is at n block source target f g h r =
      section_is (3 * W) n (λ k. three m W (f k) (g k) (h k)) (λ k q. length_three m W (f k) (g k) (h k)) (drop at ws)
      (λ k. three_rows W (get_or block k []) (get_or source k []) (get_or target k [])) r

  module _ (shallow : d ≤ 8) where
    pub scatter_is : T (same_scatter ws (scatter_at W) W d t)
        ↔ ((k : ℕ) → k < d → chunk (3 * W) k (scatter_in ws) ≡ three m W (B scatter-block k) (B scatter-source k) (B scatter-target k))
    scatter_is =
        tables_is (scatter_at W) d (table_of t scatter-block) (table_of t scatter-source) (table_of t scatter-target) (B scatter-block) (B scatter-source)
        (B scatter-target) (λ k h. threes scatter-block scatter-source scatter-target k (omega arith))

    pub gather_is : T (same_gather ws (gather_at W d) W d t)
        ↔ ((k : ℕ) → k < d → chunk (3 * W) k (gather_in ws) ≡ three m W (B gather-block k) (B gather-source k) (B gather-target k))
    gather_is =
        tables_is (gather_at W d) d (table_of t gather-block) (table_of t gather-source) (table_of t gather-target) (B gather-block) (B gather-source)
        (B gather-target) (λ k h. threes gather-block gather-source gather-target k (omega arith))

    pub propagate_is : T (same_propagate ws (propagate_at W d) W d t)
        ↔ ((k : ℕ) → k < suc d → chunk (3 * W) k (propagate_in ws) ≡ three m W (block_of B k) (source_of B k) (target_of B k))
    propagate_is =
        tables_is (propagate_at W d) (suc d) (propagate_block_table t) (propagate_source_table t) (propagate_target_table t) (block_of B) (source_of B) (target_of B)
        rows
      where
        bare : (w : Plane) (k x : ℕ) → lay_out (bares l) begin w k x ≡ B w k x
        bare w k x = bares_lay l begin w k x

        rows : (k : ℕ) → k < suc d → three_rows W (get_or (propagate_block_table t) k []) (get_or (propagate_source_table t) k []) (get_or (propagate_target_table t) k [])
            ≡ three m W (block_of B k) (source_of B k) (target_of B k)
        rows k h =
            let q : k < 9 = omega arith in
            λ i. cut (block_of B k) (laid_as (λ y. block_of (lay_out y begin) k) (λ x j. block_of (λ w k x. bare w k x j) k x) (propagate_block_is t tree k q)) i
            ++ (cut (source_of B k) (laid_as (λ y. source_of (lay_out y begin) k) (λ x j. source_of (λ w k x. bare w k x j) k x) (propagate_source_is t tree k q)) i
            ++ cut (target_of B k) (laid_as (λ y. target_of (lay_out y begin) k) (λ x j. target_of (λ w k x. bare w k x j) k x) (propagate_target_is t tree k q)) i)

    -- two masks for each depth: the back edges
    pub back_is : T (same_back ws (back_at W d) W d t) ↔ ((k : ℕ) → k < d → chunk (2 * W) k (back_in ws) ≡ two m W (B back-source k) (B back-target k))
    back_is =
        section_is (2 * W) d (λ k. two m W (B back-source k) (B back-target k)) (λ k q. length_two m W (B back-source k) (B back-target k)) (back_in ws)
        (λ k. two_rows W (get_or (table_of t back-source) k []) (get_or (table_of t back-target) k []))
        (λ k h i. cut (B back-source k) (row back-source k (omega arith)) i ++ cut (B back-target k) (row back-target k (omega arith)) i)

  -- ---- repeats
  module _ (room : letter_place W 256 ≤ length ws) where
    and_first : (n : ℕ) (xs ys : List ℕ) → length xs ≡ n → and_words xs ys ≡ and_words xs (take n ys)
    and_first zero [] ys e = refl
    and_first zero (x ∷ xs) ys e = absurd (omega arith)
    and_first (suc n) [] ys e = refl
    and_first (suc n) (x ∷ xs) [] e = refl
    and_first (suc n) (x ∷ xs) (y ∷ ys) e = ap (λ (r : List ℕ). bit_and x y ∷ r) (and_first n xs ys (omega arith))

    and_long : (xs ys : List ℕ) → length xs ≡ length ys → length (and_words xs ys) ≡ length xs
    and_long [] ys e = refl
    and_long (x ∷ xs) [] e = absurd (omega arith)
    and_long (x ∷ xs) (y ∷ ys) e = ap suc (and_long xs ys (omega arith))

    letter_long : (b : ℕ) → b < 256 → length (chunk W b (letters_in ws)) ≡ W
    letter_long b h =
        length-take-le W (drop (W * b) (letters_in ws))
        (omega (arith, room, length-drop (W * b) (letters_in ws), length-drop letters_at ws, mul-le-mul_left W h, mul-suc W b))

    abbrev loops : List ℕ
    loops = set m W (B loop_place 0)

    pub repeats_is : T (same_repeats ws letters_at (repeats_at W) W (get_or (table_of t loop_place) 0 []))
        ↔ ((b : ℕ) → b < 256 → chunk W b (repeats_in ws) ≡ and_words (chunk W b (letters_in ws)) loops)
    repeats_is =
        section_is W 256 (λ b. and_words (chunk W b (letters_in ws)) loops) long (repeats_in ws) (λ b. and_words (words_at ws (letter_place W b) W) row₀) row_of
      where
        row₀ : List ℕ
        row₀ = get_or (table_of t loop_place) 0 []

        long : (b : ℕ) → b < 256 → length (and_words (chunk W b (letters_in ws)) loops) ≡ W
        long b h = and_long (chunk W b (letters_in ws)) loops (letter_long b h ∙ sym (length-set m W (B loop_place 0))) ∙ letter_long b h

        row_of : (b : ℕ) → b < 256 → and_words (words_at ws (letter_place W b) W) row₀ ≡ and_words (chunk W b (letters_in ws)) loops
        row_of b h =
            ap (λ (z : List ℕ). and_words z row₀) (sym (chunk_at W b letters_at (letters_in ws) ws refl))
            ∙ and_first W (chunk W b (letters_in ws)) row₀ (letter_long b h)
            ∙ ap (and_words (chunk W b (letters_in ws))) (cut (B loop_place 0) (row loop_place 0 (omega arith)))

  -- ---- letters: the states of all the letters' masks, in eight words
  module _ (few : m ≤ 512) (fits : m ≤ wide W) (letters : List ℕ) (eight : length letters ≡ 8) (fit : Fit letters)
      (bits : (x : ℕ) → bit (value letters) x ≡ any_below 256 (λ b. bit_of W (letters_in ws) b x)) where
    abbrev Clear : Type 0
    Clear = (b x : ℕ) → b < 256 → (x ≡ 0) ⊎ (m ≤ x) → bit_of W (letters_in ws) b x ≡ false

    abbrev places : List ℕ
    places = set m 8 (B letter-place 0)

    held : Holds m 8 places (B letter-place 0)
    held = set_holds m 8 (B letter-place 0) few

    same_value : value places ≡ value (letter_places ws l)
    same_value = value_mask 8 few ∙ sym (value_mask W fits)
      where
        value_mask : (w : ℕ) → m ≤ wide w → value (set m w (B letter-place 0)) ≡ mask m (B letter-place 0)
        value_mask w h = val_words w (mask m (B letter-place 0)) (lt_of_lt_of_le (mask_lt m (B letter-place 0)) (pow_mono h))

    some : 0 < m
    some = omega (arith, between)

    there : letters ≡ places → Clear
    there e = letters_by_or ws l fits some (λ x. sym (bits x) ∙ ap (λ (z : List ℕ). bit (value z) x) e ∙ ap (λ (n : ℕ). bit n x) same_value)

    none_clear : Clear → (x : ℕ) → (x ≡ 0) ⊎ (m ≤ x) → any_below 256 (λ b. bit_of W (letters_in ws) b x) ≡ false
    none_clear c x o = is_not _ (λ h. let q = below_out 256 (λ b. bit_of W (letters_in ws) b x) h in subst T (c q.0 x q.1 o) q.2)

    shown : (i : ℕ) → suc i < m → any_below 256 (λ b. bit_of W (letters_in ws) b (suc i)) ≡ B letter-place 0 (suc i)
    shown i h =
        below_same 256 (λ b. bit_of W (letters_in ws) b (suc i)) (λ b. token_letters l b (suc i)) (λ b k. sym (tape_letters ws b i k h))
        ∙ or_is_places l (tape_fine ws) (suc i) (subst (λ (n : ℕ). suc i < n) between h)

    each_bit : Clear → (x : ℕ) → bit (value letters) x ≡ bit (value places) x
    each_bit c zero = bits zero ∙ none_clear c zero (inl refl) ∙ sym (held.near.bits zero some ∙ no_letter_at_zero l)
    each_bit c (suc i) = go (le_or_lt m (suc i))
      where
        go : (m ≤ suc i) ⊎ (suc i < m) → bit (value letters) (suc i) ≡ bit (value places) (suc i)
        go (inl h) = bits (suc i) ∙ none_clear c (suc i) (inr h) ∙ sym (held.none (suc i) h)
        go (inr h) = bits (suc i) ∙ shown i h ∙ sym (held.near.bits (suc i) h)

    pub letters_is : T (same_words letters (get_or (table_of t letter-place) 0 [])) ↔ Clear
    letters_is = (
      λ h. there (same-words letters (get_or (table_of t letter-place) 0 []) h ∙ row letter-place 0 (omega arith)),
      λ c. subst (λ (z : List ℕ). T (same_words letters z))
          (rows_ext letters places (eight ∙ sym held.near.len) fit held.near.fit (each_bit c) ∙ sym (row letter-place 0 (omega arith)))
          (words_same letters),
    )
