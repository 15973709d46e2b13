-- THE TAPE THAT THE MASKS SHOW is the model's: a row of several masks has a state exactly if some of them has it, and the masks lie where the model
-- looks for them.
use mathlib.Core.Path.{◌≡◌, refl, sym, ap, ap₂, ◌∙◌}
use mathlib.Core.Bool.{Bool, true, false, not, ◌&&◌, cond}
use mathlib.Core.List.{List, [], ◌∷◌}
use Prim.Native.Nat.{ℕ, zero, suc, ◌+◌, ◌-◌, ◌*◌, ◌≤◌, ◌<◌}
use native.Mathlib.Nat.{le_of_suc-le-suc, not-suc-le-zero, zero-add, zero-lt-suc}
use native.Mathlib.Omega.{arith}
use lib.ListN.{drop, get_or, length, take}
use Rattle.model.specs.Bits.{bit, mask}
use Rattle.model.specs.Models.Apart.{any_below, mark_of, repeat_of, tape, token_at, token_of, tokens_between, tokens_from}
use Rattle.model.specs.Models.Sections.{back_at, back_in, bit_of, bit_of_three, bit_of_two, chunk, depth_word, gather_at, gather_in, image_length, letter_place, letters_at, letters_in, propagate_at, propagate_in, repeat_place, repeats_at, repeats_in, scatter_at, scatter_in, state_word, width_word}
use Rattle.model.specs.Models.Tokens.{Token}
use Rattle.model.specs.Models.Words.{Fit, value}
use Rattle.model.proofs.Image.Address.{part_fits}
use Rattle.model.proofs.Image.SameBits.{fit_drop, fit_take}
use Rattle.model.proofs.Laws.Bits.{below_same}
use Rattle.image_sections.specs.Sections.{sections_for}
use Rattle.tokens.specs.Kinds.{bar_kind, kind_of, mark_kind, open_kind, read_kind, repeat_kind}
use Rattle.tokens.specs.Tokens.{bare}
use Rattle.tokens_masks.specs.Tapes.{bares, read_kinds, tokens_of}
use Rattle.tokens.specs.Tokens as tokens
use Rattle.tokens_masks.specs.declared.Tape.{Tape}
use Rattle.tokens.proofs.Numbers.{read-kind}
use Rattle.image_apart.specs.Work.{ShownBy, entered_words, kind_at, marks_of, or_rows, words_at}
use Rattle.image_apart.specs.declared.marks.Marks.{Marks}
use Rattle.image_apart.proofs.Laws.Address.{chunk_at, part_at}
use Rattle.image_apart.proofs.Laws.Rows.{entered_long, Mask, only_bit, only_fit, rows_bit, rows_fit, rows_length, words_long}

-- ---- a token by its kind
kind_is : (l : Bool) (class : ℕ) (s p c o b : Bool)
    → cond l (repeat_kind (repeat_of s p)) (cond c (mark_kind (mark_of s b)) (cond o open_kind bar_kind)) ≡ kind_of (token_of l class s p c o b)
kind_is true class s p c o b = refl
kind_is false class s p true o b = refl
kind_is false class s p false true b = refl
kind_is false class s p false false b = refl

read_row : (n a : ℕ) (f : ℕ → Token) (ks : List ℕ) → n ≤ length ks → ((i : ℕ) → i < n → get_or ks i 0 ≡ kind_of (f (a + i)))
    → read_kinds (take n ks) ≡ bares (tokens_from n a f)
read_row zero a f ks h e = refl
read_row (suc n) a f [] h e = absurd (not-suc-le-zero h)
read_row (suc n) a f (k ∷ ks) h e =
    ap₂ (λ (y : Token) (ys : List Token). y ∷ ys)
    (ap (λ (i : ℕ). tokens.token_of (read_kind i)) (e 0 (zero-lt-suc n)) ∙ read-kind (f (a + 0))
    ∙ (let z : a + 0 ≡ a = omega arith in ap (λ (i : ℕ). bare (f i)) z))
    (read_row n (suc a) f ks (le_of_suc-le-suc h)
    (λ i l. e (suc i) (omega arith) ∙ (let z : a + suc i ≡ suc a + i = omega arith in ap (λ (j : ℕ). kind_of (f j)) z)))

-- ---- a row's states by the masks, one by one
row_bit : (n : ℕ) (f : ℕ → List ℕ) (g : ℕ → Bool) (x : ℕ) → ((k : ℕ) → k < n → Mask (f k)) → ((k : ℕ) → k < n → bit (value (f k)) x ≡ g k)
    → bit (value (or_rows n f)) x ≡ any_below n g
row_bit n f g x M e = rows_bit f n x M ∙ below_same n (λ k. bit (value (f k)) x) g e

mask_bit : {xs ys : List ℕ} (x : ℕ) → xs ≡ ys → bit (value xs) x ≡ bit (value ys) x
mask_bit x e = ap (λ (l : List ℕ). bit (value l) x) e

module _ (ws : List ℕ) (fit : Fit ws) (m W d : ℕ) (narrow : W ≤ 8) (long : length ws ≡ image_length W d) where
  abbrev marks : Marks
  marks = marks_of ws (sections_for m W d)

  words_fit : (at : ℕ) → Fit (words_at ws at W)
  words_fit at = fit_take W (drop at ws) (fit_drop at ws fit)

  words_mask : (at : ℕ) → at + W ≤ length ws → Mask (words_at ws at W)
  words_mask at h = record { fit = words_fit at; few = omega (arith, words_long ws at W h) }

  letter_masks : (b : ℕ) → b < 256 → Mask (words_at ws (letter_place W b) W)
  letter_masks b h = words_mask (letter_place W b) (omega (arith, part_fits W h))

  -- THE LETTERS' ROW
  pub letters_row : (x : ℕ) → bit (value marks.letters) x ≡ any_below 256 (λ b. bit_of W (letters_in ws) b x)
  letters_row x =
      row_bit 256 (λ b. words_at ws (letter_place W b) W) (λ b. bit_of W (letters_in ws) b x) x letter_masks
      (λ b h. mask_bit x (chunk_at ws (letters_in ws) letters_at W refl b))

  pub letters_fit : Fit marks.letters
  letters_fit = rows_fit (λ b. words_at ws (letter_place W b) W) 256 letter_masks

  pub letters_long : length marks.letters ≡ 8
  letters_long = rows_length (λ b. words_at ws (letter_place W b) W) 256

-- ---- the other rows, where the words say the width and the depth
-- what the masks show, by the width that the words say
abbrev pub shows : List ℕ → Marks
shows ws = marks_of ws (sections_for (state_word ws) (width_word ws) (depth_word ws))

module _ (ws : List ℕ) (fit : Fit ws) where
  abbrev W : ℕ
  W = width_word ws

  abbrev d : ℕ
  d = depth_word ws

  module _ (narrow : W ≤ 8) (long : length ws ≡ image_length W d) where
    masks : (at : ℕ) → at + W ≤ length ws → Mask (words_at ws at W)
    masks = words_mask ws fit (state_word ws) W d narrow long

    loops_row : (x : ℕ) → bit (value (shows ws).loops) x ≡ any_below 256 (λ b. bit_of W (repeats_in ws) b x)
    loops_row x =
        row_bit 256 (λ b. words_at ws (repeat_place W b) W) (λ b. bit_of W (repeats_in ws) b x) x
        (λ b h. masks (repeat_place W b) (omega (arith, part_fits W h)))
        (λ b h. mask_bit x (chunk_at ws (repeats_in ws) (repeats_at W) W refl b))

    closes_row : (x : ℕ) → bit (value (shows ws).closes) x ≡ any_below d (λ k. bit_of_three W (gather_in ws) 2 k x)
    closes_row x =
        row_bit d (λ k. words_at ws (at k) W) (λ k. bit_of_three W (gather_in ws) 2 k x) x
        (λ k h. masks (at k) (omega (arith, part_fits (3 * W) h)))
        (λ k h. mask_bit x (part_at ws (gather_in ws) (gather_at W d) W refl 3 2 k (at k) (omega arith) (omega arith)))
      where
        at : ℕ → ℕ
        at k = gather_at W d + 2 * W + 3 * W * k

    opens_row : (x : ℕ) → bit (value (shows ws).opens) x ≡ any_below d (λ k. bit_of_three W (scatter_in ws) 1 k x)
    opens_row x =
        row_bit d (λ k. words_at ws (at k) W) (λ k. bit_of_three W (scatter_in ws) 1 k x) x
        (λ k h. masks (at k) (omega (arith, part_fits (3 * W) h)))
        (λ k h. mask_bit x (part_at ws (scatter_in ws) (scatter_at W) W refl 3 1 k (at k) (omega arith) (omega arith)))
      where
        at : ℕ → ℕ
        at k = scatter_at W + W + 3 * W * k

    returns_row : (x : ℕ) → bit (value (shows ws).returns) x ≡ any_below d (λ k. bit_of_two W (back_in ws) 0 k x)
    returns_row x =
        row_bit d (λ k. words_at ws (at k) W) (λ k. bit_of_two W (back_in ws) 0 k x) x
        (λ k h. masks (at k) (omega (arith, part_fits (2 * W) h)))
        (λ k h. mask_bit x (part_at ws (back_in ws) (back_at W d) W refl 2 0 k (at k) (omega arith) (omega arith)))
      where
        at : ℕ → ℕ
        at k = back_at W d + 2 * W * k

    -- in a block and not its source
    entered-row : (x : ℕ) → bit (value (shows ws).entered) x
        ≡ any_below (suc d) (λ k. bit_of_three W (propagate_in ws) 0 k x && not (bit_of_three W (propagate_in ws) 1 k x))
    entered-row x =
        row_bit (suc d) (λ k. entered_words ws (at k) W) (λ k. bit_of_three W (propagate_in ws) 0 k x && not (bit_of_three W (propagate_in ws) 1 k x)) x
        (λ k h. record {
          fit = only_fit (words_at ws (at k) W) (words_at ws (at k + W) W) (block k h).fit;
          few = omega (arith, entered_long ws (at k) W (room k h));
        })
        (λ k h. only_bit (words_at ws (at k) W) (words_at ws (at k + W) W) x (same_length k h) (block k h).fit (source k h).fit
        ∙ ap₂ (λ (a b : Bool). a && not b) (mask_bit x (mask_of 0 k (at k) (omega arith) (omega arith)))
        (mask_bit x (mask_of 1 k (at k + W) (omega arith) (omega arith))))
      where
        at : ℕ → ℕ
        at k = propagate_at W d + 3 * W * k

        mask_of : (j k place : ℕ) → W * j + W ≤ 3 * W → place ≡ propagate_at W d + 3 * W * k + W * j
            → words_at ws place W ≡ chunk W j (chunk (3 * W) k (propagate_in ws))
        mask_of = part_at ws (propagate_in ws) (propagate_at W d) W refl 3

        room : (k : ℕ) → k < suc d → at k + 2 * W ≤ length ws
        room k h = omega (arith, part_fits (3 * W) h)

        block : (k : ℕ) → k < suc d → Mask (words_at ws (at k) W)
        block k h = masks (at k) (omega (arith, room k h))

        source : (k : ℕ) → k < suc d → Mask (words_at ws (at k + W) W)
        source k h = masks (at k + W) (omega (arith, room k h))

        same_length : (k : ℕ) → k < suc d → length (words_at ws (at k) W) ≡ length (words_at ws (at k + W) W)
        same_length k h = words_long ws (at k) W (omega (arith, room k h)) ∙ sym (words_long ws (at k + W) W (omega (arith, room k h)))

    kind_of_token : (i : ℕ) → kind_at (shows ws) i ≡ kind_of (token_at ws i)
    kind_of_token i =
        (λ j. cond (letters_row ws fit (state_word ws) W d narrow long (suc i) j) (repeat_kind (repeat_of (entered-row (suc i) j) (loops_row (suc i) j)))
        (cond (closes_row (suc i) j) (mark_kind (mark_of (entered-row (suc i) j) (returns_row i j))) (cond (opens_row i j) open_kind bar_kind)))
        ∙ kind_is (any_below 256 (λ b. bit_of W (letters_in ws) b (suc i))) (mask 256 (λ b. bit_of W (letters_in ws) b (suc i)))
        (any_below (suc d) (λ k. bit_of_three W (propagate_in ws) 0 k (suc i) && not (bit_of_three W (propagate_in ws) 1 k (suc i))))
        (any_below 256 (λ b. bit_of W (repeats_in ws) b (suc i)))
        (any_below d (λ k. bit_of_three W (gather_in ws) 2 k (suc i))) (any_below d (λ k. bit_of_three W (scatter_in ws) 1 k i))
        (any_below d (λ k. bit_of_two W (back_in ws) 0 k i))

-- THE TAPE TAKEN APART has the model's tokens
pub apart_is : (ws : List ℕ) {t : Tape} → Fit ws → width_word ws ≤ 8 → 2 ≤ state_word ws → state_word ws ≤ 512
    → length ws ≡ image_length (width_word ws) (depth_word ws) → length t.kinds ≡ 512 → ShownBy (shows ws) (state_word ws - 1) t
    → tokens_of t ≡ bares (tape ws)
apart_is ws {t} fit narrow some few long room A =
    ap (λ (n : ℕ). read_kinds (take n t.kinds)) A.long
    ∙ read_row (state_word ws - 1) 0 (token_at ws) t.kinds (omega arith) kind
    ∙ ap (λ (n : ℕ). bares (tokens_between n (token_at ws))) (let s : suc (state_word ws - 1) ≡ state_word ws = omega arith in s)
  where
    kind : (i : ℕ) → i < state_word ws - 1 → get_or t.kinds i 0 ≡ kind_of (token_at ws (0 + i))
    kind i h = A.kinds i h ∙ kind_of_token ws fit narrow long i ∙ ap (λ (j : ℕ). kind_of (token_at ws j)) (sym (zero-add i))
