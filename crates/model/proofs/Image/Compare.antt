-- The comparison as the code makes it decides: words are accepted exactly if their tape is valid and the sections compare equal to what is laid
-- out for it, the letters being compared only for what their own bits do not fix, each repeat mask with its letter mask and the loop places.
use mathlib.Core.Path.{◌≡◌, refl, sym, ap, ◌∙◌, subst}
use mathlib.Core.Logic.{◌⊎◌, inl, inr, ◌↔◌}
use mathlib.Core.Bool.{Bool, true, false, ◌&&◌}
use mathlib.Core.List.{List, [], ◌++◌, append-nil}
use Prim.Native.Nat.{ℕ, zero, suc, ◌+◌, ◌*◌, ◌≤◌, ◌<◌}
use native.Mathlib.Nat.{le_of_suc-le-suc, not-suc-le-zero, zero-lt-suc, zero-add, mul-suc, mul-le-mul_left}
use native.Mathlib.Omega.{arith}
use lib.Dec.{T}
use lib.ListN.{length, get_or, drop, length-drop}
use lib.Seq.{get_or_at, get_or-drop, length-take-le}
use Rattle.model.specs.Bits.{bit, mask}
use Rattle.model.specs.Image.{section, width}
use Rattle.model.specs.Models.Apart.{any_below, tape, token_at, token_of, tokens_between, tokens_from}
use Rattle.model.specs.Models.Sections.{back_in, bit_of, chunk, Counted, depth_word, gather_at, gather_in, letters_at, letters_in, propagate_at, propagate_in, repeats_at, repeats_in, scatter_at, scatter_in, state_word, width_word}
use Rattle.model.specs.Models.LayOut.{assemble, back-source, back-target, begin, block_of, gather-block, gather-source, gather-target, laid, lay_out, loop_place, reach, scatter-block, scatter-source, scatter-target, set, source_of, target_of, three, token_letters, token_loops, two, valid, Plane}
use Rattle.model.specs.Models.Tokens.{a_bar, class_of, Token}
use Rattle.model.specs.Models.Verdict.{accepts}
use Rattle.model.specs.Models.Words.{and_words, Fit, value}
use Rattle.model.proofs.Image.LetterPlaces.{repeats_by_letters}
use Rattle.model.proofs.Image.Rebuild.{rebuild}
use Rattle.model.proofs.Image.Rows.{room, wide}
use Rattle.model.proofs.Image.SameBits.{fit_drop, fit_take, holds_one}
use Rattle.model.proofs.Image.Sections.{after_gather, after_propagate, after_repeats, after_scatter, back_rows, backs_length, gather_found, gather_rows, gathers_length, length_assembled, letter_rows, letters_length, loop_rows, loops_length, part_back, part_gather, part_letters, part_propagate, part_repeats, part_scatter, propagate_found, propagate_rows, propagates_length, repeats_found, scatter_found, scatter_rows, scatters_length}
use Rattle.model.proofs.Image.Verdict.{accept, accepted}
use Rattle.model.proofs.Laws.Bits.{below_in, bit_zero}
use Rattle.model.proofs.Laws.Bool.{is_not}
use Rattle.model.proofs.Words.Bits.{bit_mask}
use Rattle.model.proofs.Words.Holds.{Holds, set_holds}
use Rattle.model.proofs.Words.Operations.{near_and, none_and_l}

-- ---- what is compared
pub record Compared (ws : List ℕ) (l : List Token) : Type 0 where
  pub counted : Counted ws (width_word ws) (depth_word ws)
  pub states : state_word ws ≡ suc (length l)
  pub width-word : width_word ws ≡ width (state_word ws)
  pub level : depth_word ws ≡ reach l begin
  -- no letter mask has state 0 or a state at or past m
  pub letters : (b x : ℕ) → b < 256 → (x ≡ 0) ⊎ (state_word ws ≤ x) → bit_of (width_word ws) (letters_in ws) b x ≡ false
  pub repeats : (b : ℕ) → b < 256 → chunk (width_word ws) b (repeats_in ws)
      ≡ and_words (chunk (width_word ws) b (letters_in ws)) (set (state_word ws) (width_word ws) (lay_out l begin loop_place 0))
  pub scatter : (k : ℕ) → k < depth_word ws → chunk (3 * width_word ws) k (scatter_in ws)
      ≡ three (state_word ws) (width_word ws) (lay_out l begin scatter-block k) (lay_out l begin scatter-source k) (lay_out l begin scatter-target k)
  pub gather : (k : ℕ) → k < depth_word ws → chunk (3 * width_word ws) k (gather_in ws)
      ≡ three (state_word ws) (width_word ws) (lay_out l begin gather-block k) (lay_out l begin gather-source k) (lay_out l begin gather-target k)
  pub propagate : (k : ℕ) → k < suc (depth_word ws) → chunk (3 * width_word ws) k (propagate_in ws)
      ≡ three (state_word ws) (width_word ws) (block_of (lay_out l begin) k) (source_of (lay_out l begin) k) (target_of (lay_out l begin) k)
  pub back : (k : ℕ) → k < depth_word ws → chunk (2 * width_word ws) k (back_in ws)
      ≡ two (state_word ws) (width_word ws) (lay_out l begin back-source k) (lay_out l begin back-target k)

-- a repeat mask by the letter mask xs: words that hold a letter's set, and the loop places, are the loops' set
repeat_words : (l : List Token) (b m W : ℕ) (xs : List ℕ) → m ≡ suc (length l) → m ≤ wide W → Holds m W xs (token_letters l b)
    → and_words xs (set m W (lay_out l begin loop_place 0)) ≡ set m W (token_loops l b)
repeat_words l b m W xs states fits X =
    holds_one m W (and_words xs places) (set m W (token_loops l b)) (λ x. token_letters l b x && lay_out l begin loop_place 0 x) (token_loops l b)
    (record {
      near = near_and m W xs places (token_letters l b) (lay_out l begin loop_place 0) X.near P.near;
      none = none_and_l m W xs places (token_letters l b) (lay_out l begin loop_place 0) X.near P.near X.none;
    })
    (set_holds m W (token_loops l b) fits) (λ x k. repeats_by_letters l b x (subst (λ (n : ℕ). x < n) states k))
  where
    places : List ℕ
    places = set m W (lay_out l begin loop_place 0)

    P : Holds m W places (lay_out l begin loop_place 0)
    P = set_holds m W (lay_out l begin loop_place 0) fits

-- ---- a tape's letters are read off the words themselves
class-of : (f : ℕ → Bool) (l n p c o r : Bool) (b : ℕ) → b < 256 → any_below 256 f ≡ l → bit (class_of (token_of l (mask 256 f) n p c o r)) b ≡ f b
class-of f true n p c o r b h e = bit_mask 256 b f h
class-of f false n p c o r b h e = go c o ∙ bit_zero b ∙ sym (is_not (f b) (λ t. subst T e (below_in 256 f b h t)))
  where
    go : (c o : Bool) → bit (class_of (token_of false (mask 256 f) n p c o r)) b ≡ bit 0 b
    go true o = refl
    go false true = refl
    go false false = refl

length_from : (n a : ℕ) (f : ℕ → Token) → length (tokens_from n a f) ≡ n
length_from zero a f = refl
length_from (suc n) a f = ap suc (length_from n (suc a) f)

-- a valid tape has a token less than the words say states
pub length_between : (m : ℕ) (f : ℕ → Token) → T (valid (tokens_between m f) begin) → suc (length (tokens_between m f)) ≡ m
length_between zero f v = absurd v
length_between (suc n) f v = ap suc (length_from n 0 f)

get_d_from : (n a i : ℕ) (f : ℕ → Token) → i < n → get_or (tokens_from n a f) i a_bar ≡ f (a + i)
get_d_from zero a i f h = absurd (not-suc-le-zero h)
get_d_from (suc n) a zero f h = let e : a ≡ a + 0 = omega arith in ap f e
get_d_from (suc n) a (suc i) f h = get_d_from n (suc a) i f (le_of_suc-le-suc h) ∙ (let e : suc a + i ≡ a + suc i = omega arith in ap f e)

pub get_d_between : (m i : ℕ) (f : ℕ → Token) → suc i < m → get_or (tokens_between m f) i a_bar ≡ f i
get_d_between zero i f h = absurd (not-suc-le-zero h)
get_d_between (suc n) i f h = get_d_from n 0 i f (le_of_suc-le-suc h) ∙ ap f (zero-add i)

pub tape_letters : (ws : List ℕ) (b i : ℕ) → b < 256 → suc i < state_word ws → token_letters (tape ws) b (suc i) ≡ bit_of (width_word ws) (letters_in ws) b (suc i)
tape_letters ws b i h k =
    ap (λ (y : Token). bit (class_of y) b) (get_d_between (state_word ws) i (token_at ws) k)
    ∙ class-of (λ b. bit_of (width_word ws) (letters_in ws) b (suc i)) (any_below 256 (λ b. bit_of (width_word ws) (letters_in ws) b (suc i))) _ _ _ _ _ b h refl

-- SOUND: what was compared is all
compared_laid : (ws : List ℕ) → Fit ws → Compared ws (tape ws) → ws ≡ laid (tape ws)
compared_laid ws fit C =
    rebuild ws (token_letters l) (token_loops l) (lay_out l begin) (record {
      counted = C.counted;
      letters = letters_same;
      repeats = λ b h. C.repeats b h ∙ repeat_words l b m W (chunk W b (letters_in ws)) C.states fits (letters_hold b h);
      scatter = C.scatter;
      gather = C.gather;
      propagate = C.propagate;
      back = C.back;
    })
    ∙ (λ i. assemble (C.states i) ((C.width-word ∙ ap width C.states) i) (C.level i) (token_letters l) (token_loops l) (lay_out l begin))
  where
    l : List Token
    l = tape ws

    m : ℕ
    m = state_word ws

    W : ℕ
    W = width_word ws

    fits : m ≤ wide W
    fits = subst (λ (n : ℕ). m ≤ wide n) (sym C.width-word) (room m)

    enough : (b : ℕ) → b < 256 → W ≤ length (drop (W * b) (letters_in ws))
    enough b h = omega (arith, C.counted.long, length-drop (W * b) (letters_in ws), length-drop letters_at ws, mul-le-mul_left W h, mul-suc W b)

    letter_bits : (b : ℕ) → b < 256 → (x : ℕ) → x < m → bit (value (chunk W b (letters_in ws))) x ≡ token_letters l b x
    letter_bits b h zero k = C.letters b 0 h (inl refl)
    letter_bits b h (suc i) k = sym (tape_letters ws b i h k)

    letters_hold : (b : ℕ) → b < 256 → Holds m W (chunk W b (letters_in ws)) (token_letters l b)
    letters_hold b h = record {
      near = record {
        len = length-take-le W (drop (W * b) (letters_in ws)) (enough b h);
        fit = fit_take W (drop (W * b) (letters_in ws)) (fit_drop (W * b) (letters_in ws) (fit_drop letters_at ws fit));
        bits = letter_bits b h;
      };
      none = λ x k. C.letters b x h (inr k);
    }

    letters_same : (b : ℕ) → b < 256 → chunk W b (letters_in ws) ≡ set m W (token_letters l b)
    letters_same b h =
        holds_one m W (chunk W b (letters_in ws)) (set m W (token_letters l b)) (token_letters l b) (token_letters l b) (letters_hold b h)
        (set_holds m W (token_letters l b) fits) (λ x k. refl)

-- COMPLETE: what is laid out for a row of tokens compares equal
module _ (l : List Token) where
  abbrev m : ℕ
  m = suc (length l)

  abbrev W : ℕ
  W = width m

  abbrev d : ℕ
  d = reach l begin

  abbrev L : ℕ → ℕ → Bool
  L = token_letters l

  abbrev R : ℕ → ℕ → Bool
  R = token_loops l

  abbrev B : Plane → ℕ → ℕ → Bool
  B = lay_out l begin

  -- the count after the n words xs of a section at place a, where the next section has j words
  count_after : (xs ys r : List ℕ) (a n j : ℕ) → drop a (laid l) ≡ xs ++ (section ys ++ r) → length xs ≡ n → length ys ≡ j → get_or (laid l) (a + n) 0 ≡ j
  count_after xs ys r a n j e x y =
      sym (get_or-drop a (laid l) n 0) ∙ ap (λ (z : List ℕ). get_or z n 0) e ∙ get_or_at xs (length ys) (ys ++ r) 0 n x ∙ y

  set_clear : (f : ℕ → Bool) (x : ℕ) → f 0 ≡ false → (x ≡ 0) ⊎ (m ≤ x) → bit (value (set m W f)) x ≡ false
  set_clear f x h (inl e) = ap (λ (y : ℕ). bit (value (set m W f)) y) e ∙ (set_holds m W f (room m)).near.bits 0 (zero-lt-suc (length l)) ∙ h
  set_clear f x h (inr k) = (set_holds m W f (room m)).none x k

  laid_compared : Compared (laid l) l
  laid_compared = record {
    counted = record {
      long = length_assembled m W d L R B;
      shape_count = refl;
      letters-count = letters_length m W d L R B;
      repeats-count = count_after (letter_rows m W d L R B) (loop_rows m W d L R B) (after_repeats m W d L R B) letters_at (256 * W) (256 * W)
          refl (letters_length m W d L R B) (loops_length m W d L R B);
      scatter-count = count_after (loop_rows m W d L R B) (scatter_rows m W d L R B) (after_scatter m W d L R B) (repeats_at W) (256 * W) (3 * W * d)
          (repeats_found m W d L R B) (loops_length m W d L R B) (scatters_length m W d L R B);
      gather-count = count_after (scatter_rows m W d L R B) (gather_rows m W d L R B) (after_gather m W d L R B) (scatter_at W) (3 * W * d) (3 * W * d)
          (scatter_found m W d L R B) (scatters_length m W d L R B) (gathers_length m W d L R B);
      propagate-count = count_after (gather_rows m W d L R B) (propagate_rows m W d L R B) (after_propagate m W d L R B) (gather_at W d) (3 * W * d) (3 * W * suc d)
          (gather_found m W d L R B) (gathers_length m W d L R B) (propagates_length m W d L R B);
      back-count = count_after (propagate_rows m W d L R B) (back_rows m W d L R B) [] (propagate_at W d) (3 * W * suc d) (2 * W * d)
          (propagate_found m W d L R B ∙ ap (λ (z : List ℕ). propagate_rows m W d L R B ++ z) (sym (append-nil (after_propagate m W d L R B))))
          (propagates_length m W d L R B) (backs_length m W d L R B);
    };
    states = refl;
    width-word = refl;
    level = refl;
    letters = λ b x h o. ap (λ (z : List ℕ). bit (value z) x) (part_letters m W d L R B b h) ∙ set_clear (L b) x refl o;
    repeats = λ b h. part_repeats m W d L R B b h
        ∙ sym (ap (λ (z : List ℕ). and_words z (set m W (B loop_place 0))) (part_letters m W d L R B b h)
        ∙ repeat_words l b m W (set m W (L b)) refl (room m) (set_holds m W (L b) (room m)));
    scatter = part_scatter m W d L R B;
    gather = part_gather m W d L R B;
    propagate = part_propagate m W d L R B;
    back = part_back m W d L R B;
  }

-- THE COMPARISON DECIDES, for any words below 2^64
pub compared_is : (ws : List ℕ) → Fit ws → T (accepts ws) ↔ ((state_word ws ≤ 512) × T (valid (tape ws) begin) × Compared ws (tape ws))
compared_is ws fit = (there, back)
  where
    there : T (accepts ws) → (state_word ws ≤ 512) × T (valid (tape ws) begin) × Compared ws (tape ws)
    there h =
        let A = accepted ws h in
        (A.few, A.is_valid, subst (λ (z : List ℕ). Compared z (tape ws)) (sym A.same) (laid_compared (tape ws)))

    back : (state_word ws ≤ 512) × T (valid (tape ws) begin) × Compared ws (tape ws) → T (accepts ws)
    back h = accept ws (record { few = h.0; is_valid = h.1; same = compared_laid ws fit h.2 })
