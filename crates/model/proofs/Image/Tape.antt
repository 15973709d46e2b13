-- Taking apart the image of a tree gives the tree's tokens: each set that is looked at is the tree's own, and those sets show the tokens.
use mathlib.Core.Path.{◌≡◌, refl, sym, ap, ap₂, ◌∙◌}
use mathlib.Core.Bool.{Bool, true, false, not, ◌&&◌, ◌||◌, cond}
use mathlib.Core.List.{List, [], ◌∷◌}
use Prim.Native.Nat.{ℕ, suc, ◌+◌, ◌<◌}
use native.Mathlib.Nat.{zero-lt-suc, zero-add}
use native.Mathlib.Omega.{arith}
use lib.ListN.{length, get_or}
use Rattle.model.specs.Bits.{bit, mask}
use Rattle.model.specs.Tree.{can_loop, can_omit, can_return, can_skip, Mark, once, option, optional, plus, Repeat, Seq, star, starred, unmarked}
use Rattle.model.specs.Edges.{depth, seq_end}
use Rattle.model.specs.Image.{width}
use Rattle.model.specs.Models.Apart.{any_below, mark_of, repeat_of, tape, token_at, token_of, tokens_from}
use Rattle.model.specs.Models.Sections.{back_in, bit_of, bit_of_three, bit_of_two, gather_in, letters_in, propagate_in, repeats_in, scatter_in}
use Rattle.model.specs.Models.LayOut.{back-source, entering, gather-target, leaving, scatter-source, Plane}
use Rattle.model.specs.Models.Tokens.{a_bar, a_close, a_letter, an_open, class_of, loop_class_of, Token, tokens}
use Rattle.model.proofs.Ends.Run.{letter_set, loop_set}
use Rattle.model.proofs.Image.Between.{token}
use Rattle.model.proofs.Image.Classes.{AllFine, class_is, Fine, fine_at, no_bits, some_bit}
use Rattle.model.proofs.Image.Depths.{close_is, open_is, return_is, skip_is}
use Rattle.model.proofs.Image.Rows.{room}
use Rattle.model.proofs.Image.Sections.{read_back_source, read_gather_target, read_letters, read_propagate_block, read_propagate_source, read_repeats, read_scatter_source}
use Rattle.model.proofs.Image.Sets.{arc_image, tree_set}
use Rattle.model.proofs.Image.Shown.{closes_show, is_close, is_open, letters_show, loops_show, opens_show, returns_show, skips, skips_show, token_returns, token_skips}
use Rattle.model.proofs.Image.Tokens.{length_tokens}
use Rattle.model.proofs.Language.Arcs.{arcs}
use Rattle.model.proofs.Laws.Bits.{below_same, mask_same}
use Rattle.model.proofs.Reading.WellFormed.{Class}

-- ---- a token by what shows it
-- the token made of x's own tests, where n says whether it may be skipped
abbrev remade : Token → Bool → Token
remade x n =
    token_of (any_below 256 (λ b. bit (class_of x) b)) (mask 256 (λ b. bit (class_of x) b)) n (any_below 256 (λ b. bit (loop_class_of x) b)) (is_close x) (is_open x)
    (token_returns x)

repeat_is : (r : Repeat) → repeat_of (can_skip r) (can_loop r) ≡ r
repeat_is once = refl
repeat_is option = refl
repeat_is star = refl
repeat_is plus = refl

loop_shows : (c : ℕ) (p : Bool) → Class c → any_below 256 (λ b. bit (cond p c 0) b) ≡ p
loop_shows c true C = some_bit c C
loop_shows c false C = no_bits 256

mark_is : (m : Mark) → mark_of (can_omit m) (can_return m) ≡ m
mark_is unmarked = refl
mark_is optional = refl
mark_is starred = refl

-- a fine token is made again from its tests
remade_is : (x : Token) (n : Bool) → Fine x → n ≡ token_skips x → remade x n ≡ x
remade_is (a_letter c r) n C h =
    (λ i. token_of (some_bit c C i) (class_is c C.bytes_only i) (h i) (loop_shows c (can_loop r) C i) false false false) ∙ ap (a_letter c) (repeat_is r)
remade_is an_open n C h = ap (λ (b : Bool). token_of b (mask 256 (λ b. bit 0 b)) n (any_below 256 (λ b. bit 0 b)) false true false) (no_bits 256)
remade_is a_bar n C h = ap (λ (b : Bool). token_of b (mask 256 (λ b. bit 0 b)) n (any_below 256 (λ b. bit 0 b)) false false false) (no_bits 256)
remade_is (a_close m) n C h =
    ap₂ (λ (b n : Bool). token_of b (mask 256 (λ b. bit 0 b)) n (any_below 256 (λ b. bit 0 b)) true false (can_return m)) (no_bits 256) h ∙ ap a_close (mark_is m)

-- a row by its tokens
from_is : (l : List Token) (f : ℕ → Token) (a : ℕ) → ((i : ℕ) → i < length l → f (a + i) ≡ get_or l i a_bar) → tokens_from (length l) a f ≡ l
from_is [] f a h = refl
from_is (x ∷ l) f a h =
    ap₂ (λ (y : Token) (r : List Token). y ∷ r) ((let e : a ≡ a + 0 = omega arith in ap f e) ∙ h 0 (zero-lt-suc (length l)))
    (from_is l f (suc a) (λ i k. (let e : suc a + i ≡ a + suc i = omega arith in ap f e) ∙ h (suc i) (omega arith)))

-- ---- the token after each state of an image
module _ (s : Seq) (fine : AllFine (tokens s [])) where
  abbrev m : ℕ
  m = suc (seq_end s 0)

  abbrev W : ℕ
  W = width m

  abbrev d : ℕ
  d = depth s

  abbrev L : ℕ → ℕ → Bool
  L = letter_set (arcs s 0 0)

  abbrev R : ℕ → ℕ → Bool
  R = loop_set (arcs s 0 0)

  abbrev B : Plane → ℕ → ℕ → Bool
  B = tree_set s

  abbrev ws : List ℕ
  ws = arc_image s

  token_is : (i : ℕ) → i < seq_end s 0 → token_at ws i ≡ token s i
  token_is i l =
      (λ j. token_of (is-letter j) (class j) (may_skip j) (may_loop j) (is-close j) (is-open j) (is-return j))
      ∙ remade_is (token s i) (skips (arcs s 0 0) i) (fine_at (tokens s []) i fine) (skips_show s i l)
    where
      here : i < m
      here = omega arith

      next : suc i < m
      next = omega arith

      letter_bits : (b : ℕ) → b < 256 → bit_of W (letters_in ws) b (suc i) ≡ bit (class_of (token s i)) b
      letter_bits b h = read_letters m W d L R B (room m) b (suc i) h next ∙ letters_show s i l b

      is-letter : any_below 256 (λ b. bit_of W (letters_in ws) b (suc i)) ≡ any_below 256 (λ b. bit (class_of (token s i)) b)
      is-letter = below_same 256 (λ b. bit_of W (letters_in ws) b (suc i)) (λ b. bit (class_of (token s i)) b) letter_bits

      class : mask 256 (λ b. bit_of W (letters_in ws) b (suc i)) ≡ mask 256 (λ b. bit (class_of (token s i)) b)
      class = mask_same 256 (λ b. bit_of W (letters_in ws) b (suc i)) (λ b. bit (class_of (token s i)) b) letter_bits

      -- in a block and not its source is entered
      entered : (o n : Bool) → ((o || n) && not (o && not n)) ≡ n
      entered true true = refl
      entered true false = refl
      entered false true = refl
      entered false false = refl

      may_skip : any_below (suc d) (λ k. bit_of_three W (propagate_in ws) 0 k (suc i) && not (bit_of_three W (propagate_in ws) 1 k (suc i))) ≡ skips (arcs s 0 0) i
      may_skip =
          below_same (suc d) (λ k. bit_of_three W (propagate_in ws) 0 k (suc i) && not (bit_of_three W (propagate_in ws) 1 k (suc i))) (λ k. B entering k (suc i))
          (λ k h. ap₂ (λ (a b : Bool). a && not b) (read_propagate_block m W d L R B (room m) k (suc i) h next)
          (read_propagate_source m W d L R B (room m) k (suc i) h next)
          ∙ entered (B leaving k (suc i)) (B entering k (suc i)))
          ∙ skip_is s i

      may_loop : any_below 256 (λ b. bit_of W (repeats_in ws) b (suc i)) ≡ any_below 256 (λ b. bit (loop_class_of (token s i)) b)
      may_loop =
          below_same 256 (λ b. bit_of W (repeats_in ws) b (suc i)) (λ b. bit (loop_class_of (token s i)) b)
          (λ b h. read_repeats m W d L R B (room m) b (suc i) h next ∙ loops_show s i l b)

      is-close : any_below d (λ k. bit_of_three W (gather_in ws) 2 k (suc i)) ≡ is_close (token s i)
      is-close =
          below_same d (λ k. bit_of_three W (gather_in ws) 2 k (suc i)) (λ k. B gather-target k (suc i))
          (λ k h. read_gather_target m W d L R B (room m) k (suc i) h next)
          ∙ close_is s i ∙ closes_show s i l

      is-open : any_below d (λ k. bit_of_three W (scatter_in ws) 1 k i) ≡ is_open (token s i)
      is-open =
          below_same d (λ k. bit_of_three W (scatter_in ws) 1 k i) (λ k. B scatter-source k i) (λ k h. read_scatter_source m W d L R B (room m) k i h here)
          ∙ open_is s i ∙ opens_show s i l

      is-return : any_below d (λ k. bit_of_two W (back_in ws) 0 k i) ≡ token_returns (token s i)
      is-return =
          below_same d (λ k. bit_of_two W (back_in ws) 0 k i) (λ k. B back-source k i) (λ k h. read_back_source m W d L R B (room m) k i h here)
          ∙ return_is s i ∙ returns_show s i l

  -- THE TAPE OF A TREE'S IMAGE IS THE TREE'S TOKENS
  pub tape_is : tape (arc_image s) ≡ tokens s []
  tape_is =
      ap (λ (n : ℕ). tokens_from n 0 (token_at ws)) (sym (length_tokens s))
      ∙ from_is (tokens s []) (token_at ws) 0 (λ i h. ap (token_at ws) (zero-add i) ∙ token_is i (omega (arith, length_tokens s)))
