-- THE RUN ON THE FIRST n WORDS OF EACH MASK: only back edges lead down from a word to the one below, so where none stands above them its words are the
-- first n of the whole run, and it finds the same ends where the accepting state is among them.
use Rattle.std.proofs.Common.{◌≡◌, ℕ, zero, suc, ◌+◌, ◌*◌, ◌^◌, ◌<◌, ◌≤◌, Bool, false, List, [], ◌∷◌, ◌++◌, length, take, drop, refl, ap, ◌∙◌, ap₂, mul_left_comm, arith, pow-add}
use Rattle.model.specs.Bits.{bit}
use Rattle.model.specs.Models.Run.{close_words, ends_after, ends_with, fall_words, gather_by, gather_words, Masks, move_by, move_words, noted, pass_words, propagate_by, propagate_words, rise_words, run_from, scatter_by, scatter_words, step_words}
use Rattle.model.specs.Models.Words.{add_words, and_words, not_words, or_words, shift_words, subtract_words, value, xor_words}
use Rattle.model.proofs.Words.RowBits.{low_bit}
use Rattle.mask.proofs.Laws.Take.{take_each, take_not, take_ripple, take_shift}
use Rattle.model.proofs.Words.Run.{Bytes}
use Rattle.run_word.proofs.Laws.Back.{BackCut, move_short, rounds_cut}

-- ---- the four moves
take_scatter : (n : ℕ) (b s t live : List ℕ) → take n (scatter_words b s t live) ≡ scatter_words (take n b) (take n s) (take n t) (take n live)
take_scatter n b s t live =
    take_each _ n live (and_words (subtract_words b (and_words live s) false) t)
    ∙ ap (or_words (take n live)) (take_each _ n (subtract_words b (and_words live s) false) t
    ∙ ap (λ (l : List ℕ). and_words l (take n t)) (take_ripple _ _ n b (and_words live s) false
    ∙ ap (λ (l : List ℕ). subtract_words (take n b) l false) (take_each _ n live s)))

take_gather : (n : ℕ) (b s t live : List ℕ) → take n (gather_words b s t live) ≡ gather_words (take n b) (take n s) (take n t) (take n live)
take_gather n b s t live =
    take_each _ n live (and_words (add_words b (and_words live s) false) t)
    ∙ ap (or_words (take n live)) (take_each _ n (add_words b (and_words live s) false) t
    ∙ ap (λ (l : List ℕ). and_words l (take n t)) (take_ripple _ _ n b (and_words live s) false
    ∙ ap (λ (l : List ℕ). add_words (take n b) l false) (take_each _ n live s)))

take_propagate : (n : ℕ) (b s t live : List ℕ) → take n (propagate_words b s t live) ≡ propagate_words (take n b) (take n s) (take n t) (take n live)
take_propagate n b s t live =
    take_each _ n live (and_words b (xor_words (not_words (subtract_words from s false)) from))
    ∙ ap (or_words (take n live)) (take_each _ n b (xor_words (not_words (subtract_words from s false)) from)
    ∙ ap (and_words (take n b)) (take_each _ n (not_words (subtract_words from s false)) from
    ∙ ap (λ (l : List ℕ). xor_words l (take n from)) (take_not n (subtract_words from s false) ∙ ap not_words (take_ripple _ _ n from s false))
    ∙ ap (λ (l : List ℕ). xor_words (not_words (subtract_words l (take n s) false)) l) took))
  where
    from : List ℕ
    from = or_words (and_words live b) t

    took : take n from ≡ or_words (and_words (take n live) (take n b)) (take n t)
    took = take_each _ n (and_words live b) t ∙ ap (λ (l : List ℕ). or_words l (take n t)) (take_each _ n live b)

take_move : (n : ℕ) (l r s live : List ℕ) → take n (move_words l r s live) ≡ move_words (take n l) (take n r) (take n s) (take n live)
take_move n l r s live =
    take_each _ n (or_words (and_words (shift_words live false) l) (and_words live r)) s
    ∙ ap (λ (x : List ℕ). or_words x (take n s)) (take_each _ n (and_words (shift_words live false) l) (and_words live r)
    ∙ ap₂ or_words (take_each _ n (shift_words live false) l ∙ ap (λ (x : List ℕ). and_words x (take n l)) (take_shift n live false)) (take_each _ n live r))

-- ---- the bits of the first n words are those of all
value_split : (n : ℕ) (xs : List ℕ) → value xs ≡ value (drop n xs) * 2 ^ (64 * n) + value (take n xs)
value_split zero xs = omega arith
value_split (suc n) [] = omega arith
value_split (suc n) (x ∷ xs) =
    let high = value (drop n xs) in
    let more : high * 2 ^ (64 * suc n) ≡ 2 ^ 64 * (high * 2 ^ (64 * n)) =
    (let e : 64 * suc n ≡ 64 + 64 * n = omega arith in ap (λ (i : ℕ). high * 2 ^ i) e ∙ ap (λ (i : ℕ). high * i) (pow-add 2 64 (64 * n)))
    ∙ mul_left_comm high (2 ^ 64) (2 ^ (64 * n)) in
    omega (arith, value_split n xs, more)

pub take_bit : (n : ℕ) (xs : List ℕ) (i : ℕ) → i < 64 * n → bit (value xs) i ≡ bit (value (take n xs)) i
take_bit n xs i h = ap (λ (v : ℕ). bit v i) (value_split n xs) ∙ low_bit (64 * n) i (value (drop n xs)) (value (take n xs)) h

-- ---- THE FIRST n WORDS OF THE MASKS of a rule of depth d
pub record Cut (n d : ℕ) (M N : Masks) : Type 0 where
  pub letters : (b : ℕ) → b < 256 → take n (M.letter_mask b) ≡ N.letter_mask b
  pub loops : (b : ℕ) → b < 256 → take n (M.loop_mask b) ≡ N.loop_mask b
  pub scatters : (k j : ℕ) → k < d → j < 3 → take n (M.scatter_mask k j) ≡ N.scatter_mask k j
  pub gathers : (k j : ℕ) → k < d → j < 3 → take n (M.gather_mask k j) ≡ N.gather_mask k j
  pub propagates : (k j : ℕ) → k ≤ d → j < 3 → take n (M.propagate_mask k j) ≡ N.propagate_mask k j
  pub start : take n M.start_mask ≡ N.start_mask

three_same : (f : List ℕ → List ℕ → List ℕ → List ℕ → List ℕ) (live : List ℕ) {b b' s s' t t' : List ℕ}
    → b ≡ b' → s ≡ s' → t ≡ t' → f b s t live ≡ f b' s' t' live
three_same f live {b} {b'} {s} {s'} {t} {t'} p q r =
    ap₂ (λ (x y : List ℕ). f x y t live) p q ∙ ap (λ (x : List ℕ). f b' s' x live) r

module _ (n d : ℕ) (M N : Masks) (C : Cut n d M N) where
  scattered : (k : ℕ) → k < d → (live : List ℕ) → take n (scatter_by M k live) ≡ scatter_by N k (take n live)
  scattered k h live =
      take_scatter n (M.scatter_mask k 0) (M.scatter_mask k 1) (M.scatter_mask k 2) live
      ∙ three_same scatter_words (take n live) (C.scatters k 0 h (omega arith)) (C.scatters k 1 h (omega arith)) (C.scatters k 2 h (omega arith))

  gathered : (k : ℕ) → k < d → (live : List ℕ) → take n (gather_by M k live) ≡ gather_by N k (take n live)
  gathered k h live =
      take_gather n (M.gather_mask k 0) (M.gather_mask k 1) (M.gather_mask k 2) live
      ∙ three_same gather_words (take n live) (C.gathers k 0 h (omega arith)) (C.gathers k 1 h (omega arith)) (C.gathers k 2 h (omega arith))

  propagated : (k : ℕ) → k ≤ d → (live : List ℕ) → take n (propagate_by M k live) ≡ propagate_by N k (take n live)
  propagated k h live =
      take_propagate n (M.propagate_mask k 0) (M.propagate_mask k 1) (M.propagate_mask k 2) live
      ∙ three_same propagate_words (take n live) (C.propagates k 0 h (omega arith)) (C.propagates k 1 h (omega arith)) (C.propagates k 2 h (omega arith))

  moved : (b : ℕ) → b < 256 → (live : List ℕ) → take n (move_by M b live) ≡ move_by N b (take n live)
  moved b h live =
      take_move n (M.letter_mask b) (M.loop_mask b) M.start_mask live ∙ three_same move_words (take n live) (C.letters b h) (C.loops b h) C.start

  risen : (k : ℕ) → k ≤ d → (live : List ℕ) → take n (rise_words M k live) ≡ rise_words N k (take n live)
  risen zero h live = propagated 0 h live
  risen (suc k) h live =
      risen k (omega arith) (gather_by M k (propagate_by M (suc k) live))
      ∙ ap (rise_words N k) (gathered k h (propagate_by M (suc k) live) ∙ ap (gather_by N k) (propagated (suc k) h live))

  fallen : (i k : ℕ) → i + k ≤ d → (live : List ℕ) → take n (fall_words M i k live) ≡ fall_words N i k (take n live)
  fallen zero k h live = refl
  fallen (suc i) k h live =
      fallen i (suc k) (omega arith) (propagate_by M (suc k) (scatter_by M k live))
      ∙ ap (fall_words N i (suc k)) (propagated (suc k) (omega arith) (scatter_by M k live) ∙ ap (propagate_by N (suc k)) (scattered k (omega arith) live))

  pass_cut : (live : List ℕ) → take n (pass_words M d live) ≡ pass_words N d (take n live)
  pass_cut live = fallen d 0 (omega arith) (rise_words M d live) ∙ ap (fall_words N d 0) (risen d (omega arith) live)

  -- THE SAME ENDS AND THE SAME WORDS, after a stretch and of a whole text, where the back edges stand among the first n words too
  module _ (B : BackCut n d M N) where
    pub close_cut : (live : List ℕ) → length live ≤ length M.start_mask → take n (close_words M d live) ≡ close_words N d (take n live)
    close_cut = rounds_cut n d M N B pass_cut

    stepped : (b : ℕ) → b < 256 → (live : List ℕ) → take n (step_words M d b live) ≡ step_words N d b (take n live)
    stepped b h live = close_cut (move_by M b live) (move_short M b live) ∙ ap (close_words N d) (moved b h live)

    pub after_cut : (last : ℕ) → last < 64 * n → (p : ℕ) (live rest : List ℕ) → Bytes rest → ends_after M d last p live rest ≡ ends_after N d last p (take n live) rest
    after_cut last l p live [] bs = refl
    after_cut last l p live (b ∷ rest) bs =
        let e = stepped b bs.0 live in
        ap₂ (λ (h : Bool) (ps : List ℕ). noted h (p + 1) ++ ps) (take_bit n (step_words M d b live) last l ∙ ap (λ (w : List ℕ). bit (value w) last) e)
        (after_cut last l (p + 1) (step_words M d b live) rest bs.1 ∙ ap (λ (w : List ℕ). ends_after N d last (p + 1) w rest) e)

    pub run_cut : (live rest : List ℕ) → Bytes rest → take n (run_from M d live rest) ≡ run_from N d (take n live) rest
    run_cut live [] bs = refl
    run_cut live (b ∷ rest) bs = run_cut (step_words M d b live) rest bs.1 ∙ ap (λ (w : List ℕ). run_from N d w rest) (stepped b bs.0 live)

    pub ends_cut : (last : ℕ) → last < 64 * n → (text : List ℕ) → Bytes text → ends_with M d last text ≡ ends_with N d last text
    ends_cut last l text bs =
        let first = close_words M d M.start_mask in
        let e = close_cut M.start_mask (omega arith) ∙ ap (close_words N d) C.start in
        ap₂ (λ (h : Bool) (ps : List ℕ). noted h 0 ++ ps) (take_bit n first last l ∙ ap (λ (w : List ℕ). bit (value w) last) e)
        (after_cut last l 0 first text bs ∙ ap (λ (w : List ℕ). ends_after N d last 0 w text) e)
