-- The verdict on words says exactly whether they are the image of a tree within 512 states and depth 8, and of which. Sound, because words that
-- compare equal to what is laid out for a tree's tokens are that tree's image; complete, because taking an image apart gives the tree's tokens.
use mathlib.Core.Path.{◌≡◌, refl, sym, ap, ap₂, ◌∙◌, subst}
use mathlib.Core.Logic.{◌↔◌}
use mathlib.Core.Bool.{Bool, true, false, ◌&&◌, cond}
use mathlib.Core.List.{List, [], ◌∷◌}
use mathlib.Core.Option.{none, some}
use Prim.Native.Nat.{ℕ, zero, suc, ◌≤◌, ◌<◌}
use native.Mathlib.Nat.{zero-lt-suc}
use native.Mathlib.Omega.{arith}
use lib.Dec.{T, eqb, eqb→eq, eqb_refl, leb, leb→le, le→leb}
use Rattle.model.specs.Bits.{bit, mask}
use Rattle.model.specs.Tree.{Seq}
use Rattle.model.specs.Edges.{depth, states}
use Rattle.model.specs.Image.{image}
use Rattle.model.specs.Models.Apart.{any_below, tape, token_at, token_of, tokens_between, tokens_from}
use Rattle.model.specs.Models.Sections.{bit_of, letters_in, state_word, width_word}
use Rattle.model.specs.Models.LayOut.{begin, laid, reach, valid}
use Rattle.model.specs.Models.Tokens.{parse, Token, tokens}
use Rattle.model.specs.Models.Verdict.{accepts, same_words, verdict}
use Rattle.model.proofs.Image.Classes.{AllFine, Fine}
use Rattle.model.proofs.Image.Depth.{reach_is, valid_reach}
use Rattle.model.proofs.Image.Laid.{laid_is}
use Rattle.model.proofs.Image.OfEdges.{image_is}
use Rattle.model.proofs.Image.Sets.{arc_image}
use Rattle.model.proofs.Image.Tape.{tape_is}
use Rattle.model.proofs.Image.Tokens.{tree_of}
use Rattle.model.proofs.Image.Valid.{good_valid, TreeOf, valid_tree}
use Rattle.model.proofs.Image.WellFormed.{well_fine, well_formed}
use Rattle.model.proofs.Laws.Bits.{below_out, no_bit}
use Rattle.model.proofs.Laws.Bool.{and_both, and_split, is_true}
use Rattle.model.proofs.Reading.WellFormed.{Class, WellFormed}
use Rattle.model.proofs.Words.Bits.{bit_mask, mask_lt}

-- the words are the image of a well-formed tree within 512 states and depth 8
pub record IsImage (ws : List ℕ) (s : Seq) : Type 0 where
  pub well : WellFormed s
  pub few : states s ≤ 512
  pub shallow : depth s ≤ 8
  pub words : ws ≡ image s

-- ---- equal words
pub same-words : (xs ys : List ℕ) → T (same_words xs ys) → xs ≡ ys
same-words [] [] h = refl
same-words [] (y ∷ ys) h = absurd h
same-words (x ∷ xs) [] h = absurd h
same-words (x ∷ xs) (y ∷ ys) h =
    let c = and_split (eqb x y) (same_words xs ys) h in
    ap₂ (λ (a : ℕ) (l : List ℕ). a ∷ l) (eqb→eq x y c.0) (same-words xs ys c.1)

pub words_same : (xs : List ℕ) → T (same_words xs xs)
words_same [] = tt
words_same (x ∷ xs) = and_both (eqb x x) (same_words xs xs) (eqb_refl x) (words_same xs)

-- what `accepts` says, part by part
pub record Accepted (ws : List ℕ) : Type 0 where
  pub few : state_word ws ≤ 512
  pub is_valid : T (valid (tape ws) begin)
  pub same : ws ≡ laid (tape ws)

pub accepted : (ws : List ℕ) → T (accepts ws) → Accepted ws
accepted ws h =
    let a = and_split (leb (state_word ws) 512) (valid (tape ws) begin && same_words ws (laid (tape ws))) h in
    let b = and_split (valid (tape ws) begin) (same_words ws (laid (tape ws))) a.1 in
    record { few = leb→le (state_word ws) 512 a.0; is_valid = b.0; same = same-words ws (laid (tape ws)) b.1 }

pub accept : (ws : List ℕ) → Accepted ws → T (accepts ws)
accept ws A =
    and_both (leb (state_word ws) 512) (valid (tape ws) begin && same_words ws (laid (tape ws))) (le→leb (state_word ws) 512 A.few)
    (and_both (valid (tape ws) begin) (same_words ws (laid (tape ws))) A.is_valid (subst (λ (l : List ℕ). T (same_words ws l)) A.same (words_same ws)))

-- ---- a tape's classes are fine, whatever the words
some_class : (f : ℕ → Bool) → T (any_below 256 f) → Class (mask 256 f)
some_class f h = record { some_byte = positive (mask 256 f) refl; bytes_only = mask_lt 256 f }
  where
    positive : (n : ℕ) → mask 256 f ≡ n → 0 < n
    positive zero e =
        let r = below_out 256 f h in
        absurd (no_bit r.0 (subst (λ (n : ℕ). T (bit n r.0)) e (subst T (sym (bit_mask 256 r.0 f r.1)) r.2)))
    positive (suc n) e = zero-lt-suc n

fine_token : (f : ℕ → Bool) (l n p c o b : Bool) → any_below 256 f ≡ l → Fine (token_of l (mask 256 f) n p c o b)
fine_token f true n p c o b e = some_class f (subst T (sym e) tt)
fine_token f false n p true o b e = tt
fine_token f false n p false true b e = tt
fine_token f false n p false false b e = tt

fine_from : (n a : ℕ) (f : ℕ → Token) → ((i : ℕ) → Fine (f i)) → AllFine (tokens_from n a f)
fine_from zero a f h = tt
fine_from (suc n) a f h = (h a, fine_from n (suc a) f h)

fine_between : (m : ℕ) (f : ℕ → Token) → ((i : ℕ) → Fine (f i)) → AllFine (tokens_between m f)
fine_between zero f h = tt
fine_between (suc n) f h = fine_from n 0 f h

pub tape_fine : (ws : List ℕ) → AllFine (tape ws)
tape_fine ws = fine_between (state_word ws) (token_at ws) (λ i. fine_token (λ b. bit_of (width_word ws) (letters_in ws) b (suc i)) _ _ _ _ _ _ refl)

-- ---- SOUND
pub image_sound : (ws : List ℕ) → T (accepts ws) → IsImage ws (parse (tape ws)).here
image_sound ws h = subst (IsImage ws) (sym (ap (λ (l : List Token). (parse l).here) (sym t.of_tokens) ∙ tree_of t.tree t.good)) is
  where
    A : Accepted ws
    A = accepted ws h

    t : TreeOf (tape ws)
    t = valid_tree (tape ws) A.is_valid

    e : ws ≡ image t.tree
    e = A.same ∙ ap laid (sym t.of_tokens) ∙ laid_is t.tree ∙ sym (image_is t.tree)

    is : IsImage ws t.tree
    is = record {
      well = (well_formed t.tree).1 (t.begun, t.good, subst AllFine (sym t.of_tokens) (tape_fine ws));
      few = subst (λ (l : List ℕ). state_word l ≤ 512) e A.few;
      shallow = subst (λ (n : ℕ). n ≤ 8) (ap (λ (l : List Token). reach l begin) (sym t.of_tokens) ∙ reach_is t.tree)
          (valid_reach (tape ws) begin A.is_valid);
      words = e;
    }

-- ---- COMPLETE
pub image_complete : (ws : List ℕ) (s : Seq) → IsImage ws s → T (accepts ws)
image_complete ws s I =
    subst (λ (l : List ℕ). T (accepts l)) (sym (I.words ∙ image_is s))
    (accept (arc_image s) (record {
      few = I.few;
      is_valid = subst (λ (l : List Token). T (valid l begin)) (sym e) (let w = (well_formed s).0 I.well in good_valid s w.0 w.1 I.shallow);
      same = sym (ap laid e ∙ laid_is s);
    }))
  where
    e : tape (arc_image s) ≡ tokens s []
    e = tape_is s (well_fine s I.well)

-- THE VERDICT IS RIGHT, on any list of numbers
pub is_image : (ws : List ℕ) (s : Seq) → (verdict ws ≡ some s) ↔ IsImage ws s
is_image ws s = (there (accepts ws) refl, back)
  where
    there : (b : Bool) → accepts ws ≡ b → cond b (some (parse (tape ws)).here) none ≡ some s → IsImage ws s
    there true a e = subst (IsImage ws) (cc) (image_sound ws (subst T (sym a) tt))
    there false a e = absurd (let z : ◌≡◌ {A = ℕ} 0 1 = cc in omega arith)

    back : IsImage ws s → verdict ws ≡ some s
    back I =
        ap (λ (b : Bool). cond b (some (parse (tape ws)).here) none) (is_true (accepts ws) (image_complete ws s I))
        ∙ ap some
        (ap (λ (l : List ℕ). (parse (tape l)).here) (I.words ∙ image_is s) ∙ ap (λ (l : List Token). (parse l).here) (tape_is s (well_fine s I.well)) ∙ tree_of s ((well_formed s).0 I.well).1)
