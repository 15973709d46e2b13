-- THE CHECK DECIDES: what it tests are the model's conditions for an image, so it answers yes exactly for images, with the tree's tape.
use mathlib.Core.Path.{◌≡◌, sym, ap, ◌∙◌, subst}
use mathlib.Core.Logic.{◌↔◌}
use mathlib.Core.Bool.{Bool, true, false, ◌&&◌, cond}
use mathlib.Core.List.{List, [], ◌∷◌}
use Prim.Native.Nat.{ℕ, suc, ◌-◌, ◌≤◌}
use native.Mathlib.Omega.{arith}
use lib.Dec.{T, leb, le→leb}
use lib.ListN.{get_or, length}
use Rattle.model.specs.Answers.{ImageOf}
use Rattle.model.specs.Models.Apart.{tape, token_at}
use Rattle.model.specs.Models.Sections.{back_at, depth_word, gather_at, letter_place, letters_at, propagate_at, repeats_at, scatter_at, state_word, width_word}
use Rattle.model.specs.Models.LayOut.{begin, letter-place, loop_place, reach, valid}
use Rattle.model.specs.Models.Tokens.{parse, Token, tokens}
use Rattle.model.specs.Models.Verdict.{accepts, same_words}
use Rattle.model.specs.Models.Words.{Fit}
use Rattle.model.specs.Tree as tree
use Rattle.model.proofs.Image.Compare.{Compared, compared_is, length_between}
use Rattle.model.proofs.Image.Decided.{tape-of, verdict_some}
use Rattle.model.proofs.Image.Rows.{room, wide}
use Rattle.model.proofs.Image.Verdict.{image_complete, image_sound, is_image, IsImage}
use Rattle.model.proofs.Image.WellFormed.{well_fine}
use Rattle.model.proofs.Laws.Bool.{and_both, and_split, is_true}
use Rattle.model.proofs.Reading.WellFormed.{rule_well}
use Rattle.tokens_masks.specs.Tapes.{bares, is_tree, on_tape, table_of, TapeOf, tokens_of}
use Rattle.tokens_masks.specs.declared.Tape.{Tape}
use Rattle.tokens_masks.proofs.Bare.{bares_reach, bares_valid}
use Rattle.std.specs.Prelude.{None, Some}
use Rattle.image_sections.specs.Header.{Headed}
use Rattle.image_sections.specs.Sections.{sections_for}
use Rattle.image_apart.specs.Says.{LettersOf, ShownTape}
use Rattle.image_check.specs.Work.{same_all, same_back, same_gather, same_propagate, same_repeats, same_scatter}
use Rattle.image_check.proofs.Laws.Agree.{back_is, gather_is, letters_is, propagate_is, repeats_is, scatter_is}

-- ---- what well_formed says
pub on_tape_tree : (t : Tape) (k : ℕ) → on_tape t ≡ Some k → T (is_tree t) × (reach (tokens_of t) begin ≡ k)
on_tape_tree t k e = go (is_tree t) e
  where
    go : (b : Bool) → cond b (Some (reach (tokens_of t) begin)) None ≡ Some k → T b × (reach (tokens_of t) begin ≡ k)
    go true e = (tt, cc)
    go false e = cc

pub tree_on_tape : (t : Tape) → T (is_tree t) → on_tape t ≡ Some (reach (tokens_of t) begin)
tree_on_tape t h = ap (λ (b : Bool). cond b (Some (reach (tokens_of t) begin)) None) (is_true (is_tree t) h)

-- ---- words with a header, and what was taken from them
module _ (ws : List ℕ) (fit : Fit ws) (H : Headed ws) {letters : List ℕ} (L : LettersOf ws letters) {t : Tape} (S : ShownTape ws t) where
  abbrev l : List Token
  l = tape ws

  abbrev W : ℕ
  W = width_word ws

  abbrev d : ℕ
  d = depth_word ws

  narrow : W ≤ 8
  narrow = omega (arith, H.width-word, H.few)

  between : T (valid l begin) → state_word ws ≡ suc (length l)
  between v = sym (length_between (state_word ws) (token_at ws) v)

  fits : state_word ws ≤ wide W
  fits = subst (λ (n : ℕ). state_word ws ≤ wide n) (sym H.width-word) (room (state_word ws))

  -- the tape is a tree's exactly if the tokens taken are
  tree_of_tape : T (is_tree t) ↔ T (valid l begin)
  tree_of_tape = (
    λ h. subst T valid_same (and_split (leb t.length 511) (valid (tokens_of t) begin) h).1,
    λ v. and_both (leb t.length 511) (valid (tokens_of t) begin) (le→leb t.length 511 (omega (arith, S.long, H.few))) (subst T (sym valid_same) v),
  )
    where
      valid_same : valid (tokens_of t) begin ≡ valid l begin
      valid_same = ap (λ (y : List Token). valid y begin) S.tokens_are ∙ bares_valid l begin

  reach_same : reach (tokens_of t) begin ≡ reach l begin
  reach_same = ap (λ (y : List Token). reach y begin) S.tokens_are ∙ bares_reach l begin

  -- the six comparisons
  abbrev letters_same : Bool
  letters_same = same_words letters (get_or (table_of t letter-place) 0 [])

  abbrev repeats_same : Bool
  repeats_same = same_repeats ws letters_at (repeats_at W) W (get_or (table_of t loop_place) 0 [])

  abbrev scatter-same : Bool
  scatter-same = same_scatter ws (scatter_at W) W d t

  abbrev gather-same : Bool
  gather-same = same_gather ws (gather_at W d) W d t

  abbrev propagate-same : Bool
  propagate-same = same_propagate ws (propagate_at W d) W d t

  abbrev back-same : Bool
  back-same = same_back ws (back_at W d) W d t

  long : letter_place W 256 ≤ length ws
  long = omega (arith, H.counted.long)

  -- YES: then the words are the image of a tree, whose tape it is
  pub yes : T (is_tree t) → reach (tokens_of t) begin ≡ d → T (same_all ws (sections_for (state_word ws) W d) letters t) → (s : tree.Tree) × ImageOf ws s × TapeOf s t
  yes grown deep all =
      (s, (verdict_some ws s).0 ((is_image ws s).1 I), record { long = S.long ∙ count ∙ ap length (sym its_tokens); tokens_are = S.tokens_are ∙ ap bares (sym its_tokens) })
    where
      v : T (valid l begin)
      v = tree_of_tape.0 grown

      b : state_word ws ≡ suc (length l)
      b = between v

      rest₁ : T (repeats_same && (scatter-same && (gather-same && (propagate-same && back-same))))
      rest₁ = (and_split letters_same (repeats_same && (scatter-same && (gather-same && (propagate-same && back-same)))) all).1

      rest₂ : T (scatter-same && (gather-same && (propagate-same && back-same)))
      rest₂ = (and_split repeats_same (scatter-same && (gather-same && (propagate-same && back-same))) rest₁).1

      rest₃ : T (gather-same && (propagate-same && back-same))
      rest₃ = (and_split scatter-same (gather-same && (propagate-same && back-same)) rest₂).1

      rest₄ : T (propagate-same && back-same)
      rest₄ = (and_split gather-same (propagate-same && back-same) rest₃).1

      compared : Compared ws l
      compared = record {
        counted = H.counted;
        states = b;
        width-word = H.width-word;
        level = sym deep ∙ reach_same;
        letters = (letters_is ws t S.tokens_are grown b narrow H.few fits letters L.eight L.fit L.bits).0
            (and_split letters_same (repeats_same && (scatter-same && (gather-same && (propagate-same && back-same)))) all).0;
        repeats = (repeats_is ws t S.tokens_are grown b narrow long).0 (and_split repeats_same (scatter-same && (gather-same && (propagate-same && back-same))) rest₁).0;
        scatter = (scatter_is ws t S.tokens_are grown b narrow H.shallow).0 (and_split scatter-same (gather-same && (propagate-same && back-same)) rest₂).0;
        gather = (gather_is ws t S.tokens_are grown b narrow H.shallow).0 (and_split gather-same (propagate-same && back-same) rest₃).0;
        propagate = (propagate_is ws t S.tokens_are grown b narrow H.shallow).0 (and_split propagate-same back-same rest₄).0;
        back = (back_is ws t S.tokens_are grown b narrow H.shallow).0 (and_split propagate-same back-same rest₄).1;
      }

      accepted : T (accepts ws)
      accepted = (compared_is ws fit).1 (H.few, v, compared)

      s : tree.Tree
      s = (parse l).here

      I : IsImage ws s
      I = image_sound ws accepted

      its_tokens : tokens s [] ≡ l
      its_tokens = sym (ap tape I.words ∙ tape-of s (well_fine s I.well))

      count : state_word ws - 1 ≡ length l
      count = omega (arith, b)

-- NO: of the image of a tree each test is passed
module _ (ws : List ℕ) (fit : Fit ws) (s : tree.Tree) (I : ImageOf ws s) where
  whole : (state_word ws ≤ 512) × T (valid (tape ws) begin) × Compared ws (tape ws)
  whole = (compared_is ws fit).0 (image_complete ws s (record { well = rule_well I.is_rule; few = I.few; shallow = I.shallow; words = I.laid }))

  C : Compared ws (tape ws)
  C = whole.2

  some_token : (y : List Token) → T (valid y begin) → 1 ≤ length y
  some_token [] v = absurd v
  some_token (x ∷ xs) v = omega arith

  pub image_headed : Headed ws
  image_headed = record {
    some = omega (arith, C.states, some_token (tape ws) whole.1);
    few = whole.0;
    width-word = C.width-word;
    shallow = subst (λ (n : ℕ). n ≤ 8) (sym (ap depth_word I.laid)) I.shallow;
    counted = C.counted;
  }

  module _ {letters : List ℕ} (L : LettersOf ws letters) {t : Tape} (S : ShownTape ws t) where
    H : Headed ws
    H = image_headed

    pub image_tree : T (is_tree t)
    image_tree = (tree_of_tape ws fit H L S).1 whole.1

    pub image_deep : reach (tokens_of t) begin ≡ depth_word ws
    image_deep = reach_same ws fit H L S ∙ sym C.level

    pub image_same : T (same_all ws (sections_for (state_word ws) (width_word ws) (depth_word ws)) letters t)
    image_same =
        and_both (letters_same ws fit H L S) (R && (A && (G && (P && K))))
        ((letters_is ws t S.tokens_are image_tree C.states n H.few (fits ws fit H L S) letters L.eight L.fit L.bits).1 C.letters)
        (and_both R (A && (G && (P && K))) ((repeats_is ws t S.tokens_are image_tree C.states n (long ws fit H L S)).1 C.repeats)
        (and_both A (G && (P && K)) ((scatter_is ws t S.tokens_are image_tree C.states n H.shallow).1 C.scatter)
        (and_both G (P && K) ((gather_is ws t S.tokens_are image_tree C.states n H.shallow).1 C.gather)
        (and_both P K ((propagate_is ws t S.tokens_are image_tree C.states n H.shallow).1 C.propagate)
        ((back_is ws t S.tokens_are image_tree C.states n H.shallow).1 C.back)))))
      where
        R : Bool
        R = repeats_same ws fit H L S

        A : Bool
        A = scatter-same ws fit H L S

        G : Bool
        G = gather-same ws fit H L S

        P : Bool
        P = propagate-same ws fit H L S

        K : Bool
        K = back-same ws fit H L S

        n : width_word ws ≤ 8
        n = narrow ws fit H L S
