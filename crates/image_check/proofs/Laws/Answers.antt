-- WHAT THE CHECK ANSWERS, at each of its ways out: a test that fails fails for no image, and words that pass all tests are one.
use mathlib.Core.Path.{◌≡◌, refl, sym, ap, ap₂, ◌∙◌, subst}
use mathlib.Core.Bool.{true, false}
use mathlib.Core.List.{List}
use Prim.Native.Nat.{ℕ}
use lib.Dec.{T}
use lib.ListN.{get_or}
use mir.Syntax.{w64}
use mir.Val.{Fits}
use Rattle.mask.proofs.Laws.Bits.{fit_row}
use Rattle.model.specs.Models.LayOut.{begin, reach}
use Rattle.model.specs.Answers.{NoImage}
use Rattle.model.specs.Models.Sections.{depth_word, state_word, width_word}
use Rattle.model.specs.Models.Words.{Fit}
use Rattle.image_sections.specs.Header.{Headed}
use Rattle.image_sections.specs.Sections.{sections_for, sections_in}
use Rattle.std.specs.Prelude.{Option, None, Some}
use Rattle.image_sections.specs.declared.Sections.{Sections}
use Rattle.image_sections.specs.declared.image.Image.{Image}
use Rattle.image_sections.proofs.Laws.Header.{own_words}
use Rattle.image_sections.proofs.Laws.OfTree.{image_placed}
use Rattle.image_sections.proofs.Laws.Within.{within}
use Rattle.tokens_masks.specs.Tapes.{on_tape, TapeOf, tokens_of}
use Rattle.image_apart.specs.Says.{ApartSays, LettersOf, no_header, ShownTape, taken}
use Rattle.image_apart.specs.declared.Apart.{Apart}
use Rattle.image_check.specs.Says.{CheckSays, is_image}
use Rattle.image_check.specs.Work.{same_all, same_laid}
use Rattle.image_check.specs.declared.Checked.{Checked}
use Rattle.tokens_masks.specs.Says.{Laid}
use Rattle.image_check.proofs.Laws.Laid.{laid_same}
use Rattle.image_check.proofs.Laws.Verdict.{image_deep, image_headed, image_same, image_tree, on_tape_tree, tree_on_tape, yes}

-- no header
pub not_headed : {ws : List ℕ} {r : Option Apart} → ((i : ℕ) → Fits w64 (get_or ws i 0)) → ApartSays ws r → r ≡ None → NoImage ws
not_headed words (taken H a e same own L S) f = absurd (let z : None ≡ Some a = sym f ∙ e in cc)
not_headed {ws} words (no_header n e) f = λ s I. n (image_headed ws (fit_row ws words) s I)

-- words with a header, and what was taken from them
record Taken (ws : List ℕ) (a : Apart) : Type 0 where
  headed : Headed ws
  words-are : a.image.words.now ≡ ws
  own : a.image.sections ≡ sections_in ws
  letters-of : LettersOf ws a.letters
  shown : ShownTape ws a.tape

taken_of : {ws : List ℕ} {r : Option Apart} {a : Apart} → ApartSays ws r → r ≡ Some a → Taken ws a
taken_of {ws} {r} {a} (taken H b e words own L S) f =
    subst (Taken ws) (same (sym e ∙ f)) (record { headed = H; words-are = words; own = own; letters-of = L; shown = S })
  where
    same : Some b ≡ Some a → b ≡ a
    same z = cc
taken_of {a = a} (no_header n e) f = absurd (let z : None ≡ Some a = sym e ∙ f in cc)

module _ {ws : List ℕ} {r : Option Apart} {a : Apart} (words : (i : ℕ) → Fits w64 (get_or ws i 0)) (says : ApartSays ws r) (is : r ≡ Some a) where
  fit : Fit ws
  fit = fit_row ws words

  K : Taken ws a
  K = taken_of says is

  abbrev own_sections : Sections
  own_sections = sections_for (state_word ws) (width_word ws) (depth_word ws)

  -- the words compared are those that were taken apart
  laid_is : {ms : List ℕ} → Laid a.tape ms → same_laid a.image.words.now a.image.sections a.letters ms ≡ same_all ws own_sections a.letters a.tape
  laid_is {ms} L =
      laid_same a.image.words.now a.letters ms (within a.image.placed) L
      ∙ ap₂ (λ (ys : List ℕ) (q : Sections). same_all ys q a.letters a.tape) K.words-are (K.own ∙ own_words K.headed)

  depth_is : a.image.sections.depth ≡ depth_word ws
  depth_is = ap (λ (q : Sections). q.depth) K.own

  -- ---- NO
  pub no_tree : None ≡ on_tape a.tape → NoImage ws
  no_tree e s I =
      absurd
      (let z : None ≡ Some (reach (tokens_of a.tape) begin) = e ∙ tree_on_tape a.tape (image_tree ws fit s I K.letters-of K.shown) in cc)

  pub other_depth : (k : ℕ) → Some k ≡ on_tape a.tape → (k ≡ a.image.sections.depth → ⊥) → NoImage ws
  other_depth k e n s I = n (sym (on_tape_tree a.tape k (sym e)).1 ∙ image_deep ws fit s I K.letters-of K.shown ∙ sym depth_is)

  pub words_differ : {ms : List ℕ} → Laid a.tape ms → false ≡ same_laid a.image.words.now a.image.sections a.letters ms → NoImage ws
  words_differ {ms} L e s I = subst T (sym (e ∙ laid_is L)) (image_same ws fit s I K.letters-of K.shown)

  -- ---- YES
  pub image_found : {ms : List ℕ} (k : ℕ) → Some k ≡ on_tape a.tape → k ≡ a.image.sections.depth → Laid a.tape ms
      → true ≡ same_laid a.image.words.now a.image.sections a.letters ms → {c : Checked} → c.image ≡ a.image → c.tape ≡ a.tape → CheckSays ws (Some c)
  image_found {ms} k e n L same {c} image-is tape-is =
      let q = on_tape_tree a.tape k (sym e) in
      let y = yes ws fit K.headed K.letters-of K.shown q.0 (q.1 ∙ n ∙ depth_is) (subst T (same ∙ laid_is L) tt) in
      is_image y.0 y.1 c refl (ap (λ (z : Image). z.words.now) image-is ∙ K.words-are)
      (ap (λ (z : Image). z.sections) image-is ∙ K.own ∙ sym (image_placed ws y.0 y.1).own) (subst (TapeOf y.0) (sym tape-is) y.2)
