-- WHAT TAKE APART ANSWERS of words whose header passes: the parts have found what the model finds.
use mathlib.Core.Path.{◌≡◌, refl, sym, ap, ◌∙◌, subst}
use mathlib.Core.List.{List}
use Prim.Native.Nat.{ℕ, ◌-◌, ◌≤◌}
use native.Mathlib.Omega.{arith}
use lib.ListN.{length}
use Rattle.model.specs.Models.Sections.{depth_word, state_word, width_word}
use Rattle.model.specs.Models.Words.{Fit}
use Rattle.image_sections.specs.Header.{Headed, header_fits, header_if}
use Rattle.std.specs.Prelude.{Option, Some}
use Rattle.image_sections.specs.declared.Sections.{Sections}
use Rattle.image_sections.proofs.Laws.Header.{header_is, own_words, Told, told}
use Rattle.tokens_masks.specs.declared.Tape.{Tape}
use Rattle.image_apart.specs.Says.{ApartSays, LettersOf, ShownTape, taken}
use Rattle.image_apart.specs.Work.{marks_of, ShownBy}
use Rattle.image_apart.specs.declared.Apart.{Apart}
use Rattle.image_apart.specs.declared.marks.Marks.{Marks}
use Rattle.image_apart.proofs.Laws.Apart.{apart_is, letters_fit, letters_long, letters_row, shows}

-- a header that passes: what is asked of the words where they are read
module _ {ws : List ℕ} {p : Sections} (D : Told (header_fits ws) ws p) where
  headed : Headed ws
  headed = (header_is ws).0 D.passed

  states_are : p.states ≡ state_word ws
  states_are = ap (λ (q : Sections). q.states) D.own

  pub counted : (1 ≤ p.states) × (p.states - 1 ≤ 511)
  counted = (omega (arith, states_are, headed.some), omega (arith, states_are, headed.few))

-- and what the masks show
module _ {ws : List ℕ} {p : Sections} {marks : Marks} {t : Tape} (fit : Fit ws) (D : Told (header_fits ws) ws p) (marks_are : marks ≡ marks_of ws p)
    (shown : ShownBy marks (p.states - 1) t) (room : length t.kinds ≡ 512) where
  H : Headed ws
  H = headed D

  narrow : width_word ws ≤ 8
  narrow = omega (arith, H.width-word, H.few)

  same_marks : marks ≡ shows ws
  same_marks = marks_are ∙ ap (marks_of ws) (D.own ∙ own_words H)

  letters_are : LettersOf ws marks.letters
  letters_are = subst (λ (q : Marks). LettersOf ws q.letters) (sym same_marks) (record {
    eight = letters_long ws fit (state_word ws) (width_word ws) (depth_word ws) narrow H.counted.long;
    fit = letters_fit ws fit (state_word ws) (width_word ws) (depth_word ws) narrow H.counted.long;
    bits = letters_row ws fit (state_word ws) (width_word ws) (depth_word ws) narrow H.counted.long;
  })

  tape_shown : ShownTape ws t
  tape_shown = record {
    long = shown.long ∙ ap (λ (n : ℕ). n - 1) (states_are D);
    tokens_are =
        apart_is ws fit narrow H.some H.few H.counted.long room
        (subst (λ (n : ℕ). ShownBy (shows ws) (n - 1) t) (states_are D) (subst (λ (q : Marks). ShownBy q (p.states - 1) t) same_marks shown));
  }

-- put together from what the parts have answered
pub taken_says : {ws : List ℕ} {header : Option Sections} {p : Sections} {marks : Marks} {t : Tape} → Fit ws
    → header ≡ header_if (header_fits ws) ws → header ≡ Some p → marks ≡ marks_of ws p → ShownBy marks (p.states - 1) t
    → length t.kinds ≡ 512 → {a : Apart} → a.image.words.now ≡ ws → a.image.sections ≡ p → a.letters ≡ marks.letters → a.tape ≡ t → ApartSays ws (Some a)
taken_says {ws} {t = t} f e g q s r words sections letters tape =
    let D = told (header_fits ws) ws e g in
    taken ((header_is ws).0 D.passed) _ refl words (sections ∙ D.own) (subst (LettersOf ws) (sym letters) (letters_are f D q s r))
    (subst (ShownTape ws) (sym tape) (tape_shown f D q s r))
