-- WHAT A CALLER OF THE CHECK HAS FOUND: the tree whose image the words are, or that they are no image.
use mathlib.Core.Path.{◌≡◌, sym, ◌∙◌, subst}
use mathlib.Core.List.{List}
use Prim.Native.Nat.{ℕ}
use Rattle.model.specs.Answers.{ImageOf, NoImage}
use Rattle.model.specs.Edges.{depth, states}
use Rattle.model.specs.Tree.{Tree}
use Rattle.std.specs.Prelude.{Option, None, Some}
use Rattle.image_sections.specs.Sections.{Placed, sections_of}
use Rattle.image_sections.specs.declared.Sections.{Sections}
use Rattle.image_sections.proofs.Laws.OfTree.{image_placed}
use Rattle.tokens_masks.specs.Tapes.{TapeOf}
use Rattle.tokens_masks.specs.declared.Tape.{Tape}
use Rattle.image_check.specs.Says.{CheckSays, is_image, is_other}
use Rattle.image_check.specs.declared.Checked.{Checked}

pub record Found (ws : List ℕ) (p : Sections) (t : Tape) : Type 0 where
  pub tree : Tree
  pub image_of : ImageOf ws tree
  pub sections_are : p ≡ sections_of (states tree) (depth tree)
  pub placed : Placed ws p
  pub tape-of : TapeOf tree t

pub found : (ws : List ℕ) {r : Option Checked} {c : Checked} → CheckSays ws r → r ≡ Some c → Found ws c.image.sections c.tape
found ws {r} {c} (is_image s I x e w q A) g = subst (λ (y : Checked). Found ws y.image.sections y.tape) (its (sym e ∙ g))
    (record { tree = s; image_of = I; sections_are = q; placed = subst (Placed ws) (sym q) (image_placed ws s I); tape-of = A })
  where
    its : Some x ≡ Some c → x ≡ c
    its z = cc
found ws {r} {c} (is_other n e) g = absurd (no (sym e ∙ g))
  where
    no : None ≡ Some c → ⊥
    no z = cc

pub not_found : (ws : List ℕ) {r : Option Checked} → CheckSays ws r → r ≡ None → NoImage ws
not_found ws (is_image s I x e w q A) g = absurd (no (sym g ∙ e))
  where
    no : None ≡ Some x → ⊥
    no z = cc
not_found ws (is_other n e) g = n

-- the words of what was found are those that were checked
pub words_found : (ws : List ℕ) {r : Option Checked} {c : Checked} → CheckSays ws r → r ≡ Some c → c.image.words.now ≡ ws
words_found ws {r} {c} (is_image s I x e w q A) g = subst (λ (y : Checked). y.image.words.now ≡ ws) (its (sym e ∙ g)) w
  where
    its : Some x ≡ Some c → x ≡ c
    its z = cc
words_found ws {r} {c} (is_other n e) g = absurd (no (sym e ∙ g))
  where
    no : None ≡ Some c → ⊥
    no z = cc
