-- For any words it is decided whether they are the image of a rule's tree, and of which; the image determines the tree. All of it
-- follows from the verdict's theorem, `is_image`.
use mathlib.Core.Path.{◌≡◌, refl, sym, ap, ◌∙◌}
use mathlib.Core.Logic.{◌↔◌}
use mathlib.Core.List.{List, []}
use mathlib.Core.Option.{Option, none, some}
use Prim.Native.Nat.{ℕ}
use native.Mathlib.Omega.{arith}
use Rattle.model.specs.Tree.{Seq}
use Rattle.model.specs.Grammar.{IsRule}
use Rattle.model.specs.Writing.{writing}
use Rattle.model.specs.Image.{image}
use Rattle.model.specs.Answers.{ImageOf, NoImage}
use Rattle.model.specs.Models.Apart.{tape}
use Rattle.model.specs.Models.Tokens.{tokens}
use Rattle.model.specs.Models.Verdict.{verdict}
use Rattle.model.proofs.Image.Classes.{AllFine}
use Rattle.model.proofs.Image.OfEdges.{image_is}
use Rattle.model.proofs.Image.Tape.{tape_is}
use Rattle.model.proofs.Image.Tokens.{tokens_inj}
use Rattle.model.proofs.Image.Unions.{good_full}
use Rattle.model.proofs.Image.Verdict.{is_image, IsImage}
use Rattle.model.proofs.Image.WellFormed.{well_fine, well_formed}
use Rattle.model.proofs.Reading.WellFormed.{rule_well, WellFormed}
use Rattle.model.proofs.Reading.Written.{written}
use Rattle.model.proofs.Words.Full.{Full}

-- ---- TREES WITH EQUAL IMAGES ARE EQUAL
pub tape-of : (s : Seq) → AllFine (tokens s []) → tape (image s) ≡ tokens s []
tape-of s F = ap tape (image_is s) ∙ tape_is s F

pub image_inj : (s s' : Seq) → WellFormed s → WellFormed s' → image s ≡ image s' → s ≡ s'
image_inj s s' W W' e = tokens_inj s s' ((well_formed s).0 W).1 ((well_formed s').0 W').1 (sym (tape-of s (well_fine s W)) ∙ ap tape e ∙ tape-of s' (well_fine s' W'))

-- ---- WHETHER WORDS ARE AN IMAGE IS DECIDED
-- the well-formed trees are those of rules
image_of : (ws : List ℕ) (s : Seq) → IsImage ws s ↔ ImageOf ws s
image_of ws s = (
  λ I. record { rule = writing s; is_rule = written s I.well; few = I.few; shallow = I.shallow; laid = I.words },
  λ I. record { well = rule_well I.is_rule; few = I.few; shallow = I.shallow; words = I.laid },
)

-- in the words of document 01's table: the tree whose image the words are
pub verdict_some : (ws : List ℕ) (s : Seq) → (verdict ws ≡ some s) ↔ ImageOf ws s
verdict_some ws s = (λ e. (image_of ws s).0 ((is_image ws s).0 e), λ I. (is_image ws s).1 ((image_of ws s).1 I))

-- and number 6: there is none
pub verdict_none : (ws : List ℕ) → (verdict ws ≡ none) ↔ NoImage ws
verdict_none ws = (λ e s I. not_both s e ((verdict_some ws s).1 I), λ f. go (verdict ws) refl f)
  where
    not_both : (s : Seq) → verdict ws ≡ none → verdict ws ≡ some s → ⊥
    not_both s e g = let z : ◌≡◌ {A = ℕ} 0 1 = cc in omega arith

    go : (o : Option Seq) → verdict ws ≡ o → NoImage ws → verdict ws ≡ none
    go none e f = e
    go (some s) e f = absurd (f s ((verdict_some ws s).0 e))

-- so words are no image, or the image of a tree
pub by_verdict : {X : Type 0} (ws : List ℕ) → (NoImage ws → X) → ((s : Seq) → ImageOf ws s → X) → X
by_verdict {X} ws f g = go (verdict ws) refl
  where
    go : (o : Option Seq) → verdict ws ≡ o → X
    go none e = f ((verdict_none ws).0 e)
    go (some s) e = g s ((verdict_some ws s).0 e)

-- and what is computed from the verdict is known in either case
pub on_image : {A : Type 0} (f : Option Seq → A) {ws : List ℕ} {s : Seq} → ImageOf ws s → f (verdict ws) ≡ f (some s)
on_image f {ws} {s} I = ap f ((verdict_some ws s).1 I)

pub on_other : {A : Type 0} (f : Option Seq → A) {ws : List ℕ} → NoImage ws → f (verdict ws) ≡ f none
on_other f {ws} n = ap f ((verdict_none ws).1 n)

-- words are the image of at most one tree
pub one_image : (ws : List ℕ) (s s' : Seq) → ImageOf ws s → ImageOf ws s' → s ≡ s'
one_image ws s s' I J = let p = (verdict_some ws s).1 I in let q = (verdict_some ws s').1 J in cc

-- and no alternative of that tree is empty
pub rule_full : {rule : List ℕ} (s : Seq) → IsRule rule s → Full s
rule_full s d = good_full s ((well_formed s).0 (rule_well d)).1
