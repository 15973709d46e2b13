-- AN IMAGE MADE BEFORE WISH 4 STAYS AN IMAGE, of the tree that it had, whose writing has `[\x00-\xFF]` where it had `.`. The trees of rules are the well-formed
-- ones whatever the dot is, since the writing of each is a rule of it; and only two classes are written otherwise than before.
use mathlib.Core.Path.{◌≡◌, refl, sym, ap, ap₂, ◌∙◌}
use mathlib.Core.Logic.{◌↔◌}
use mathlib.Core.Bool.{Bool}
use mathlib.Core.List.{List, ◌∷◌, ◌++◌}
use Prim.Native.Nat.{ℕ}
use lib.Dec.{eqb, eqb→eq, lit<, lit≤}
use Rattle.model.specs.Bytes.{byte, bytes}
use Rattle.model.specs.Tree.{Alts, end, last, letter, more, Tree, union}
use Rattle.model.specs.Grammar.{dot_class}
use Rattle.model.specs.Writing.{alts_by, alts_writing, class_with, class_writing, mark_writing, outside, repeat_writing, sole, writing, written_by}
use Rattle.model.specs.Answers.{ImageOf}
use Rattle.model.specs.Before.{dot_before, ImageBefore, rewritten}
use Rattle.model.proofs.Laws.Bool.{cond_cases, is_false}
use Rattle.model.proofs.Reading.ClassWritten.{chosen}
use Rattle.model.proofs.Reading.WellFormed.{rule_well, well_with}
use Rattle.model.proofs.Reading.Written.{written, written_with}

-- IT STAYS AN IMAGE, and no words became one
pub still_image : (words : List ℕ) (t : Tree) → ImageBefore words t ↔ ImageOf words t
still_image words t = (
  λ I. let h = well_with (record { some_byte = lit≤ tt; bytes_only = lit< tt }) I.was_rule in
      record { rule = writing t; is_rule = written t h; few = I.few; shallow = I.shallow; laid = I.laid },
  λ I. let h = rule_well I.is_rule in
      record { rule = written_by (class_with dot_before) t; was_rule = written_with dot_before t h; few = I.few; shallow = I.shallow; laid = I.laid },
)

-- THE CLASS OF ALL 256 BYTES AND THAT OF THE 255 ARE WRITTEN OTHERWISE, and no other
pub all_written : class_writing dot_before ≡ bytes "[\\x00-\\xFF]"
all_written = refl

pub dot_written : class_writing dot_class ≡ bytes "."
dot_written = refl

class_now : (c : ℕ) → class_writing c ≡ rewritten c
class_now c =
    cond_cases (λ w. class_writing c ≡ w) (eqb c dot_before) (λ t. ap class_writing (eqb→eq c dot_before t) ∙ all_written) (λ f.
    cond_cases (λ w. class_writing c ≡ w) (eqb c dot_class) (λ t. ap class_writing (eqb→eq c dot_class t) ∙ dot_written) (λ g.
    ap (λ (dot : Bool). chosen (sole 256 c 0) dot (outside 256 c 0)) (is_false (eqb c dot_class) g ∙ sym (is_false (eqb c dot_before) f))))

-- SO IN A TREE'S WRITING
mutual
  pub written_now : (t : Tree) → writing t ≡ written_by rewritten t
  written_now end = refl
  written_now (letter c r s) = ap₂ (λ (u v : List ℕ). u ++ (repeat_writing r ++ v)) (class_now c) (written_now s)
  written_now (union m a s) = ap₂ (λ (u v : List ℕ). byte "(" ∷ (u ++ (byte ")" ∷ (mark_writing m ++ v)))) (alts_now a) (written_now s)

  alts_now : (a : Alts) → alts_writing a ≡ alts_by rewritten a
  alts_now (last s) = written_now s
  alts_now (more s a) = ap₂ (λ (u v : List ℕ). u ++ (byte "|" ∷ v)) (written_now s) (alts_now a)
