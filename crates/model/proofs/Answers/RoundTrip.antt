-- DEMAND 3: the image that build gives reads back as the rule's plain writing, and two accepted rules have the same image exactly when they
-- have the same writing. Both because an image has one tree, and a writing has one tree.
use mathlib.Core.Path.{◌≡◌, refl, sym, ap, ◌∙◌, subst}
use mathlib.Core.Logic.{◌↔◌}
use mathlib.Core.List.{List, ◌++◌}
use Prim.Native.Nat.{ℕ, ◌≤◌}
use native.Mathlib.Omega.{arith}
use lib.ListN.{length, take, drop}
use lib.Seq.{take_all, take-append_seam}
use Rattle.model.specs.Tree.{Tree}
use Rattle.model.specs.Grammar.{IsRule}
use Rattle.model.specs.Writing.{writing}
use Rattle.model.specs.Image.{image}
use Rattle.model.specs.Answers.{BuildSays, built, Counted, done, ImageOf, no_room, not_a_rule, ReadBackSays, result_of, rule_too_long, too_deep, too_many_states}
use Rattle.model.proofs.Answers.ReadBack.{read_back_one}
use Rattle.model.proofs.Image.Decided.{one_image}
use Rattle.model.proofs.Reading.Decides.{one_tree}
use Rattle.model.proofs.Reading.WellFormed.{rule_well}
use Rattle.model.proofs.Reading.Written.{writing_inj}

-- done was said of a whole that fits, so the first words are the whole
first_words : (whole before : List ℕ) → length whole ≤ length before → result_of (done whole before) ≡ whole
first_words whole before l =
    ap (λ (x : List ℕ). take (length whole) (x ++ drop (length whole) before)) (take_all (length before) whole l)
    ∙ take-append_seam whole (drop (length whole) before)

-- AN ACCEPTED RULE'S WORDS ARE THE IMAGE OF ITS TREE, within the limits
pub accepted : (rule before : List ℕ) (a : Counted) → BuildSays rule before a → a.number ≡ 0 → (t : Tree) → IsRule rule t → ImageOf (result_of a) t
accepted rule before a (rule_too_long l e) z t d = absurd (omega (arith, ap (λ (x : Counted). x.number) e))
accepted rule before a (not_a_rule p l f P e) z t d = absurd (f t d)
accepted rule before a (too_many_states u l d m e) z t c = absurd (omega (arith, ap (λ (x : Counted). x.number) e))
accepted rule before a (too_deep u l d m k e) z t c = absurd (omega (arith, ap (λ (x : Counted). x.number) e))
accepted rule before a (no_room u l d m k r e) z t c = absurd (omega (arith, ap (λ (x : Counted). x.number) e))
accepted rule before a (built u l d m k r e) z t c =
    subst (ImageOf (result_of a)) (one_tree rule u t d c) (record { rule = rule; is_rule = d; few = m; shallow = k; laid = ap result_of e ∙ first_words (image u) before r })

-- THE IMAGE OF AN ACCEPTED RULE READS BACK AS ITS PLAIN WRITING
pub reads_back : (rule before : List ℕ) (a : Counted) (t : Tree) → IsRule rule t → BuildSays rule before a → a.number ≡ 0
    → (room : List ℕ) → length (writing t) ≤ length room → (b : Counted) → ReadBackSays (result_of a) room b → b ≡ done (writing t) room
reads_back rule before a t d B z room l b R = read_back_one (result_of a) room b (done (writing t) room) R (ReadBackSays.written t (accepted rule before a B z t d) l refl)

-- TWO RULES HAVE THE SAME IMAGE EXACTLY WHEN THEY HAVE THE SAME PLAIN WRITING
pub same_image : (rule rule' before before' : List ℕ) (a a' : Counted) (t t' : Tree) → IsRule rule t → IsRule rule' t'
    → BuildSays rule before a → a.number ≡ 0 → BuildSays rule' before' a' → a'.number ≡ 0 → (result_of a ≡ result_of a') ↔ (writing t ≡ writing t')
same_image rule rule' before before' a a' t t' d d' B z B' z' = (
  λ e. ap writing (one_image (result_of a') t t' (subst (λ (ws : List ℕ). ImageOf ws t) e first) second),
  λ e. first.laid ∙ ap image (writing_inj t t' (rule_well d) (rule_well d') e) ∙ sym second.laid,
)
  where
    first : ImageOf (result_of a) t
    first = accepted rule before a B z t d

    second : ImageOf (result_of a') t'
    second = accepted rule' before' a' B' z' t' d'
