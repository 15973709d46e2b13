-- WHETHER A PROPOSAL IS RIGHT: with its places and its length tested, exactly if its states follow. And the rows of the check's table: the check of the image finds
-- its tree, of which a proposal is right or is not.
use mathlib.Core.Path.{◌≡◌, refl, sym, subst}
use mathlib.Core.Bool.{Bool, true, false}
use mathlib.Core.List.{List}
use Prim.Native.Nat.{ℕ, ◌-◌, ◌≤◌, ◌<◌}
use native.Mathlib.Omega.{arith}
use lib.ListN.{drop, length, take}
use Rattle.std.specs.Prelude.{Err, None, Ok, Option, Some}
use Rattle.model.specs.Models.Sections.{state_word}
use Rattle.model.specs.Spelling.{CheckSays, Follow, not_an_image, right, text_too_long, wrong}
use Rattle.answers.specs.Answers.{judgement}
use Rattle.answers.specs.declared.Refusal.TheVariants.{NotAnImage, TextTooLong}
use Rattle.image_sections.proofs.Laws.OfTree.{states_is}
use Rattle.image_check.specs.Says as image
use Rattle.image_check.specs.declared.Checked.{Checked}
use Rattle.image_check.proofs.Laws.Found.{found, not_found, words_found}
use Rattle.spelling.specs.Work.{FollowSays, RightSays}

pub followed : {words text list : List ℕ} {start end n : ℕ} → end ≤ length text → start ≤ end → length list ≡ end - start → n ≡ state_word words
    → (r : Bool) → FollowSays words (n - 1) text start list r → RightSays words text start end list r
followed {words} {text} {list} {start} inside ordered each count r S t I =
    let f = S t I (omega (arith, count, states_is words t I)) in (
      λ y. record {
        inside = inside;
        ordered = ordered;
        each = each;
        follow = subst (λ (m : ℕ). Follow t 0 (take m (drop start text)) list) each (f.0 y);
      },
      λ s. f.1 (subst (λ (m : ℕ). Follow t 0 (take m (drop start text)) list) (sym each) s.follow),
    )

-- ---- THE ROWS OF THE TABLE
module _ {words text : List ℕ} {start end : ℕ} {list : List ℕ} {r : Option Checked} (C : image.CheckSays words r) where
  pub other : r ≡ None → CheckSays words text start end list (judgement (Err NotAnImage))
  other g = not_an_image (not_found words C g) refl

  module _ {c : Checked} (g : r ≡ Some c) where
    pub too_long : 65535 < length text → CheckSays words text start end list (judgement (Err TextTooLong))
    too_long l = let F = found words C g in text_too_long F.tree F.image_of l refl

    pub judged : length text ≤ 65535 → (b : Bool) → RightSays c.image.words.now text start end list b → CheckSays words text start end list (judgement (Ok b))
    judged l b R = decided b (subst (λ (ws : List ℕ). RightSays ws text start end list b) (words_found words C g) R)
      where
        decided : (b : Bool) → RightSays words text start end list b → CheckSays words text start end list (judgement (Ok b))
        decided true S = let F = found words C g in right F.tree F.image_of l ((S F.tree F.image_of).0 tt) refl
        decided false S = let F = found words C g in wrong F.tree F.image_of l (S F.tree F.image_of).1 refl
