-- MATCH PUTS THE CHECK AND THE RUN TOGETHER: the check finds the one tree whose image the words are, or none, and the run over that image finds
-- the tree's ends.
use mathlib.Core.Path.{◌≡◌, refl}
use mathlib.Core.List.{List}
use Prim.Native.Nat.{ℕ, ◌≤◌, ◌<◌}
use lib.ListN.{length}
use Rattle.std.specs.Prelude.{None, Option, Some}
use Rattle.model.specs.Answers.{gives, matched, MatchSays, not_an_image, refused, text_too_long}
use Rattle.model.proofs.Definitions.TreeEnds.{tree-ends, tree_ends}
use Rattle.model.proofs.Image.Decided.{rule_full}
use Rattle.model.proofs.Words.Run.{Bytes}
use Rattle.run.specs.Says.{FindSays}
use Rattle.image_check.specs.Says.{CheckSays}
use Rattle.image_check.specs.declared.Checked.{Checked}
use Rattle.image_check.proofs.Laws.Found.{found, not_found, words_found}

module _ {words text before : List ℕ} {r : Option Checked} (C : CheckSays words r) where
  pub other : r ≡ None → MatchSays words text before (refused 6 before)
  other g = not_an_image (not_found words C g) refl

  module _ {c : Checked} (g : r ≡ Some c) where
    pub too_long : 65535 < length text → MatchSays words text before (refused 7 before)
    too_long l = let F = found words C g in text_too_long F.tree F.image_of l refl

    pub all_found : length text ≤ 65535 → Bytes text → {total : ℕ} {after : List ℕ} → FindSays c.image.words.now text before total after
        → MatchSays words text before (gives total after)
    all_found l B S =
        let F = found words C g in
        let I = F.image_of in
        let ends = tree_ends F.tree text in
        let E = tree-ends F.tree (rule_full F.tree I.is_rule) text B in
        let q = (rw (words_found words C g) at S) F.tree I ends E in
        matched F.tree ends I l E (λ i. gives (q.0 i) (q.1 i))
