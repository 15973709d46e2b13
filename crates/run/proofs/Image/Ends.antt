-- THE ENDS that the run finds on an image's words are the list of ends of the text; and what is written of them is the part that fits.
use mathlib.Core.Path.{◌≡◌, ap, ap₂, ◌∙◌}
use mathlib.Core.List.{List}
use Prim.Native.Nat.{ℕ, ◌-◌}
use native.Mathlib.Omega.{arith}
use lib.ListN.{length}
use lib.Seq.{sets}
use Rattle.model.specs.Answers.{ImageOf}
use Rattle.model.specs.Edges.{accepting, depth}
use Rattle.model.specs.Ends.{EndsAre}
use Rattle.model.specs.Models.Sections.{depth_word, state_word}
use Rattle.model.specs.Models.Run.{ends_with, Masks}
use Rattle.model.specs.Tree.{Tree}
use Rattle.model.proofs.Definitions.EndsList.{ends_one}
use Rattle.model.proofs.Image.Decided.{rule_full}
use Rattle.model.proofs.Laws.Stores.{sets_fit}
use Rattle.model.proofs.Watch.Stretch.{whole_ends}
use Rattle.model.proofs.Words.Run.{Bytes}
use Rattle.image_sections.proofs.Laws.OfTree.{states_is}
use Rattle.run.specs.Says.{FindSays}
use Rattle.run_word.specs.Ends.{Noted}
use Rattle.run.specs.Work.{masks_of}
use Rattle.run.proofs.Image.Carry.{carried}
use Rattle.run.proofs.Image.Live.{depth_is}

-- ---- words that are an image
module _ (ws : List ℕ) (t : Tree) (I : ImageOf ws t) (text : List ℕ) (B : Bytes text) where
  abbrev M : Masks
  M = masks_of ws

  ends_of : EndsAre t text (ends_with M (depth t) (accepting t) text)
  ends_of = whole_ends t (rule_full t I.is_rule) 8 M (carried ws t I) I.is_rule text B

  last_is : state_word ws - 1 ≡ accepting t
  last_is = omega (arith, states_is ws t I)

  -- THE ENDS FOUND ARE THE LIST OF ENDS
  found_is : (ps : List ℕ) → EndsAre t text ps → ends_with M (depth_word ws) (state_word ws - 1) text ≡ ps
  found_is ps E =
      ap₂ (λ (n k : ℕ). ends_with M n k text) (depth_is ws t I) last_is ∙ ends_one t text (ends_with M (depth t) (accepting t) text) ps ends_of E

-- WHAT `find` SAYS, for any list that is the one found
pub find_says : (ws text before : List ℕ) (total : ℕ) (after ps : List ℕ) → Bytes text → ps ≡ ends_with (masks_of ws) (depth_word ws) (state_word ws - 1) text
    → Noted ps before total after → FindSays ws text before total after
find_says ws text before total after found B e R t I ps E =
    let q = e ∙ found_is ws t I text B ps E in
    (R.counted ∙ ap length q, R.stored ∙ ap (sets before 0) q ∙ sets_fit before ps)
