-- THE LIVE STATES of an image's words before any byte are those of document 01: two rounds on words are two rounds on sets (`rounds_words`), which give what
-- the edges reach (`before_is`).
use mathlib.Core.Path.{◌≡◌, sym, ap, ◌∙◌, subst}
use mathlib.Core.Logic.{◌↔◌}
use mathlib.Core.Bool.{Bool}
use mathlib.Core.List.{List}
use Prim.Native.Nat.{ℕ}
use lib.Dec.{T}
use Rattle.model.specs.Answers.{ImageOf}
use Rattle.model.specs.Edges.{depth, states}
use Rattle.model.specs.Live.{Before}
use Rattle.model.specs.Models.Sections.{depth_word}
use Rattle.model.specs.Models.Run.{close_words}
use Rattle.model.specs.Tree.{Tree}
use Rattle.model.proofs.Definitions.Live.{before_is}
use Rattle.model.proofs.Ends.Run.{start_set}
use Rattle.model.proofs.Image.Decided.{rule_full}
use Rattle.model.proofs.Words.Full.{Full}
use Rattle.model.proofs.Words.Holds.{Holds}
use Rattle.model.proofs.Words.Rounds.{closed}
use Rattle.model.proofs.Words.Run.{rounds_words}
use Rattle.image_sections.proofs.Laws.OfTree.{as_arcs}
use Rattle.run.specs.Says.{BeginSays, StatesAre}
use Rattle.run_moves.specs.Less.{start_words}
use Rattle.run.specs.Work.{masks_of}
use Rattle.run.proofs.Image.Carry.{carried}

-- a row that holds a set has exactly the states of what the set means
states_are : (t : Tree) (xs : List ℕ) (f : ℕ → Bool) (S : ℕ → Type 0) → ((q : ℕ) → T (f q) ↔ S q) → Holds (states t) 8 xs f → StatesAre t xs S
states_are t xs f S is H = record {
  within = λ q l. (λ h. (is q).0 (subst T (H.near.bits q l) h), λ s. subst T (sym (H.near.bits q l)) ((is q).1 s));
  beyond = H.none;
}

module _ (ws : List ℕ) (t : Tree) (I : ImageOf ws t) where
  F : Full t
  F = rule_full t I.is_rule

  pub depth_is : depth_word ws ≡ depth t
  depth_is = ap depth_word (as_arcs ws t I)

  -- BEFORE ANY BYTE
  begin_is : StatesAre t (close_words (masks_of ws) (depth t) start_words) (Before t)
  begin_is =
      states_are t (close_words (masks_of ws) (depth t) start_words) (closed t F start_set) (Before t) (before_is t F)
      (rounds_words (states t) 8 t F (masks_of ws) (carried ws t I) start_words start_set (carried ws t I).start)

-- WHAT `begin` SAYS
pub begin_says : (ws words : List ℕ) → words ≡ close_words (masks_of ws) (depth_word ws) start_words → BeginSays ws words
begin_says ws words e t I =
    subst (λ (xs : List ℕ). StatesAre t xs (Before t)) (sym (e ∙ ap (λ (n : ℕ). close_words (masks_of ws) n start_words) (depth_is ws t I))) (begin_is ws t I)
