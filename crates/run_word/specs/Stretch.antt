-- THE RUN OVER A STRETCH on one word: what its loops ask, and what they make.
use Rattle.std.specs.Prelude.{◌≡◌, ℕ, ◌-◌, ◌^◌, ◌<◌, ◌≤◌, Bool, List, [], ◌∷◌, length}
use Rattle.model.specs.Models.Sections.{depth_word, repeat_place}
use Rattle.model.specs.Models.Run.{close_words, Masks}
use Rattle.run_word.specs.Ends.{Limits, RanOver}
use Rattle.run_word.specs.One.{Backs, Entered, NoChain}
use Rattle.image_sections.specs.declared.Sections.{Sections}
use Rattle.run_word.specs.declared.stretch.From.{From}
use Rattle.run_word.specs.declared.stretch.Ran.{Ran}
use Rattle.run_word.specs.declared.work.Work.{Work}

-- what a stretch leads to on masks of one word
abbrev pub RanFrom : Masks → (d last : ℕ) (stretch : List ℕ) → From → (before : List ℕ) → Ran → (after : List ℕ) → Type 0
RanFrom M d last stretch from before r after =
    RanOver M 1 d last from.place from.found stretch (from.live ∷ []) before (r.live ∷ []) r.total after

-- what a loop's own part of a step does, where it is given as all pairs of live states before and after: the two rounds of the masks
abbrev pub Closes : Masks → (d : ℕ) → (ℕ → ℕ → Type 0) → Type 0
Closes M d leads = (live r : ℕ) → live < 2 ^ 64 → leads live r → r ∷ [] ≡ close_words M d (live ∷ [])

-- what a loop asks, and what the choice of one does
pub record Overs (ws stretch : List ℕ) (from : From) (last : ℕ) : Type 0 where
  pub long : repeat_place 1 256 ≤ length ws
  pub limits : Limits from.place from.found stretch
  pub few : last < 64

pub record Chosen (ws stretch : List ℕ) (from : From) (last d : ℕ) (any : Bool) (table backs : List ℕ) : Type 0 where
  pub overs : Overs ws stretch from last
  pub shallow : d ≤ 8
  pub deep : d ≡ depth_word ws
  pub entered : Entered ws d table
  pub none : NoChain table d any
  pub edges : Backs ws d backs

-- the masks of work are those of an image with these sections
pub record WorkOf (ws : List ℕ) (p : Sections) (w : Work) : Type 0 where
  pub depth : w.depth ≡ p.depth
  pub last : w.last ≡ p.states - 1
  pub entered : Entered ws w.depth w.table
  pub edges : Backs ws w.depth w.backs
