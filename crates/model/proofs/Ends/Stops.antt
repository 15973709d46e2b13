-- THE ENDS OF A TEXT, as document 01 says them: place p is an end exactly if the run over the first p bytes has the accepting state. The run reads a text
-- as a list with the last byte first, so the stretches are turned round.
use mathlib.Core.Path.{◌≡◌, sym, ap, ◌∙◌}
use mathlib.Core.Logic.{◌↔◌}
use mathlib.Core.List.{List, [], ◌++◌, reverse, reverse-reverse}
use Prim.Native.Nat.{ℕ}
use lib.Dec.{T}
use lib.ListN.{take}
use Rattle.model.specs.Tree.{Seq}
use Rattle.model.specs.Edges.{seq_end}
use Rattle.model.specs.Ends.{Spells}
use Rattle.model.proofs.Ends.Run.{ends_are, live_set}
use Rattle.model.proofs.Language.Languages.{feed}
use Rattle.model.proofs.Language.Stretches.{feed_app}
use Rattle.model.proofs.Words.Full.{Full}

-- a text stops with a stretch that the tree spells
abbrev Stops : Seq → List ℕ → Type 0
Stops s x = (a : List ℕ) × (v : List ℕ) × (x ≡ a ++ v) × Spells s v

-- place p of a text is an end
abbrev pub StopsAt : Seq → List ℕ → ℕ → Type 0
StopsAt s text p = Stops s (take p text)

-- the bytes of x read after those of u, turned round
turned : (x u v : List ℕ) → feed [] x ≡ feed u v → x ≡ reverse u ++ v
turned x u v e =
    sym (reverse-reverse x)
    ∙ ap reverse (e ∙ ap (λ (t : List ℕ). feed t v) (sym (reverse-reverse u)) ∙ sym (feed_app [] (reverse u) v)) ∙ reverse-reverse (reverse u ++ v)

stops_are : (s : Seq) (F : Full s) (x : List ℕ) → T (live_set s F (feed [] x) (seq_end s 0)) ↔ Stops s x
stops_are s F x = (
  λ h. let m = (ends_are s F (feed [] x)).0 h in (reverse m.0, m.1, turned x m.0 m.1 m.2, m.3),
  λ h. (ends_are s F (feed [] x)).1 (feed [] h.0, h.1, ap (feed []) h.2 ∙ feed_app [] h.0 h.1, h.3),
)

-- THE THEOREM, for each place of a text
pub end_is : (s : Seq) (F : Full s) (text : List ℕ) (p : ℕ) → T (live_set s F (feed [] (take p text)) (seq_end s 0)) ↔ StopsAt s text p
end_is s F text p = stops_are s F (take p text)
