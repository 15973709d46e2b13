-- WHAT IS SAID OF THE ENDS FOUND: in a whole text, and in a stretch from any live words and any place.
use Rattle.std.specs.Prelude.{◌≡◌, ℕ, ◌+◌, ◌≤◌, List, length, take}
use Rattle.std.proofs.lemmas.List.Edits.{sets}
use Rattle.model.specs.Models.Run.{ends_after, Masks, run_from}

-- the total of a list, and its places stored one after another in what was lent: a store past the end changes nothing
pub record Noted (ps before : List ℕ) (total : ℕ) (after : List ℕ) : Type 0 where
  pub counted : total ≡ length ps
  pub stored : after ≡ sets before 0 ps

-- the run over a stretch, on the first W of its words, where so many ends were found before
pub record RanOver (M : Masks) (W d last place found : ℕ) (stretch live before words : List ℕ) (total : ℕ) (after : List ℕ) : Type 0 where
  pub counted : total ≡ found + length (ends_after M d last place live stretch)
  pub stored : after ≡ sets before found (ends_after M d last place live stretch)
  pub runs : take W words ≡ run_from M d live stretch

-- its limits: of one stretch, of the whole text, and of what was found before
pub record Limits (place found : ℕ) (stretch : List ℕ) : Type 0 where
  pub small : length stretch ≤ 65535
  pub near : place + length stretch ≤ 4294967295
  pub few : found ≤ 1
