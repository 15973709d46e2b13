-- WHAT THE PARTS SAY, of words that are an image.
use Rattle.std.specs.Prelude.{◌≡◌, ◌↔◌, Bool, List, ℕ, T, drop, length, take}
use Rattle.model.specs.Answers.{ImageOf}
use Rattle.model.specs.Edges.{accepting}
use Rattle.model.specs.Spelling.{Follow, Spelled}
use Rattle.model.specs.Tree.{Tree}

-- whether a proposal is right
abbrev pub RightSays : (image text : List ℕ) (start end : ℕ) (list : List ℕ) → Bool → Type 0
RightSays image text start end list r = (t : Tree) → ImageOf image t → T r ↔ Spelled t text start end list

-- whether the states follow 0 along the bytes from a place on; `last` is the accepting state
abbrev pub FollowSays : (image : List ℕ) (last : ℕ) (text : List ℕ) (start : ℕ) (list : List ℕ) → Bool → Type 0
FollowSays image last text start list r =
    (t : Tree) → ImageOf image t → last ≡ accepting t → T r ↔ Follow t 0 (take (length list) (drop start text)) list
