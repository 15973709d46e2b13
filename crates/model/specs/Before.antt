-- BEFORE WISH 4 (document 02): "Document 01 lets `.` take every byte .. An image made before this change stays an image, but of that other class, and read back
-- shows it so." What was an image then, and how a tree's writing of now differs from that of then.
use Rattle.std.specs.Prelude.{◌≡◌, cond, List, ℕ, ◌≤◌, eqb}
use Rattle.model.specs.Bytes.{bytes}
use Rattle.model.specs.Tree.{Tree}
use Rattle.model.specs.Grammar.{dot_class, RuleWith, span}
use Rattle.model.specs.Writing.{class_with}
use Rattle.model.specs.Edges.{depth, states}
use Rattle.model.specs.Image.{image}

-- the class of `.` in document 01: "every byte, 0 to 255"
abbrev pub dot_before : ℕ
dot_before = span 0 255

-- the image, as it was, of a tree within the limits that a rule had then
pub record ImageBefore (words : List ℕ) (t : Tree) : Type 0 where
  pub rule : List ℕ
  pub was_rule : RuleWith dot_before rule t
  pub few : states t ≤ 512
  pub shallow : depth t ≤ 8
  pub laid : words ≡ image t

-- how a class is written now, where document 01 wrote it as `class_with dot_before` does ("All 256 bytes are `.`."): `[\x00-\xFF]` where it had `.`, `.` where
-- it had the runs of the 255 bytes, and any other as before
abbrev pub rewritten : ℕ → List ℕ
rewritten c = cond (eqb c dot_before) (bytes "[\\x00-\\xFF]") (cond (eqb c dot_class) (bytes ".") (class_with dot_before c))
