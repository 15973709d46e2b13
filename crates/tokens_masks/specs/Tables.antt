-- TABLES: a plane as nine rows of eight words, and the tokens painted into them one after another.
use Rattle.std.specs.Prelude.{cond, List, [], ◌∷◌, ℕ, zero, suc, ◌-◌, get_or, replicate, set}
use Rattle.model.specs.Models.LayOut.{same_plane, Scan, step, Stroke, strokes, Plane}
use Rattle.model.specs.Models.Tokens.{Token}
use Rattle.model.specs.Models.Words.{put_bit}

abbrev pub Table : Type 0
Table = List (List ℕ)

abbrev pub blank : Table
blank = replicate 9 (replicate 8 0)

-- state x in row k; the n states from x on
abbrev pub mark_state : Table → ℕ → ℕ → Table
mark_state a k x = set a k (put_bit (get_or a k []) x)

abbrev pub mark_run : ℕ → Table → ℕ → ℕ → Table
mark_run zero a k x = a
mark_run (suc n) a k x = mark_run n (mark_state a k x) k (suc x)

abbrev pub paint_stroke : Table → Stroke → Table
paint_stroke a s = mark_run (s.to - s.from) a s.row s.from

-- of the strokes those of plane w
abbrev pub paint_plane : Plane → List Stroke → Table → Table
paint_plane w [] a = a
paint_plane w (s ∷ ss) a = paint_plane w ss (cond (same_plane s.plane w) (paint_stroke a s) a)

-- ALL TOKENS, from the scan q on, painted into the table of plane w
abbrev pub paint_all : List Token → Scan → Plane → Table → Table
paint_all [] q w a = a
paint_all (y ∷ ys) q w a = paint_all ys (step y q) w (paint_plane w (strokes y q) a)
