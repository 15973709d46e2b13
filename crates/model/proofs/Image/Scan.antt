-- Where the scan stands after the tokens of a sequence, and after those of a union: by the tree alone. What the scan collects on its way is then
-- proved by induction on the tree, here said once for lay out, for the depth and for the test of a row of tokens.
use mathlib.Core.Path.{◌≡◌, sym, ap, ◌∙◌}
use mathlib.Core.Bool.{Bool, true, false, ◌&&◌, and_assoc, and-false, and-true}
use mathlib.Core.List.{List, ◌∷◌}
use Prim.Native.Nat.{ℕ, suc}
use Rattle.model.specs.Tree.{Alts, can_omit, can_skip, end, letter, Mark, Repeat, Seq, union}
use Rattle.model.specs.Edges.{alts_empty, alts_end, seq_empty, seq_end, union_empty}
use Rattle.model.specs.Models.LayOut.{Frame, opened, Scan, scan, step}
use Rattle.model.specs.Models.Tokens.{a_letter, shown}
use Rattle.model.proofs.Image.Unions.{shown_empty}

abbrev pub is_end : Seq → Bool
is_end end = true
is_end (letter c r s) = false
is_end (union m a s) = false

-- after a sequence that begins at q
abbrev pub after : Seq → Scan → Scan
after s q = scan (seq_end s q.position) (q.no_item && is_end s) (q.can_be_empty && seq_empty s) q.stack

-- at the first item of an alternative after state p; after a union whose alternatives from state p on are a and whose close shows m
abbrev pub alternative_at : ℕ → Frame → List Frame → Scan
alternative_at p f st = scan (suc p) true true (f ∷ st)

abbrev pub after_union : Alts → Mark → ℕ → Frame → List Frame → Scan
after_union a m p f st = scan (suc (alts_end a p)) false (f.empty_outside && can_omit m) st

-- ---- step by step
pub after_end : (q : Scan) → after end q ≡ q
after_end q = λ i. scan q.position (and-true q.no_item i) (and-true q.can_be_empty i) q.stack

pub after-letter : (c : ℕ) (r : Repeat) (s : Seq) (q : Scan) → after s (step (a_letter c r) q) ≡ after (letter c r s) q
after-letter c r s q = λ i. scan (seq_end s (suc q.position)) (sym (and-false q.no_item) i) (and_assoc q.can_be_empty (can_skip r) (seq_empty s) i) q.stack

pub after-union : (m : Mark) (a : Alts) (s : Seq) (q : Scan)
    → after s (after_union a (shown m (alts_empty a)) q.position (opened q) q.stack) ≡ after (union m a s) q
after-union m a s q =
    λ i. scan (seq_end s (suc (alts_end a q.position))) (sym (and-false q.no_item) i)
    ((ap (λ (b : Bool). (q.can_be_empty && b) && seq_empty s) (shown_empty m (alts_empty a)) ∙ and_assoc q.can_be_empty (union_empty m a) (seq_empty s)) i) q.stack
