-- Lay out marks no state past the accepting one, where no alternative is empty: each arc's places lie within the tree's states.
use mathlib.Core.Path.{subst}
use mathlib.Core.Bool.{Bool, true, false, ◌&&◌, cond}
use mathlib.Core.List.{List, [], ◌∷◌}
use Prim.Native.Nat.{ℕ, suc, ◌≤◌}
use native.Mathlib.Nat.{le_refl}
use native.Mathlib.Omega.{arith}
use lib.Dec.{T, leb, ltb, eqb, eqb→eq, ltb→lt}
use Rattle.model.specs.Lists.{All, within}
use Rattle.model.specs.Tree.{Alts, end, last, letter, more, Seq, union}
use Rattle.model.specs.Edges.{alts_end, ends_of, seq_end, starts_of, ways}
use Rattle.model.specs.Image.{first_end, last_start}
use Rattle.model.specs.Models.LayOut.{begin, lay_out, same_plane, Plane}
use Rattle.model.specs.Models.Tokens.{tokens}
use Rattle.model.proofs.Image.LayOut.{lay_out_is}
use Rattle.model.proofs.Image.Marks.{level_of, on, on_kind, places, set_of}
use Rattle.model.proofs.Language.Arcs.{alts_arcs, Arc, arc, arcs, branch_whole, fork_arc, letter_whole}
use Rattle.model.proofs.Language.Languages.{alts_end_lt, seq_end_le}
use Rattle.model.proofs.Laws.Bool.{and_split}
use Rattle.model.proofs.Laws.Lists.{all_app, all_in, any_out}
use Rattle.model.proofs.Words.Full.{ends_between, Full, FullA, last_in, starts_between}

-- an arc marks no state past n
abbrev Low : ℕ → Arc → Type 0
Low n e = All (λ p. (x : ℕ) → T (p.1 x) → x ≤ n) (places e.kind e.from e.to)

low_state : (y n : ℕ) → y ≤ n → (x : ℕ) → T (eqb x y) → x ≤ n
low_state y n h x t = omega (arith, eqb→eq x y t)

low_fork : (a : Alts) (t d n : ℕ) → FullA a → suc (alts_end a t) ≤ n → Low n (arc (fork_arc (ways a t)) d t (suc (alts_end a t)))
low_fork a t d n F l =
    let blocks = low_state (suc (last_start (ways a t))) n (omega (arith, last_in a t F)) in
    let sources = low_state t n (omega (arith, alts_end_lt a t)) in
    let targets : (x : ℕ) → T (within x (starts_of (ways a t))) → x ≤ n = λ x h. omega (arith, starts_between a t x h, last_in a t F) in
    let between : (x : ℕ) → T (leb (first_end (ways a t)) x && ltb x (suc (alts_end a t))) → x ≤ n =
    λ x h. omega (arith, ltb→lt x (suc (alts_end a t)) (and_split (leb (first_end (ways a t)) x) (ltb x (suc (alts_end a t))) h).1) in
    let ends : (x : ℕ) → T (within x (ends_of (ways a t))) → x ≤ n = λ x h. omega (arith, ends_between a t x h) in
    (blocks, (sources, (targets, (between, (ends, (low_state (suc (alts_end a t)) n l, tt))))))

set_low : (w : Plane) (x n : ℕ) (ps : List (Plane × (ℕ → Bool))) → All (λ p. (x : ℕ) → T (p.1 x) → x ≤ n) ps → T (set_of w ps x) → x ≤ n
set_low w x n [] L t = absurd t
set_low w x n (p ∷ ps) L t = go (same_plane p.0 w) t (set_low w x n ps L.1)
  where
    go : (b : Bool) → T (cond b (p.1 x) (set_of w ps x)) → (T (set_of w ps x) → x ≤ n) → x ≤ n
    go true t later = L.0 x t
    go false t later = later t

mutual
  low : (s : Seq) (t k n : ℕ) → Full s → seq_end s t ≤ n → All (Low n) (arcs s t k)
  low end t k n F l = tt
  low (letter c r s) t k n F l =
      let h : suc t ≤ n = omega (arith, seq_end_le s (suc t)) in
      letter_whole (Low n) c r s t k (record {
        takes = (low_state (suc t) n h, tt);
        loops = λ x. (low_state (suc t) n h, tt);
        skips = λ x. (low_state t n (omega arith), (low_state (suc t) n h, tt));
        rest = low s (suc t) k n F l;
      })
  low (union m a s) t k n F l =
      let h : suc (alts_end a t) ≤ n = omega (arith, seq_end_le s (suc (alts_end a t))) in
      branch_whole (Low n) m a s t k (record {
        skips = λ x. (low_state t n (omega (arith, alts_end_lt a t)), (low_state (suc (alts_end a t)) n h, tt));
        forks = low_fork a t k n F.0 h;
        returns = λ x. (low_state (alts_end a t) n (omega arith), (low_state (suc t) n (omega (arith, alts_end_lt a t)), tt));
        alts = low_alts a t k n F.0 (omega arith);
        rest = low s (suc (alts_end a t)) k n F.1 l;
      })

  low_alts : (a : Alts) (p k n : ℕ) → FullA a → alts_end a p ≤ n → All (Low n) (alts_arcs a p k)
  low_alts (last s) p k n F l = low s (suc p) (suc k) n F.1 l
  low_alts (more s a) p k n F l =
      all_app (Low n) (arcs s (suc p) (suc k)) (alts_arcs a (seq_end s (suc p)) k)
      (low s (suc p) (suc k) n F.1 (omega (arith, alts_end_lt a (seq_end s (suc p))))) (low_alts a (seq_end s (suc p)) k n F.2 l)

-- NO PLACE PAST THE ACCEPTING STATE
pub lay_low : (s : Seq) → Full s → (w : Plane) (k x : ℕ) → T (lay_out (tokens s []) begin w k x) → x ≤ seq_end s 0
lay_low s F w k x h =
    let r = any_out (on w k x) (arcs s 0 0) (subst T (lay_out_is w k x s) h) in
    set_low w x (seq_end s 0) (places r.0.kind r.0.from r.0.to)
    (all_in (Low (seq_end s 0)) (arcs s 0 0) (low s 0 0 (seq_end s 0) F (le_refl (seq_end s 0))) r.0 r.1)
    (and_split (on_kind w x r.0.kind r.0.from r.0.to) (eqb (level_of w r.0.level) k) r.2).0
