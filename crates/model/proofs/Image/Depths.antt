-- Some mask of some depth below a tree's depth has a state exactly if some arc marks that state: no union and no propagate edge lies deeper.
use mathlib.Core.Path.{◌≡◌, refl, sym, ◌∙◌}
use mathlib.Core.Bool.{Bool, ◌&&◌, ◌||◌}
use mathlib.Core.List.{List}
use Prim.Native.Nat.{ℕ, suc, ◌+◌, ◌≤◌, ◌<◌}
use native.Mathlib.Omega.{arith}
use lib.Dec.{T, eqb, eqb_refl}
use Rattle.model.specs.Lists.{All, any}
use Rattle.model.specs.Tree.{Alts, end, last, letter, more, Seq, union}
use Rattle.model.specs.Edges.{alts_depth, alts_end, depth, seq_end}
use Rattle.model.specs.Models.Apart.{any_below}
use Rattle.model.specs.Models.LayOut.{back-source, entering, gather-target, scatter-source}
use Rattle.model.proofs.Image.Marks.{on_kind}
use Rattle.model.proofs.Image.Places.{arcs_set}
use Rattle.model.proofs.Image.Sets.{tree_set}
use Rattle.model.proofs.Image.Shown.{closes, comes_back, is_fork, is_propagate, is_return, opens, skips}
use Rattle.model.proofs.Language.Arcs.{alts_arcs, Arc, ArcKind, arcs, back_arc, branch_whole, fork_arc, letter_whole, letter_arc, loop_arc, propagate_arc}
use Rattle.model.proofs.Laws.Bits.{below_in, below_out, below_same}
use Rattle.model.proofs.Laws.Bool.{and_both, and_split, or_left, or_right, same_truth}
use Rattle.model.proofs.Laws.Lists.{all_app, all_in, any_in, any_out, In}

-- an arc lies no deeper than n, and a union, or its way back, above it
abbrev Shallow : ℕ → Arc → Type 0
Shallow n e = (e.level ≤ n) × (T (is_fork e.kind || is_return e.kind) → e.level < n)

mutual
  shallow : (s : Seq) (t k n : ℕ) → k + depth s ≤ n → All (Shallow n) (arcs s t k)
  shallow end t k n h = tt
  shallow (letter c r s) t k n h =
      letter_whole (Shallow n) c r s t k (record {
        takes = (omega arith, λ x. absurd x);
        loops = λ y. (omega arith, λ x. absurd x);
        skips = λ y. (omega arith, λ x. absurd x);
        rest = shallow s (suc t) k n h;
      })
  shallow (union m a s) t k n h =
      branch_whole (Shallow n) m a s t k (record {
        skips = λ y. (omega arith, λ x. absurd x);
        forks = (omega arith, λ x. omega arith);
        returns = λ y. (omega arith, λ x. omega arith);
        alts = shallow_alts a t k n (omega arith);
        rest = shallow s (suc (alts_end a t)) k n (omega arith);
      })

  shallow_alts : (a : Alts) (p k n : ℕ) → suc k + alts_depth a ≤ n → All (Shallow n) (alts_arcs a p k)
  shallow_alts (last s) p k n h = shallow s (suc p) (suc k) n h
  shallow_alts (more s a) p k n h =
      all_app (Shallow n) (arcs s (suc p) (suc k)) (alts_arcs a (seq_end s (suc p)) k)
      (shallow s (suc p) (suc k) n (omega arith)) (shallow_alts a (seq_end s (suc p)) k n (omega arith))

-- a test g of the arcs, where all that pass lie above depth n, is the same test at some depth below n
some_depth : (g : Arc → Bool) (es : List Arc) (n : ℕ) → ((e : Arc) → In es e → T (g e) → e.level < n)
    → any_below n (λ k. any (λ e. g e && eqb e.level k) es) ≡ any g es
some_depth g es n low = same_truth (any_below n at_depth) (any g es) there back
  where
    at_depth : ℕ → Bool
    at_depth k = any (λ e. g e && eqb e.level k) es

    there : T (any_below n at_depth) → T (any g es)
    there t =
        let k = below_out n at_depth t in
        let r = any_out (λ e. g e && eqb e.level k.0) es k.2 in
        any_in g es r.0 r.1 (and_split (g r.0) (eqb r.0.level k.0) r.2).0

    back : T (any g es) → T (any_below n at_depth)
    back t =
        let r = any_out g es t in
        below_in n at_depth r.0.level (low r.0 r.1 r.2)
        (any_in (λ e. g e && eqb e.level r.0.level) es r.0 r.1
        (and_both (g r.0) (eqb r.0.level r.0.level) r.2 (eqb_refl r.0.level)))

module _ (s : Seq) (i : ℕ) where
  abbrev es : List Arc
  es = arcs s 0 0

  depth_of : (e : Arc) → In es e → Shallow (depth s) e
  depth_of = all_in (Shallow (depth s)) es (shallow s 0 0 (depth s) (omega arith))

  -- B holds at some depth below n exactly if some arc passes h, where B k is the test g of the arcs of depth k, and g is h
  by-depth : (n : ℕ) (B : ℕ → Bool) (g h : ArcKind → ℕ → ℕ → Bool) → ((k : ℕ) → B k ≡ any (λ e. g e.kind e.from e.to && eqb e.level k) es)
      → ((w : ArcKind) (a z : ℕ) → g w a z ≡ h w a z) → ((e : Arc) → In es e → T (h e.kind e.from e.to) → e.level < n)
      → any_below n B ≡ any (λ e. h e.kind e.from e.to) es
  by-depth n B g h at same low =
      below_same n B (λ k. any (λ e. g e.kind e.from e.to && eqb e.level k) es) (λ k l. at k)
      ∙ (λ j. any_below n (λ k. any (λ e. same e.kind e.from e.to j && eqb e.level k) es))
      ∙ some_depth (λ e. h e.kind e.from e.to) es n low

  -- a union starts in i
  pub open_is : any_below (depth s) (λ k. tree_set s scatter-source k i) ≡ opens es i
  open_is =
      by-depth (depth s) (λ k. tree_set s scatter-source k i) (on_kind scatter-source i) (λ w a z. is_fork w && eqb i a) (λ k. sym (arcs_set s scatter-source k i))
      same (λ e h t. (depth_of e h).1 (or_left (is_fork e.kind) (is_return e.kind) (and_split (is_fork e.kind) (eqb i e.from) t).0))
    where
      same : (w : ArcKind) (a z : ℕ) → on_kind scatter-source i w a z ≡ (is_fork w && eqb i a)
      same (letter_arc c) a z = refl
      same (loop_arc c) a z = refl
      same propagate_arc a z = refl
      same (fork_arc xs) a z = refl
      same back_arc a z = refl

  -- a union ends in i + 1
  pub close_is : any_below (depth s) (λ k. tree_set s gather-target k (suc i)) ≡ closes es i
  close_is =
      by-depth (depth s) (λ k. tree_set s gather-target k (suc i)) (on_kind gather-target (suc i)) (λ w a z. is_fork w && eqb (suc i) z)
      (λ k. sym (arcs_set s gather-target k (suc i))) same (λ e h t. (depth_of e h).1 (or_left (is_fork e.kind) (is_return e.kind) (and_split (is_fork e.kind) (eqb (suc i) e.to) t).0))
    where
      same : (w : ArcKind) (a z : ℕ) → on_kind gather-target (suc i) w a z ≡ (is_fork w && eqb (suc i) z)
      same (letter_arc c) a z = refl
      same (loop_arc c) a z = refl
      same propagate_arc a z = refl
      same (fork_arc xs) a z = refl
      same back_arc a z = refl

  -- a propagate edge enters i + 1
  pub skip_is : any_below (suc (depth s)) (λ k. tree_set s entering k (suc i)) ≡ skips es i
  skip_is =
      by-depth (suc (depth s)) (λ k. tree_set s entering k (suc i)) (on_kind entering (suc i)) (λ w a z. is_propagate w && eqb (suc i) z)
      (λ k. sym (arcs_set s entering k (suc i))) same (λ e h t. omega (arith, (depth_of e h).0))
    where
      same : (w : ArcKind) (a z : ℕ) → on_kind entering (suc i) w a z ≡ (is_propagate w && eqb (suc i) z)
      same (letter_arc c) a z = refl
      same (loop_arc c) a z = refl
      same propagate_arc a z = refl
      same (fork_arc xs) a z = refl
      same back_arc a z = refl

  -- a back edge starts in i
  pub return_is : any_below (depth s) (λ k. tree_set s back-source k i) ≡ comes_back es i
  return_is =
      by-depth (depth s) (λ k. tree_set s back-source k i) (on_kind back-source i) (λ w a z. is_return w && eqb i a) (λ k. sym (arcs_set s back-source k i))
      same (λ e h t. (depth_of e h).1 (or_right (is_fork e.kind) (is_return e.kind) (and_split (is_return e.kind) (eqb i e.from) t).0))
    where
      same : (w : ArcKind) (a z : ℕ) → on_kind back-source i w a z ≡ (is_return w && eqb i a)
      same (letter_arc c) a z = refl
      same (loop_arc c) a z = refl
      same propagate_arc a z = refl
      same (fork_arc xs) a z = refl
      same back_arc a z = refl
