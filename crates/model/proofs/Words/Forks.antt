-- THE UNIONS OF ONE DEPTH, as the masks of scatter and gather see them: they stand in order, and each has its alternatives between its start and end.
use mathlib.Core.Path.{◌≡◌, refl, subst}
use mathlib.Core.Logic.{inl, inr}
use mathlib.Core.Bool.{Bool, true, false}
use mathlib.Core.List.{List, [], ◌∷◌, ◌++◌}
use Prim.Native.Nat.{ℕ, suc, ◌≤◌, ◌<◌}
use native.Mathlib.Nat.{le_refl}
use native.Mathlib.Omega.{arith}
use lib.Dec.{T}
use Rattle.model.specs.Lists.{All, any, within}
use Rattle.model.specs.Tree.{Alts, Seq}
use Rattle.model.specs.Edges.{alts_end, ends_of, seq_end, starts_of, Way, ways}
use Rattle.model.specs.Image.{first_end, last_start}
use Rattle.model.proofs.Language.Arcs.{Arc, arc, ArcKind, arcs, back_arc, fork_arc, letter_arc, loop_arc, propagate_arc}
use Rattle.model.proofs.Laws.Lists.{In}
use Rattle.model.proofs.Words.Full.{ends_between, first_in, Full, FullA, last_in, starts_between}
use Rattle.model.proofs.Words.InOrder.{items_in, items_out, items_of, keep, pick, Rows, rows, rows_none, rows_ok}

-- a union: its start, its end, the first alternative's end, the last alternative's start, and each alternative's start and end
pub record Union : Type 0 where
  pub start : ℕ
  pub close : ℕ
  pub first : ℕ
  pub final : ℕ
  pub starts : List ℕ
  pub ends : List ℕ

abbrev pub union_of : List Way → ℕ → ℕ → Union
union_of xs i j = record { start = i; close = j; first = first_end xs; final = last_start xs; starts = starts_of xs; ends = ends_of xs }

abbrev pub of_fork : List Way → ℕ → ℕ → List Union
of_fork xs i j = union_of xs i j ∷ []

abbrev pub no_propagate : ℕ → ℕ → List Union
no_propagate i j = []

abbrev pub forks_of : ℕ → List Arc → List Union
forks_of = items_of Union no_propagate of_fork

-- they are the forks among the arcs
pub fork_in : (k : ℕ) (es : List Arc) (xs : List Way) (i j : ℕ) → In es (arc (fork_arc xs) k i j) → In (forks_of k es) (union_of xs i j)
fork_in k es xs i j h = items_in Union no_propagate of_fork k es (arc (fork_arc xs) k i j) (union_of xs i j) h refl (inl refl)

pub fork_out : (k : ℕ) (es : List Arc) (u : Union) → In (forks_of k es) u
    → (xs : List Way) × (i : ℕ) × (j : ℕ) × In es (arc (fork_arc xs) k i j) × (u ≡ union_of xs i j)
fork_out k es u h = let r = items_out Union no_propagate of_fork k es u h in go r.0 r.0.kind refl r.1 r.2 r.3
  where
    Found : Type 0
    Found = (xs : List Way) × (i : ℕ) × (j : ℕ) × In es (arc (fork_arc xs) k i j) × (u ≡ union_of xs i j)

    go : (e : Arc) (w : ArcKind) → e.kind ≡ w → In es e → e.level ≡ k → In (pick Union no_propagate of_fork w e.from e.to) u → Found
    go e (letter_arc c) p i l h = absurd h
    go e (loop_arc c) p i l h = absurd h
    go e propagate_arc p i l h = absurd h
    go e (fork_arc xs) p i l (inl q) = (xs, e.from, e.to, subst (In es) (λ n. arc (p n) (l n) e.from e.to) i, q)
    go e (fork_arc xs) p i l (inr q) = absurd q
    go e back_arc p i l h = absurd h

-- ---- between its start and its end
pub record Sound (u : Union) : Type 0 where
  pub begins : u.start < u.final
  pub block : suc u.final < u.close
  pub opens : u.start < u.first
  pub closes : u.first < u.close
  pub between : (x : ℕ) → T (within x u.ends) → (u.first ≤ x) × (x < u.close)
  pub starting : (x : ℕ) → T (within x u.starts) → (u.start < x) × (x ≤ u.final)

sound : (a : Alts) (t : ℕ) → FullA a → Sound (union_of (ways a t) t (suc (alts_end a t)))
sound a t F = record {
  begins = (last_in a t F).0;
  block = omega (arith, last_in a t F);
  opens = (first_in a t).0;
  closes = omega (arith, first_in a t);
  between = λ x h. omega (arith, ends_between a t x h);
  starting = starts_between a t;
}

-- ---- THE UNIONS OF A TREE stand in order, each of them sound
abbrev pub Forks : ℕ → ℕ → List Union → Type 0
Forks = Rows (λ u. u.start) (λ u. u.close) Sound

pub none_after : (p : Union → Bool) (n a b : ℕ) (us : List Union) → n ≤ a → Forks a b us → ((u : Union) → Sound u → n ≤ u.start → p u ≡ false) → any p us ≡ false
none_after = rows_none (λ u. u.start) (λ u. u.close) Sound (λ u S. omega (arith, S.opens, S.closes))

pub forks_in_order : (s : Seq) (k : ℕ) → Full s → Forks 0 (seq_end s 0) (forks_of k (arcs s 0 0))
forks_in_order s k F = rows Union no_propagate of_fork (λ u. u.start) (λ u. u.close) Sound (λ t. omega arith) one s 0 0 k F
  where
    one : (b : Bool) (a : Alts) (t : ℕ) → FullA a → Forks t (suc (alts_end a t)) (keep Union no_propagate of_fork b [] ++ of_fork (ways a t) t (suc (alts_end a t)))
    one true a t F = (le_refl t, sound a t F, le_refl (suc (alts_end a t)))
    one false a t F = (le_refl t, sound a t F, le_refl (suc (alts_end a t)))

pub forks_sound : (s : Seq) (k : ℕ) → Full s → All Sound (forks_of k (arcs s 0 0))
forks_sound s k F = rows_ok (λ u. u.start) (λ u. u.close) Sound 0 (seq_end s 0) (forks_of k (arcs s 0 0)) (forks_in_order s k F)
