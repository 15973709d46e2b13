-- WHAT THE ARCS OF ONE DEPTH GIVE STANDS IN ORDER: things taken from the propagate edges and the forks of one depth follow one another, each starting
-- no earlier than the one before it ended. For a part of a tree has its states to itself, and alternatives lie at another depth than their union.
use mathlib.Core.Path.{◌≡◌, refl, sym, ap, ap₂, ◌∙◌, subst}
use mathlib.Core.Logic.{◌⊎◌, inl, inr}
use mathlib.Core.Bool.{Bool, true, false, ◌||◌}
use mathlib.Core.List.{List, [], ◌∷◌, ◌++◌, append_assoc}
use Prim.Native.Nat.{ℕ, suc, ◌≤◌, ◌<◌}
use native.Mathlib.Nat.{le_refl}
use native.Mathlib.Omega.{arith}
use lib.Dec.{T, eqb, eqb→eq, eqb_refl}
use Rattle.model.specs.Lists.{All, any}
use Rattle.model.specs.Tree.{Alts, can_loop, can_return, can_skip, end, last, letter, more, Seq, union}
use Rattle.model.specs.Edges.{alts_end, seq_end, union_empty, Way, ways}
use Rattle.model.proofs.Language.Arcs.{alts_arcs, Arc, arc, ArcKind, arcs, back_arc, branch_whole, fork_arc, letter_whole, letter_arc, loop_arc, propagate_arc, when}
use Rattle.model.proofs.Laws.Bool.{is_true, unequal}
use Rattle.model.proofs.Laws.Lists.{all_app, all_map, In, in_split, later, sooner}
use Rattle.model.proofs.Words.Full.{Full, FullA}

-- ---- the arcs of a sequence at depth k lie at depth k or deeper
abbrev deeper : ℕ → Arc → Type 0
deeper k e = k ≤ e.level

mutual
  pub depths : (s : Seq) (t k : ℕ) → All (deeper k) (arcs s t k)
  depths end t k = tt
  depths (letter c r s) t k =
      letter_whole (deeper k) c r s t k (record { takes = le_refl k; loops = λ x. le_refl k; skips = λ x. le_refl k; rest = depths s (suc t) k })
  depths (union m a s) t k =
      let alts = all_map (deeper (suc k)) (deeper k) (λ e h. omega arith) (alts_arcs a t k) (alts_depths a t k) in
      branch_whole (deeper k) m a s t k (record { skips = λ x. le_refl k; forks = le_refl k; returns = λ x. le_refl k; alts = alts; rest = depths s (suc (alts_end a t)) k })

  alts_depths : (a : Alts) (p k : ℕ) → All (deeper (suc k)) (alts_arcs a p k)
  alts_depths (last s) p k = depths s (suc p) (suc k)
  alts_depths (more s a) p k =
      let z = seq_end s (suc p) in
      all_app (deeper (suc k)) (arcs s (suc p) (suc k)) (alts_arcs a z k) (depths s (suc p) (suc k)) (alts_depths a z k)

-- ---- in order from a to b: each thing x takes the states from lo x to hi x
module _ {X : Type 0} (lo hi : X → ℕ) (Ok : X → Type 0) where
  abbrev pub Rows : ℕ → ℕ → List X → Type 0
  Rows a b [] = a ≤ b
  Rows a b (x ∷ xs) = (a ≤ lo x) × Ok x × Rows (hi x) b xs

  pub rows-from : (a c b : ℕ) (xs : List X) → c ≤ a → Rows a b xs → Rows c b xs
  rows-from a c b [] h A = omega arith
  rows-from a c b (x ∷ xs) h A = (omega (arith, A.0), A.1, A.2)

  rows_app : (a b c : ℕ) (xs ys : List X) → Rows a b xs → Rows b c ys → Rows a c (xs ++ ys)
  rows_app a b c [] ys A B = rows-from b a c ys A B
  rows_app a b c (x ∷ xs) ys A B = (A.0, A.1, rows_app (hi x) b c xs ys A.2 B)

  pub rows_ok : (a b : ℕ) (xs : List X) → Rows a b xs → All Ok xs
  rows_ok a b [] A = tt
  rows_ok a b (x ∷ xs) A = (A.1, rows_ok (hi x) b xs A.2)

  module _ (grows : (x : X) → Ok x → lo x < hi x) where
    -- no test finds anything among them that finds nothing from state n on
    pub rows_none : (p : X → Bool) (n a b : ℕ) (xs : List X) → n ≤ a → Rows a b xs → ((x : X) → Ok x → n ≤ lo x → p x ≡ false) → any p xs ≡ false
    rows_none p n a b [] h A f = refl
    rows_none p n a b (x ∷ xs) h A f = ap₂ ◌||◌ (f x A.1 (omega (arith, A.0))) (rows_none p n (hi x) b xs (omega (arith, A.0, grows x A.1)) A.2 f)

    -- of two of them one ends before the other starts
    rows_past : (a b : ℕ) (xs : List X) → Rows a b xs → (y : X) → In xs y → (a ≤ lo y) × (lo y < hi y)
    rows_past a b [] A y i = absurd i
    rows_past a b (x ∷ xs) A y (inl e) = subst (λ (z : X). (a ≤ lo z) × (lo z < hi z)) (sym e) (A.0, grows x A.1)
    rows_past a b (x ∷ xs) A y (inr i) = omega (arith, A.0, grows x A.1, rows_past (hi x) b xs A.2 y i)

    pub rows_apart : (a b : ℕ) (xs : List X) → Rows a b xs → (x y : X) → In xs x → In xs y → (x ≡ y) ⊎ (hi x ≤ lo y) ⊎ (hi y ≤ lo x)
    rows_apart a b [] A x y i j = absurd i
    rows_apart a b (z ∷ zs) A x y (inl e) (inl d) = inl (e ∙ sym d)
    rows_apart a b (z ∷ zs) A x y (inl e) (inr j) = inr (inl (subst (λ (u : X). hi u ≤ lo y) (sym e) (rows_past (hi z) b zs A.2 y j).0))
    rows_apart a b (z ∷ zs) A x y (inr i) (inl d) = inr (inr (subst (λ (u : X). hi u ≤ lo x) (sym d) (rows_past (hi z) b zs A.2 x i).0))
    rows_apart a b (z ∷ zs) A x y (inr i) (inr j) = rows_apart (hi z) b zs A.2 x y i j

-- ---- what is taken out of the arcs of depth k
module _ (X : Type 0) (pick_p : ℕ → ℕ → List X) (pick_f : List Way → ℕ → ℕ → List X) where
  abbrev pub keep : Bool → List X → List X
  keep true xs = xs
  keep false xs = []

  abbrev pub pick : ArcKind → ℕ → ℕ → List X
  pick (letter_arc c) i j = []
  pick (loop_arc c) i j = []
  pick propagate_arc i j = pick_p i j
  pick (fork_arc xs) i j = pick_f xs i j
  pick back_arc i j = []

  abbrev pub items_of : ℕ → List Arc → List X
  items_of k [] = []
  items_of k (e ∷ es) = keep (eqb e.level k) (pick e.kind e.from e.to) ++ items_of k es

  -- the arcs that it is taken from
  pub items_in : (k : ℕ) (es : List Arc) (e : Arc) (x : X) → In es e → e.level ≡ k → In (pick e.kind e.from e.to) x → In (items_of k es) x
  items_in k [] e x i l h = absurd i
  items_in k (d ∷ es) e x (inl p) l h =
      let own : T (eqb e.level k) = subst (λ (n : ℕ). T (eqb e.level n)) l (eqb_refl e.level) in
      sooner (keep (eqb d.level k) (pick d.kind d.from d.to)) (items_of k es) x
      (subst (λ (d : Arc). In (keep (eqb d.level k) (pick d.kind d.from d.to)) x) p
      (subst (λ (b : Bool). In (keep b (pick e.kind e.from e.to)) x) (sym (is_true (eqb e.level k) own)) h))
  items_in k (d ∷ es) e x (inr i) l h = later (keep (eqb d.level k) (pick d.kind d.from d.to)) (items_of k es) x (items_in k es e x i l h)

  pub items_out : (k : ℕ) (es : List Arc) (x : X) → In (items_of k es) x → (e : Arc) × In es e × (e.level ≡ k) × In (pick e.kind e.from e.to) x
  items_out k [] x h = absurd h
  items_out k (d ∷ es) x h =
      elim (in_split (keep (eqb d.level k) (pick d.kind d.from d.to)) (items_of k es) x h) [
        | inl i ↦ own (eqb d.level k) refl i
        | inr i ↦ (let r = items_out k es x i in (r.0, inr r.1, r.2, r.3))
      ]
    where
      own : (b : Bool) → eqb d.level k ≡ b → In (keep b (pick d.kind d.from d.to)) x
          → (e : Arc) × In (d ∷ es) e × (e.level ≡ k) × In (pick e.kind e.from e.to) x
      own true p i = (d, inl refl, eqb→eq d.level k (subst T (sym p) tt), i)
      own false p i = absurd i

  items_app : (k : ℕ) (xs ys : List Arc) → items_of k (xs ++ ys) ≡ items_of k xs ++ items_of k ys
  items_app k [] ys = refl
  items_app k (x ∷ xs) ys =
      let own = keep (eqb x.level k) (pick x.kind x.from x.to) in
      ap (λ (l : List X). own ++ l) (items_app k xs ys) ∙ sym (append_assoc own (items_of k xs) (items_of k ys))

  items_none : (k : ℕ) (es : List Arc) → All (deeper (suc k)) es → items_of k es ≡ []
  items_none k [] A = refl
  items_none k (e ∷ es) A =
      ap₂ (λ (b : Bool) (l : List X). keep b (pick e.kind e.from e.to) ++ l) (unequal e.level k (λ x. omega (arith, A.0))) (items_none k es A.1)

  keep_nil : (b : Bool) (l : List X) → keep b [] ++ l ≡ l
  keep_nil true l = refl
  keep_nil false l = refl

  -- THE THEOREM: a tree's things of one depth stand in order, if those of one letter and of one union do
  module _ (lo hi : X → ℕ) (Ok : X → Type 0)
      (single : (t : ℕ) → Rows lo hi Ok t (suc t) (pick_p t (suc t)))
      (both : (b : Bool) (a : Alts) (t : ℕ) → FullA a
      → Rows lo hi Ok t (suc (alts_end a t)) (keep b (pick_p t (suc (alts_end a t))) ++ pick_f (ways a t) t (suc (alts_end a t)))) where
    abbrev In-order : ℕ → ℕ → List X → Type 0
    In-order = Rows lo hi Ok

    mutual
      pub rows : (s : Seq) (t j k : ℕ) → Full s → In-order t (seq_end s t) (items_of k (arcs s t j))
      rows end t j k F = le_refl t
      rows (letter c r s) t j k F =
          no_item (items_of k (when (can_loop r) (arc (loop_arc c) j (suc t) (suc t)) (es (can_skip r))))
          (looped (can_loop r) (skipped (can_skip r) (rows s (suc t) j k F)))
        where
          z : ℕ
          z = seq_end s (suc t)

          later_on : In-order (suc t) z (items_of k (arcs s (suc t) j)) → In-order t z (items_of k (arcs s (suc t) j))
          later_on = rows-from lo hi Ok (suc t) t z (items_of k (arcs s (suc t) j)) (omega arith)

          kept : (b : Bool) → In-order (suc t) z (items_of k (arcs s (suc t) j)) → In-order t z (keep b (pick_p t (suc t)) ++ items_of k (arcs s (suc t) j))
          kept true A = rows_app lo hi Ok t (suc t) z (pick_p t (suc t)) (items_of k (arcs s (suc t) j)) (single t) A
          kept false A = later_on A

          es : Bool → List Arc
          es m = when m (arc propagate_arc j t (suc t)) (arcs s (suc t) j)

          skipped : (m : Bool) → In-order (suc t) z (items_of k (arcs s (suc t) j)) → In-order t z (items_of k (es m))
          skipped true A = kept (eqb j k) A
          skipped false A = later_on A

          no_item : (l : List X) → In-order t z l → In-order t z (keep (eqb j k) [] ++ l)
          no_item l A = subst (In-order t z) (sym (keep_nil (eqb j k) l)) A

          looped : (l : Bool) → In-order t z (items_of k (es (can_skip r))) → In-order t z (items_of k (when l (arc (loop_arc c) j (suc t) (suc t)) (es (can_skip r))))
          looped true A = no_item (items_of k (es (can_skip r))) A
          looped false A = A
      rows (union m a s) t j k F = go (union_empty m a) (eqb j k) refl (alts_rows a t j k F.0) (rows s (suc (alts_end a t)) j k F.1)
        where
          u : ℕ
          u = suc (alts_end a t)

          z : ℕ
          z = seq_end s u

          skips : List X
          skips = pick_p t u

          forks : List X
          forks = pick_f (ways a t) t u

          inner : List X
          inner = items_of k (alts_arcs a t j)

          rest : List X
          rest = items_of k (arcs s u j)

          back : List Arc → List Arc
          back = when (can_return m) (arc back_arc j (alts_end a t) (suc t))

          whole : List X
          whole = items_of k (back (alts_arcs a t j ++ arcs s u j))

          no_back : (b : Bool) (e : Arc) (l : List Arc) → pick e.kind e.from e.to ≡ [] → items_of k (when b e l) ≡ items_of k l
          no_back true e l q = ap (λ (x : List X). keep (eqb e.level k) x ++ items_of k l) q ∙ keep_nil (eqb e.level k) (items_of k l)
          no_back false e l q = refl

          parts : whole ≡ inner ++ rest
          parts = no_back (can_return m) (arc back_arc j (alts_end a t) (suc t)) (alts_arcs a t j ++ arcs s u j) refl ∙ items_app k (alts_arcs a t j) (arcs s u j)

          -- at the union's own depth its alternatives give nothing
          bare : eqb j k ≡ true → whole ≡ rest
          bare e =
              let lower = all_map (deeper (suc j)) (deeper (suc k)) (λ x h. omega (arith, eqb→eq j k (subst T (sym e) tt))) (alts_arcs a t j) (alts_depths a t j) in
              parts ∙ ap (λ (l : List X). l ++ rest) (items_none k (alts_arcs a t j) lower)

          own : (n : Bool) → In-order u z rest → In-order t z ((keep n skips ++ forks) ++ rest)
          own n B = rows_app lo hi Ok t u z (keep n skips ++ forks) rest (both n a t F.0) B

          deep : In-order t (alts_end a t) inner → In-order u z rest → In-order t z whole
          deep A B = subst (In-order t z) (sym parts) (rows_app lo hi Ok t (alts_end a t) z inner rest A (rows-from lo hi Ok u (alts_end a t) z rest (omega arith) B))

          go : (n b : Bool) → eqb j k ≡ b → In-order t (alts_end a t) inner → In-order u z rest
              → In-order t z (items_of k (when n (arc propagate_arc j t u) (arc (fork_arc (ways a t)) j t u ∷ back (alts_arcs a t j ++ arcs s u j))))
          go true true e A B =
              subst (λ (b : Bool). In-order t z (keep b skips ++ (keep b forks ++ whole))) (sym e)
              (subst (λ (l : List X). In-order t z (skips ++ (forks ++ l))) (sym (bare e)) (subst (In-order t z) (append_assoc skips forks rest) (own true B)))
          go false true e A B =
              subst (λ (b : Bool). In-order t z (keep b forks ++ whole)) (sym e) (subst (λ (l : List X). In-order t z (forks ++ l)) (sym (bare e)) (own false B))
          go true false e A B = subst (λ (b : Bool). In-order t z (keep b skips ++ (keep b forks ++ whole))) (sym e) (deep A B)
          go false false e A B = subst (λ (b : Bool). In-order t z (keep b forks ++ whole)) (sym e) (deep A B)

      alts_rows : (a : Alts) (p j k : ℕ) → FullA a → In-order p (alts_end a p) (items_of k (alts_arcs a p j))
      alts_rows (last s) p j k F =
          rows-from lo hi Ok (suc p) p (seq_end s (suc p)) (items_of k (arcs s (suc p) (suc j))) (omega arith) (rows s (suc p) (suc j) k F.1)
      alts_rows (more s a) p j k F =
          subst (In-order p (alts_end a z)) (sym (items_app k (arcs s (suc p) (suc j)) (alts_arcs a z j)))
          (rows_app lo hi Ok p z (alts_end a z) first (items_of k (alts_arcs a z j))
          (rows-from lo hi Ok (suc p) p z first (omega arith) (rows s (suc p) (suc j) k F.1)) (alts_rows a (seq_end s (suc p)) j k F.2))
        where
          z : ℕ
          z = seq_end s (suc p)

          first : List X
          first = items_of k (arcs s (suc p) (suc j))
