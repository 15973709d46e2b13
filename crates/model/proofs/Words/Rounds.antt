-- THE TWO ROUNDS ON BITS: the passes, then the targets of the back edges whose sources are live, then the passes once more give exactly what the edges
-- without a letter reach. A back edge's source is the first one of its depth at or past its target, for a body has no other of its depth in it.
use mathlib.Core.Path.{◌≡◌, sym, subst}
use mathlib.Core.Logic.{◌⊎◌, inl, inr, ◌↔◌}
use mathlib.Core.Bool.{Bool, false, ◌&&◌, ◌||◌}
use mathlib.Core.List.{List}
use Prim.Native.Nat.{ℕ, zero, suc, ◌≤◌, ◌<◌}
use native.Mathlib.Nat.{eq-or-lt_of_le, le_refl}
use native.Mathlib.Omega.{arith}
use lib.Dec.{T, eqb, eqb→eq, eqb_refl}
use Rattle.model.specs.Lists.{any}
use Rattle.model.specs.Tree.{Seq}
use Rattle.model.specs.Edges.{depth, states}
use Rattle.model.specs.Live.{itself, onward, Reached}
use Rattle.model.specs.Models.LayOut.{back-source, back-target}
use Rattle.model.specs.Models.Run.{ahead}
use Rattle.model.proofs.Image.Marks.{on, on_kind}
use Rattle.model.proofs.Language.Arcs.{Arc, arc, ArcKind, arcs, back_arc, fork_arc, letter_arc, loop_arc, propagate_arc}
use Rattle.model.proofs.Laws.Bool.{and_both, and_split, or_left, or_right, or_split, same_truth}
use Rattle.model.proofs.Laws.Lists.{any_in, any_out, In}
use Rattle.model.proofs.Passes.Bodies.{before, behind, inner, Lies, outer, same}
use Rattle.model.proofs.Passes.Closure.{Add, reached_in, reached_more, Set}
use Rattle.model.proofs.Passes.OnTrees.{falls, lies, return_high, return_low, Returns, Silent, tree_rounds}
use Rattle.model.proofs.Words.Back.{ahead_first, Clear}
use Rattle.model.proofs.Words.Full.{Full}
use Rattle.model.proofs.Words.Passes.{add_map, passed, passed_is}

module _ (s : Seq) where
  abbrev es : List Arc
  es = arcs s 0 0

  -- the states where the back edges of depth k start and end
  abbrev pub return_source : ℕ → ℕ → Bool
  return_source k x = any (on back-source k x) es

  abbrev pub return_target : ℕ → ℕ → Bool
  return_target k x = any (on back-target k x) es

  source_out : (k x : ℕ) → T (return_source k x) → (j : ℕ) × In es (arc back_arc k x j)
  source_out k x t = let o = any_out (on back-source k x) es t in go o.0 o.0.kind (λ i. o.0.kind) o.1 o.2
    where
      go : (e : Arc) (w : ArcKind) → e.kind ≡ w → In es e → T (on_kind back-source x w e.from e.to && eqb e.level k) → (j : ℕ) × In es (arc back_arc k x j)
      go e (letter_arc c) p i h = absurd h
      go e (loop_arc c) p i h = absurd h
      go e propagate_arc p i h = absurd h
      go e (fork_arc xs) p i h = absurd h
      go e back_arc p i h =
          let b = and_split (eqb x e.from) (eqb e.level k) h in
          (e.to, subst (In es) (λ n. arc (p n) (eqb→eq e.level k b.1 n) (sym (eqb→eq x e.from b.0) n) e.to) i)

  pub target_out : (k x : ℕ) → T (return_target k x) → (q : ℕ) × In es (arc back_arc k q x)
  target_out k x t = let o = any_out (on back-target k x) es t in go o.0 o.0.kind (λ i. o.0.kind) o.1 o.2
    where
      go : (e : Arc) (w : ArcKind) → e.kind ≡ w → In es e → T (on_kind back-target x w e.from e.to && eqb e.level k) → (q : ℕ) × In es (arc back_arc k q x)
      go e (letter_arc c) p i h = absurd h
      go e (loop_arc c) p i h = absurd h
      go e propagate_arc p i h = absurd h
      go e (fork_arc xs) p i h = absurd h
      go e back_arc p i h =
          let b = and_split (eqb x e.to) (eqb e.level k) h in
          (e.from, subst (In es) (λ n. arc (p n) (eqb→eq e.level k b.1 n) e.from (sym (eqb→eq x e.to b.0) n)) i)

  module _ (F : Full s) where
    -- a back edge from q to r has its source ahead of its target, and no other of its depth between
    module _ (k q r : ℕ) (i : In es (arc back_arc k q r)) where
      pub source_in : T (return_source k q)
      source_in = any_in (on back-source k q) es (arc back_arc k q r) i (and_both (eqb q q) (eqb k k) (eqb_refl q) (eqb_refl k))

      target_in : T (return_target k r)
      target_in = any_in (on back-target k r) es (arc back_arc k q r) i (and_both (eqb r r) (eqb k k) (eqb_refl r) (eqb_refl k))

      pub source_first : Clear (return_source k) r q
      source_first y h l t = let o = source_out k y t in go o.0 (lies s F k q r k y o.0 i o.1) (falls s F k y o.0 o.1)
        where
          go : (j : ℕ) → Lies k r q k y j → j ≤ y → ⊥
          go j (same e d) f = omega arith
          go j (inner n a z) f = omega arith
          go j (outer a z) f = omega arith
          go j (before a) f = omega arith
          go j (behind a) f = omega arith

    -- ---- the targets of the back edges of depth k whose sources are live
    abbrev pub returned : ℕ → (ℕ → Bool) → ℕ → Bool
    returned k D x = return_target k x && ahead (states s) false (return_source k) D x

    pub ahead_is : (k q r : ℕ) (D : ℕ → Bool) → In es (arc back_arc k q r) → ahead (states s) false (return_source k) D r ≡ D q
    ahead_is k q r D i =
        ahead_first (states s) false (return_source k) D r q (falls s F k q r i) (omega (arith, return_high s F k q r i)) (source_in k q r i) (source_first k q r i)

    returned_is : (k : ℕ) (D : ℕ → Bool) (x : ℕ) → T (returned k D x) ↔ ((q : ℕ) × T (D q) × In es (arc back_arc k q x))
    returned_is k D x = (
      λ h. let b = and_split (return_target k x) (ahead (states s) false (return_source k) D x) h in
          let o = target_out k x b.0 in
          (o.0, subst T (ahead_is k o.0 x D o.1) b.1, o.1),
      λ (q, d, i). and_both (return_target k x) (ahead (states s) false (return_source k) D x) (target_in k q x i) (subst T (sym (ahead_is k q x D i)) d),
    )

    -- ---- those of all depths below n, beside what is in D, where the set first decides what is live
    abbrev pub returned_below : ℕ → (first D : ℕ → Bool) → ℕ → Bool
    returned_below zero first D = D
    returned_below (suc k) first D = returned_below k first (λ x. D x || returned k first x)

    abbrev Found : ℕ → (ℕ → Bool) → Set
    Found n first x = (k : ℕ) × (k < n) × T (returned k first x)

    below_is : (n : ℕ) (first D : ℕ → Bool) (x : ℕ) → T (returned_below n first D x) ↔ (T (D x) ⊎ Found n first x)
    below_is zero first D x = (λ h. inl h, λ h. elim h [ inl d ↦ d | inr f ↦ absurd (omega (arith, f.1)) ])
    below_is (suc n) first D x = (λ h. there ((below_is n first (λ y. D y || returned n first y) x).0 h), λ h. (below_is n first (λ y. D y || returned n first y) x).1 (back h))
      where
        there : T (D x || returned n first x) ⊎ Found n first x → T (D x) ⊎ Found (suc n) first x
        there (inl h) = elim (or_split (D x) (returned n first x) h) [ inl d ↦ inl d | inr f ↦ inr (n, le_refl (suc n), f) ]
        there (inr (k, l, f)) = inr (k, omega arith, f)

        back : T (D x) ⊎ Found (suc n) first x → T (D x || returned n first x) ⊎ Found n first x
        back (inl d) = inl (or_left (D x) (returned n first x) d)
        back (inr (k, l, f)) = go (eq-or-lt_of_le l)
          where
            go : (suc k ≡ suc n) ⊎ (suc k < suc n) → T (D x || returned n first x) ⊎ Found n first x
            go (inl e) = let d : k ≡ n = omega arith in inl (or_right (D x) (returned n first x) (subst (λ (j : ℕ). T (returned j first x)) d f))
            go (inr h) = inr (k, omega arith, f)

    added_is : (D : ℕ → Bool) (x : ℕ) → T (returned_below (depth s) D D x) ↔ Add (Returns s) (λ q. T (D q)) x
    added_is D x = (λ h. there ((below_is (depth s) D D x).0 h), λ h. (below_is (depth s) D D x).1 (back h))
      where
        there : T (D x) ⊎ Found (depth s) D x → Add (Returns s) (λ q. T (D q)) x
        there (inl d) = inl d
        there (inr (k, l, f)) = let o = (returned_is k D x).0 f in inr (o.0, o.1, (k, o.2))

        back : Add (Returns s) (λ q. T (D q)) x → T (D x) ⊎ Found (depth s) D x
        back (inl d) = inl d
        back (inr (q, d, (k, i))) = inr (k, return_low s k q x i, (returned_is k D x).1 (q, d, i))

    -- ---- two rounds
    abbrev pub closed : (ℕ → Bool) → ℕ → Bool
    closed D = let first = passed s F (depth s) D in passed s F (depth s) (returned_below (depth s) first first)

    -- the passes after the passes add nothing
    pub passed_twice : (D : ℕ → Bool) (x : ℕ) → passed s F (depth s) (passed s F (depth s) D) x ≡ passed s F (depth s) D x
    passed_twice D x =
        same_truth (passed s F (depth s) first x) (first x)
        (λ h. (passed_is s F D x).1 (reached_in (λ y k. (passed_is s F D y).0 k) (λ y z u e. onward u e) ((passed_is s F first x).0 h)))
        (λ h. (passed_is s F first x).1 (itself h))
      where
        first : ℕ → Bool
        first = passed s F (depth s) D

    -- THE THEOREM: from any set of states they compute what all edges without a letter reach
    pub bits_are : (D : ℕ → Bool) (q : ℕ) → T (closed D q) ↔ Reached (Silent s) (λ x. T (D x)) q
    bits_are D q = (
      λ h. (tree_rounds s F (λ x. T (D x)) q).0 (reached_more (λ x k. add_map (Returns s) (λ y. (passed_is s F D y).0) x ((added_is first x).0 k)) ((passed_is s F new q).0 h)),
      λ h. (passed_is s F new q).1 (reached_more (λ x k. (added_is first x).1 (add_map (Returns s) (λ y. (passed_is s F D y).1) x k)) ((tree_rounds s F (λ x. T (D x)) q).1 h)),
    )
      where
        first : ℕ → Bool
        first = passed s F (depth s) D

        new : ℕ → Bool
        new = returned_below (depth s) first first
