-- The strokes of a tree's tokens are those of its arcs: a letter's, and together those of a union's open, bars and close. So a token marks the
-- places of its arcs, in the masks of every kind.
use mathlib.Core.Path.{◌≡◌, refl, sym, ap, ap₂, ◌∙◌, subst}
use mathlib.Core.Bool.{Bool, true, false, ◌&&◌, ◌||◌, cond, or-false, or_assoc, and-false, and-or_distrib_right}
use mathlib.Core.List.{List, [], ◌∷◌}
use Prim.Native.Nat.{ℕ, suc, ◌≤◌, ◌<◌}
use native.Mathlib.Omega.{arith}
use lib.Dec.{T, eqb, eqb_refl, eqb→eq, le→leb, leb, leb→le, lt→ltb, ltb, ltb→lt}
use Rattle.model.specs.Lists.{any, each, within}
use Rattle.model.specs.Tree.{Alts, can_loop, can_skip, last, more, Repeat}
use Rattle.model.specs.Edges.{alts_end, ends_of, seq_empty, seq_end, starts_of, Way, ways}
use Rattle.model.specs.Image.{first_end, last_start}
use Rattle.model.specs.Models.LayOut.{back-source, back-target, back_strokes, bar_strokes, end_strokes, entering, Frame, gather-block, gather-source, gather-target, leaving, letter-place, letter_strokes, loop_place, marks, next_alternative, number, one_state, opened, open_strokes, propagate_strokes, same_plane, Scan, scatter-block, scatter-source, scatter-target, Stroke, stroke, Plane}
use Rattle.model.proofs.Image.ArcTests.{letter_test}
use Rattle.model.proofs.Language.Arcs.{Arc, arc, ArcKind, back_arc, fork_arc, letter_arc, loop_arc, propagate_arc}
use Rattle.model.proofs.Laws.Bool.{and_both, and_split, or_left_comm, same_truth, unequal}
use Rattle.model.proofs.Laws.Lists.{any_app}
use Rattle.model.proofs.Words.Full.{last_of}

-- ---- the strokes of an arc
abbrev way_strokes : ℕ → Way → List Stroke
way_strokes d a = one_state scatter-target d a.0 ∷ one_state gather-source d a.1 ∷ []

abbrev strokes_of : ArcKind → ℕ → ℕ → ℕ → List Stroke
strokes_of (letter_arc c) d i j = one_state letter-place 0 j ∷ []
strokes_of (loop_arc c) d i j = one_state loop_place 0 j ∷ []
strokes_of propagate_arc d i j = propagate_strokes d i j
strokes_of (fork_arc xs) d i j =
    one_state scatter-block d (suc (last_start xs))
    ∷ one_state scatter-source d i
    ∷ stroke gather-block d (first_end xs) j
    ∷ one_state gather-target d j
    ∷ each (way_strokes d) xs
strokes_of back_arc d i j = back_strokes d i j

-- ---- some stroke passes a test g
module _ (g : Stroke → Bool) where
  abbrev pub passes : Arc → Bool
  passes e = any g (strokes_of e.kind e.level e.from e.to)

  pub any_if : (b : Bool) (ss : List Stroke) → any g (cond b ss []) ≡ (b && any g ss)
  any_if true ss = refl
  any_if false ss = refl

  -- a letter: its own arc, its loop, its propagate edge
  pub letter-strokes : (r : Repeat) (c t d : ℕ) → any g (letter_strokes r t d) ≡ letter_test passes c r d t
  letter-strokes r c t d =
      ap₂ ◌||◌ (sym (or-false (g (one_state letter-place 0 (suc t)))))
      (any_app g (cond (can_loop r) loops []) (cond (can_skip r) skips []) ∙ ap₂ ◌||◌ (any_if (can_loop r) loops) (any_if (can_skip r) skips))
    where
      loops : List Stroke
      loops = one_state loop_place 0 (suc t) ∷ []

      skips : List Stroke
      skips = propagate_strokes d t (suc t)

  -- the bars and the end of the alternatives after state p, of a union at depth d with the frame f
  abbrev pub tail_test : Alts → ℕ → ℕ → Frame → Bool
  tail_test (last s) p d f = any g (end_strokes f (seq_end s (suc p)) d)
  tail_test (more s a) p d f = let z = seq_end s (suc p) in any g (bar_strokes z d) || tail_test a z d (next_alternative f z (seq_empty s))

  module _ (d : ℕ) where
    abbrev starts : ℕ → Bool
    starts p = g (one_state scatter-target d (suc p))

    abbrev ends : ℕ → Bool
    ends z = g (one_state gather-source d z)

    -- what is left of a fork's strokes without the union's start
    abbrev rest : Alts → ℕ → ℕ → Bool
    rest a p first =
        g (one_state scatter-block d (suc (last_start (ways a p))))
        || (g (stroke gather-block d first (suc (alts_end a p))) || (g (one_state gather-target d (suc (alts_end a p))) || any g (each (way_strokes d) (ways a p))))

    tail_is : (a : Alts) (p : ℕ) (f : Frame) → f.alternative ≡ suc p
        → (starts p || tail_test a p d f) ≡ rest a p (cond f.barred f.first_end (first_end (ways a p)))
    tail_is (last s) p f e =
        ap (λ (y : ℕ). starts p || (g (one_state scatter-block d (suc y)) || (G || (ends z || (C || false))))) e
        ∙ go (starts p) (g (one_state scatter-block d (suc (suc p)))) G (ends z) C
      where
        z : ℕ
        z = seq_end s (suc p)

        G : Bool
        G = g (stroke gather-block d (cond f.barred f.first_end z) (suc z))

        C : Bool
        C = g (one_state gather-target d (suc z))

        go : (o b h e c : Bool) → (o || (b || (h || (e || (c || false))))) ≡ (b || (h || (c || (o || (e || false)))))
        go o b h e c = simp or_left_comm
    tail_is (more s a) p f e =
        before (starts p) (starts z) (ends z) (tail_test a z d h)
        ∙ ap (λ (y : Bool). starts p || (ends z || y)) (tail_is a z h refl)
        ∙ after (starts p) (ends z) B G C W
        ∙ ap (λ (y : ℕ). g (one_state scatter-block d (suc y)) || (G || (C || (starts p || (ends z || W))))) (sym (last_of a p z))
      where
        z : ℕ
        z = seq_end s (suc p)

        h : Frame
        h = next_alternative f z (seq_empty s)

        B : Bool
        B = g (one_state scatter-block d (suc (last_start (ways a z))))

        G : Bool
        G = g (stroke gather-block d (cond f.barred f.first_end z) (suc (alts_end a z)))

        C : Bool
        C = g (one_state gather-target d (suc (alts_end a z)))

        W : Bool
        W = any g (each (way_strokes d) (ways a z))

        before : (o n e t : Bool) → (o || ((n || (e || false)) || t)) ≡ (o || (e || (n || t)))
        before o n e t = simp (or_assoc, or_left_comm)

        after : (o e b h c w : Bool) → (o || (e || (b || (h || (c || w))))) ≡ (b || (h || (c || (o || (e || w)))))
        after o e b h c w = simp or_left_comm

    -- a union's open, bars and end are its fork
    pub union_strokes : (a : Alts) (q : Scan)
        → (any g (open_strokes q.position d) || tail_test a q.position d (opened q))
        ≡ passes (arc (fork_arc (ways a q.position)) d q.position (suc (alts_end a q.position)))
    union_strokes a q =
        or_assoc S (starts t || false) (tail_test a t d (opened q))
        ∙ ap (λ (y : Bool). S || (y || tail_test a t d (opened q))) (or-false (starts t))
        ∙ ap (λ (y : Bool). S || y) (tail_is a t (opened q) refl)
        ∙ or_left_comm S (g (one_state scatter-block d (suc (last_start (ways a t))))) _
      where
        t : ℕ
        t = q.position

        S : Bool
        S = g (one_state scatter-source d t)

-- ---- the places of an arc, in each plane that has any, by the planes' numbers
abbrev Place : Type 0
Place = Plane × (ℕ → Bool)

abbrev pub places : ArcKind → ℕ → ℕ → List Place
places (letter_arc c) i j = (letter-place, λ x. eqb x j) ∷ []
places (loop_arc c) i j = (loop_place, λ x. eqb x j) ∷ []
places propagate_arc i j = (leaving, λ x. eqb x i) ∷ (entering, λ x. eqb x j) ∷ []
places (fork_arc xs) i j =
    (scatter-block, λ x. eqb x (suc (last_start xs)))
    ∷ (scatter-source, λ x. eqb x i)
    ∷ (scatter-target, λ x. within x (starts_of xs))
    ∷ (gather-block, λ x. leb (first_end xs) x && ltb x j)
    ∷ (gather-source, λ x. within x (ends_of xs))
    ∷ (gather-target, λ x. eqb x j)
    ∷ []
places back_arc i j = (back-source, λ x. eqb x i) ∷ (back-target, λ x. eqb x j) ∷ []

abbrev pub set_of : Plane → List Place → ℕ → Bool
set_of w [] x = false
set_of w (p ∷ ps) x = cond (same_plane p.0 w) (p.1 x) (set_of w ps x)

abbrev pub on_kind : Plane → ℕ → ArcKind → ℕ → ℕ → Bool
on_kind w x a i j = set_of w (places a i j) x

-- letter and loop places have no depth of their own
abbrev pub level_of : Plane → ℕ → ℕ
level_of w d = cond (ltb (number w) 2) 0 d

abbrev pub on : Plane → ℕ → ℕ → Arc → Bool
on w k x e = on_kind w x e.kind e.from e.to && eqb (level_of w e.level) k

-- ---- an arc's strokes have its places
module _ (w : Plane) (k x : ℕ) where
  pub one_marks : (v : Plane) (d y : ℕ) → marks w k x (one_state v d y) ≡ (same_plane v w && (eqb x y && eqb d k))
  one_marks v d y = ap (λ (b : Bool). same_plane v w && (b && eqb d k)) (same_truth (leb y x && ltb x (suc y)) (eqb x y) there back)
    where
      there : T (leb y x && ltb x (suc y)) → T (eqb x y)
      there t =
          let c = and_split (leb y x) (ltb x (suc y)) t in
          let e : x ≡ y = omega (arith, leb→le y x c.0, ltb→lt x (suc y) c.1) in
          subst (λ (z : ℕ). T (eqb x z)) e (eqb_refl x)

      back : T (eqb x y) → T (leb y x && ltb x (suc y))
      back t = let e = eqb→eq x y t in and_both (leb y x) (ltb x (suc y)) (le→leb y x (omega arith)) (lt→ltb x (suc y) (omega arith))

  module _ (d : ℕ) where
    abbrev hit : Place → Bool
    hit p = same_plane p.0 w && (p.1 x && eqb (level_of p.0 d) k)

    -- the kinds' numbers rise from n on, so the place of kind w is the only one
    abbrev Rising : ℕ → List Place → Type 0
    Rising n [] = Unit
    Rising n (p ∷ ps) = (n ≤ number p.0) × Rising (suc (number p.0)) ps

    none_hit : (n : ℕ) (ps : List Place) → Rising n ps → number w < n → any hit ps ≡ false
    none_hit n [] R h = refl
    none_hit n (p ∷ ps) R h =
        ap₂ (λ (b o : Bool). (b && (p.1 x && eqb (level_of p.0 d) k)) || o) (unequal (number p.0) (number w) (λ e. omega (arith, R.0)))
        (none_hit (suc (number p.0)) ps R.1 (omega (arith, R.0)))

    hit_is : (n : ℕ) (ps : List Place) → Rising n ps → any hit ps ≡ (set_of w ps x && eqb (level_of w d) k)
    hit_is n [] R = refl
    hit_is n (p ∷ ps) R = go (same_plane p.0 w) (λ t. eqb→eq (number p.0) (number w) t) (hit_is (suc (number p.0)) ps R.1)
      where
        rest : Bool → Bool
        rest b = (b && (p.1 x && eqb (level_of p.0 d) k)) || any hit ps

        go : (b : Bool) → (T b → number p.0 ≡ number w) → any hit ps ≡ (set_of w ps x && eqb (level_of w d) k)
            → rest b ≡ (cond b (p.1 x) (set_of w ps x) && eqb (level_of w d) k)
        go true e later =
            ap (λ (o : Bool). (p.1 x && eqb (level_of p.0 d) k) || o) (none_hit (suc (number p.0)) ps R.1 (omega (arith, e tt)))
            ∙ or-false (p.1 x && eqb (level_of p.0 d) k)
            ∙ ap (λ (n : ℕ). p.1 x && eqb (cond (ltb n 2) 0 d) k) (e tt)
        go false e later = later

    -- a fork's alternatives start in the places of one kind and end in those of another
    abbrev starting : List Way → Bool
    starting xs = hit (scatter-target, λ x. within x (starts_of xs))

    abbrev ending : List Way → Bool
    ending xs = hit (gather-source, λ x. within x (ends_of xs))

    ways_are : (xs : List Way) → any (marks w k x) (each (way_strokes d) xs) ≡ (starting xs || (ending xs || false))
    ways_are [] = sym (ap₂ (λ (a b : Bool). a || (b || false)) (and-false (same_plane scatter-target w)) (and-false (same_plane gather-source w)))
    ways_are (a ∷ xs) =
        (λ i. one_marks scatter-target d a.0 i || (one_marks gather-source d a.1 i || ways_are xs i))
        ∙ go (same_plane scatter-target w) (same_plane gather-source w) (eqb d k) (eqb x a.0) (eqb x a.1) (within x (starts_of xs)) (within x (ends_of xs))
      where
        go : (s e o a b u v : Bool)
            → ((s && (a && o)) || ((e && (b && o)) || ((s && (u && o)) || ((e && (v && o)) || false)))) ≡ ((s && ((a || u) && o)) || ((e && ((b || v) && o)) || false))
        go true true o a b u v = simp (and-or_distrib_right, or_assoc, or_left_comm)
        go true false o a b u v = simp (and-or_distrib_right, or_assoc)
        go false true o a b u v = simp (and-or_distrib_right, or_assoc)
        go false false o a b u v = refl

    pub passes_on : (a : ArcKind) (i j : ℕ) → passes (marks w k x) (arc a d i j) ≡ on w k x (arc a d i j)
    passes_on (letter_arc c) i j = ap (λ (b : Bool). b || false) (one_marks letter-place 0 j) ∙ hit_is 0 (places (letter_arc c) i j) (omega arith, tt)
    passes_on (loop_arc c) i j = ap (λ (b : Bool). b || false) (one_marks loop_place 0 j) ∙ hit_is 0 (places (loop_arc c) i j) (omega arith, tt)
    passes_on propagate_arc i j =
        ap₂ (λ (a b : Bool). a || (b || false)) (one_marks leaving d i) (one_marks entering d j) ∙ hit_is 0 (places propagate_arc i j) (omega arith, (omega arith, tt))
    passes_on (fork_arc xs) i j =
        (λ n. one_marks scatter-block d (suc (last_start xs)) n || (one_marks scatter-source d i n || (G || (one_marks gather-target d j n || ways_are xs n))))
        ∙ go (hit (scatter-block, λ x. eqb x (suc (last_start xs)))) (hit (scatter-source, λ x. eqb x i)) G (hit (gather-target, λ x. eqb x j)) (starting xs) (ending xs)
        ∙ hit_is 0 (places (fork_arc xs) i j) (omega arith, (omega arith, (omega arith, (omega arith, (omega arith, (omega arith, tt))))))
      where
        G : Bool
        G = marks w k x (stroke gather-block d (first_end xs) j)

        go : (b s g t u v : Bool) → (b || (s || (g || (t || (u || (v || false)))))) ≡ (b || (s || (u || (g || (v || (t || false))))))
        go b s g t u v = simp or_left_comm
    passes_on back_arc i j =
        ap₂ (λ (a b : Bool). a || (b || false)) (one_marks back-source d i) (one_marks back-target d j) ∙ hit_is 0 (places back_arc i j) (omega arith, (omega arith, tt))
