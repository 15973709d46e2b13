-- The image assembled by the arcs is the image of document 01: a test of the parts of a tree, or of its edges, is a test of its arcs, since a
-- letter's arcs are its edges and a union's fork stands for its scatter and gather edges.
use mathlib.Core.Path.{◌≡◌, refl, sym, ap, ap₂, ◌∙◌}
use mathlib.Core.Bool.{Bool, true, false, ◌&&◌, ◌||◌, and-false, or-false}
use mathlib.Core.List.{List, [], ◌∷◌, ◌++◌, map}
use Prim.Native.Nat.{ℕ, suc}
use lib.Dec.{leb, ltb, eqb}
use Rattle.model.specs.Lists.{any, within}
use Rattle.model.specs.Tree.{can_loop, can_skip, Repeat, Seq}
use Rattle.model.specs.Edges.{back_edge, by_letter, by_loop, depth, Edge, edge, edges, edges_of, ends_of, gather_edge, is_back, is_propagate, letter_at, letter_edge, loop_edge, Part, parts, propagate_edge, return_at, scatter_edge, starts_of, states, union_at, Way}
use Rattle.model.specs.Edges.{when as whenEdge}
use Rattle.model.specs.Image.{back_source, back_target, enters, first_end, gather_block, gather_source, gather_target, image, last_start, leaves, letters, repeats, scatter_block, scatter_source, scatter_target, union_test, width}
use Rattle.model.specs.Models.LayOut.{back-source, back-target, entering, gather-block, gather-source, gather-target, leaving, letter-place, loop_place, scatter-block, scatter-source, scatter-target, Plane}
use Rattle.model.proofs.Ends.Run.{letter_set, loops_byte, loop_set, takes_byte}
use Rattle.model.proofs.Image.ArcTests.{any_when, branch_test, letter_test}
use Rattle.model.proofs.Image.Laid.{assemble_same}
use Rattle.model.proofs.Image.Marks.{on}
use Rattle.model.proofs.Image.Places.{arcs_set}
use Rattle.model.proofs.Image.Sets.{arc_image, tree_set}
use Rattle.model.proofs.Language.Arcs.{Arc, arc, arcs, back_arc, fork_arc, letter_arc, loop_arc, propagate_arc, when}
use Rattle.model.proofs.Language.Parts.{arcs_are, arcs_of}
use Rattle.model.proofs.Laws.Each.{any_each, any_map_none, any_same}
use Rattle.model.proofs.Laws.Lists.{any_app}

-- ---- a test p of the parts as a test g of the arcs
module _ (p : Part → Bool) (g : Arc → Bool) (at_letter : (c : ℕ) (r : Repeat) (k i : ℕ) → p (letter_at c r k i) ≡ letter_test g c r k i)
    (at_union : (b : Bool) (k t : ℕ) (ws : List Way) (u : ℕ) → p (union_at b k t ws u) ≡ branch_test g b k t ws u)
    (at_return_lem : (k q r : ℕ) → p (return_at k q r) ≡ g (arc back_arc k q r)) where
  part_any : (x : Part) → p x ≡ any g (arcs_of x)
  part_any (letter_at c r k i) =
      at_letter c r k i
      ∙ ap (λ (v : Bool). g (arc (letter_arc c) k i (suc i)) || v)
      (sym (any_when g (can_loop r) loops (when (can_skip r) skips [])
      ∙ ap (λ (v : Bool). (can_loop r && g loops) || v) (any_when g (can_skip r) skips [] ∙ or-false (can_skip r && g skips))))
    where
      loops : Arc
      loops = arc (loop_arc c) k (suc i) (suc i)

      skips : Arc
      skips = arc propagate_arc k i (suc i)
  part_any (union_at b k t ws u) =
      at_union b k t ws u
      ∙ sym (any_when g b (arc propagate_arc k t u) (arc (fork_arc ws) k t u ∷ []) ∙ ap (λ (v : Bool). (b && g (arc propagate_arc k t u)) || v) (or-false (g (arc (fork_arc ws) k t u))))
  part_any (return_at k q r) = at_return_lem k q r ∙ sym (or-false (g (arc back_arc k q r)))

  parts_any : (s : Seq) → any p (parts s 0 0) ≡ any g (arcs s 0 0)
  parts_any s = any_same p (λ x. any g (arcs_of x)) part_any (parts s 0 0) ∙ sym (ap (any g) (arcs_are s) ∙ any_each arcs_of g (parts s 0 0))

-- ---- a test h of the edges as a test g of the arcs: no scatter or gather edge passes, and no fork
module _ (h : Edge → Bool) (g : Arc → Bool) (at_letter : (c k i j : ℕ) → h (edge (letter_edge c) k i j) ≡ g (arc (letter_arc c) k i j))
    (at_loop : (c k i j : ℕ) → h (edge (loop_edge c) k i j) ≡ g (arc (loop_arc c) k i j))
    (at_propagate : (k i j : ℕ) → h (edge propagate_edge k i j) ≡ g (arc propagate_arc k i j))
    (at_scatter : (k i j : ℕ) → h (edge scatter_edge k i j) ≡ false) (at_gather : (k i j : ℕ) → h (edge gather_edge k i j) ≡ false)
    (at_fork : (xs : List Way) (k i j : ℕ) → g (arc (fork_arc xs) k i j) ≡ false) (at_back : (k i j : ℕ) → h (edge back_edge k i j) ≡ g (arc back_arc k i j)) where
  any_edge : (b : Bool) (e : Edge) → any h (whenEdge b e) ≡ (b && h e)
  any_edge true e = or-false (h e)
  any_edge false e = refl

  letter_edges : (c : ℕ) (r : Repeat) (k i : ℕ) → any h (edges_of (letter_at c r k i)) ≡ letter_test g c r k i
  letter_edges c r k i =
      ap₂ ◌||◌ (at_letter c k i (suc i))
      (any_app h (whenEdge (can_loop r) (edge (loop_edge c) k (suc i) (suc i))) (whenEdge (can_skip r) (edge propagate_edge k i (suc i)))
      ∙ ap₂ ◌||◌ (any_edge (can_loop r) (edge (loop_edge c) k (suc i) (suc i)) ∙ ap (λ (v : Bool). can_loop r && v) (at_loop c k (suc i) (suc i)))
      (any_edge (can_skip r) (edge propagate_edge k i (suc i)) ∙ ap (λ (v : Bool). can_skip r && v) (at_propagate k i (suc i))))

  union_edges : (b : Bool) (k t : ℕ) (ws : List Way) (u : ℕ) → any h (edges_of (union_at b k t ws u)) ≡ branch_test g b k t ws u
  union_edges b k t ws u =
      any_app h (map (λ a. edge scatter_edge k t a.0) ws) (map (λ a. edge gather_edge k a.1 u) ws ++ whenEdge b (edge propagate_edge k t u))
      ∙ ap₂ ◌||◌ (any_map_none (λ a. edge scatter_edge k t a.0) h (λ a. at_scatter k t a.0) ws)
      (any_app h (map (λ a. edge gather_edge k a.1 u) ws) (whenEdge b (edge propagate_edge k t u))
      ∙ ap₂ ◌||◌ (any_map_none (λ a. edge gather_edge k a.1 u) h (λ a. at_gather k a.1 u) ws)
      (any_edge b (edge propagate_edge k t u) ∙ ap (λ (v : Bool). b && v) (at_propagate k t u)))
      ∙ sym (ap (λ (v : Bool). (b && g (arc propagate_arc k t u)) || v) (at_fork ws k t u) ∙ or-false (b && g (arc propagate_arc k t u)))

  edges_any : (s : Seq) → any h (edges s) ≡ any g (arcs s 0 0)
  edges_any s = any_each edges_of h (parts s 0 0) ∙ parts_any (λ p. any h (edges_of p)) g letter_edges union_edges (λ k q r. or-false (h (edge back_edge k q r)) ∙ at_back k q r) s

-- ---- the sets
pub letters-of : (s : Seq) (b x : ℕ) → letters s b x ≡ letter_set (arcs s 0 0) b x
letters-of s b x =
    edges_any (λ e. by_letter b e.kind && eqb x e.to) (λ e. takes_byte b e.kind && eqb x e.to) (λ c k i j. refl) (λ c k i j. refl) (λ k i j. refl)
    (λ k i j. refl) (λ k i j. refl) (λ xs k i j. refl) (λ k i j. refl) s

pub repeats-of : (s : Seq) (b x : ℕ) → repeats s b x ≡ loop_set (arcs s 0 0) b x
repeats-of s b x =
    edges_any (λ e. by_loop b e.kind && eqb x e.to) (λ e. loops_byte b e.kind && eqb x e.to) (λ c k i j. refl) (λ c k i j. refl) (λ k i j. refl)
    (λ k i j. refl) (λ k i j. refl) (λ xs k i j. refl) (λ k i j. refl) s

leaves_of : (s : Seq) (k x : ℕ) → leaves s k x ≡ tree_set s leaving k x
leaves_of s k x =
    edges_any (λ e. (is_propagate e.kind && eqb x e.from) && eqb e.level k) (on leaving k x) (λ c k i j. refl) (λ c k i j. refl) (λ k i j. refl)
    (λ k i j. refl) (λ k i j. refl) (λ xs k i j. refl) (λ k i j. refl) s
    ∙ arcs_set s leaving k x

enters-of : (s : Seq) (k x : ℕ) → enters s k x ≡ tree_set s entering k x
enters-of s k x =
    edges_any (λ e. (is_propagate e.kind && eqb x e.to) && eqb e.level k) (on entering k x) (λ c k i j. refl) (λ c k i j. refl) (λ k i j. refl)
    (λ k i j. refl) (λ k i j. refl) (λ xs k i j. refl) (λ k i j. refl) s
    ∙ arcs_set s entering k x

back_sources_of : (s : Seq) (k x : ℕ) → back_source s k x ≡ tree_set s back-source k x
back_sources_of s k x =
    edges_any (λ e. (is_back e.kind && eqb x e.from) && eqb e.level k) (on back-source k x) (λ c k i j. refl) (λ c k i j. refl) (λ k i j. refl)
    (λ k i j. refl) (λ k i j. refl) (λ xs k i j. refl) (λ k i j. refl) s

back_targets_of : (s : Seq) (k x : ℕ) → back_target s k x ≡ tree_set s back-target k x
back_targets_of s k x =
    edges_any (λ e. (is_back e.kind && eqb x e.to) && eqb e.level k) (on back-target k x) (λ c k i j. refl) (λ c k i j. refl) (λ k i j. refl)
    (λ k i j. refl) (λ k i j. refl) (λ xs k i j. refl) (λ k i j. refl) s

-- a mask of unions: no letter and no propagate edge marks a place, and a union passes as its fork does
unions_of : (w : Plane) (f : ℕ → List Way → ℕ → Bool) (s : Seq) (k x : ℕ) → ((c d i j : ℕ) → on w k x (arc (letter_arc c) d i j) ≡ false)
    → ((c d i j : ℕ) → on w k x (arc (loop_arc c) d i j) ≡ false) → ((d i j : ℕ) → on w k x (arc propagate_arc d i j) ≡ false) → ((ws : List Way) (d i j : ℕ) → (f i ws j && eqb d k) ≡ on w k x (arc (fork_arc ws) d i j))
    → ((d i j : ℕ) → on w k x (arc back_arc d i j) ≡ false) → any (union_test k f) (parts s 0 0) ≡ tree_set s w k x
unions_of w f s k x no_letter no_loop no-propagate at_fork no_back = parts_any (union_test k f) (on w k x) at_letter at_union (λ d i j. sym (no_back d i j)) s ∙ arcs_set s w k x
  where
    at_letter : (c : ℕ) (r : Repeat) (d i : ℕ) → false ≡ letter_test (on w k x) c r d i
    at_letter c r d i =
        sym (ap₂ ◌||◌ (no_letter c d i (suc i)) (ap₂ ◌||◌ (ap (λ (v : Bool). can_loop r && v) (no_loop c d (suc i) (suc i)) ∙ and-false (can_loop r))
        (ap (λ (v : Bool). can_skip r && v) (no-propagate d i (suc i)) ∙ and-false (can_skip r))))

    at_union : (b : Bool) (d t : ℕ) (ws : List Way) (u : ℕ) → (f t ws u && eqb d k) ≡ branch_test (on w k x) b d t ws u
    at_union b d t ws u =
        at_fork ws d t u ∙ ap (λ (v : Bool). v || on w k x (arc (fork_arc ws) d t u)) (sym (ap (λ (v : Bool). b && v) (no-propagate d t u) ∙ and-false b))

-- the sets of the image; letter and loop places have no mask there
abbrev pub edge_set : Seq → Plane → ℕ → ℕ → Bool
edge_set s letter-place = tree_set s letter-place
edge_set s loop_place = tree_set s loop_place
edge_set s scatter-block = scatter_block s
edge_set s scatter-source = scatter_source s
edge_set s scatter-target = scatter_target s
edge_set s gather-block = gather_block s
edge_set s gather-source = gather_source s
edge_set s gather-target = gather_target s
edge_set s leaving = leaves s
edge_set s entering = enters s
edge_set s back-source = back_source s
edge_set s back-target = back_target s

pub edge_sets : (s : Seq) (w : Plane) (k x : ℕ) → edge_set s w k x ≡ tree_set s w k x
edge_sets s letter-place k x = refl
edge_sets s loop_place k x = refl
edge_sets s scatter-block k x =
    unions_of scatter-block (λ start ws close. eqb x (suc (last_start ws))) s k x (λ c d i j. refl) (λ c d i j. refl) (λ d i j. refl) (λ ws d i j. refl) (λ d i j. refl)
edge_sets s scatter-source k x = unions_of scatter-source (λ start ws close. eqb x start) s k x (λ c d i j. refl) (λ c d i j. refl) (λ d i j. refl) (λ ws d i j. refl) (λ d i j. refl)
edge_sets s scatter-target k x = unions_of scatter-target (λ start ws close. within x (starts_of ws)) s k x (λ c d i j. refl) (λ c d i j. refl) (λ d i j. refl) (λ ws d i j. refl) (λ d i j. refl)
edge_sets s gather-block k x =
    unions_of gather-block (λ start ws close. leb (first_end ws) x && ltb x close) s k x (λ c d i j. refl) (λ c d i j. refl) (λ d i j. refl) (λ ws d i j. refl) (λ d i j. refl)
edge_sets s gather-source k x = unions_of gather-source (λ start ws close. within x (ends_of ws)) s k x (λ c d i j. refl) (λ c d i j. refl) (λ d i j. refl) (λ ws d i j. refl) (λ d i j. refl)
edge_sets s gather-target k x = unions_of gather-target (λ start ws close. eqb x close) s k x (λ c d i j. refl) (λ c d i j. refl) (λ d i j. refl) (λ ws d i j. refl) (λ d i j. refl)
edge_sets s leaving k x = leaves_of s k x
edge_sets s entering k x = enters-of s k x
edge_sets s back-source k x = back_sources_of s k x
edge_sets s back-target k x = back_targets_of s k x

-- THE IMAGE OF DOCUMENT 01 IS THE IMAGE BY THE ARCS
pub image_is : (s : Seq) → image s ≡ arc_image s
image_is s =
    assemble_same (states s) (width (states s)) (depth s) (letters s) (repeats s) (letter_set (arcs s 0 0)) (loop_set (arcs s 0 0)) (edge_set s) (tree_set s)
    (λ b x h l. letters-of s b x) (λ b x h l. repeats-of s b x) (edge_sets s)
