-- THE MASKS OF AN IMAGE'S OWN WORDS: the masks of a tree hold its sets, both as they are made and as they stand in the words of its image.
use mathlib.Core.Path.{◌≡◌, sym, ap, ◌∙◌, subst}
use mathlib.Core.Bool.{Bool}
use mathlib.Core.List.{List}
use Prim.Native.Nat.{ℕ, zero, suc, ◌*◌, ◌≤◌, ◌<◌}
use native.Mathlib.Nat.{le_refl}
use native.Mathlib.Omega.{arith}
use lib.ListN.{get_or}
use Rattle.model.specs.Tree.{Seq}
use Rattle.model.specs.Edges.{depth, seq_end}
use Rattle.model.specs.Image.{width}
use Rattle.model.specs.Models.Sections.{back_in, chunk, gather_in, letters_in, propagate_in, repeats_in, scatter_in, width_word}
use Rattle.model.specs.Models.LayOut.{back-source, back-target, block_of, gather-block, gather-source, gather-target, scatter-block, scatter-source, scatter-target, set, source_of, target_of, three, two}
use Rattle.model.specs.Models.Run.{Masks}
use Rattle.model.proofs.Ends.Run.{letter_set, loop_set, start_set}
use Rattle.model.proofs.Image.Rows.{room, three_0, three_1, three_2, two_0, two_1, wide}
use Rattle.model.proofs.Image.Sections.{part_back, part_gather, part_letters, part_propagate, part_repeats, part_scatter}
use Rattle.model.proofs.Image.Sets.{arc_image, tree_set}
use Rattle.model.proofs.Language.Arcs.{arcs}
use Rattle.model.proofs.Words.Holds.{Holds, set_holds}
use Rattle.model.proofs.Words.Run.{Carry}

-- ---- a tree's three sets of a depth for scatter, gather and propagate: block (0), source (1) and target (2)
abbrev scatter_sets : Seq → ℕ → ℕ → ℕ → Bool
scatter_sets s k zero = tree_set s scatter-block k
scatter_sets s k (suc zero) = tree_set s scatter-source k
scatter_sets s k (suc (suc j)) = tree_set s scatter-target k

abbrev gather_sets : Seq → ℕ → ℕ → ℕ → Bool
gather_sets s k zero = tree_set s gather-block k
gather_sets s k (suc zero) = tree_set s gather-source k
gather_sets s k (suc (suc j)) = tree_set s gather-target k

abbrev propagate_sets : Seq → ℕ → ℕ → ℕ → Bool
propagate_sets s k zero = block_of (tree_set s) k
propagate_sets s k (suc zero) = source_of (tree_set s) k
propagate_sets s k (suc (suc j)) = target_of (tree_set s) k

abbrev back_sets : Seq → ℕ → ℕ → ℕ → Bool
back_sets s k zero = tree_set s back-source k
back_sets s k (suc j) = tree_set s back-target k

-- ---- the masks of the tree itself, in any number of words that has room
abbrev pub tree_masks : ℕ → ℕ → Seq → Masks
tree_masks m W s = record {
  letter_mask = λ b. set m W (letter_set (arcs s 0 0) b);
  loop_mask = λ b. set m W (loop_set (arcs s 0 0) b);
  scatter_mask = λ k j. set m W (scatter_sets s k j);
  gather_mask = λ k j. set m W (gather_sets s k j);
  propagate_mask = λ k j. set m W (propagate_sets s k j);
  back_mask = λ k j. set m W (back_sets s k j);
  start_mask = set m W start_set;
}

pub tree_carry : (m W : ℕ) (s : Seq) → m ≤ wide W → seq_end s 0 < m → Carry m W s (tree_masks m W s)
tree_carry m W s r l = record {
  room = r;
  whole = l;
  letters = λ b l. set_holds m W (letter_set (arcs s 0 0) b) r;
  loops = λ b l. set_holds m W (loop_set (arcs s 0 0) b) r;
  scatter-block = λ k l. set_holds m W (scatter_sets s k 0) r;
  scatter-source = λ k l. set_holds m W (scatter_sets s k 1) r;
  scatter-target = λ k l. set_holds m W (scatter_sets s k 2) r;
  gather-block = λ k l. set_holds m W (gather_sets s k 0) r;
  gather-source = λ k l. set_holds m W (gather_sets s k 1) r;
  gather-target = λ k l. set_holds m W (gather_sets s k 2) r;
  propagate-block = λ k l. set_holds m W (propagate_sets s k 0) r;
  propagate-source = λ k l. set_holds m W (propagate_sets s k 1) r;
  propagate-target = λ k l. set_holds m W (propagate_sets s k 2) r;
  back-source = λ k l. set_holds m W (back_sets s k 0) r;
  back-target = λ k l. set_holds m W (back_sets s k 1) r;
  start = set_holds m W start_set r;
}

-- ---- the masks as they stand in the words of an image
abbrev image_masks : List ℕ → Masks
image_masks ws =
    let W = width_word ws in
    record {
      letter_mask = λ b. chunk W b (letters_in ws);
      loop_mask = λ b. chunk W b (repeats_in ws);
      scatter_mask = λ k j. chunk W j (chunk (3 * W) k (scatter_in ws));
      gather_mask = λ k j. chunk W j (chunk (3 * W) k (gather_in ws));
      propagate_mask = λ k j. chunk W j (chunk (3 * W) k (propagate_in ws));
      back_mask = λ k j. chunk W j (chunk (2 * W) k (back_in ws));
      start_mask = set (get_or ws 1 0) W start_set;
    }

module _ (s : Seq) where
  abbrev m : ℕ
  m = suc (seq_end s 0)

  abbrev W : ℕ
  W = width m

  at_set : (xs : List ℕ) (f : ℕ → Bool) → xs ≡ set m W f → Holds m W xs f
  at_set xs f e = subst (λ (l : List ℕ). Holds m W l f) (sym e) (set_holds m W f (room m))

  -- of the three masks f 0, f 1 and f 2 of one depth, each
  module _ (f : ℕ → ℕ → Bool) (part : List ℕ) (e : part ≡ three m W (f 0) (f 1) (f 2)) where
    first : Holds m W (chunk W 0 part) (f 0)
    first = at_set (chunk W 0 part) (f 0) (ap (chunk W 0) e ∙ three_0 m W (f 0) (f 1) (f 2))

    second : Holds m W (chunk W 1 part) (f 1)
    second = at_set (chunk W 1 part) (f 1) (ap (chunk W 1) e ∙ three_1 m W (f 0) (f 1) (f 2))

    third : Holds m W (chunk W 2 part) (f 2)
    third = at_set (chunk W 2 part) (f 2) (ap (chunk W 2) e ∙ three_2 m W (f 0) (f 1) (f 2))

  -- of the two masks f 0 and f 1 of the back edges of one depth, each
  module _ (f : ℕ → ℕ → Bool) (part : List ℕ) (e : part ≡ two m W (f 0) (f 1)) where
    one : Holds m W (chunk W 0 part) (f 0)
    one = at_set (chunk W 0 part) (f 0) (ap (chunk W 0) e ∙ two_0 m W (f 0) (f 1))

    other : Holds m W (chunk W 1 part) (f 1)
    other = at_set (chunk W 1 part) (f 1) (ap (chunk W 1) e ∙ two_1 m W (f 0) (f 1))

  abbrev L : ℕ → ℕ → Bool
  L = letter_set (arcs s 0 0)

  abbrev R : ℕ → ℕ → Bool
  R = loop_set (arcs s 0 0)

  scatter-part : (k : ℕ) → k < depth s → chunk (3 * W) k (scatter_in (arc_image s)) ≡ three m W (scatter_sets s k 0) (scatter_sets s k 1) (scatter_sets s k 2)
  scatter-part k l = part_scatter m W (depth s) L R (tree_set s) k l

  gather-part : (k : ℕ) → k < depth s → chunk (3 * W) k (gather_in (arc_image s)) ≡ three m W (gather_sets s k 0) (gather_sets s k 1) (gather_sets s k 2)
  gather-part k l = part_gather m W (depth s) L R (tree_set s) k l

  propagate-part : (k : ℕ) → k ≤ depth s → chunk (3 * W) k (propagate_in (arc_image s)) ≡ three m W (propagate_sets s k 0) (propagate_sets s k 1) (propagate_sets s k 2)
  propagate-part k l = part_propagate m W (depth s) L R (tree_set s) k (omega arith)

  back-part : (k : ℕ) → k < depth s → chunk (2 * W) k (back_in (arc_image s)) ≡ two m W (back_sets s k 0) (back_sets s k 1)
  back-part k l = part_back m W (depth s) L R (tree_set s) k l

  -- THE IMAGE'S OWN WORDS HOLD THE TREE'S SETS
  pub image_carry : Carry m W s (image_masks (arc_image s))
  image_carry = record {
    room = room m;
    whole = le_refl m;
    letters = λ b l. at_set (chunk W b (letters_in (arc_image s))) (L b) (part_letters m W (depth s) L R (tree_set s) b l);
    loops = λ b l. at_set (chunk W b (repeats_in (arc_image s))) (R b) (part_repeats m W (depth s) L R (tree_set s) b l);
    scatter-block = λ k l. first (scatter_sets s k) (chunk (3 * W) k (scatter_in (arc_image s))) (scatter-part k l);
    scatter-source = λ k l. second (scatter_sets s k) (chunk (3 * W) k (scatter_in (arc_image s))) (scatter-part k l);
    scatter-target = λ k l. third (scatter_sets s k) (chunk (3 * W) k (scatter_in (arc_image s))) (scatter-part k l);
    gather-block = λ k l. first (gather_sets s k) (chunk (3 * W) k (gather_in (arc_image s))) (gather-part k l);
    gather-source = λ k l. second (gather_sets s k) (chunk (3 * W) k (gather_in (arc_image s))) (gather-part k l);
    gather-target = λ k l. third (gather_sets s k) (chunk (3 * W) k (gather_in (arc_image s))) (gather-part k l);
    propagate-block = λ k l. first (propagate_sets s k) (chunk (3 * W) k (propagate_in (arc_image s))) (propagate-part k l);
    propagate-source = λ k l. second (propagate_sets s k) (chunk (3 * W) k (propagate_in (arc_image s))) (propagate-part k l);
    propagate-target = λ k l. third (propagate_sets s k) (chunk (3 * W) k (propagate_in (arc_image s))) (propagate-part k l);
    back-source = λ k l. one (back_sets s k) (chunk (2 * W) k (back_in (arc_image s))) (back-part k l);
    back-target = λ k l. other (back_sets s k) (chunk (2 * W) k (back_in (arc_image s))) (back-part k l);
    start = set_holds m W start_set (room m);
  }
