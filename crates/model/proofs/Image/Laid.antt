-- What is laid out for a tree's tokens is the tree's image: states, depth, letters, loops and marks of the tokens are those of the tree.
use mathlib.Core.Path.{◌≡◌, ◌∙◌}
use mathlib.Core.Bool.{Bool}
use mathlib.Core.List.{List, [], ◌∷◌, ◌++◌}
use Prim.Native.Nat.{ℕ, suc, ◌<◌}
use Rattle.model.specs.Tree.{Seq}
use Rattle.model.specs.Edges.{depth, seq_end}
use Rattle.model.specs.Image.{join, section, width}
use Rattle.model.specs.Models.LayOut.{assemble, back-source, back-target, begin, block_of, gather-block, gather-source, gather-target, laid, lay_out, scatter-block, scatter-source, scatter-target, set, source_of, target_of, three, token_letters, token_loops, two, Plane}
use Rattle.model.specs.Models.Tokens.{Token, tokens}
use Rattle.model.proofs.Ends.Run.{letter_set, loop_set}
use Rattle.model.proofs.Image.Depth.{reach_is}
use Rattle.model.proofs.Image.Places.{tree_sets}
use Rattle.model.proofs.Image.Rows.{join_same, set_same}
use Rattle.model.proofs.Image.Sets.{arc_image, tree_set}
use Rattle.model.proofs.Image.Shown.{letters_are, loops_are}
use Rattle.model.proofs.Image.Tokens.{length_tokens}
use Rattle.model.proofs.Language.Arcs.{arcs}

-- images of sets that agree for every byte and below m
pub assemble_same : (m W d : ℕ) (L R L' R' : ℕ → ℕ → Bool) (B B' : Plane → ℕ → ℕ → Bool)
    → ((b x : ℕ) → b < 256 → x < m → L b x ≡ L' b x) → ((b x : ℕ) → b < 256 → x < m → R b x ≡ R' b x)
    → ((w : Plane) (k x : ℕ) → B w k x ≡ B' w k x)
    → assemble m W d L R B ≡ assemble m W d L' R' B'
assemble_same m W d L R L' R' B B' hl hr hb =
    λ i. section (m ∷ W ∷ d ∷ [])
    ++ (section (join_same 256 0 (λ b. set m W (L b)) (λ b. set m W (L' b)) (λ b h. set_same m W (L b) (L' b) (λ x l. hl b x h l)) i)
    ++ (section (join_same 256 0 (λ b. set m W (R b)) (λ b. set m W (R' b)) (λ b h. set_same m W (R b) (R' b) (λ x l. hr b x h l)) i)
    ++ (section (join d 0 (λ k. three m W (λ x. hb scatter-block k x i) (λ x. hb scatter-source k x i) (λ x. hb scatter-target k x i)))
    ++ (section (join d 0 (λ k. three m W (λ x. hb gather-block k x i) (λ x. hb gather-source k x i) (λ x. hb gather-target k x i)))
    ++ (section (join (suc d) 0 (λ k. three m W (block_of (λ w k x. hb w k x i) k) (source_of (λ w k x. hb w k x i) k) (target_of (λ w k x. hb w k x i) k)))
    ++ section (join d 0 (λ k. two m W (λ x. hb back-source k x i) (λ x. hb back-target k x i))))))))

-- THE THEOREM
pub laid_is : (s : Seq) → laid (tokens s []) ≡ arc_image s
laid_is s =
    (λ i. assemble (suc (length_tokens s i)) (width (suc (length_tokens s i))) (reach_is s i) (token_letters l) (token_loops l) (lay_out l begin))
    ∙ assemble_same (suc (seq_end s 0)) (width (suc (seq_end s 0))) (depth s) (token_letters l) (token_loops l) (letter_set (arcs s 0 0)) (loop_set (arcs s 0 0))
    (lay_out l begin) (tree_set s) (λ b x h k. letters_are s b x k) (λ b x h k. loops_are s b x k) (tree_sets s)
  where
    l : List Token
    l = tokens s []
