-- THE GATHER PASS ON BITS adds to the live states exactly what the gather edges of one depth reach.
use mathlib.Core.Path.{sym, ap, ◌∙◌, subst}
use mathlib.Core.Logic.{◌⊎◌, inl, inr, ◌↔◌}
use mathlib.Core.Bool.{Bool, ◌&&◌, ◌||◌}
use mathlib.Core.List.{List}
use Prim.Native.Nat.{ℕ}
use lib.Dec.{T, eqb, eqb→eq, eqb_refl}
use Rattle.model.specs.Lists.{◌∈◌}
use Rattle.model.specs.Tree.{Seq}
use Rattle.model.specs.Edges.{seq_end}
use Rattle.model.proofs.Language.Arcs.{arc, arcs, fork_arc}
use Rattle.model.proofs.Laws.Bool.{and_both, and_split, or_left, or_right, or_split}
use Rattle.model.proofs.Laws.Lists.{all_in, any_in, any_out, In, in_within, within_in}
use Rattle.model.proofs.Passes.Closure.{Add}
use Rattle.model.proofs.Passes.OnTrees.{Gathers}
use Rattle.model.proofs.Words.Forks.{fork_in, fork_out, forks_in_order, forks_of, Union, union_of}
use Rattle.model.proofs.Words.Full.{Full}
use Rattle.model.proofs.Words.Gather.{gather, gather_block_of, Gathered, gather_source_of, gather_target_of}
use Rattle.model.proofs.Words.Ripple.{sum_bits}

module _ (s : Seq) (F : Full s) (k : ℕ) (D : ℕ → Bool) where
  abbrev us : List Union
  us = forks_of k (arcs s 0 0)

  -- block and the live sources
  abbrev total : ℕ → Bool
  total = sum_bits (gather_block_of us) (λ j. D j && gather_source_of us j)

  abbrev pub gathered : ℕ → Bool
  gathered x = D x || (total x && gather_target_of us x)

  -- at a union's end the sum says whether an alternative's end is live
  total_is : (u : Union) → In us u → Gathered D (gather_block_of us) (λ j. D j && gather_source_of us j) u
  total_is = all_in (Gathered D (gather_block_of us) (λ j. D j && gather_source_of us j)) us (gather D (seq_end s 0) us (forks_in_order s k F))

  pub gathered_is : (x : ℕ) → T (gathered x) ↔ Add (Gathers s k) (λ q. T (D q)) x
  gathered_is x = (λ h. there (or_split (D x) (total x && gather_target_of us x) h), back)
    where
      there : T (D x) ⊎ T (total x && gather_target_of us x) → Add (Gathers s k) (λ q. T (D q)) x
      there (inl h) = inl h
      there (inr h) =
          let b = and_split (total x) (gather_target_of us x) h in
          let r = any_out (λ u. eqb x u.close) us b.1 in
          let f = fork_out k (arcs s 0 0) r.0 r.1 in
          let c = eqb→eq x r.0.close r.2 in
          let w = (total_is r.0 r.1).0 (subst (λ (y : ℕ). T (total y)) c b.0) in
          inr (
            w.0,
            w.1,
            (
              f.0,
              f.1,
              subst (λ (y : ℕ). In (arcs s 0 0) (arc (fork_arc f.0) k f.1 y)) (sym (c ∙ ap (λ (u : Union). u.close) f.4)) f.3,
              subst (λ (u : Union). w.0 ∈ u.ends) f.4 (in_within r.0.ends w.0 w.2),
            ),
          )

      back : Add (Gathers s k) (λ q. T (D q)) x → T (gathered x)
      back (inl h) = or_left (D x) (total x && gather_target_of us x) h
      back (inr h) =
          let u = union_of h.2.0 h.2.1 x in
          let i = fork_in k (arcs s 0 0) h.2.0 h.2.1 x h.2.2 in
          or_right (D x) (total x && gather_target_of us x)
          (and_both (total x) (gather_target_of us x) ((total_is u i).1 (h.0, h.1, within_in u.ends h.0 h.2.3))
          (any_in (λ u. eqb x u.close) us u i (eqb_refl x)))
