-- ONE BYTE BACK: the states that reach one which the byte leaves into the set.
use mathlib.Core.Path.{◌≡◌, refl, sym, ◌∙◌, subst}
use mathlib.Core.Logic.{inl, inr, ◌↔◌}
use mathlib.Core.List.{List, [], ◌∷◌}
use Prim.Native.Nat.{ℕ, ◌-◌, ◌<◌}
use native.Mathlib.Omega.{arith}
use lib.ListN.{get_or, replicate}
use Rattle.model.specs.Answers.{ImageOf}
use Rattle.model.specs.Bits.{bit}
use Rattle.model.specs.Edges.{accepting, states}
use Rattle.model.specs.Live.{Takes}
use Rattle.model.specs.Models.Leads.{Leads}
use Rattle.model.specs.Models.Words.{value}
use Rattle.model.specs.Spelling.{Reaches}
use Rattle.model.specs.Tree.{Tree}
use Rattle.model.proofs.Definitions.Below.{takes_below, takes_rises}
use Rattle.model.proofs.Laws.Bool.{is_not}
use Rattle.image_sections.proofs.Laws.OfTree.{states_is}
use Rattle.model.specs.Models.Sections.{state_word}
use Rattle.run_edges.specs.Reach.{LeaveSays, reach_words}
use Rattle.run.specs.Says.{StatesAre}
use Rattle.run_edges.proofs.Laws.Image.{reach_says}
use Rattle.run_edges.proofs.Laws.Sets.{every, row_is}
use Rattle.spelling_propose.specs.Work.{BackSays, EndingSays, Has, IntoSays, OriginsSays, SetOf, WithSays}
use Rattle.spelling_propose.proofs.Laws.Origins.{none_has}

-- the words are the tree's image, row p has what reaches state p, and the accepting state is known
record Ready (image : List ℕ) (origins : List (List ℕ)) (last : ℕ) (t : Tree) : Type 0 where
  pub image_of : ImageOf image t
  pub reached : (p : ℕ) → p < states t → (q : ℕ) → Has (get_or origins p []) q ↔ ((q < states t) × Reaches t q p)
  pub accepts : last ≡ accepting t

ready : (image : List ℕ) (origins : List (List ℕ)) (count : ℕ) (t : Tree) → ImageOf image t → count ≡ states t → OriginsSays image count origins → Ready image origins (count - 1) t
ready image origins count t I same O = record { image_of = I; reached = reached; accepts = omega (arith, same) }
  where
    reached : (p : ℕ) → p < states t → (q : ℕ) → Has (get_or origins p []) q ↔ ((q < states t) × Reaches t q p)
    reached p l q = (
      λ h.
          let k = (O p (omega (arith, same)) q).0 h in
          let m : q < states t = omega (arith, same, k.0) in
          (m, (row_is I m (reach_says image q (reach_words image q) refl) p).0 k.1),
      λ (m, h). (O p (omega (arith, same)) q).1 (omega (arith, same), (row_is I m (reach_says image q (reach_words image q) refl) p).1 h),
    )

module _ (image : List ℕ) (origins : List (List ℕ)) (last : ℕ) (t : Tree) (R : Ready image origins last t) where
  -- a set by the states that reach one of a row
  set-of : (row r : List ℕ) (S : ℕ → Type 0) → IntoSays origins row r → ((p : ℕ) → Has row p → p < states t)
      → ((q : ℕ) → q < states t → ((p : ℕ) × Has row p × Reaches t q p) ↔ S q) → StatesAre t r S
  set-of row r S I below is = record {
    within = λ q l. (
      λ h. let g = (I q).0 h in (is q l).0 (g.0, g.1, ((R.reached g.0 (below g.0 g.1) q).0 g.2).1),
      λ s. let g = (is q l).1 s in (I q).1 (g.0, g.1, (R.reached g.0 (below g.0 g.1) q).1 (l, g.2)),
    );
    beyond = λ q l. is_not (bit (value r) q) (λ h. let g = (I q).0 h in omega (arith, ((R.reached g.0 (below g.0 g.1) q).0 g.2).0));
  }

  ending_set : (row r : List ℕ) → WithSays (replicate 8 0) last row → IntoSays origins row r → SetOf t [] r
  ending_set row r W I = set-of row r (Leads t []) I (λ p a. omega (arith, alone p a)) (λ q h. (
    λ (p, a, k). subst (Reaches t q) (alone p a) k,
    λ k. (accepting t, (W (accepting t)).1 (inr (sym R.accepts)), k),
  ))
    where
      alone : (p : ℕ) → Has row p → p ≡ accepting t
      alone p a = elim ((W p).0 a) [
        | inl k ↦ absurd (none_has p k)
        | inr e ↦ e ∙ R.accepts
      ]

  back_set : (set row r : List ℕ) (b : ℕ) → LeaveSays image b set row → IntoSays origins row r → (bytes : List ℕ) → SetOf t bytes set → SetOf t (b ∷ bytes) r
  back_set set row r b L I bytes S =
      set-of row r (Leads t (b ∷ bytes)) I (λ p a. from p ((left p).0 a)) (λ q h. (
        λ (p, a, k). let m = (left p).0 a in (p, k, (m.0, m.2, (S.within m.0 (takes_below t b p m.0 m.2)).0 m.1)),
        λ (p, k, (r, m, l)). (p, (left p).1 (r, (S.within r (takes_below t b p r m)).1 l, m), k),
      ))
    where
      from : (x : ℕ) → ((r : ℕ) × Has set r × Takes t b x r) → x < states t
      from x (r, k, l) = omega (arith, takes_below t b x r l, (takes_rises t b x r l).0)

      left : (x : ℕ) → Has row x ↔ ((r : ℕ) × Has set r × Takes t b x r)
      left = every (L t R.image_of S.beyond) from

-- the rows of an image's own states
module _ (image : List ℕ) (origins : List (List ℕ)) (count : ℕ) (own : count ≡ state_word image) (O : OriginsSays image count origins) where
  handed : (t : Tree) → ImageOf image t → Ready image origins (count - 1) t
  handed t I = ready image origins count t I (own ∙ states_is image t I) O

  pub ending_says : (row r : List ℕ) → WithSays (replicate 8 0) (count - 1) row → IntoSays origins row r → EndingSays image r
  ending_says row r W H t I = ending_set image origins (count - 1) t (handed t I) row r W H

  pub back_says : (set row r : List ℕ) (b : ℕ) → LeaveSays image b set row → IntoSays origins row r → BackSays image set b r
  back_says set row r b L H t I = back_set image origins (count - 1) t (handed t I) set row r b L H
