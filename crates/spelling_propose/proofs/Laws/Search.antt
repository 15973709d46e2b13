-- GOING BACK TO THE LATEST START: the set of the place, no start after it, and the kept sets from it on.
use mathlib.Core.Path.{◌≡◌, sym, ap, ◌∙◌, subst}
use mathlib.Core.Logic.{◌⊎◌, inl, inr}
use Rattle.std.specs.Prelude.{None, Some}
use mathlib.Core.Bool.{false}
use mathlib.Core.List.{List, [], ◌∷◌}
use Prim.Native.Nat.{ℕ, suc, ◌-◌, ◌*◌, ◌/◌, ◌%◌, ◌≤◌, ◌<◌}
use native.Mathlib.Nat.{eq-or-lt_of_le}
use native.Mathlib.Omega.{arith}
use lib.Dec.{T}
use lib.ListN.{get_or, length, length-set, set}
use lib.Seq.{get_or-set_other, get_or-set_same}
use Rattle.model.specs.Answers.{ImageOf}
use Rattle.model.specs.Bits.{bit}
use Rattle.model.specs.Models.Words.{value}
use Rattle.model.proofs.Laws.Bool.{le_or_lt}
use Rattle.model.specs.Tree.{Tree}
use Rattle.model.specs.Models.Leads.{Leads}
use Rattle.model.specs.Spelling.{between}
use Rattle.model.proofs.Spelling.Leads.{between_none, between_one, between_split, leads_later}
use Rattle.spelling_propose.specs.Work.{Asked, BackSays, EndingSays, Has, KeptFrom, NoneAfter, SetAt, SetOf, StartSays}

module _ (image text : List ℕ) (end : ℕ) where
  pub record Place (t : Tree) (k : ℕ) (here : List ℕ) (kept : List (List ℕ)) : Type 0 where
    pub set_at : SetAt t text end k here
    pub none_after : NoneAfter t text end k
    pub kept_from : KeptFrom t text end k kept

  pub record Backed (k : ℕ) (here : List ℕ) (kept : List (List ℕ)) : Type 0 where
    pub within : k ≤ end
    pub long : length kept ≡ 256
    pub place : (t : Tree) → ImageOf image t → Place t k here kept

  module _ (A : Asked text end) where
    pub backed_end : (here : List ℕ) (kept : List (List ℕ)) → length kept ≡ 256 → EndingSays image here → Backed end here kept
    backed_end here kept l E = record {
      within = omega arith;
      long = l;
      place = λ t I. record {
        set_at = subst (λ (bs : List ℕ). SetOf t bs here) (sym (between_none text end)) (E t I);
        none_after = λ j h m. absurd (omega arith);
        kept_from = λ j h m. absurd (omega arith);
      };
    }

    -- ---- one place back
    module _ {k : ℕ} {here : List ℕ} {kept : List (List ℕ)} (K : Backed k here kept) (some : 0 < k) (out : bit (value here) 0 ≡ false)
        (before : List ℕ) (S : BackSays image here (get_or text (k - 1) 0) before) where
      module _ (t : Tree) (I : ImageOf image t) where
        set_before : SetAt t text end (k - 1) before
        set_before =
            let e : suc (k - 1) ≡ k = omega arith in
            subst (λ (bs : List ℕ). SetOf t bs before)
            (sym (between_one text (k - 1) end (omega (arith, K.within)) A.inside ∙ ap (λ (n : ℕ). get_or text (k - 1) 0 ∷ between text n end) e))
            (S t I (between text k end) (K.place t I).set_at)

        not_here : Leads t (between text k end) 0 → ⊥
        not_here l = subst T out (((K.place t I).set_at.within 0 (omega arith)).1 l)

        none_before : NoneAfter t text end (k - 1)
        none_before j h m l = go (eq-or-lt_of_le (let x : k ≤ j = omega arith in x))
          where
            go : (k ≡ j) ⊎ (k < j) → ⊥
            go (inl e) = not_here (subst (λ (n : ℕ). Leads t (between text n end) 0) (sym e) l)
            go (inr x) = (K.place t I).none_after j x m l

      -- the set is not kept
      pub backed_past : ((k - 1) % 256 ≡ 0 → ⊥) → Backed (k - 1) before kept
      backed_past f = record {
        within = omega (arith, K.within);
        long = K.long;
        place = λ t I. record {
          set_at = set_before t I;
          none_after = none_before t I;
          kept_from = λ j h m. go t I j m (eq-or-lt_of_le h);
        };
      }
        where
          go : (t : Tree) → ImageOf image t → (j : ℕ) → 256 * j < end → (k - 1 ≡ 256 * j) ⊎ (k - 1 < 256 * j) → SetAt t text end (256 * j) (get_or kept j [])
          go t I j m (inl e) = absurd (f (omega arith))
          go t I j m (inr x) = (K.place t I).kept_from j (omega arith) m

      -- it is
      pub backed_kept : (k - 1) % 256 ≡ 0 → Backed (k - 1) before (set kept ((k - 1) / 256) before)
      backed_kept e = record {
        within = omega (arith, K.within);
        long = length-set kept i before ∙ K.long;
        place = λ t I. record {
          set_at = set_before t I;
          none_after = none_before t I;
          kept_from = λ j h m. go t I j m (eq-or-lt_of_le h);
        };
      }
        where
          i : ℕ
          i = (k - 1) / 256

          go : (t : Tree) → ImageOf image t → (j : ℕ) → 256 * j < end → (k - 1 ≡ 256 * j) ⊎ (k - 1 < 256 * j) → SetAt t text end (256 * j) (get_or (set kept i before) j [])
          go t I j m (inl x) =
              let d : i ≡ j = omega arith in
              subst (λ (w : List ℕ). SetAt t text end (256 * j) w)
              (sym (ap (λ (n : ℕ). get_or (set kept i before) n []) (sym d) ∙ get_or-set_same kept i before [] (omega (arith, K.long, K.within, A.inside, A.short))))
              (subst (λ (n : ℕ). SetAt t text end n before) x (set_before t I))
          go t I j m (inr x) =
              subst (λ (w : List ℕ). SetAt t text end (256 * j) w) (sym (get_or-set_other kept i j before [] (λ q. omega arith))) ((K.place t I).kept_from j (omega arith) m)

    -- ---- the ways out
    pub backed_here : {k : ℕ} {here : List ℕ} {kept : List (List ℕ)} → Backed k here kept → T (bit (value here) 0) → StartSays image text end kept (Some k)
    backed_here K h = record {
      within = K.within;
      starts = λ t I. let P = K.place t I in ((P.set_at.within 0 (omega arith)).0 h, P.none_after, P.kept_from);
    }

    -- where no state leads on from a place, none does from any before it
    pub backed_empty : {k : ℕ} {here : List ℕ} {kept : List (List ℕ)} → Backed k here kept → ((x : ℕ) → Has here x → ⊥) → StartSays image text end kept None
    backed_empty {k} {here} K f = record { within = tt; starts = λ t I j m l. go t I j m l (le_or_lt j k) }
      where
        go : (t : Tree) → ImageOf image t → (j : ℕ) → j ≤ end → Leads t (between text j end) 0 → (j ≤ k) ⊎ (k < j) → ⊥
        go t I j m l (inl h) =
            let g = leads_later t (between text j k) (between text k end) 0 (omega arith) (subst (λ (bs : List ℕ). Leads t bs 0) (between_split text j k end h K.within) l) in
            f g.0 (((K.place t I).set_at.within g.0 g.1).1 g.2)
        go t I j m l (inr h) = (K.place t I).none_after j h m l

    pub backed_nowhere : {k : ℕ} {here : List ℕ} {kept : List (List ℕ)} → Backed k here kept → bit (value here) 0 ≡ false → k ≡ 0 → StartSays image text end kept None
    backed_nowhere {k} {here} K h e = record { within = tt; starts = λ t I j m l. go t I j m l (eq-or-lt_of_le (let x : k ≤ j = omega arith in x)) }
      where
        go : (t : Tree) → ImageOf image t → (j : ℕ) → j ≤ end → Leads t (between text j end) 0 → (k ≡ j) ⊎ (k < j) → ⊥
        go t I j m l (inl d) = subst T h (((K.place t I).set_at.within 0 (omega arith)).1 (subst (λ (n : ℕ). Leads t (between text n end) 0) (sym d) l))
        go t I j m l (inr d) = (K.place t I).none_after j d m l
