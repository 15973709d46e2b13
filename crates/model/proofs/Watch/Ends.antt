-- ENDS OVER A TEXT CUT IN TWO: those of a beginning and those of the rest, joined, are those of the whole, place by place. And a stretch has one list of
-- ends.
use mathlib.Core.Path.{◌≡◌, refl, sym, ap, ◌∙◌, subst}
use mathlib.Core.Logic.{◌⊎◌, inl, inr, ◌↔◌}
use mathlib.Core.Bool.{Bool, true, false}
use mathlib.Core.List.{List, [], ◌∷◌, ◌++◌}
use Prim.Native.Nat.{ℕ, ◌+◌, ◌-◌, ◌≤◌, ◌<◌}
use native.Mathlib.Omega.{arith}
use lib.Dec.{T}
use lib.ListN.{length, length-append, take}
use lib.Seq.{take-append-add, take-append-le}
use Rattle.model.specs.Edges.{accepting}
use Rattle.model.specs.Ends.{End, EndsAre, Rising}
use Rattle.model.specs.Grammar.{IsRule}
use Rattle.model.specs.Lists.{◌∈◌}
use Rattle.model.specs.Live.{After, Before, Live, LiveFrom}
use Rattle.model.specs.Models.Run.{noted}
use Rattle.model.specs.Tree.{Tree}
use Rattle.model.proofs.Definitions.Ends.{end_live}
use Rattle.model.proofs.Definitions.EndsList.{rising_one}
use Rattle.model.proofs.Laws.Bool.{le_or_lt}
use Rattle.model.proofs.Laws.Lists.{all_app, all_of, in_split, later, sooner}
use Rattle.model.specs.Watch.{EndIn, EndsIn}
use Rattle.model.proofs.Watch.Live.{live_app, live_as}

-- ---- lists that rise, one after another
rising_app : (ps qs : List ℕ) → Rising ps → Rising qs → ((p q : ℕ) → p ∈ ps → q ∈ qs → p < q) → Rising (ps ++ qs)
rising_app [] qs P Q h = Q
rising_app (p ∷ ps) qs P Q h =
    (all_app (λ q. p < q) ps qs P.0 (all_of (λ q. p < q) qs (λ q k. h p q (inl refl) k)), rising_app ps qs P.1 Q (λ x q k l. h x q (inr k) l))

-- ONE LIST OF ENDS
pub ends_in_one : {t : Tree} {D : ℕ → Type 0} {place : ℕ} {stretch ps qs : List ℕ} → EndsIn t D place stretch ps → EndsIn t D place stretch qs → ps ≡ qs
ends_in_one {ps = ps} {qs} P Q = rising_one ps qs P.rising Q.rising (λ p h. Q.complete p (P.ends p h)) (λ p h. P.complete p (Q.ends p h))

module _ (t : Tree) where
  -- from the same states
  end_as : {D E : ℕ → Type 0} → ((q : ℕ) → D q ↔ E q) → (place : ℕ) (stretch : List ℕ) (p : ℕ) → EndIn t D place stretch p → EndIn t E place stretch p
  end_as e place stretch p (i, a, b, c, l) = (i, a, b, c, (live_as t (take i stretch) e (accepting t)).0 l)

  pub ends_as : {D E : ℕ → Type 0} {place : ℕ} {stretch ps : List ℕ} → ((q : ℕ) → D q ↔ E q) → EndsIn t D place stretch ps → EndsIn t E place stretch ps
  ends_as {place = place} {stretch} e P = record {
    rising = P.rising;
    ends = λ p h. end_as e place stretch p (P.ends p h);
    complete = λ p h. P.complete p (end_as (λ q. ((e q).1, (e q).0)) place stretch p h);
  }

  pub ends_none : (D : ℕ → Type 0) (place : ℕ) → EndsIn t D place [] []
  ends_none D place = record { rising = tt; ends = λ p h. absurd h; complete = λ p (i, e, a, b, l). absurd (omega (arith, a, b)) }

  -- ONE BYTE: its place is an end or not
  pub ends_byte : (D : ℕ → Type 0) (b place : ℕ) (hit : Bool) → T hit ↔ After t b D (accepting t) → EndsIn t D place (b ∷ []) (noted hit (place + 1))
  ends_byte D b place true e = record { rising = (tt, tt); ends = is; complete = λ p (i, q, a, c, l). inl (omega (arith, q, a, c)) }
    where
      is : (p : ℕ) → (p ≡ place + 1) ⊎ ⊥ → EndIn t D place (b ∷ []) p
      is p (inl q) = (1, q, omega arith, omega arith, e.0 tt)
      is p (inr z) = absurd z
  ends_byte D b place false e = record {
    rising = tt;
    ends = λ p h. absurd h;
    complete = λ p (i, q, a, c, l). e.1 (subst (λ (n : ℕ). LiveFrom t D (take n (b ∷ [])) (accepting t)) (let z : i ≡ 1 = omega (arith, a, c) in z) l);
  }

  -- A STRETCH CUT IN TWO
  pub ends_app : {D : ℕ → Type 0} {place : ℕ} {u v ps qs : List ℕ} → EndsIn t D place u ps → EndsIn t (LiveFrom t D u) (place + length u) v qs
      → EndsIn t D place (u ++ v) (ps ++ qs)
  ends_app {D} {place} {u} {v} {ps} {qs} P Q = record { rising = rising_app ps qs P.rising Q.rising apart; ends = there; complete = back }
    where
      long : length (u ++ v) ≡ length u + length v
      long = length-append u v

      apart : (p q : ℕ) → p ∈ ps → q ∈ qs → p < q
      apart p q h k = let a = P.ends p h in let b = Q.ends q k in omega (arith, a.1, a.3, b.1, b.2)

      first : (p : ℕ) → EndIn t D place u p → EndIn t D place (u ++ v) p
      first p (i, e, a, b, l) =
          (i, e, a, omega (arith, long, b), subst (λ (w : List ℕ). LiveFrom t D w (accepting t)) (sym (take-append-le i u v b)) l)

      second : (p : ℕ) → EndIn t (LiveFrom t D u) (place + length u) v p → EndIn t D place (u ++ v) p
      second p (i, e, a, b, l) =
          (length u + i, omega (arith, e), omega (arith, a), omega (arith, long, b), subst (λ (w : List ℕ). LiveFrom t D w (accepting t)) (sym (take-append-add u v i)) ((live_app t u (take i v) D (accepting t)).1 l))

      there : (p : ℕ) → p ∈ (ps ++ qs) → EndIn t D place (u ++ v) p
      there p h = go (in_split ps qs p h)
        where
          go : (p ∈ ps) ⊎ (p ∈ qs) → EndIn t D place (u ++ v) p
          go (inl k) = first p (P.ends p k)
          go (inr k) = second p (Q.ends p k)

      back : (p : ℕ) → EndIn t D place (u ++ v) p → p ∈ (ps ++ qs)
      back p (i, e, a, b, l) = go (le_or_lt i (length u))
        where
          go : (i ≤ length u) ⊎ (length u < i) → p ∈ (ps ++ qs)
          go (inl k) = sooner ps qs p (P.complete p (i, e, a, k, subst (λ (w : List ℕ). LiveFrom t D w (accepting t)) (take-append-le i u v k) l))
          go (inr k) =
              let j = i - length u in
              let n : i ≡ length u + j = omega arith in
              let cut : take i (u ++ v) ≡ u ++ take j v = ap (λ (x : ℕ). take x (u ++ v)) n ∙ take-append-add u v j in
              later ps qs p
              (Q.complete p (j, omega (arith, e), omega arith, omega (arith, long, b), (live_app t u (take j v) D (accepting t)).0 (subst (λ (w : List ℕ). LiveFrom t D w (accepting t)) cut l)))

  -- PLACE 0 ALONE: the empty text
  pub ends_zero : {rule : List ℕ} → IsRule rule t → (hit : Bool) → T hit ↔ Before t (accepting t) → EndsAre t [] (noted hit 0)
  ends_zero R true e = record { rising = (tt, tt); ends = is; complete = λ p h. inl (omega (arith, ((end_live t R [] p).0 h).0)) }
    where
      is : (p : ℕ) → (p ≡ 0) ⊎ ⊥ → End t [] p
      is p (inl q) = (end_live t R [] p).1 (omega (arith, q), subst (λ (n : ℕ). Live t (take n []) (accepting t)) (sym q) (e.0 tt))
      is p (inr z) = absurd z
  ends_zero R false e = record {
    rising = tt;
    ends = λ p h. absurd h;
    complete = λ p h.
        let l = (end_live t R [] p).0 h in
        e.1 (subst (λ (n : ℕ). Live t (take n []) (accepting t)) (let z : p ≡ 0 = omega (arith, l.0) in z) l.1);
  }

  -- PLACE 0 AND THE REST: the ends of document 01
  pub ends_whole : {rule : List ℕ} → IsRule rule t → {text ps qs : List ℕ} → EndsAre t [] ps → EndsIn t (Before t) 0 text qs → EndsAre t text (ps ++ qs)
  ends_whole R {text} {ps} {qs} P Q = record { rising = rising_app ps qs P.rising Q.rising apart; ends = there; complete = back }
    where
      zero_only : (p : ℕ) → p ∈ ps → p ≡ 0
      zero_only p h = omega (arith, ((end_live t R [] p).0 (P.ends p h)).0)

      apart : (p q : ℕ) → p ∈ ps → q ∈ qs → p < q
      apart p q h k = let b = Q.ends q k in omega (arith, zero_only p h, b.1, b.2)

      first : (p : ℕ) → p ∈ ps → End t text p
      first p h =
          let e = zero_only p h in
          let l : Live t (take p []) (accepting t) = ((end_live t R [] p).0 (P.ends p h)).1 in
          (end_live t R text p).1 (omega arith, subst (λ (x : ℕ). Live t (take x text) (accepting t)) (sym e) (subst (λ (x : ℕ). Live t (take x []) (accepting t)) e l))

      there : (p : ℕ) → p ∈ (ps ++ qs) → End t text p
      there p h = go (in_split ps qs p h)
        where
          go : (p ∈ ps) ⊎ (p ∈ qs) → End t text p
          go (inl k) = first p k
          go (inr k) =
              let (i, e, a, b, l) = Q.ends p k in
              let n : i ≡ p = omega (arith, e) in
              (end_live t R text p).1 (omega (arith, e, b), subst (λ (x : ℕ). Live t (take x text) (accepting t)) n l)

      back : (p : ℕ) → End t text p → p ∈ (ps ++ qs)
      back p h =
          let l = (end_live t R text p).0 h in
          go (le_or_lt p 0) l
        where
          go : (p ≤ 0) ⊎ (0 < p) → (p ≤ length text) × Live t (take p text) (accepting t) → p ∈ (ps ++ qs)
          go (inl k) l =
              let e : p ≡ 0 = omega arith in
              let now : Live t (take 0 text) (accepting t) = subst (λ (x : ℕ). Live t (take x text) (accepting t)) e l.1 in
              sooner ps qs p
              (P.complete p ((end_live t R [] p).1 (omega (arith, e), subst (λ (x : ℕ). Live t (take x []) (accepting t)) (sym e) now)))
          go (inr k) l = later ps qs p (Q.complete p (p, omega arith, omega arith, l.0, l.1))
