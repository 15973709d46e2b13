-- What a reader's answer says of the bytes that it was given, said of the places of a rule: for proofs of code, whose readers get a rule and a place.
use mathlib.Core.Path.{◌≡◌, refl, sym, ap, ◌∙◌}
use mathlib.Core.Logic.{◌⊎◌, inl, inr}
use mathlib.Core.Bool.{Bool}
use mathlib.Core.List.{List, [], ◌∷◌, ◌++◌, append_assoc}
use Prim.Native.Nat.{ℕ, zero, suc, ◌+◌, ◌-◌, ◌≤◌, ◌<◌}
use native.Mathlib.Omega.{arith}
use lib.ListN.{drop, get_or, length, length-append, length-drop, take}
use lib.Seq.{drop-cons, take-append_seam}
use Rattle.model.specs.Spelling.{between}
use Rattle.model.specs.Models.Reader.{bad, got, Read}
use Rattle.model.specs.Models.Places.{Becomes, passed, Placed, StopsAt, taken, TakesAt}
use Rattle.model.proofs.Laws.Bool.{le_or_lt}

-- more than u of a text that begins with u and x
pub take_beyond : (k : ℕ) (u : List ℕ) (x : ℕ) (s : List ℕ) → length u < k → (v : List ℕ) × (take k (u ++ (x ∷ s)) ≡ (u ++ (x ∷ [])) ++ v)
take_beyond zero u x s h = absurd (omega arith)
take_beyond (suc k) [] x s h = (take k s, refl)
take_beyond (suc k) (c ∷ u) x s h = let r = take_beyond k u x s (omega arith) in (r.0, ap (λ (z : List ℕ). c ∷ z) r.1)

-- the bytes from the place at on are u, and then those from the place p on
module _ (rule : List ℕ) (at p : ℕ) (h : at ≤ length rule) (i : p ≤ length rule) (u : List ℕ) (e : drop at rule ≡ u ++ drop p rule) where
  size : at + length u ≡ p
  size = omega (arith, ap length e, length-append u (drop p rule), length-drop at rule, length-drop p rule)

  up_to : between rule at p ≡ u
  up_to =
      let n : p - at ≡ length u = omega (arith, size) in
      rw (n, e) (take-append_seam u (drop p rule))

  -- past p there is a next byte
  record Next (k : ℕ) : Type 0 where
    x : ℕ
    s : List ℕ
    v : List ℕ
    byte_there : drop p rule ≡ x ∷ s
    longer : between rule at k ≡ (u ++ (x ∷ [])) ++ v

  next : (k : ℕ) → p < k → k ≤ length rule → Next k
  next k g j =
      let c = drop-cons rule p 0 (omega arith) in
      let t = take_beyond (k - at) u (get_or rule p 0) (drop (suc p) rule) (omega (arith, size)) in
      record { x = get_or rule p 0; s = drop (suc p) rule; v = t.0; byte_there = c; longer = rw (e, c) t.1 }

-- what can still become something could so before its last bytes, and it is the same
abbrev sooner : {A : Type 0} {X : List ℕ → A → Type 0} {F : List ℕ → Bool} (w u v : List ℕ) → w ≡ u ++ v → Becomes X F w → Becomes X F u
sooner w u v e B = record {
  rest = v ++ B.rest;
  part = B.part;
  after = B.after;
  what = B.what;
  made = sym (append_assoc u v B.rest) ∙ ap (λ (z : List ℕ). z ++ B.rest) (sym e) ∙ B.made;
  is = B.is;
  follows = B.follows;
}

module _ {A : Type 0} {X : List ℕ → A → Type 0} {F : List ℕ → Bool} (rule : List ℕ) (at p : ℕ) (h : at ≤ length rule) (i : p ≤ length rule) where
  -- A READER THAT STOPS
  pub stops_at : {m : Read A} → Placed X F (drop at rule) m → m ≡ bad (drop p rule) → StopsAt X F rule at p
  stops_at (taken u e d f) q = let z : ◌≡◌ {A = ℕ} 0 1 = cc in absurd (omega arith)
  stops_at (passed u {r} e b f) q = record { forward = omega (arith, size rule at p h i u c); inside = i; can = rw (up_to rule at p h i u c) b; longest = last }
    where
      r_is : r ≡ drop p rule
      r_is = cc

      c : drop at rule ≡ u ++ drop p rule
      c = e ∙ ap (λ (z : List ℕ). u ++ z) r_is

      last : (k : ℕ) → k ≤ length rule → Becomes X F (between rule at k) → k ≤ p
      last k j B = go (le_or_lt k p)
        where
          go : (k ≤ p) ⊎ (p < k) → k ≤ p
          go (inl l) = l
          go (inr l) =
              let n = next rule at p h i u c k l j in
              absurd (f n.x n.s (r_is ∙ n.byte_there) (sooner (between rule at k) (u ++ (n.x ∷ [])) n.v n.longer B))

  -- AND ONE THAT TAKES SOMETHING
  pub takes_at : {m : Read A} {a : A} → Placed X F (drop at rule) m → m ≡ got a (drop p rule) → TakesAt X F rule at p a
  takes_at (passed u e b f) q = let z : ◌≡◌ {A = ℕ} 0 1 = cc in absurd (omega arith)
  takes_at {a = a'} (taken u {a} {r} e d f) q = record {
    forward = omega (arith, size rule at p h i u c);
    inside = i;
    is = rw (up_to rule at p h i u c, ← a_is) d;
    alone = alone;
  }
    where
      r_is : r ≡ drop p rule
      r_is = cc

      a_is : a ≡ a'
      a_is = cc

      c : drop at rule ≡ u ++ drop p rule
      c = e ∙ ap (λ (z : List ℕ). u ++ z) r_is

      alone : (k : ℕ) → p < k → k ≤ length rule → (B : Becomes X F (between rule at k)) → (B.part ≡ between rule at p) × (B.what ≡ a')
      alone k l j B =
          let n = next rule at p h i u c k l j in
          let b = f n.x n.s (r_is ∙ n.byte_there) (sooner (between rule at k) (u ++ (n.x ∷ [])) n.v n.longer B) in
          (b.0 ∙ sym (up_to rule at p h i u c), b.1 ∙ a_is)
